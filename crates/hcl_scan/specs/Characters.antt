-- Characters and short pieces of text that lexemes are made of.
-- HCL native syntax specification, Lexical Elements, Identifiers and Templates.
use Rattle.std.specs.Prelude.{ℕ, Bool, true, false, ◌&&◌, ◌||◌, if◌then◌else◌, ◌==◌, List, [], ◌∷◌}
use Rattle.std.specs.Prelude.{slice_index}
use Rattle.unicode_ident.specs.Ident.{is_xid_start, is_xid_continue}
use Rattle.hcl_token.specs.Bytes.{tab, line_feed, carriage_return, space, dollar, percent, minus, underscore}
use Rattle.hcl_token.specs.Bytes.{open_brace}

-- a space or a tab
abbrev pub is_whitespace : ℕ → Bool
is_whitespace b = b == space || b == tab

-- LF, or CR LF
abbrev pub is_at_line_end : List ℕ → Bool
is_at_line_end t =
    slice_index t 0 == line_feed
    || (slice_index t 0 == carriage_return && slice_index t 1 == line_feed)

-- XID_Start (Unicode Standard Annex 31), or `_`
abbrev pub is_id_start : ℕ → Bool
is_id_start c = is_xid_start c || c == underscore

-- XID_Continue, or `-`
abbrev pub is_id_continue : ℕ → Bool
is_id_continue c = is_xid_continue c || c == minus

-- `$` or `%`
abbrev pub is_sigil : ℕ → Bool
is_sigil b = b == dollar || b == percent

-- The length of the unit that a `$` or a `%` begins, with rest after it: `$${` has three bytes,
-- `${` is an opening and no unit, and any other `$` is one by itself.
abbrev pub sigil_length : ℕ → List ℕ → ℕ
sigil_length sigil rest =
    if slice_index rest 0 == sigil && slice_index rest 1 == open_brace then 3
    else (if slice_index rest 0 == open_brace then 0 else 1)

-- the first text is a prefix of the second
abbrev pub is_prefix_of : List ℕ → List ℕ → Bool
is_prefix_of [] t = true
is_prefix_of (m ∷ ms) [] = false
is_prefix_of (m ∷ ms) (b ∷ t) = m == b && is_prefix_of ms t
