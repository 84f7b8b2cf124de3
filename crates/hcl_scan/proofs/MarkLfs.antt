-- No byte order mark among the tokens of a text has an LF: it can only be the first token, and no
-- lexeme is one.
use Rattle.std.proofs.Common.{◌≡◌, ℕ, true, false, List, [], ◌∷◌, count_by, if◌then◌else◌, refl, sym, subst, ◌∙◌}
use Rattle.std.proofs.lemmas.Bool.{false≢true}
use Rattle.std.proofs.lemmas.List.Elements.{All-append, All-cons, All-nil}
use Rattle.hcl_token.specs.declared.kind.Kind.{Kind}
use Rattle.hcl_token.specs.declared.kind.Kind.TheVariants.{Mark}
use Rattle.hcl_token.specs.Tokens.{Pair}
use Rattle.hcl_token.specs.Place.{MarksHaveNoLf, is_lf, is_mark}
use Rattle.hcl_scan.specs.Characters.{is_prefix_of}
use Rattle.hcl_scan.specs.Modes.{Mode, mode_of, modes_after}
use Rattle.hcl_scan.specs.Lexeme.{is_allowed_in}
use Rattle.hcl_scan.specs.Tokenization.{TokenizesFrom, IsTokenization, byte_order_mark, mark_prefix}

abbrev MarkHasNoLf : Pair → Type 0
MarkHasNoLf p = is_mark p.kind ≡ true → count_by is_lf p.spelling ≡ 0

no_mark : (mode : Mode) (kind : Kind) → is_allowed_in mode kind ≡ true → is_mark kind ≡ false
no_mark mode Mark h = absurd (false≢true h)
no_mark mode kind h = refl

body_marks : (ps : List Pair) (modes left : List Mode) (rest : List ℕ) → TokenizesFrom modes ps rest left → MarksHaveNoLf ps
body_marks [] modes left rest c = All-nil MarkHasNoLf
body_marks (p ∷ ps) modes left rest c =
    let none : is_mark p.kind ≡ false = no_mark (mode_of modes) p.kind c.1.0.0 in
    All-cons MarkHasNoLf p ps (λ e. absurd (false≢true (sym none ∙ e))) (body_marks ps (modes_after p.kind p.spelling modes) left rest c.2)

prefix_marks : (text : List ℕ) → MarksHaveNoLf (mark_prefix text)
prefix_marks text =
    elim (is_prefix_of byte_order_mark text) as (λ b. MarksHaveNoLf (if b then record { gap = []; kind = Mark; spelling = byte_order_mark } ∷ [] else [])) [
      | true ↦ All-cons MarkHasNoLf (record { gap = []; kind = Mark; spelling = byte_order_mark }) [] (λ _. refl) (All-nil MarkHasNoLf)
      | false ↦ All-nil MarkHasNoLf
    ]

pub marks_have_no_lf : (text : List ℕ) (pairs : List Pair) (last : List ℕ) → IsTokenization text pairs last → MarksHaveNoLf pairs
marks_have_no_lf text pairs last c =
    subst MarksHaveNoLf (sym c.tokenizes.prefix)
    (All-append MarkHasNoLf (mark_prefix text) c.tokenizes.body (prefix_marks text) (body_marks c.tokenizes.body [] [] last c.tokenizes.tokenizes))
