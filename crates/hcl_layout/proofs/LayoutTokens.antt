-- The layout of a text has a tokenization.
use Rattle.std.proofs.Common.{◌≡◌, ℕ, ◌≤◌, true, false, List, [], ◌∷◌, length, refl, sym, ap, ap₂, subst, ◌∙◌, ◌⊎◌, inl, inr}
use Rattle.std.proofs.lemmas.Bool.{false≢true}
use Rattle.hcl_token.specs.declared.kind.Kind.{Kind}
use Rattle.hcl_token.specs.declared.kind.Kind.TheVariants.{Mark, LineEnd}
use Rattle.hcl_token.specs.TokenizedText.{TokenizedText}
use Rattle.hcl_token.specs.Tokens.{Pair, whole_text}
use Rattle.hcl_token.specs.Place.{is_mark}
use Rattle.hcl_scan.specs.Tokenization.{MAX_TEXT, IsTokenization, byte_order_mark}
use Rattle.hcl_scan.specs.Modes.{Mode}
use Rattle.hcl_scan.specs.Modes.Mode.{Expression}
use Rattle.hcl_scan.specs.Lexeme.{is_allowed_in}
use Rattle.hcl_scan.specs.Follows.{FollowsFrom, Follows, mark, IsApart, AreApart, AreAllowedGaps}
use Rattle.hcl_layout.specs.Gaps.Layout.{layout_body, layout_pairs, layout_text, IsLaidOut}
use Rattle.hcl_layout.specs.LayoutLaws.{LayoutFits, LayoutTokenizes, LaidOutIsText}
use Rattle.hcl_layout.proofs.Lower.{OneTokenization, TokenizationFollows, GapsOf, OtherGaps, WritesBack, LinesHaveAll, KeepsTokens}
use Rattle.hcl_layout.proofs.AllowedGaps.{AllAllowedAfter, allowed_gaps, allowed_apart, text_is_allowed}
use Rattle.hcl_layout.proofs.LayoutGaps.{body_allowed}

-- the gaps may be between the tokens, and none is empty between two that join
abbrev Fit : List Pair → Type 0
Fit pairs = AreAllowedGaps false pairs [] × AreApart pairs

body_fit : LinesHaveAll → (body : List Pair) (last : List ℕ) → FollowsFrom [] body last [] → AreAllowedGaps false body last → AreApart body → Fit (layout_body body)
body_fit lines_have_all body last f gaps apart =
    let h : AllAllowedAfter LineEnd [] (layout_body body) = body_allowed lines_have_all [] body (text_is_allowed body last f gaps apart) in
    (allowed_gaps LineEnd [] (layout_body body) h, (allowed_apart LineEnd [] (layout_body body) h).1)

no_mark : (mode : Mode) (kind : Kind) → is_allowed_in mode kind ≡ true → is_mark kind ≡ false
no_mark mode Mark h = absurd (false≢true h)
no_mark mode kind h = refl

-- there is no byte order mark in a body
unmarked : (body : List Pair) (last : List ℕ) → FollowsFrom [] body last [] → layout_pairs body ≡ layout_body body
unmarked [] last f = refl
unmarked (p ∷ ps) last f = rw (no_mark Expression p.kind f.2.0) refl

mark_apart : (s : List ℕ) (ps : List Pair) → IsApart Mark s ps
mark_apart s [] = tt
mark_apart s (p ∷ ps) = λ _. refl

mark_fit : (ps : List Pair) → Fit ps → Fit (mark ∷ ps)
mark_fit ps h = ((refl, λ _. refl, h.0), (mark_apart byte_order_mark ps, h.1))

layout_fit : LinesHaveAll → (pairs : List Pair) (last : List ℕ) → Follows pairs last [] → AreAllowedGaps false pairs last → AreApart pairs → Fit (layout_pairs pairs)
layout_fit lines_have_all pairs last f gaps apart = at_text_start f.prefix
  where
    at_text_start : (pairs ≡ f.body) ⊎ (pairs ≡ mark ∷ f.body) → Fit (layout_pairs pairs)
    at_text_start (inl e) =
        subst Fit (sym (unmarked f.body last f.follows) ∙ ap layout_pairs (sym e))
        (body_fit lines_have_all f.body last f.follows (subst (λ (ps : List Pair). AreAllowedGaps false ps last) e gaps) (subst AreApart e apart))
    at_text_start (inr e) =
        let g : AreAllowedGaps false (mark ∷ f.body) last = subst (λ (ps : List Pair). AreAllowedGaps false ps last) e gaps in
        let a : AreApart (mark ∷ f.body) = subst AreApart e apart in
        subst Fit (ap layout_pairs (sym e)) (mark_fit (layout_body f.body) (body_fit lines_have_all f.body last f.follows g.2 a.1))

pub layout_fits : TokenizationFollows → GapsOf → LinesHaveAll → LayoutFits
layout_fits tokens_follow gaps_of lines_have_all text pairs last c apart =
    let f = tokens_follow text pairs last c in
    layout_fit lines_have_all pairs last f (gaps_of pairs last f) apart

pub layout_tokenizes : LayoutFits → TokenizationFollows → OtherGaps → WritesBack → KeepsTokens → LayoutTokenizes
layout_tokenizes fits tokens_follow other_gaps writes_back keeps_tokens text pairs last c apart short =
    let fit = fits text pairs last c apart in
    writes_back (layout_pairs pairs) [] (other_gaps pairs (layout_pairs pairs) last [] (tokens_follow text pairs last c) (keeps_tokens pairs) fit.0 fit.1) fit.1 short

layout_joins : (tokenized : TokenizedText) → IsTokenization tokenized.text tokenized.pairs tokenized.last → IsLaidOut tokenized → layout_text tokenized ≡ tokenized.text
layout_joins tokenized c h = ap₂ whole_text h.0 (sym h.1) ∙ sym c.tokenizes.text_is

-- a text that is its layout has one tokenization, so its gaps are the layout's
layout_gaps : LayoutTokenizes → OneTokenization → (tokenized : TokenizedText) → IsTokenization tokenized.text tokenized.pairs tokenized.last → AreApart tokenized.pairs → layout_text tokenized ≡ tokenized.text → IsLaidOut tokenized
layout_gaps is_tokenized unique_tokens tokenized c apart e =
    let new = is_tokenized tokenized.text tokenized.pairs tokenized.last c apart (subst (λ (t : List ℕ). length t ≤ MAX_TEXT) (sym e) c.short) in
    let same = unique_tokens tokenized.text (layout_pairs tokenized.pairs) tokenized.pairs [] tokenized.last (subst (λ (t : List ℕ). IsTokenization t (layout_pairs tokenized.pairs) []) e new) c in
    (same.0, sym same.1)

pub laid_out_is_text : LayoutTokenizes → OneTokenization → LaidOutIsText
laid_out_is_text is_tokenized unique_tokens tokenized c apart = (layout_joins tokenized c, layout_gaps is_tokenized unique_tokens tokenized c apart)
