-- Texts that parse, and their layouts.
use Rattle.std.proofs.Common.{◌≡◌, ◌↔◌, ℕ, ◌<◌, ◌≤◌, Bool, List, [], length, refl, sym, ap, subst, ◌∙◌, inl, inr, arith}
use Rattle.std.specs.Prelude.{Result, Ok, Err, IfOk, IfErr, OnOk, IsTrue}
use Rattle.edit_record.specs.Lists.Pieces.{EditList, Transforms}
use Rattle.hcl_token.specs.TokenizedText.{TokenizedText}
use Rattle.hcl_token.specs.Tokens.{Pair, whole_text}
use Rattle.hcl_scan.specs.Tokenization.{MAX_TEXT, IsTokenization}
use Rattle.hcl_scan.specs.Follows.{tokens_of}
use Rattle.hcl_layout.specs.Gaps.Layout.{layout_pairs, layout_text, IsLaidOut}
use Rattle.hcl_layout.specs.declared.gaps.fault.LayoutFault.{LayoutFault}
use Rattle.hcl_layout.specs.Gaps.Errors.{IsMemoryOrTooLong}
use Rattle.hcl_grammar.specs.declared.tree.Tree.{Tree}
use Rattle.hcl_grammar.specs.Bodies.{IsFile}
use Rattle.hcl_grammar.specs.declared.bounds.TheConstants.{MAX_NESTING}
use Rattle.hcl_text_laws.specs.Parses.{Parses, ParsedTokensAreApart}
use Rattle.hcl_layout.specs.Layouts.{IsLayout, IsLayoutEdits, IsTooLong}
use Rattle.hcl_layout.specs.LayoutLaws.{LayoutTokenizes, LaidOutIsText, OneLayout, LayoutParses, LayoutKeepsTokens, LayoutIsLaidOut, LayoutOfLayout}
use Rattle.hcl_layout.proofs.Lower.{OneTokenization, KeepsTokens, OwnLayout}

pub one_layout : OneTokenization → OneLayout
one_layout unique_tokens text new other a b =
    let same = (unique_tokens text a.pairs b.pairs a.last b.last a.tokenization b.tokenization).0 in
    a.text_is ∙ ap (λ ps. whole_text (layout_pairs ps) []) same ∙ sym b.text_is

-- what is known of a text that parses, and of its layout
record Known (text new : List ℕ) (t : Tree) : Type 0 where
  pairs : List Pair
  last : List ℕ
  tokenization : IsTokenization text pairs last
  new_tokenization : IsTokenization new (layout_pairs pairs) []
  derived : IsFile (tokens_of pairs) MAX_NESTING t
  text_is : new ≡ whole_text (layout_pairs pairs) []

known : LayoutTokenizes → OneTokenization → ParsedTokensAreApart → (text new : List ℕ) (t : Tree) → Parses text t → IsLayout text new → length new ≤ MAX_TEXT → Known text new t
known is_tokenized unique_tokens parsed_apart text new t p l short =
    let same = (unique_tokens text p.pairs l.pairs p.last l.last p.tokenization l.tokenization).0 in
    let tree : IsFile (tokens_of l.pairs) MAX_NESTING t = subst (λ ps. IsFile (tokens_of ps) MAX_NESTING t) same p.derived in
    let apart = parsed_apart text l.pairs l.last MAX_NESTING t l.tokenization tree in
    let new_tokens = is_tokenized text l.pairs l.last l.tokenization apart (subst (λ (x : List ℕ). length x ≤ MAX_TEXT) l.text_is short) in
    record {
      pairs = l.pairs;
      last = l.last;
      tokenization = l.tokenization;
      new_tokenization = subst (λ (x : List ℕ). IsTokenization x (layout_pairs l.pairs) []) (sym l.text_is) new_tokens;
      derived = tree;
      text_is = l.text_is;
    }

pub layout_parses : LayoutTokenizes → OneTokenization → ParsedTokensAreApart → KeepsTokens → LayoutParses
layout_parses is_tokenized unique_tokens parsed_apart keeps_tokens text new t p l short =
    let k = known is_tokenized unique_tokens parsed_apart text new t p l short in
    record {
      pairs = layout_pairs k.pairs;
      last = [];
      tokenization = k.new_tokenization;
      derived = subst (λ ts. IsFile ts MAX_NESTING t) (sym (keeps_tokens k.pairs)) k.derived;
    }

pub layout_keeps_tokens : LayoutTokenizes → OneTokenization → ParsedTokensAreApart → KeepsTokens → LayoutKeepsTokens
layout_keeps_tokens is_tokenized unique_tokens parsed_apart keeps_tokens text new t p l short =
    let k = known is_tokenized unique_tokens parsed_apart text new t p l short in
    record { pairs = k.pairs; others = layout_pairs k.pairs; last = k.last; other = []; tokenization = k.tokenization; new_tokenization = k.new_tokenization; same = keeps_tokens k.pairs }

pub layout_is_laid_out : LayoutTokenizes → OneTokenization → ParsedTokensAreApart → OwnLayout → LayoutIsLaidOut
layout_is_laid_out is_tokenized unique_tokens parsed_apart own_layout text new t p l short =
    let k = known is_tokenized unique_tokens parsed_apart text new t p l short in
    record { pairs = layout_pairs k.pairs; last = []; tokenization = k.new_tokenization; text_is = k.text_is ∙ ap (λ ps. whole_text ps []) (sym (own_layout k.pairs)) }

pub layout_of_layout : LayoutIsLaidOut → OneLayout → LayoutOfLayout
layout_of_layout is_laid_out one text new other t p l next = one new other new next (is_laid_out text new t p l next.tokenization.short)

-- ---- what the calls answer

-- the layout of a tokenized text is a layout of its text
layout_of : (tokenized : TokenizedText) → IsTokenization tokenized.text tokenized.pairs tokenized.last → IsLayout tokenized.text (layout_text tokenized)
layout_of tokenized c = record { pairs = tokenized.pairs; last = tokenized.last; tokenization = c; text_is = refl }

own_text : (tokenized : TokenizedText) → IsTokenization tokenized.text tokenized.pairs tokenized.last → layout_text tokenized ≡ tokenized.text → IsLayout tokenized.text tokenized.text
own_text tokenized c e = record { pairs = tokenized.pairs; last = tokenized.last; tokenization = c; text_is = sym e }

pub answered : LaidOutIsText → OneLayout → ParsedTokensAreApart → (tokenized : TokenizedText) (t : Tree) (r : Result Bool LayoutFault) → IsTokenization tokenized.text tokenized.pairs tokenized.last → IsFile (tokens_of tokenized.pairs) MAX_NESTING t
    → IfOk r (λ yes. IsTrue yes ↔ IsLaidOut tokenized) → IfOk r (λ yes. IsTrue yes ↔ IsLayout tokenized.text tokenized.text)
answered is_text one parsed_apart tokenized t (Err e) c w h = tt
answered is_text one parsed_apart tokenized t (Ok b) c w h =
    let same = is_text tokenized c (parsed_apart tokenized.text tokenized.pairs tokenized.last MAX_NESTING t c w) in
    (λ k. own_text tokenized c (same.0 (h.0 k)), λ l. h.1 (same.1 (one tokenized.text (layout_text tokenized) tokenized.text (layout_of tokenized c) l)))

-- the layout is over the limit
too_long : (tokenized : TokenizedText) → IsTokenization tokenized.text tokenized.pairs tokenized.last → MAX_TEXT < length (layout_text tokenized) → IsTooLong tokenized.text
too_long tokenized c long = record { new = layout_text tokenized; layout = layout_of tokenized c; long = long }

-- what is answered is within the limit
pub not_too_long : OneLayout → (A : Type 0) (tokenized : TokenizedText) (r : Result A LayoutFault) → IsTokenization tokenized.text tokenized.pairs tokenized.last → IfOk r (λ x. length (layout_text tokenized) ≤ MAX_TEXT)
    → OnOk r (¬ (IsTooLong tokenized.text))
not_too_long one A tokenized (Err e) c short = tt
not_too_long one A tokenized (Ok x) c short = λ long.
    let same : long.new ≡ layout_text tokenized = one tokenized.text long.new (layout_text tokenized) long.layout (layout_of tokenized c) in
    let over : MAX_TEXT < length (layout_text tokenized) = subst (λ (u : List ℕ). MAX_TEXT < length u) same long.long in
    omega (arith, short, over)

pub refused : (A : Type 0) (tokenized : TokenizedText) (r : Result A LayoutFault) → IsTokenization tokenized.text tokenized.pairs tokenized.last → IfErr r (λ e. IsMemoryOrTooLong (MAX_TEXT < length (layout_text tokenized)) e)
    → IfErr r (λ e. IsMemoryOrTooLong (IsTooLong tokenized.text) e)
refused A tokenized (Ok x) c h = tt
refused A tokenized (Err e) c (inl m) = inl m
refused A tokenized (Err e) c (inr l) = inr (l.0, too_long tokenized c l.1)

pub layout_exists : LayoutParses → LayoutKeepsTokens → LayoutIsLaidOut → (tokenized : TokenizedText) (t : Tree) (r : Result EditList LayoutFault) → IsTokenization tokenized.text tokenized.pairs tokenized.last → IsFile (tokens_of tokenized.pairs) MAX_NESTING t
    → IfOk r (λ edits. Transforms edits tokenized.text (layout_text tokenized)) → IfOk r (λ edits. length (layout_text tokenized) ≤ MAX_TEXT) → IfOk r (λ edits. IsLayoutEdits edits tokenized.text t)
layout_exists parses keeps again tokenized t (Err e) c w turns short = tt
layout_exists parses keeps again tokenized t (Ok edits) c w turns short =
    let p : Parses tokenized.text t = record { pairs = tokenized.pairs; last = tokenized.last; tokenization = c; derived = w } in
    let l = layout_of tokenized c in
    record {
      new = layout_text tokenized;
      layout = l;
      transforms = turns;
      tokens = keeps tokenized.text (layout_text tokenized) t p l short;
      parses = parses tokenized.text (layout_text tokenized) t p l short;
      again = again tokenized.text (layout_text tokenized) t p l short;
    }

-- ---- the text of the layout

pub text_is_layout : (A : Type 0) (tokenized : TokenizedText) (r : Result A LayoutFault) (items : A → List ℕ) → IsTokenization tokenized.text tokenized.pairs tokenized.last → IfOk r (λ x. items x ≡ layout_text tokenized)
    → IfOk r (λ x. IsLayout tokenized.text (items x))
text_is_layout A tokenized (Err e) items c is = tt
text_is_layout A tokenized (Ok x) items c is = subst (λ (u : List ℕ). IsLayout tokenized.text u) (sym is) (layout_of tokenized c)

pub text_parses : LayoutParses → (A : Type 0) (tokenized : TokenizedText) (r : Result A LayoutFault) (items : A → List ℕ) (t : Tree) → IsTokenization tokenized.text tokenized.pairs tokenized.last → IsFile (tokens_of tokenized.pairs) MAX_NESTING t
    → IfOk r (λ x. items x ≡ layout_text tokenized) → IfOk r (λ x. length (layout_text tokenized) ≤ MAX_TEXT) → IfOk r (λ x. Parses (items x) t)
text_parses parses A tokenized (Err e) items t c w is short = tt
text_parses parses A tokenized (Ok x) items t c w is short =
    let p : Parses tokenized.text t = record { pairs = tokenized.pairs; last = tokenized.last; tokenization = c; derived = w } in
    subst (λ (u : List ℕ). Parses u t) (sym is) (parses tokenized.text (layout_text tokenized) t p (layout_of tokenized c) short)

pub text_is_short : (A : Type 0) (tokenized : TokenizedText) (r : Result A LayoutFault) (items : A → List ℕ) → IfOk r (λ x. items x ≡ layout_text tokenized) → IfOk r (λ x. length (layout_text tokenized) ≤ MAX_TEXT)
    → IfOk r (λ x. length (items x) ≤ MAX_TEXT)
text_is_short A tokenized (Err e) items is short = tt
text_is_short A tokenized (Ok x) items is short = subst (λ (u : List ℕ). length u ≤ MAX_TEXT) (sym is) short
