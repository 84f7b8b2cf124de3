-- A text has at most one list of tokens or one error, and a fix makes at most one text of it, so
-- each command has at most one answer.
use Rattle.std.proofs.Common.{◌≡◌, ◌∙◌, ◌≤◌, ◌<◌, ◌⊎◌, ℕ, List, [], ◌∷◌, length, Result, Ok, Err, refl, sym, ap, subst, inl, inr, arith}
use Rattle.hcl_token.specs.Tokens.{Pair}
use Rattle.hcl_text_laws.specs.declared.fault.ParseFault.{ParseFault}
use Rattle.hcl_text_laws.specs.declared.fault.ParseFault.TheVariants.{Syntax, TooDeep}
use Rattle.hcl_scan.specs.declared.fault.ScanFault.{ScanFault}
use Rattle.hcl_scan.specs.Tokenization.{IsTokenization, MAX_TEXT}
use Rattle.hcl_scan.specs.Fault.{IsFault}
use Rattle.edit_record.specs.Lists.Pieces.{EditList, as_list}
use Rattle.tf_rules.specs.declared.rule_set.RuleSet.{RuleSet}
use Rattle.tf_session.specs.declared.command.Command.{Command}
use Rattle.tf_session.specs.declared.command.Command.TheVariants.{Fmt, Fix, Revert, Take}
use Rattle.tf_session.specs.declared.command.Done.{Done}
use Rattle.tf_session.specs.declared.command.Fault.{Fault}
use Rattle.tf_session.specs.declared.command.Fault.TheVariants.{Scan, Parse, FixBroken, TooLong}
use Rattle.tf_session.specs.Inner.Faults.{fault_of_fix}
use Rattle.tf_session.specs.Fixing.{FixRewrites, FixRewritesBy}
use Rattle.tf_lint.specs.declared.fault.FixFault.{FixFault}
use Rattle.tf_lint.specs.Steps.{Rewrite, FixesText, Breaks, FixIsUnique}
use Rattle.hcl_layout.specs.Gaps.Layout.{layout_edits}
use Rattle.hcl_layout.specs.Layouts.{IsTooLong}
use Rattle.hcl_layout.specs.LayoutLaws.{OneLayout}
use Rattle.tf_session.specs.Parsing.{DoesParse}
use Rattle.tf_lint.specs.ParseFaults.{IsParseFault}
use Rattle.tf_session.specs.Formatting.{Formats, FmtRewrites}
use Rattle.tf_session.proofs.ReadTexts.{does_parse}
use Rattle.tf_lint.proofs.DoesNotParse.{TokensAreUnique, NoTokensWithFault, OneFault, not_both, same_scanned}
use Rattle.tf_session.specs.Machine.{StackEntry, Stack, PushesText, PopsText}
use Rattle.tf_session.specs.ResultIsUnique.{AreSameUpToParseFault, CommandResultIsUnique}

-- what is made, by its parts
one_made : (a b : Rewrite) → a.text ≡ b.text → a.edits ≡ b.edits → a.fixed ≡ b.fixed → a.left ≡ b.left → a ≡ b
one_made a b texts edits fixed left =
    ap (λ (x : List ℕ). let r : Rewrite = record { text = x; edits = a.edits; fixed = a.fixed; left = a.left } in r) texts
    ∙ ap (λ (x : EditList). let r : Rewrite = record { text = b.text; edits = x; fixed = a.fixed; left = a.left } in r) edits
    ∙ ap (λ (x : ℕ). let r : Rewrite = record { text = b.text; edits = b.edits; fixed = x; left = a.left } in r) fixed
    ∙ ap (λ (x : ℕ). let r : Rewrite = record { text = b.text; edits = b.edits; fixed = b.fixed; left = x } in r) left

-- what is made of a text, but for the edits
abbrev no_edits : Rewrite → Rewrite
no_edits made = record { text = made.text; edits = as_list 0 []; fixed = made.fixed; left = made.left }

abbrev without_edits : Result Rewrite Fault → Result Rewrite Fault
without_edits (Ok made) = Ok (no_edits made)
without_edits (Err fault) = Err fault

-- the stack has no edits
push_without : (command : Command) (answer : Result Rewrite Fault) (old : Stack) (reply : Result Done Fault) (new : Stack)
    → PushesText command answer old reply new → PushesText command (without_edits answer) old reply new
push_without command (Ok made) old reply new p = p
push_without command (Err fault) old reply new p = p

push_one : (command : Command) (answer : Result Rewrite Fault) (old : Stack) (reply other : Result Done Fault) (new another : Stack)
    → PushesText command answer old reply new → PushesText command answer old other another → (reply ≡ other) × (new ≡ another)
push_one command (Ok made) old reply other new another p q = (p.0 ∙ sym q.0, p.1 ∙ sym q.1)
push_one command (Err fault) old reply other new another p q = (p.0 ∙ sym q.0, p.1 ∙ sym q.1)

-- Answers that are alike have replies that are, and leave one state, on any machine on which each
-- answer has one reply and leaves one state, and an error is the reply and changes nothing.
pub push_same : {State : Type 0} (Pushes : Result Rewrite Fault → State → Result Done Fault → State → Type 0)
    → ((answer : Result Rewrite Fault) (old : State) (reply other : Result Done Fault) (new another : State)
    → Pushes answer old reply new → Pushes answer old other another → (reply ≡ other) × (new ≡ another))
    → ((fault : Fault) (old : State) (reply : Result Done Fault) (new : State)
    → Pushes (Err fault) old reply new → (reply ≡ Err fault) × (new ≡ old))
    → (a b : Result Rewrite Fault) (old : State) (reply other : Result Done Fault) (new another : State)
    → AreSameUpToParseFault a b → Pushes a old reply new → Pushes b old other another → AreSameUpToParseFault reply other × (new ≡ another)
push_same Pushes one refuses a b old reply other new another (inl same) p q =
    let h = one a old reply other new another p (subst (λ (x : Result Rewrite Fault). Pushes x old other another) (sym same) q) in
    (inl h.0, h.1)
push_same Pushes one refuses a b old reply other new another (inr w) p q =
    let f = refuses (Parse w.0) old reply new (subst (λ (x : Result Rewrite Fault). Pushes x old reply new) w.2 p) in
    let g = refuses (Parse w.1) old other another (subst (λ (x : Result Rewrite Fault). Pushes x old other another) w.3 q) in
    (inr (w.0, w.1, f.0, g.0), f.1 ∙ sym g.1)

take_same : (top : List ℕ) (below : List StackEntry) (reply other : Result Done Fault) (new another : Stack)
    → PopsText top below reply new → PopsText top below other another → (reply ≡ other) × (new ≡ another)
take_same top [] reply other new another p q = (p.0 ∙ sym q.0, p.1 ∙ sym q.1)
take_same top (under ∷ rest) reply other new another p q = (p.0 ∙ sym q.0, p.1 ∙ sym q.1)

-- why a command refuses a text: it has no tokens, it does not parse, or this
abbrev Why : List ℕ → Fault → Type 0 → Type 0
Why text f Other = ((fault : ScanFault) × (f ≡ Scan fault) × IsFault text fault) ⊎ (((fault : ParseFault) × (f ≡ Parse fault) × IsParseFault text fault) ⊎ Other)

-- a step of the fix can't be done
abbrev Broken : RuleSet → List ℕ → Fault → Type 0
Broken rules text f = (fault : FixFault) × (f ≡ fault_of_fix fault) × Breaks rules text fault

why_fix : (rules : RuleSet) (text : List ℕ) (f : Fault) → FixRewrites rules text (Err f) → Why text f (Broken rules text f)
why_fix rules text (Scan fault) h = inl (fault, refl, h)
why_fix rules text (Parse fault) h = inr (inl (fault, refl, h))
why_fix rules text (FixBroken rule) h = inr (inr (FixFault.FixBroken rule, refl, h))
why_fix rules text TooLong h = inr (inr (FixFault.TooLong, refl, h))
why_fix rules text _ h = absurd h

-- the layout is too long
abbrev Long : List ℕ → Fault → Type 0
Long text f = (f ≡ TooLong) × DoesParse text × IsTooLong text

why_fmt : (text : List ℕ) (f : Fault) → FmtRewrites text (Err f) → Why text f (Long text f)
why_fmt text (Scan fault) h = inl (fault, refl, h)
why_fmt text (Parse fault) h = inr (inl (fault, refl, h))
why_fmt text TooLong h = inr (inr (refl, h.0, h.1))
why_fmt text _ h = absurd h

-- tokens that have no tree
has_tokens : (text : List ℕ) (fault : ParseFault) → IsParseFault text fault → (pairs : List Pair) × (last : List ℕ) × IsTokenization text pairs last
has_tokens text (Syntax at) h = (h.0, h.1, h.2)
has_tokens text (TooDeep at) h = (h.0, h.1, h.2)
has_tokens text ParseFault.Memory h = absurd h

module _ (unique_tokens : TokensAreUnique) (no_tokens_with_fault : NoTokensWithFault) (one_fault : OneFault) (one_layout : OneLayout) (one_fix : (rules : RuleSet) (text : List ℕ) → FixIsUnique rules text) where
  no_tokens : (text : List ℕ) (fault : ScanFault) (other : ParseFault) → IsFault text fault → IsParseFault text other → ⊥
  no_tokens text fault other h p = let tokenized = has_tokens text other p in no_tokens_with_fault text fault tokenized.0 tokenized.1 h tokenized.2

  -- a text that parses has none of these errors
  not_why : (text : List ℕ) (f : Fault) (Other : Type 0) → DoesParse text → (Other → ⊥) → Why text f Other → ⊥
  not_why text f Other p not_other (inl w) = no_tokens_with_fault text w.0 p.1.pairs p.1.last w.2 p.1.tokenization
  not_why text f Other p not_other (inr (inl w)) = not_both unique_tokens text w.0 p.0 w.2 p.1
  not_why text f Other p not_other (inr (inr w)) = not_other w

  same_why : (text : List ℕ) (f g : Fault) (One Two : Type 0) → (One → DoesParse text) → (Two → DoesParse text) → (One → Two → f ≡ g)
      → Why text f One → Why text g Two → AreSameUpToParseFault {X = Rewrite} (Err f) (Err g)
  same_why text f g One Two one two same (inl v) (inl w) =
      inl (ap (λ (x : Fault). Err x) (v.1 ∙ ap (λ (x : ScanFault). Scan x) (one_fault text v.0 w.0 v.2 w.2) ∙ sym w.1))
  same_why text f g One Two one two same (inl v) (inr (inl w)) = absurd (no_tokens text v.0 w.0 v.2 w.2)
  same_why text f g One Two one two same (inl v) (inr (inr w)) = absurd (not_why text f ⊥ (two w) (λ e. e) (inl v))
  same_why text f g One Two one two same (inr (inl v)) (inl w) = absurd (no_tokens text w.0 v.0 w.2 v.2)
  same_why text f g One Two one two same (inr (inl v)) (inr (inl w)) = inr (v.0, w.0, ap (λ (x : Fault). Err x) v.1, ap (λ (x : Fault). Err x) w.1)
  same_why text f g One Two one two same (inr (inl v)) (inr (inr w)) = absurd (not_why text f ⊥ (two w) (λ e. e) (inr (inl v)))
  same_why text f g One Two one two same (inr (inr v)) (inl w) = absurd (not_why text g ⊥ (one v) (λ e. e) (inl w))
  same_why text f g One Two one two same (inr (inr v)) (inr (inl w)) = absurd (not_why text g ⊥ (one v) (λ e. e) (inr (inl w)))
  same_why text f g One Two one two same (inr (inr v)) (inr (inr w)) = inl (ap (λ (x : Fault). Err x) (same v w))

  same_broken : (rules : RuleSet) (text : List ℕ) (f g : Fault) → Broken rules text f → Broken rules text g → f ≡ g
  same_broken rules text f g v w = v.1 ∙ ap fault_of_fix ((one_fix rules text).broken v.0 w.0 v.2 w.2) ∙ sym w.1

  made_or_refused : (rules : RuleSet) (text : List ℕ) (made : Rewrite) (f : Fault) → FixesText rules text made → FixRewrites rules text (Err f) → ⊥
  made_or_refused rules text made f p q =
      not_why text f (Broken rules text f) (does_parse text p.parsed p.reads) (λ w. (one_fix rules text).exclusive made w.0 p w.2) (why_fix rules text f q)

  same_refusals : (rules : RuleSet) (text : List ℕ) (f g : Fault) → FixRewrites rules text (Err f) → FixRewrites rules text (Err g) → AreSameUpToParseFault {X = Rewrite} (Err f) (Err g)
  same_refusals rules text f g p q =
      same_why text f g (Broken rules text f) (Broken rules text g) (λ w. does_parse text w.2.0 w.2.1) (λ w. does_parse text w.2.0 w.2.1) (same_broken rules text f g) (why_fix rules text f p) (why_fix rules text g q)

  -- by which edits too
  pub same_fixes : (rules : RuleSet) (text : List ℕ) (a b : Result Rewrite Fault) → FixRewritesBy rules text a → FixRewritesBy rules text b → AreSameUpToParseFault a b
  same_fixes rules text (Ok a) (Ok b) p q = inl (ap (λ (x : Rewrite). Ok x) ((one_fix rules text).made a b p q))
  same_fixes rules text (Ok a) (Err f) p q = absurd (made_or_refused rules text a f p.fixes_text q)
  same_fixes rules text (Err f) (Ok b) p q = absurd (made_or_refused rules text b f q.fixes_text p)
  same_fixes rules text (Err f) (Err g) p q = same_refusals rules text f g p q

  -- whatever they are
  same_fixed_texts : (rules : RuleSet) (text : List ℕ) (a b : Result Rewrite Fault) → FixRewrites rules text a → FixRewrites rules text b → AreSameUpToParseFault (without_edits a) (without_edits b)
  same_fixed_texts rules text (Ok a) (Ok b) p q =
      let (texts, fixed, left) = (one_fix rules text).made_text a b p q in
      inl (ap (λ (x : Rewrite). Ok x) (one_made (no_edits a) (no_edits b) texts refl fixed left))
  same_fixed_texts rules text (Ok a) (Err f) p q = absurd (made_or_refused rules text a f p q)
  same_fixed_texts rules text (Err f) (Ok b) p q = absurd (made_or_refused rules text b f q p)
  same_fixed_texts rules text (Err f) (Err g) p q = same_refusals rules text f g p q

  not_long : (text : List ℕ) (made : Rewrite) (f : Fault) → Formats text made → Long text f → ⊥
  not_long text made f p w =
      let same : w.2.new ≡ made.text = one_layout text w.2.new made.text w.2.layout p.layout in
      let long : MAX_TEXT < length made.text = subst (λ (t : List ℕ). MAX_TEXT < length t) same w.2.long in
      let short : length made.text ≤ MAX_TEXT = p.short in
      omega (arith, long, short)

  same_formats : (text : List ℕ) (a b : Rewrite) → Formats text a → Formats text b → a ≡ b
  same_formats text a b p q =
      let texts : a.text ≡ b.text = one_layout text a.text b.text p.layout q.layout in
      let edits : a.edits ≡ b.edits = p.edits_are ∙ ap layout_edits (same_scanned unique_tokens text p.parsed q.parsed p.reads q.reads) ∙ sym q.edits_are in
      let fixed : a.fixed ≡ b.fixed = p.fixed_is ∙ sym q.fixed_is in
      let left : a.left ≡ b.left = p.left_is ∙ sym q.left_is in
      one_made a b texts edits fixed left

  pub same_layouts : (text : List ℕ) (a b : Result Rewrite Fault) → FmtRewrites text a → FmtRewrites text b → AreSameUpToParseFault a b
  same_layouts text (Ok a) (Ok b) p q = inl (ap (λ (x : Rewrite). Ok x) (same_formats text a b p q))
  same_layouts text (Ok a) (Err f) p q = absurd (not_why text f (Long text f) (does_parse text p.parsed p.reads) (not_long text a f p) (why_fmt text f q))
  same_layouts text (Err f) (Ok b) p q = absurd (not_why text f (Long text f) (does_parse text q.parsed q.reads) (not_long text b f q) (why_fmt text f p))
  same_layouts text (Err f) (Err g) p q =
      same_why text f g (Long text f) (Long text g) (λ w. w.1) (λ w. w.1) (λ v w. v.0 ∙ sym w.0) (why_fmt text f p) (why_fmt text g q)

  pub one_answer : CommandResultIsUnique
  one_answer Fmt old reply other new another p q =
      push_same (PushesText Fmt) (push_one Fmt) (λ _ _ _ _ h. h) p.0 q.0 old reply other new another (same_layouts old.top p.0 q.0 p.1 q.1) p.2 q.2
  one_answer (Fix rules) old reply other new another p q =
      push_same (PushesText (Fix rules)) (push_one (Fix rules)) (λ _ _ _ _ h. h) (without_edits p.0) (without_edits q.0) old reply other new another (same_fixed_texts rules old.top p.0 q.0 p.1 q.1)
      (push_without (Fix rules) p.0 old reply new p.2) (push_without (Fix rules) q.0 old other another q.2)
  one_answer Revert old reply other new another p q =
      let h = take_same old.top old.below reply other new another p q in
      (inl h.0, h.1)
  one_answer (Take n) old reply other new another p q = absurd p
