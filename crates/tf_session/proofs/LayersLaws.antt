-- Laws of the machine that keeps the edits, over all its commands: each has one answer, and those
-- that were refused since memory ran out do not count.
use Rattle.std.proofs.Common.{◌≡◌, ◌∙◌, ℕ, List, Result, Ok, Err, refl, sym, ap, inl}
use Rattle.edit_record.specs.Lists.Validity.{ApplyIsDeterministic}
use Rattle.edit_record.specs.declared.lists.record.Word.{Word}
use Rattle.edit_record.specs.Swaps.Swap.{SwapIsUnique}
use Rattle.edit_record.specs.Swaps.MoveToEnd.{MoveToEndIsUnique}
use Rattle.hcl_layout.specs.LayoutLaws.{OneLayout}
use Rattle.tf_session.specs.declared.command.Command.{Command}
use Rattle.tf_session.specs.declared.command.Command.TheVariants.{Fmt, Fix, Revert, Take}
use Rattle.tf_session.specs.declared.command.Done.{Done}
use Rattle.tf_session.specs.declared.command.Fault.{Fault}
use Rattle.tf_lint.specs.Steps.{Rewrite, texts_differ}
use Rattle.tf_session.specs.Machine.{done}
use Rattle.tf_session.specs.Layers.{History, top_text, PushesLayer, PopsLayer, HistoryStep, HistoryMayAllocate}
use Rattle.tf_session.specs.TakeLaws.{CommandResultIsUniqueOverLayers, OutOfMemoryChangesNothingOverLayers}
use Rattle.tf_session.proofs.ResultIsUnique.{push_same, same_fixes, same_layouts}
use Rattle.tf_session.proofs.Lists.{not_nil, same_last}
use Rattle.tf_session.proofs.Runs.{memory_does_not_count}
use Rattle.tf_session.proofs.TakeIsUnique.{take_has_one_answer}
use Rattle.tf_rules.specs.declared.rule_set.RuleSet.{RuleSet}
use Rattle.tf_lint.proofs.DoesNotParse.{TokensAreUnique, NoTokensWithFault, OneFault}
use Rattle.tf_lint.specs.Steps.{FixIsUnique}

-- ---- one answer

push_one : (word : Word) (answer : Result Rewrite Fault) (old : History) (reply other : Result Done Fault) (new another : History)
    → PushesLayer word answer old reply new → PushesLayer word answer old other another → (reply ≡ other) × (new ≡ another)
push_one word (Ok made) old reply other new another p q = (p.0 ∙ sym q.0, p.1 ∙ sym q.1)
push_one word (Err fault) old reply other new another p q = (p.0 ∙ sym q.0, p.1 ∙ sym q.1)

off_same : (old : History) (reply other : Result Done Fault) (new another : History) → PopsLayer old reply new → PopsLayer old other another → (reply ≡ other) × (new ≡ another)
off_same old (Ok d) (Ok e) new another p q =
    let lasts = same_last p.rest q.rest p.last q.last (sym p.layers_are ∙ q.layers_are) in
    let same : new ≡ another = p.new_is ∙ (λ i. record { first = old.first; layers = lasts.0 i }) ∙ sym q.new_is in
    let d_is : d ≡ e = p.done_is ∙ ap (λ (h : History). done (texts_differ (top_text h) (top_text old)) 0 0) same ∙ sym q.done_is in
    (ap (λ (x : Done). Ok x) d_is, same)
off_same old (Ok d) (Err f) new another p q = absurd (not_nil p.rest p.last (sym p.layers_are ∙ q.1))
off_same old (Err f) (Ok e) new another p q = absurd (not_nil q.rest q.last (sym q.layers_are ∙ p.1))
off_same old (Err f) (Err g) new another p q = (ap (λ (x : Fault). Err x) (p.0 ∙ sym q.0), p.2 ∙ sym q.2)

module _ (unique_tokens : TokensAreUnique) (no_tokens_with_fault : NoTokensWithFault) (one_fault : OneFault) (one_layout : OneLayout) (one_fix : (rules : RuleSet) (text : List ℕ) → FixIsUnique rules text) (one_swap : SwapIsUnique) (takes_one : MoveToEndIsUnique) (into_one : ApplyIsDeterministic) where
  pub one_answer_over_layers : CommandResultIsUniqueOverLayers
  one_answer_over_layers Fmt old reply other new another p q =
      push_same (PushesLayer Word.Fmt) (push_one Word.Fmt) (λ _ _ _ _ h. h) p.0 q.0 old reply other new another (same_layouts unique_tokens no_tokens_with_fault one_fault one_layout one_fix (top_text old) p.0 q.0 p.1 q.1) p.2 q.2
  one_answer_over_layers (Fix rules) old reply other new another p q =
      push_same (PushesLayer Word.Fix) (push_one Word.Fix) (λ _ _ _ _ h. h) p.0 q.0 old reply other new another (same_fixes unique_tokens no_tokens_with_fault one_fault one_layout one_fix rules (top_text old) p.0 q.0 p.1 q.1) p.2 q.2
  one_answer_over_layers Revert old reply other new another p q = let h = off_same old reply other new another p q in (inl h.0, h.1)
  one_answer_over_layers (Take n) old reply other new another p q =
      let h = take_has_one_answer one_swap takes_one into_one n old reply other new another p q in
      (inl h.0, h.1)

-- ---- out of memory

pub refused_do_not_count_over_layers : OutOfMemoryChangesNothingOverLayers
refused_do_not_count_over_layers = memory_does_not_count HistoryMayAllocate HistoryStep
