use Rattle.std.proofs.Common.{◌≤◌, ◌++◌, ◌-◌, ◌+◌, ◌∙◌, List, ℕ, length, ap, arith, sym, subst}
use Rattle.std.specs.List.{slice_range}
use Rattle.hcl_token.specs.Pairs.{spans_from}
use Rattle.hcl_rescan.specs.Inner.WholeLines.{IsRescanned}
use Rattle.hcl_rescan.proofs.LineLemmas.{place_in}
use Rattle.hcl_rescan.proofs.TakenLemmas.{same_rest, rest_rescanned}
use Rattle.hcl_rescan.proofs.reuse.reuse_rest.Goals as goal

pub slice-bytes-requires-clause-ordered : goal.slice-bytes-requires-clause-ordered
slice-bytes-requires-clause-ordered c =
    omega (arith, c.requires.line_start.place, ap length c.text-2.ensures.text, place_in c.args.old.now c.args.from.index c.text.ensures.tokenization.tokenizes.text_is)

pub push_relocated-requires-clause-fits : goal.push_relocated-requires-clause-fits
push_relocated-requires-clause-fits c =
    subst (λ n. c.args.rescanned.now.at + length (Rattle.hcl_token.specs.Tokens.whole_text (slice_range c.args.old.now.pairs c.args.from.index n) Rattle.std.specs.Prelude.[]) ≤ Rattle.hcl_scan.specs.Tokenization.MAX_TEXT) (sym c.len.ensures.value) (same_rest c.args.text.now c.text.result.now c.text-2.result.now c.slice-bytes.result.now c.slice.result.now c.args.rescanned.now.at c.args.old.now c.args.from.index c.args.from.at c.text.ensures.tokenization.tokenizes.text_is c.requires.line_start c.requires.rescanned.within c.requires.short
    c.text.ensures.text c.text-2.ensures.text c.slice-bytes.ensures c.slice.ensures (c.same_bytes.ensures c.if-not-same_bytes.false)).fits

pub overflow_sub-result : goal.overflow_sub-result
overflow_sub-result c = omega (
  arith,
  ap length c.last_gap.ensures,
  (same_rest c.args.text.now c.text.result.now c.text-2.result.now c.slice-bytes.result.now c.slice.result.now c.args.rescanned.now.at c.args.old.now c.args.from.index c.args.from.at c.text.ensures.tokenization.tokenizes.text_is c.requires.line_start c.requires.rescanned.within c.requires.short
      c.text.ensures.text c.text-2.ensures.text c.slice-bytes.ensures c.slice.ensures (c.same_bytes.ensures c.if-not-same_bytes.false)).last,
)

pub returns : goal.returns
returns c =
    let old = c.args.old.now in
    let text = c.args.text.now in
    let tokens = c.args.rescanned.now.tokens.items in
    let pushed = c.in_ok-push_relocated.ensures ∙ ap (λ n. tokens ++ spans_from c.args.rescanned.now.at (slice_range old.pairs c.args.from.index n)) c.len.ensures.value in
    let whole = rest_rescanned text tokens c.push_relocated.new.tokens.items c.args.rescanned.now.at old c.args.from.index c.args.from.at c.requires.short c.requires.rescanned c.requires.line_start c.text.ensures.tokenization.whitespace (same_rest c.args.text.now c.text.result.now c.text-2.result.now c.slice-bytes.result.now c.slice.result.now c.args.rescanned.now.at c.args.old.now c.args.from.index c.args.from.at c.text.ensures.tokenization.tokenizes.text_is c.requires.line_start c.requires.rescanned.within c.requires.short
    c.text.ensures.text c.text-2.ensures.text c.slice-bytes.ensures c.slice.ensures (c.same_bytes.ensures c.if-not-same_bytes.false)) pushed in
    subst (λ (x : List ℕ). IsRescanned text c.push_relocated.new.tokens.items (length text - length x)) (sym c.last_gap.ensures) whole
