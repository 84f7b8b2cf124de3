use Rattle.std.proofs.Common.{take, sym, subst, List, Option, ℕ, arith}
use Rattle.std.proofs.lemmas.List.{length-take-le}
use Rattle.hcl_layout.specs.Gaps.Inner.CodeViews.{widths_of, tokens_in, AreStarts, AreInside}
use Rattle.hcl_layout.specs.Gaps.Inner.Stages.{AreAtMost, with_gaps, MAX_WIDTH}
use Rattle.hcl_layout.specs.declared.gaps.cells.CellStart.{CellStart}
use Rattle.hcl_layout.proofs.GapsLemmas.CellGaps.{gaps_length}
use Rattle.hcl_layout.proofs.GapsLemmas.CellCode.{aligned_gaps, first_after}
use Rattle.hcl_layout.proofs.GapsLemmas.Repeats.{starts_inside, starts_most, starts_set}
use Rattle.hcl_layout.proofs.gaps.cells.align.Goals as goal

pub set_cell_gaps-requires-clause-inside : goal.set_cell_gaps-requires-clause-inside
set_cell_gaps-requires-clause-inside c =
    subst (λ n. AreInside n c.deref-2.result.now) (sym c.requires.same)
    (subst (AreInside _) (sym c.deref-2.ensures.value) (starts_inside c.args.cell _ c.args.scanned.now.pairs c.args.first c.in_ok-starts.starts.items c.in_ok-starts.ensures))

pub set_cell_gaps-requires-clause-bounded : goal.set_cell_gaps-requires-clause-bounded
set_cell_gaps-requires-clause-bounded c =
    let ps = c.args.scanned.now.pairs in
    let starts = subst (λ (g : List ℕ). AreStarts c.args.cell g ps c.args.first c.in_ok-starts.starts.items) c.deref.ensures.value c.in_ok-starts.ensures in
    subst (λ (ss : List (Option CellStart)). AreAtMost MAX_WIDTH (widths_of ss)) (sym c.deref-2.ensures.value)
    (starts_most c.args.cell c.args.gaps.now.items ps c.args.first MAX_WIDTH c.in_ok-starts.starts.items starts (subst (AreAtMost MAX_WIDTH) (sym starts.sizes) c.requires.bounded))

pub returns-clause-aligned : goal.returns-clause-aligned
returns-clause-aligned c =
    let ps = c.args.scanned.now.pairs in
    let ns = c.args.gaps.now.items in
    let found = subst (λ (g : List ℕ). AreStarts c.args.cell g ps c.args.first c.in_ok-starts.starts.items) c.deref.ensures.value c.in_ok-starts.ensures in
    let starts = subst (AreStarts c.args.cell ns ps c.args.first) (sym c.deref-2.ensures.value) found in
    let new = starts_set c.args.cell ns ps c.args.first c.deref-2.result.now c.set_cell_gaps.new.gaps.items starts c.set_cell_gaps.ensures.filled in
    let whole = aligned_gaps c.args.cell ps c.args.first ns c.set_cell_gaps.new.gaps.items (widths_of starts.all) (tokens_in starts.all) c.requires.same c.requires.within starts.sizes starts.numbers c.requires.bounded new in
    (first_after ps c.args.first (take c.args.first (with_gaps ns ps)) _ (with_gaps c.set_cell_gaps.new.gaps.items ps) (length-take-le c.args.first (with_gaps ns ps) (omega (arith, gaps_length ns ps c.requires.same, c.requires.within))) whole).1

pub returns-clause-prefix : goal.returns-clause-prefix
returns-clause-prefix c =
    let ps = c.args.scanned.now.pairs in
    let ns = c.args.gaps.now.items in
    let found = subst (λ (g : List ℕ). AreStarts c.args.cell g ps c.args.first c.in_ok-starts.starts.items) c.deref.ensures.value c.in_ok-starts.ensures in
    let starts = subst (AreStarts c.args.cell ns ps c.args.first) (sym c.deref-2.ensures.value) found in
    let new = starts_set c.args.cell ns ps c.args.first c.deref-2.result.now c.set_cell_gaps.new.gaps.items starts c.set_cell_gaps.ensures.filled in
    let whole = aligned_gaps c.args.cell ps c.args.first ns c.set_cell_gaps.new.gaps.items (widths_of starts.all) (tokens_in starts.all) c.requires.same c.requires.within starts.sizes starts.numbers c.requires.bounded new in
    (first_after ps c.args.first (take c.args.first (with_gaps ns ps)) _ (with_gaps c.set_cell_gaps.new.gaps.items ps) (length-take-le c.args.first (with_gaps ns ps) (omega (arith, gaps_length ns ps c.requires.same, c.requires.within))) whole).0
