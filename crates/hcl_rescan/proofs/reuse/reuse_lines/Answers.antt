use Rattle.std.proofs.Common.{List, ℕ, subst, sym, ap, ◌∙◌, ◌≤◌, length}
use Rattle.std.specs.List.{slice_range}
use Rattle.hcl_rescan.proofs.LineLemmas.{RangeText, range_text}
use Rattle.hcl_rescan.proofs.TakenLemmas.{lines_fit, taken}
use Rattle.hcl_rescan.proofs.reuse.reuse_lines.Goals as goal

known : (c : goal.After-text) → RangeText c.args.old.now c.args.from.index c.args.from.at c.args.to.index c.args.to.at
known c =
    range_text c.args.old.now c.args.from.index c.args.from.at c.args.to.index c.args.to.at c.text.ensures.tokenization.tokenizes.text_is c.requires.line_start c.requires.end_line_start c.requires.lines.ordered

pub slice-bytes-requires-clause-ordered : goal.slice-bytes-requires-clause-ordered
slice-bytes-requires-clause-ordered c = (known c).ordered

pub slice-bytes-requires-clause-within : goal.slice-bytes-requires-clause-within
slice-bytes-requires-clause-within c = subst (λ (x : List ℕ). c.args.to.at ≤ length x) (sym c.text.ensures.text) (known c).within

pub push_relocated-requires-clause-fits : goal.push_relocated-requires-clause-fits
push_relocated-requires-clause-fits c =
    let from = c.args.from in
    let to = c.args.to in
    let known = range_text c.args.old.now from.index from.at to.index to.at c.text.ensures.tokenization.tokenizes.text_is c.requires.line_start c.requires.end_line_start c.requires.lines.ordered in
    let bytes = c.slice-bytes.ensures ∙ ap (λ (x : List ℕ). slice_range x from.at to.at) c.text.ensures.text in
    lines_fit c.args.text.now c.slice-bytes.result.now c.args.rescanned.now.at c.args.old.now from.index from.at to.index to.at known bytes (c.has_bytes_at.ensures c.if-not-has_bytes_at.false) c.requires.rescanned.within c.requires.short

pub returns : goal.returns
returns c =
    let from = c.args.from in
    let to = c.args.to in
    let known = range_text c.args.old.now from.index from.at to.index to.at c.text.ensures.tokenization.tokenizes.text_is c.requires.line_start c.requires.end_line_start c.requires.lines.ordered in
    let bytes = c.slice-bytes.ensures ∙ ap (λ (x : List ℕ). slice_range x from.at to.at) c.text.ensures.text in
    taken c.args.text.now c.args.rescanned.now.tokens.items c.push_relocated.new.tokens.items c.args.rescanned.now.at c.args.old.now from.index from.at to.index to.at c.slice-bytes.result.now c.requires.rescanned c.requires.lines known bytes
    (c.has_bytes_at.ensures c.if-not-has_bytes_at.false) c.in_ok-push_relocated.ensures
