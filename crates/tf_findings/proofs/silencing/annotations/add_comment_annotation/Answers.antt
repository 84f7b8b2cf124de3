use Rattle.std.proofs.Common.{◌≡◌, ◌||◌, ◌&&◌, Bool, true, false, List, ap, sym, refl, ◌∙◌}
use Rattle.hcl_token.specs.Place.{line_of}
use Rattle.hcl_token.specs.Tokens.{Pair}
use Rattle.tf_rules.specs.RuleSets.{has_rule}
use Rattle.tf_findings.specs.Silencing.{covers_line}
use Rattle.tf_findings.proofs.LineLemmas.{quiet_spelling, spelled}
use Rattle.tf_findings.proofs.AnnotationLemmas.{or_false}
use Rattle.tf_findings.specs.Inner.Annotations.{option_has, is_silenced_by}
use Rattle.tf_findings.proofs.silencing.annotations.add_comment_annotation.Goals as goal

pub returns-in-None-clause-silenced : goal.returns-in-None-clause-silenced
returns-in-None-clause-silenced c = λ rule line.
    let no = sym (c.silenced_rules.ensures rule) ∙ ap (λ o. option_has o rule) c.in-None.is in
    let none = quiet_spelling c.args.scanned.now.pairs rule line c.args.i c.kind.result c.spelling.result.now c.kind.ensures c.spelling.ensures.value no in
    let old = is_silenced_by rule line c.args.annotations.now.items in
    sym (ap (λ b. old || b) none ∙ or_false old)

either_order : (a b : Bool) → (a && b) ≡ (b && a)
either_order true true = refl
either_order true false = refl
either_order false true = refl
either_order false false = refl

pub returns-in_ok-add_annotation-in-Some-clause-silenced : goal.returns-in_ok-add_annotation-in-Some-clause-silenced
returns-in_ok-add_annotation-in-Some-clause-silenced c = λ rule line.
    let pairs = c.args.scanned.now.pairs in
    let old = is_silenced_by rule line c.args.annotations.now.items in
    let does = has_rule c.in-Some.rules rule in
    let said = sym (c.silenced_rules.ensures rule) ∙ ap (λ o. option_has o rule) c.in-Some.is in
    let here = spelled pairs rule line c.args.i c.kind.result c.spelling.result.now does c.requires.within c.kind.ensures c.spelling.ensures.value said in
    let at = c.of-line.ensures.line ∙ ap (λ (ps : List Pair). line_of ps c.args.i) c.requires.lines in
    let covered = ap (λ n. covers_line line n && does) at ∙ either_order (covers_line line (line_of pairs c.args.i)) does in
    c.in_ok-add_annotation-in-Some.ensures.silenced rule line ∙ ap (λ b. old || b) (covered ∙ sym here)
