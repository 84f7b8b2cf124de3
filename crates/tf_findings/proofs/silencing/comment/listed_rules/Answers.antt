use Rattle.std.proofs.Common.{◌≡◌, ◌&&◌, ◌||◌, ◌∙◌, sym, ap, take, drop, length, ◌+◌, ◌<◌, ◌≤◌, arith}
use Rattle.std.specs.List.{list_all, list_any}
use Rattle.tf_rules.specs.RuleSets.{has_rule}
use Rattle.tf_findings.specs.declared.silencing.class.ByteClass.TheVariants.{NotComma}
use Rattle.tf_findings.proofs.CommaLemmas.{first_not, last_one, one_more}
use Rattle.tf_findings.specs.Inner.ByteCounts.{class_prefix_len, split_commas, is_name, names_rule}
use Rattle.tf_findings.proofs.silencing.comment.listed_rules.Goals as goal

pub returns-then-not-is_name : goal.returns-then-not-is_name
returns-then-not-is_name c = λ rule.
    let part = c.first_bytes-part.ensures ∙ ap (λ n. take n c.loop-rest.rest.now) c.class_prefix_len-n.ensures.value in
    let e = ap is_name (sym part) ∙ (sym c.is_name.ensures ∙ c.if-not-is_name.true) in
    sym (first_not rule c.loop-rest.rest.now (has_rule c.loop-rest.rules rule) e) ∙ c.loop-rest.invariant rule

pub returns-then-n-rest : goal.returns-then-n-rest
returns-then-n-rest c = λ rule.
    let rest = c.loop-rest.rest.now in
    let had = has_rule c.loop-rest.rules rule in
    let part = c.first_bytes-part.ensures ∙ ap (λ n. take n rest) c.class_prefix_len-n.ensures.value in
    let e = ap is_name (sym part) ∙ (sym c.is_name.ensures ∙ c.if-not-is_name.false) in
    let past : length rest ≤ class_prefix_len NotComma rest = omega (arith, c.class_prefix_len-n.ensures.value, c.if-n-rest.true) in
    (c.union-rules.ensures rule ∙ (ap (λ b. had || b) (c.item_rules.ensures rule) ∙ ap (λ x. had || names_rule rule x) part))
    ∙ (sym (last_one rule rest had past e) ∙ c.loop-rest.invariant rule)

pub loop-rest-preserved : goal.loop-rest-preserved
loop-rest-preserved c = λ rule.
    let rest = c.loop-rest.rest.now in
    let had = has_rule c.loop-rest.rules rule in
    let part = c.first_bytes-part.ensures ∙ ap (λ n. take n rest) c.class_prefix_len-n.ensures.value in
    let e = ap is_name (sym part) ∙ (sym c.is_name.ensures ∙ c.if-not-is_name.false) in
    let more : class_prefix_len NotComma rest < length rest = omega (arith, c.class_prefix_len-n.ensures.value, c.if-n-rest.false) in
    let met : has_rule c.union-rules.result rule ≡ (had || names_rule rule (take (class_prefix_len NotComma rest) rest)) =
    c.union-rules.ensures rule ∙ (ap (λ b. had || b) (c.item_rules.ensures rule) ∙ ap (λ x. had || names_rule rule x) part) in
    let left : c.after_separator-rest.result.now ≡ drop (class_prefix_len NotComma rest + 1) rest = c.after_separator-rest.ensures.value ∙ ap (λ n. drop (n + 1) rest) c.class_prefix_len-n.ensures.value in
    let step = one_more rule rest had more e in
    ap (λ x. list_all is_name (split_commas x) && (has_rule c.union-rules.result rule || list_any (names_rule rule) (split_commas x))) left
    ∙ (ap (λ b. list_all is_name (split_commas (drop (class_prefix_len NotComma rest + 1) rest)) && (b || list_any (names_rule rule) (split_commas (drop (class_prefix_len NotComma rest + 1) rest)))) met
    ∙ (sym step ∙ c.loop-rest.invariant rule))
