use Rattle.std.proofs.Common.{◌≡◌, true, Some, Ok, rules}
use Rattle.tf_glance.proofs.CleanMember.{clean, failing}
use Rattle.tf_glance.specs.Inner.Summary.{is_without_findings}
use Rattle.tf_glance.proofs.skipping.is_clean_member.Goals as goal

pub returns-in-Ok-Some-clause-clean : goal.returns-in-Ok-Some-clause-clean
returns-in-Ok-Some-clause-clean c = λ e.
    let is : c.member.result ≡ Ok (Some c.in-Ok-Some.content) = first_of (search rules, cc) in
    let summarized : is_without_findings c.in-Ok-Some.content ≡ true = first_of (search rules, cc) in
    clean c.args.scanned.now.pairs _ c.args.at.now c.new.result c.new.ensures c.member.result c.in-Ok-Some.content c.member.new.at is c.member.ensures summarized

pub returns-in-Err-clause-fault : goal.returns-in-Err-clause-fault
returns-in-Err-clause-fault c = λ other. failing c.args.scanned.now.pairs _ c.args.at.now c.new.result c.new.ensures c.member.result c.in-Err.fault c.member.new.at c.in-Err.is c.member.ensures other
