-- A member whose tokens are elsewhere too is read there, and what is found in it is the same.
use Rattle.std.proofs.Common.{◌≡◌, ℕ, ◌+◌, List, refl, subst, arith}
use Rattle.hcl_grammar_laws.specs.OneMember.{IsOneMember}
use Rattle.hcl_grammar.specs.Tokens.{Token}
use Rattle.hcl_scan.specs.Follows.{tokens_of}
use Rattle.tf_reuse.specs.SameTokens.{SameTokens}
use Rattle.tf_rules_laws.specs.MembersKeep.{UnchangedMembersKeepFindings}
use Rattle.tf_rules_laws.proofs.FoundBlocks.{top_moves}
use Rattle.tf_rules_laws.proofs.FoundMember.{keeps_found}
use Rattle.tf_reuse.proofs.MoveBodies.{move_member}
use Rattle.tf_reuse.proofs.Window.{Here, one_place}

module _ {old new : List Token} {from to count : ℕ} (w : SameTokens old new from to count) where
  -- the first place, and the place after the last
  leading : Here w from to
  leading = record { before = 0; within = omega arith; in_old = omega arith; in_new = omega arith }

  end : Here w (from + count) (to + count)
  end = record { before = count; within = omega arith; in_old = refl; in_new = refl }

pub members_keep : UnchangedMembersKeepFindings
members_keep rules old new depth from to count x w e some =
    let ts = tokens_of new in
    let (y, j, hj, d', m) = move_member w e (leading w) (omega arith) some in
    let place : j ≡ to + count = one_place w hj (end w) in
    (y, subst (λ (z : ℕ). IsOneMember ts depth y to z) place d', keeps_found rules old new w m, top_moves old new w rules m)
