-- One member: what the parser answers is derived, and what is derived is answered.
use Rattle.std.proofs.Common.{◌≡◌, ℕ, List, Some, Ok, arith}
use Rattle.hcl_grammar.specs.declared.tree.Member.{Member}
use Rattle.hcl_grammar.specs.Pure.BodyParser.{deeper_members, member_of}
use Rattle.hcl_grammar.specs.Pure.NodeMakers.{nodes}
use Rattle.hcl_grammar.specs.Tokens.{Token}
use Rattle.hcl_grammar_laws.proofs.BodyComplete.{c_one}
use Rattle.hcl_grammar_laws.proofs.BodySound.{s_member}
use Rattle.hcl_grammar_laws.proofs.Gives.{given}
use Rattle.hcl_grammar_laws.proofs.Whole.{found_at}
use Rattle.hcl_grammar_laws.specs.OneMember.{IsOneMember}

module _ (ts : List Token) where
  pub member_derives : (b i : ℕ) (m : Member) (j : ℕ) → member_of nodes ts b (deeper_members nodes ts b) i ≡ Ok (Some m, j) → IsOneMember ts b m i j
  member_derives b i m j e = given (s_member ts b i) e

  pub member_answers : {d : ℕ} {x : Member} {i j : ℕ} → IsOneMember ts d x i j → member_of nodes ts d (deeper_members nodes ts d) i ≡ Ok (Some x, j)
  member_answers {d} h = found_at (omega arith) (c_one ts h d)
