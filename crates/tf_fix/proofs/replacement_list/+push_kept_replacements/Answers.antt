use Rattle.std.proofs.Common.{List, [], ◌∷◌, Result, Ok, Err}
use Rattle.std.specs.Prelude.{◌≡◌, ◌++◌, IfOk, OnOk}
use Rattle.hcl_token.specs.Tokens.{Pair}
use Rattle.tf_fix.specs.Inner.Views.{HasByte, HaveBytes}
use Rattle.tf_fix.specs.declared.splice.Replacement.{Replacement as Replacing}
use Rattle.tf_fix.proofs.SelectionLemmas.{bytes_push}
use Rattle.tf_fix.proofs.replacement_list.+push_kept_replacements.Goals as goal

if_before : {T E : Type 0} (r : Result T E) {P Q : Type 0} (R : Type 0) → (P → Q) → IfOk r (λ _. Q → R) → IfOk r (λ _. P → R)
if_before (Ok x) R f h = λ p. h (f p)
if_before (Err e) R f h = tt

-- one more, if it was added
one_more : {T E : Type 0} (pairs : List Pair) (r : Result T E) (old new : List Replacing)
    (one : Replacing) → OnOk r (new ≡ old ++ one ∷ []) → HasByte pairs one.first
    → IfOk r (λ _. HaveBytes pairs old → HaveBytes pairs new)
one_more pairs (Ok x) old new one is byte = λ are. rw is (bytes_push pairs old one are byte)
one_more pairs (Err e) old new one is byte = tt

pub returns-in-empty-clause-bytes : goal.returns-in-empty-clause-bytes
returns-in-empty-clause-bytes t c =
    one_more c.args.scanned.now.pairs c.push_packed.result _ _ _ c.push_packed.ensures c.requires.byte

pub returns-in_ok-push_packed-in-Some-clause-bytes : goal.returns-in_ok-push_packed-in-Some-clause-bytes
returns-in_ok-push_packed-in-Some-clause-bytes t c =
    let pairs = c.args.scanned.now.pairs in
    if_before c.push_kept_replacements-in-Some.result _ (λ are. rw c.in_ok-push_packed-in-Some.ensures (bytes_push pairs _ _ are c.requires.byte)) c.push_kept_replacements-in-Some.ensures.bytes
