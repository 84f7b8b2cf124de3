-- Findings with other numbers: those of the one list that are valid in the one text are those of the other that are valid in the other, moved.
use Rattle.std.proofs.Common.{◌≡◌, ℕ, nat_lt, nat_le, Bool, true, false, ◌&&◌, List, [], ◌∷◌, ◌++◌, map, length, Option, Some, None, refl, sym, ap, ap₂, ◌∙◌, arith, if◌then◌else◌}
use Rattle.std.proofs.lemmas.List.{length-map, map-append}
use Rattle.std.proofs.lemmas.List.Elements.{filter-append}
use Rattle.std.specs.Option.{option_map}
use Rattle.hcl_scan.specs.Follows.{tokens_of}
use Rattle.hcl_token.specs.Tokens.{Pair}
use Rattle.tf_reuse.proofs.RenumberedTrivia.{moved_is, lt_moved, le_moved, is_le, token_of}
use Rattle.tf_reuse.proofs.Window.{Here}
use Rattle.tf_reuse.specs.SameTokens.{SameTokens}
use Rattle.tf_reuse.specs.Renumbering.{renumber, renumber_kept, renumber_fix, renumber_message, renumber_finding}
use Rattle.tf_rules.specs.declared.finding.Finding.{Finding}
use Rattle.tf_rules.specs.declared.finding.Message.{Message}
use Rattle.tf_rules.specs.declared.fix.Fix.{Fix}
use Rattle.tf_rules.specs.declared.fix.Fix.TheVariants.{Tokens}
use Rattle.tf_rules.specs.declared.fix.Insertion.{Insertion}
use Rattle.tf_rules.specs.declared.fix.Insertion.TheVariants.{Nothing}
use Rattle.tf_rules.specs.declared.fix.KeptTokens.{KeptTokens}
use Rattle.tf_rules.specs.declared.rule.Rule.{Rule}
use Rattle.tf_rules.specs.Findings.{finding_at, is_fix_valid, is_valid, valid_findings}
use Rattle.tf_rules.specs.Fixes.{kept, when, changes_something, changes_end, are_in_order}

pub record Moves (old new : List Pair) (from to : ℕ) (fs fs' : List Finding) : Type 0 where
  pub is : valid_findings (length new) fs' ≡ map (renumber_finding from to) (valid_findings (length old) fs)

-- ---- lists

module _ {old new : List Pair} {from to : ℕ} where
  pub none : Moves old new from to [] []
  none = record { is = refl }

  pub either : {b b' : Bool} {xs xs' ys ys' : List Finding} → b' ≡ b → Moves old new from to xs xs' → Moves old new from to ys ys'
      → Moves old new from to (if b then xs else ys) (if b' then xs' else ys')
  either {b = true} {b' = true} e p q = p
  either {b = false} {b' = false} e p q = q
  either {b = true} {b' = false} e p q = absurd (cc)
  either {b = false} {b' = true} e p q = absurd (cc)

  pub append : {xs xs' ys ys' : List Finding} → Moves old new from to xs xs' → Moves old new from to ys ys' → Moves old new from to (xs ++ ys) (xs' ++ ys')
  append {xs} {xs'} {ys} {ys'} p q = record {
    is = filter-append (is_valid (length new)) xs' ys' ∙ (ap₂ (λ (a : List Finding) (b : List Finding). a ++ b) p.is q.is
        ∙ (sym (map-append (renumber_finding from to) (valid_findings (length old) xs) (valid_findings (length old) ys))
        ∙ ap (map (renumber_finding from to)) (sym (filter-append (is_valid (length old)) xs ys))));
  }

-- ---- one finding

pub both : {x y x' y' : Bool} → x ≡ x' → y ≡ y' → (x && y) ≡ (x' && y')
both e f = ap₂ (λ (a : Bool) (b : Bool). a && b) e f

-- a finding that is in both lists, or in neither
if_renumbered : (M : Finding → Finding) (b b' : Bool) (f f' : Finding) → b' ≡ b → f' ≡ M f → (if b' then f' ∷ [] else []) ≡ map M (if b then f ∷ [] else [])
if_renumbered M true true f f' e h = rw h refl
if_renumbered M false false f f' e h = refl
if_renumbered M true false f f' e h = absurd (cc)
if_renumbered M false true f f' e h = absurd (cc)

neither : (M : Finding → Finding) (b b' : Bool) (f f' : Finding) → b ≡ false → b' ≡ false → (if b' then f' ∷ [] else []) ≡ map M (if b then f ∷ [] else [])
neither M false false f f' e e' = refl
neither M true b' f f' e e' = absurd (cc)
neither M false true f f' e e' = absurd (cc)

not_last : (a b c : Bool) → c ≡ false → (a && (b && c)) ≡ false
not_last true true c e = e
not_last true false c e = refl
not_last false b c e = refl

module _ (old new : List Pair) {from to count : ℕ} (w : SameTokens (tokens_of old) (tokens_of new) from to count) where
  -- the same is kept
  pub data SameKept : List (Option KeptTokens) → List (Option KeptTokens) → Type 0 where
    no_kept : SameKept [] []
    skip : {ks ks' : List (Option KeptTokens)} → SameKept ks ks' → SameKept (None ∷ ks) (None ∷ ks')
    keeps : {a a' b b' : ℕ} {ks ks' : List (Option KeptTokens)} (x : Insertion) → Here w a a' → Here w b b' → SameKept ks ks'
        → SameKept (Some (kept a b x) ∷ ks) (Some (kept a' b' x) ∷ ks')

  pub data SameFix : Option Fix → Option Fix → Type 0 where
    no_fix : SameFix None None
    tokens : {ks ks' : List (Option KeptTokens)} (x : Insertion) → SameKept ks ks' → SameFix (Some (Tokens x ks)) (Some (Tokens x ks'))

  pub fix_when : {b b' : Bool} {f f' : Fix} → b' ≡ b → SameFix (Some f) (Some f') → SameFix (when b f) (when b' f')
  fix_when {b = true} {b' = true} e s = s
  fix_when {b = false} {b' = false} e s = no_fix
  fix_when {b = true} {b' = false} e s = absurd (cc)
  fix_when {b = false} {b' = true} e s = absurd (cc)

  kept_moved : {ks ks' : List (Option KeptTokens)} → SameKept ks ks' → ks' ≡ map (option_map (renumber_kept from to)) ks
  kept_moved no_kept = refl
  kept_moved (skip r) = ap (λ (l : List (Option KeptTokens)). None ∷ l) (kept_moved r)
  kept_moved (keeps x h g r) =
      let p = moved_is old new w h in
      let q = moved_is old new w g in
      rw (p, q, kept_moved r) refl

  fix_moved : {o o' : Option Fix} → SameFix o o' → o' ≡ option_map (renumber_fix from to) o
  fix_moved no_fix = refl
  fix_moved (tokens x r) = ap (λ (ks : List (Option KeptTokens)). Some (Tokens x ks)) (kept_moved r)

  something_moved : {a a' b b' : ℕ} (x : Insertion) → Here w a a' → Here w b b' → changes_something x a' b' ≡ changes_something x a b
  something_moved Nothing h g = lt_moved old new w h g
  something_moved x h g = le_moved old new w h g

  end_moved : {i i' a a' j j' : ℕ} (x : Insertion) → Here w i i' → Here w a a' → Here w j j' → changes_end i' x a' j' ≡ changes_end i x a j
  end_moved Nothing f h g = both (lt_moved old new w f h) (lt_moved old new w h g)
  end_moved x f h g = le_moved old new w h g

  order_moved : {i i' j j' a a' : ℕ} {ks ks' : List (Option KeptTokens)} (x : Insertion) → Here w i i' → Here w j j' → Here w a a' → SameKept ks ks'
      → are_in_order i' j' a' x ks' ≡ are_in_order i j a x ks
  order_moved x f p h no_kept = end_moved x f h p
  order_moved x f p h (skip r) = order_moved x f p h r
  order_moved x f p h (keeps y g k r) = both (something_moved x h g) (both (lt_moved old new w g k) (order_moved y f p k r))

  fitting_moved : {i i' j j' : ℕ} {o o' : Option Fix} → Here w i i' → Here w j j' → SameFix o o' → is_fix_valid i' j' o' ≡ is_fix_valid i j o
  fitting_moved f p no_fix = refl
  fitting_moved f p (tokens x r) = order_moved x f p f r

  -- a finding whose tokens are these is valid in both texts, or in neither
  place_moved : {i i' j j' : ℕ} {b b' : Bool} → Here w i i' → Here w j j' → b' ≡ b
      → (nat_lt i' j' && (nat_le j' (length new) && b')) ≡ (nat_lt i j && (nat_le j (length old) && b))
  place_moved {j} {j'} h g e =
      let a : nat_le j (length old) ≡ true = is_le _ _ (omega (arith, g.in_old, g.within, w.in_old, length-map old token_of)) in
      let a' : nat_le j' (length new) ≡ true = is_le _ _ (omega (arith, g.in_new, g.within, w.in_new, length-map new token_of)) in
      both (lt_moved old new w h g) (both (a' ∙ sym a) e)

  pub finding_moves : (rule : Rule) {i i' j j' : ℕ} {m m' : Message} {o o' : Option Fix} → Here w i i' → Here w j j' → m' ≡ renumber_message from to m → SameFix o o'
      → Moves old new from to (finding_at rule i j m o) (finding_at rule i' j' m' o')
  finding_moves rule {i} {i'} {j} {j'} {m} {m'} {o} {o'} h g e s =
      let p : i' ≡ renumber from to i = moved_is old new w h in
      let q : j' ≡ renumber from to j = moved_is old new w g in
      let r : o' ≡ option_map (renumber_fix from to) o = fix_moved s in
      record { is = if_renumbered (renumber_finding from to) _ _ _ _ (place_moved h g (fitting_moved h g s)) (rw (p, q, e, r) refl) }

-- and one that fits in neither
pub neither_fits : {old new : List Pair} {from to : ℕ} (rule : Rule) {i i' j j' : ℕ} {m m' : Message} {o o' : Option Fix} → is_fix_valid i j o ≡ false
    → is_fix_valid i' j' o' ≡ false → Moves old new from to (finding_at rule i j m o) (finding_at rule i' j' m' o')
neither_fits {old} {new} {from} {to} rule {i} {i'} {j} {j'} e e' = record {
  is = neither (renumber_finding from to) _ _ _ _ (not_last (nat_lt i j) (nat_le j (length old)) _ e) (not_last (nat_lt i' j') (nat_le j' (length new)) _ e');
}
