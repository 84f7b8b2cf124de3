-- What a comment silences by its words is what it silences by counts of its bytes.
use Rattle.std.proofs.Common.{◌≡◌, ℕ, suc, ◌+◌, inl, inr, Bool, true, false, not, cond, ◌==◌, ◌&&◌, ◌||◌, nat_lt, List, [], ◌∷◌, length, take, drop, map, codes, Option, Some, None, if◌then◌else◌, refl, sym, ap, ◌∙◌, arith}
use Rattle.std.specs.List.{prefix_len, list_all, list_any, onto_first}
use Rattle.std.proofs.lemmas.Bool.{false≢true, false_from_ne_true, and_parts, or_cases, eqb-true, eqb-false, eq-eqb, ne_eqb, lt-ltb}
use Rattle.tf_rules.specs.declared.rule.Rule.{Rule}
use Rattle.tf_findings.specs.declared.silencing.class.ByteClass.TheVariants.{Whitespace, NameByte, NotHash}
use Rattle.hcl_scan.specs.Characters.{is_whitespace}
use Rattle.tf_findings.specs.Comments.{is_name_byte, trimmed_start, trimmed_end, trimmed, ends_in_whitespace, strip_prefix, before_hash, has_hash, split_at_commas, is_name, means_rule, list_silences, rest_silences, text_silences}
use Rattle.tf_findings.specs.Inner.ByteCounts as counted

-- ---- counts

suc_same : (n m : ℕ) → (1 + n == suc m) ≡ (n == m)
suc_same n m = elim (n == m) as (λ v. (n == m) ≡ v → (1 + n == suc m) ≡ v) [
  | true ↦ λ e. eq-eqb (1 + n) (suc m) (let same = eqb-true n m e in omega (arith, same))
  | false ↦ λ e. ne_eqb (1 + n) (suc m) (λ same. eqb-false n m e (omega (arith, same)))
] refl

all_pass_at : (here : Bool) (n m : ℕ) (rest : Bool) → (n == m) ≡ rest → (cond here (1 + n) 0 == suc m) ≡ (here && rest)
all_pass_at true n m rest same = suc_same n m ∙ same
all_pass_at false n m rest same = ne_eqb 0 (suc m) (λ e. omega (arith, e))

-- all of a text is counted just if each byte passes
all_pass : (p : ℕ → Bool) (t : List ℕ) → (prefix_len p t == length t) ≡ list_all p t
all_pass p [] = refl
all_pass p (b ∷ bs) = all_pass_at (p b) (prefix_len p bs) (length bs) (list_all p bs) (all_pass p bs)

all_white : (t : List ℕ) → counted.is_all_whitespace t ≡ list_all is_whitespace t
all_white t = all_pass is_whitespace t

-- ---- whitespace at the start

start_at : (white : Bool) (b : ℕ) (bs : List ℕ) → counted.skip_whitespace bs ≡ trimmed_start bs
    → drop (cond white (1 + counted.class_prefix_len Whitespace bs) 0) (b ∷ bs) ≡ (if white then trimmed_start bs else b ∷ bs)
start_at true b bs same =
    let on : 1 + counted.class_prefix_len Whitespace bs ≡ suc (counted.class_prefix_len Whitespace bs) = omega arith in
    ap (λ (n : ℕ). drop n (b ∷ bs)) on ∙ same
start_at false b bs same = refl

start_same : (t : List ℕ) → counted.skip_whitespace t ≡ trimmed_start t
start_same [] = refl
start_same (b ∷ bs) = start_at (is_whitespace b) b bs (start_same bs)

-- ---- whitespace at the end

-- a byte of a name is no whitespace
no_white : (b : ℕ) → is_name_byte b ≡ true → is_whitespace b ≡ false
no_white b name = false_from_ne_true (is_whitespace b) (λ white. elim (or_cases (b == 32) (b == 9) white) [
  | inl space ↦ false≢true (sym (ap is_name_byte (eqb-true b 32 space)) ∙ name)
  | inr tab ↦ false≢true (sym (ap is_name_byte (eqb-true b 9 tab)) ∙ name)
])

end_more : (b : ℕ) (bs : List ℕ) → is_name_byte b ≡ true → trimmed_end (b ∷ bs) ≡ b ∷ trimmed_end bs
end_more b bs name = ap (λ (v : Bool). if v && list_all is_whitespace bs then [] else b ∷ trimmed_end bs) (no_white b name)

-- where the first byte is of no name, what is left has bytes of names alone just if it is nothing
none_named : (white : Bool) (b : ℕ) (rest : List ℕ) → is_name_byte b ≡ false → list_all is_name_byte (if white then [] else b ∷ rest) ≡ white
none_named true b rest other = refl
none_named false b rest other = ap (λ (v : Bool). v && list_all is_name_byte rest) other

not_name : (white : Bool) (b : ℕ) (rest : List ℕ) → is_name_byte b ≡ false → is_name (if white then [] else b ∷ rest) ≡ false
not_name true b rest other = refl
not_name false b rest other = ap (λ (v : Bool). v && list_all is_name_byte rest) other

-- ---- a part of a list, after the whitespace at its start

abbrev name_len : List ℕ → ℕ
name_len t = counted.class_prefix_len NameByte t

name_ends_at : (here : Bool) (b : ℕ) (bs : List ℕ) → is_name_byte b ≡ here → counted.is_all_whitespace (drop (name_len bs) bs) ≡ list_all is_name_byte (trimmed_end bs)
    → counted.is_all_whitespace (drop (cond here (1 + name_len bs) 0) (b ∷ bs)) ≡ list_all is_name_byte (trimmed_end (b ∷ bs))
name_ends_at true b bs name rest =
    let on : 1 + name_len bs ≡ suc (name_len bs) = omega arith in
    let whole : list_all is_name_byte (trimmed_end (b ∷ bs)) ≡ list_all is_name_byte (trimmed_end bs) =
    ap (list_all is_name_byte) (end_more b bs name) ∙ ap (λ (v : Bool). v && list_all is_name_byte (trimmed_end bs)) name in
    ap (λ (n : ℕ). counted.is_all_whitespace (drop n (b ∷ bs))) on ∙ (rest ∙ sym whole)
name_ends_at false b bs other rest = all_white (b ∷ bs) ∙ sym (none_named (list_all is_whitespace (b ∷ bs)) b (trimmed_end bs) other)

-- whitespace alone follows the name just if what is left without it has bytes of names alone
name_ends : (s : List ℕ) → counted.is_all_whitespace (drop (name_len s) s) ≡ list_all is_name_byte (trimmed_end s)
name_ends [] = refl
name_ends (b ∷ bs) = name_ends_at (is_name_byte b) b bs refl (name_ends bs)

part_named_at : (here : Bool) (b : ℕ) (bs : List ℕ) → is_name_byte b ≡ here
    → (nat_lt 0 (cond here (1 + name_len bs) 0) && counted.is_all_whitespace (drop (cond here (1 + name_len bs) 0) (b ∷ bs))) ≡ is_name (trimmed_end (b ∷ bs))
part_named_at true b bs name =
    let some : nat_lt 0 (1 + name_len bs) ≡ true = lt-ltb 0 (1 + name_len bs) (omega arith) in
    ap (λ (v : Bool). v && counted.is_all_whitespace (drop (1 + name_len bs) (b ∷ bs))) some
    ∙ (name_ends_at true b bs name (name_ends bs) ∙ (ap (list_all is_name_byte) (end_more b bs name) ∙ sym (ap is_name (end_more b bs name))))
part_named_at false b bs other = sym (not_name (list_all is_whitespace (b ∷ bs)) b (trimmed_end bs) other)

part_named : (s : List ℕ) → (nat_lt 0 (name_len s) && counted.is_all_whitespace (drop (name_len s) s)) ≡ is_name (trimmed_end s)
part_named [] = refl
part_named (b ∷ bs) = part_named_at (is_name_byte b) b bs refl

part_text_at : (here : Bool) (b : ℕ) (bs : List ℕ) → is_name_byte b ≡ here → (counted.is_all_whitespace (drop (name_len bs) bs) ≡ true → take (name_len bs) bs ≡ trimmed_end bs)
    → counted.is_all_whitespace (drop (cond here (1 + name_len bs) 0) (b ∷ bs)) ≡ true → take (cond here (1 + name_len bs) 0) (b ∷ bs) ≡ trimmed_end (b ∷ bs)
part_text_at true b bs name rest white =
    let on : 1 + name_len bs ≡ suc (name_len bs) = omega arith in
    let left : counted.is_all_whitespace (drop (name_len bs) bs) ≡ true =
    sym (ap (λ (n : ℕ). counted.is_all_whitespace (drop n (b ∷ bs))) on) ∙ white in
    ap (λ (n : ℕ). take n (b ∷ bs)) on ∙ (ap (λ (t : List ℕ). b ∷ t) (rest left) ∙ sym (end_more b bs name))
part_text_at false b bs other rest white =
    sym (ap (λ (v : Bool). if v then [] else b ∷ trimmed_end bs) (sym (all_white (b ∷ bs)) ∙ white))

part_text : (s : List ℕ) → counted.is_all_whitespace (drop (name_len s) s) ≡ true → take (name_len s) s ≡ trimmed_end s
part_text [] white = refl
part_text (b ∷ bs) white = part_text_at (is_name_byte b) b bs refl (part_text bs) white

-- ---- a part of a list

name_same : (part : List ℕ) → counted.is_name part ≡ is_name (trimmed part)
name_same part = part_named (counted.skip_whitespace part) ∙ ap (λ (s : List ℕ). is_name (trimmed_end s)) (start_same part)

leading_same : (part : List ℕ) → counted.is_name part ≡ true → counted.leading_name part ≡ trimmed part
leading_same part named =
    let s = counted.skip_whitespace part in
    let white = (and_parts (nat_lt 0 (name_len s)) (counted.is_all_whitespace (drop (name_len s) s)) named).1 in
    part_text s white ∙ ap trimmed_end (start_same part)

names_same : (rule : Rule) (part : List ℕ) → counted.is_name part ≡ true → counted.names_rule rule part ≡ means_rule rule (trimmed part)
names_same rule part named = ap (means_rule rule) (leading_same part named)

-- ---- the parts of a list

all_names : (parts : List (List ℕ)) → list_all counted.is_name parts ≡ list_all is_name (map trimmed parts)
all_names [] = refl
all_names (p ∷ ps) = ap (λ (v : Bool). v && list_all counted.is_name ps) (name_same p) ∙ ap (λ (v : Bool). is_name (trimmed p) && v) (all_names ps)

any_means : (rule : Rule) (parts : List (List ℕ)) → list_all counted.is_name parts ≡ true → list_any (counted.names_rule rule) parts ≡ list_any (means_rule rule) (map trimmed parts)
any_means rule [] named = refl
any_means rule (p ∷ ps) named =
    let both = and_parts (counted.is_name p) (list_all counted.is_name ps) named in
    ap (λ (v : Bool). v || list_any (counted.names_rule rule) ps) (names_same rule p both.0)
    ∙ ap (λ (v : Bool). means_rule rule (trimmed p) || v) (any_means rule ps both.1)

and_then : (a b d : Bool) → (a ≡ true → b ≡ d) → (a && b) ≡ (a && d)
and_then true b d same = same refl
and_then false b d same = refl

parts_same : (rule : Rule) (parts : List (List ℕ))
    → (list_all counted.is_name parts && list_any (counted.names_rule rule) parts) ≡ (list_all is_name (map trimmed parts) && list_any (means_rule rule) (map trimmed parts))
parts_same rule parts =
    and_then (list_all counted.is_name parts) (list_any (counted.names_rule rule) parts) (list_any (means_rule rule) (map trimmed parts)) (any_means rule parts)
    ∙ ap (λ (v : Bool). v && list_any (means_rule rule) (map trimmed parts)) (all_names parts)

-- ---- commas

not_none_at : (comma : Bool) (b : ℕ) (xs : List (List ℕ)) → (if comma then [] ∷ xs else onto_first b xs) ≡ [] → ⊥
not_none_at true b xs none = omega (arith, ap length none)
not_none_at false b [] none = omega (arith, ap length none)
not_none_at false b (x ∷ xs) none = omega (arith, ap length none)

not_none : (t : List ℕ) → split_at_commas t ≡ [] → ⊥
not_none [] none = omega (arith, ap length none)
not_none (b ∷ bs) none = not_none_at (b == 44) b (split_at_commas bs) none

split_at : (comma : Bool) (b : ℕ) (xs ys : List (List ℕ)) → xs ≡ ys → (ys ≡ [] → ⊥) → (if comma then [] ∷ xs else counted.cons_to_first b xs) ≡ (if comma then [] ∷ ys else onto_first b ys)
split_at true b xs ys same some = ap (λ (l : List (List ℕ)). [] ∷ l) same
split_at false b xs [] same some = absurd (some refl)
split_at false b xs (y ∷ ys) same some = ap (counted.cons_to_first b) same

split_same : (t : List ℕ) → counted.split_commas t ≡ split_at_commas t
split_same [] = refl
split_same (b ∷ bs) = split_at (b == 44) b (counted.split_commas bs) (split_at_commas bs) (split_same bs) (not_none bs)

-- ---- the `#`

not_either : (a b : Bool) → (not a && not b) ≡ not (a || b)
not_either true b = refl
not_either false b = refl

none_is : (t : List ℕ) → list_all (λ (b : ℕ). not (b == 35)) t ≡ not (has_hash t)
none_is [] = refl
none_is (b ∷ bs) = ap (λ (v : Bool). not (b == 35) && v) (none_is bs) ∙ not_either (b == 35) (has_hash bs)

whole_same : (t : List ℕ) → (counted.class_prefix_len NotHash t == length t) ≡ not (has_hash t)
whole_same t = all_pass (λ (b : ℕ). not (b == 35)) t ∙ none_is t

list_same : (rule : Rule) (t : List ℕ) → counted.list_names rule t ≡ list_silences rule t
list_same rule t =
    let part = before_hash t in
    let spaced = ends_in_whitespace part in
    let old = list_all counted.is_name (counted.split_commas part) && list_any (counted.names_rule rule) (counted.split_commas part) in
    let same : old ≡ (list_all is_name (map trimmed (split_at_commas part)) && list_any (means_rule rule) (map trimmed (split_at_commas part))) =
    ap (λ (ps : List (List ℕ)). list_all counted.is_name ps && list_any (counted.names_rule rule) ps) (split_same part) ∙ parts_same rule (split_at_commas part) in
    ap (λ (v : Bool). (v || spaced) && old) (whole_same t) ∙ ap (λ (v : Bool). (not (has_hash t) || spaced) && v) same

-- ---- the word

stripped_at : (here more : Bool) (rest : List ℕ) (o : Option (List ℕ)) → o ≡ (if more then Some rest else None) → (if here then o else None) ≡ (if here && more then Some rest else None)
stripped_at true more rest o same = same
stripped_at false more rest o same = refl

stripped : (word t : List ℕ) → strip_prefix word t ≡ (if counted.begins_with word t then Some (drop (length word) t) else None)
stripped [] t = refl
stripped (w ∷ word) [] = refl
stripped (w ∷ word) (b ∷ bs) = stripped_at (b == w) (counted.begins_with word bs) (drop (length word) bs) (strip_prefix word bs) (stripped word bs)

after_if : (rule : Rule) (here : Bool) (rest : List ℕ) → rest_silences rule (if here then Some rest else None) ≡ (here && list_silences rule rest)
after_if rule true rest = refl
after_if rule false rest = refl

by_word : (rule : Rule) (word s : List ℕ) → (counted.begins_with word s && counted.list_names rule (drop (length word) s)) ≡ rest_silences rule (strip_prefix word s)
by_word rule word s =
    let here = counted.begins_with word s in
    let rest = drop (length word) s in
    ap (λ (v : Bool). here && v) (list_same rule rest) ∙ (sym (after_if rule here rest) ∙ sym (ap (rest_silences rule) (stripped word s)))

pub silences_by_words : (rule : Rule) (t : List ℕ) → counted.body_silences rule t ≡ text_silences rule t
silences_by_words rule t =
    by_word rule (codes "tflint-ignore:") (counted.skip_whitespace t)
    ∙ ap (λ (s : List ℕ). rest_silences rule (strip_prefix (codes "tflint-ignore:") s)) (start_same t)
