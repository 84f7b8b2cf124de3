-- What the parser of bodies, and of whole texts, answers is derived.
use Rattle.std.proofs.Common.{◌≡◌, ◌≢◌, ℕ, zero, suc, false, if◌then◌else◌, List, [], ◌∷◌, ◌++◌, length, Option, Some, None, Ok, refl, ap}
use Rattle.hcl_token.specs.declared.kind.Kind.{Kind}
use Rattle.hcl_token.specs.declared.kind.Kind.TheVariants as k
use Rattle.hcl_grammar.specs.declared.tree.Content.{Content}
use Rattle.hcl_grammar.specs.declared.tree.Content.TheVariants as content
use Rattle.hcl_grammar.specs.declared.tree.Expr.{Expr}
use Rattle.hcl_grammar.specs.declared.tree.Label.{Label}
use Rattle.hcl_grammar.specs.declared.tree.Attribute.{Attribute}
use Rattle.hcl_grammar.specs.declared.tree.Member.{Member}
use Rattle.hcl_grammar.specs.declared.tree.Member.TheVariants as member
use Rattle.hcl_grammar.specs.declared.tree.Tree.{Tree}
use Rattle.hcl_grammar.specs.Bodies.{IsLabels, no_labels, word_label, text_label, empty_label, IsOneLineBody, nothing, one, IsMembers, no_members, blank, IsOptionalMark, no_mark, mark, at_end, at_comment, IsFile, file}
use Rattle.hcl_grammar.specs.Bodies as body
use Rattle.hcl_grammar.specs.Pure.BodyParser as bodies
use Rattle.hcl_grammar.specs.Pure.BodyParser.{deeper_members}
use Rattle.hcl_grammar.specs.Lookahead.{NextIs, IsNewline, IsEol, eol_line, eol_end, eol_comment}
use Rattle.hcl_grammar.specs.Nodes as node
use Rattle.hcl_grammar.specs.Pure.NodeMakers.{nodes}
use Rattle.hcl_grammar.specs.Pure.Reading.{Outcome, and_then, ◌>>=◌, pure, expect, after_if_next}
use Rattle.hcl_grammar.specs.Pure.Steps as steps
use Rattle.hcl_grammar.specs.Tokens.{Token, next_index, next_kind, after_next, first_token_in}
use Rattle.hcl_grammar_laws.proofs.Gives.{Gives, read, fault, implies, next, then_taken, Finds, found, unfound, then_found, Extends, extended, whole_list, no_more, one_more, eat_then, eat_or, expect_then}
use Rattle.hcl_grammar_laws.proofs.Opens.{open_attribute, open_block}
use Rattle.hcl_grammar_laws.proofs.Sound.{sound, s_line, s_inner_line}
use Rattle.hcl_grammar_laws.specs.Members.{member_past, open_member_past}
use Rattle.hcl_grammar_laws.specs.OneMember.{IsOneMember, attribute, block, line_block}

attribute_past : (first past : ℕ) (e : Expr) → member_past (member.Attribute (node.attribute first past e)) ≡ past
unfolding node.attribute
attribute_past first past e = ap open_member_past (open_attribute (node.attribute first past e))

block_past : (first past : ℕ) (ls : List Label) (x : Content) → member_past (node.block first past ls x) ≡ past
unfolding node.block
block_past first past ls x = ap open_member_past (open_block _)

pub ends_at : {ts : List Token} {d : ℕ} {x : Member} {i n : ℕ} → IsOneMember ts d x i n → member_past x ≡ n
ends_at (attribute p q e l) = attribute_past _ _ _
ends_at (block p ls b s ms c l) = block_past _ _ _ _
ends_at (line_block p ls b a c l) = block_past _ _ _ _

-- one member before others
pub member_first : {ts : List Token} {d : ℕ} {x : Member} {ms : List Member} {i n l : ℕ} → IsOneMember ts d x i n → IsMembers ts d ms n l → IsMembers ts d (x ∷ ms) i l
member_first (attribute p q e l) r = body.attribute p q e l r
member_first (block p ls b s ms c l) r = body.block p ls b s ms c l r
member_first (line_block p ls b a c l) r = body.line_block p ls b a c l r

module _ (ts : List Token) where
  -- the end of the tokens
  s_end : {P : Unit {0} → ℕ → Type 0} (n : ℕ) → (next_kind ts false n ≡ None → P tt n) → Gives P (steps.expect_end ts (next_kind ts false n) n)
  s_end {P} n h = by (next_kind ts false n) refl
    where
      by : (o : Option Kind) → next_kind ts false n ≡ o → Gives P (steps.expect_end ts o n)
      by None e = read (h e)
      by (Some t) e = fault

  s_eol : (i : ℕ) → Gives (λ _ j. IsEol ts i j) (steps.eol ts i)
  unfolding steps.eol
  s_eol i =
      then_taken _ (s_line ts i) (λ j l. read (eol_line l))
      (eat_then ts false k.LineComment i (λ _ n. steps.expect_end ts (next_kind ts false n) n) (λ q. s_end _ (λ e. eol_comment q e)) (λ _. s_end i (λ e. eol_end e)))

  -- ---- labels

  -- the label from i to j comes before those that follow it
  abbrev LabelFrom : ℕ → Label → ℕ → Type 0
  LabelFrom i x j = (ls : List Label) (l : ℕ) → IsLabels ts ls j l → IsLabels ts (x ∷ ls) i l

  s_quoted_label : (i : ℕ) → NextIs ts false k.QuoteOpen i → Gives (LabelFrom i) (bodies.quoted_label nodes ts (next_index ts false i) (after_next ts false i))
  unfolding bodies.quoted_label
  s_quoted_label i h =
      eat_then ts false k.QuoteLit (after_next ts false i)
      (λ b. expect ts false k.QuoteClose >>= (λ _ end. Ok (node.label (next_index ts false i) end (if b then Some (next_index ts false (after_next ts false i)) else None), end)))
      (λ q. expect_then ts false k.QuoteClose _ _ (λ c. read (λ ls l r. text_label h q c r))) (λ _. expect_then ts false k.QuoteClose _ _ (λ c. read (λ ls l r. empty_label h c r)))

  s_label : (i : ℕ) (o : Option Kind) → next_kind ts false i ≡ o → Gives (Finds (LabelFrom i) i) (bodies.label_by nodes ts (next_index ts false i) o i)
  s_label i None h = read unfound
  s_label i (Some k.Identifier) h = read (found (λ ls l r. word_label h r))
  s_label i (Some k.QuoteOpen) h = next _ (s_quoted_label i h) (λ _ _ x. read (found x))
  s_label i (Some _) h = read unfound

  s_labels : (turns : ℕ) (acc : List Label) (i : ℕ) → Gives (Extends (λ ls j. IsLabels ts ls i j) acc) (bodies.labels_from nodes ts turns acc i)
  unfolding bodies.labels_from bodies.label_of
  s_labels zero acc i = read (no_more acc no_labels)
  s_labels (suc turns) acc i = then_found _ (s_label i (next_kind ts false i) refl) (λ x j h. one_more acc x (λ ls l r. h ls l r) (s_labels turns (acc ++ x ∷ []) j)) (read (no_more acc no_labels))

  -- ---- members

  record SoundBody (a : ℕ) : Type 0 where
    members : (i : ℕ) → Gives (λ ms j. IsMembers ts a ms i j) (bodies.members nodes ts a i)

  abbrev Below : ℕ → Type 0
  Below zero = Unit {0}
  Below (suc a) = SoundBody a

  -- what is in the braces of a block
  data Inside (a : ℕ) : Content → ℕ → ℕ → Type 0 where
    inside_lines : {bs : List Member} {i n o : ℕ} → IsNewline ts i n → IsMembers ts a bs n o → Inside a (content.Body (node.body (first_token_in ts false n o) o bs)) i o
    inside_line : {x : Option Attribute} {i o : ℕ} → IsOneLineBody ts a x i o → Inside a (content.OneLine x) i o

  s_on_line : (a i : ℕ) → Gives (λ x j. Inside a x i j) (bodies.one_line_body nodes ts a i)
  unfolding bodies.one_line_body
  s_on_line a i =
      eat_or ts false k.Identifier i _ _ (λ q. expect_then ts false k.Equal _ _ (λ c. next _ ((sound ts a).whole false _) (λ e j x. read (inside_line (one q c x))))) (λ _. read (inside_line nothing))

  s_content : (a : ℕ) → SoundBody a → (i : ℕ) → Gives (λ x j. Inside a x i j) (bodies.block_content nodes ts (suc a) (bodies.members nodes ts a) i)
  unfolding bodies.block_content bodies.nested_body
  s_content a z i = then_taken _ (s_inner_line ts i) (λ j l. next _ (z.members j) (λ ms o w. read (inside_lines l w))) (s_on_line a i)

  abbrev GivesMember : ℕ → ℕ → Outcome Member → Type 0
  GivesMember b i = Gives (λ m j. IsOneMember ts b m i j)

  s_attribute : (b i : ℕ) → NextIs ts false k.Identifier i → NextIs ts false k.Equal (after_next ts false i)
      → GivesMember b i (bodies.attribute_by nodes ts b (deeper_members nodes ts b) (next_index ts false i) (after_next ts false (after_next ts false i)))
  unfolding bodies.attribute_by
  s_attribute b i h q = next _ ((sound ts b).whole false _) (λ e j x. next _ (s_eol j) (λ _ l w. read (attribute h q x w)))

  s_block : (b : ℕ) → Below b → (i : ℕ) → NextIs ts false k.Identifier i → GivesMember b i (bodies.block_by nodes ts b (deeper_members nodes ts b) (next_index ts false i) (after_next ts false i))
  unfolding bodies.block_by
  s_block zero z i h = next _ (whole_list (s_labels (length ts) [] _)) (λ ls j r. expect_then ts false k.OpenBrace j _ (λ q. fault))
  s_block (suc a) z i h =
      next _ (whole_list (s_labels (length ts) [] _)) (λ ls j r. expect_then ts false k.OpenBrace j _ (λ q. next _ (s_content a z _) (λ x o w. expect_then ts false k.CloseBrace o _ (λ c. next _ (s_eol _) (λ _ n e. by ls j r q x o w c n e)))))
    where
      by : (ls : List Label) (j : ℕ) → IsLabels ts ls (after_next ts false i) j → NextIs ts false k.OpenBrace j → (x : Content) (o : ℕ) → Inside a x (after_next ts false j) o → NextIs ts false k.CloseBrace o
          → (n : ℕ) → IsEol ts (after_next ts false o) n → GivesMember (suc a) i (Ok (node.block (next_index ts false i) n ls x, n))
      by ls j r q x o (inside_lines l w) c n e = read (block h r q l w c e)
      by ls j r q x o (inside_line w) c n e = read (line_block h r q w c e)

  s_named : (b : ℕ) → Below b → (i : ℕ) → NextIs ts false k.Identifier i → GivesMember b i (bodies.attribute_or_block nodes ts b (deeper_members nodes ts b) (next_index ts false i) (after_next ts false i))
  unfolding bodies.attribute_or_block
  s_named b z i h = eat_or ts false k.Equal _ _ _ (λ q. s_attribute b i h q) (λ _. s_block b z i h)

  -- a member, if a name comes next
  data MemberFrom (b i : ℕ) : Option Member → ℕ → Type 0 where
    a_member : {m : Member} {j : ℕ} → IsOneMember ts b m i j → MemberFrom b i (Some m) j
    no_name : next_kind ts false i ≢ Some k.Identifier → MemberFrom b i None i

  s_member_of : (b : ℕ) → Below b → (i : ℕ) → Gives (MemberFrom b i) (bodies.member_of nodes ts b (deeper_members nodes ts b) i)
  unfolding bodies.member_of
  s_member_of b z i = eat_or ts false k.Identifier i _ _ (λ q. next _ (s_named b z i q) (λ _ _ m. read (a_member m))) (λ e. read (no_name e))

  abbrev GivesMembers : ℕ → List Member → ℕ → Outcome (List Member) → Type 0
  GivesMembers b acc i = Gives (Extends (λ ms j. IsMembers ts b ms i j) acc)

  s_members : (b : ℕ) → Below b → (turns : ℕ) (acc : List Member) (i : ℕ) → GivesMembers b acc i (bodies.members_from nodes ts b (deeper_members nodes ts b) turns acc i)
  unfolding bodies.members_from
  s_members b z zero acc i = read (no_more acc no_members)
  s_members b z (suc turns) acc i =
      then_taken _ (s_line ts i) (λ j l. implies (s_members b z turns acc j) (after_line j l)) (next _ (s_member_of b z i) (one_member (s_members b z turns)))
    where
      after_line : (j : ℕ) → IsNewline ts i j → (ms : List Member) (l : ℕ) → Extends (λ ms l. IsMembers ts b ms j l) acc ms l → Extends (λ ms l. IsMembers ts b ms i l) acc ms l
      after_line j l ms _ (extended r) = extended (blank l r)

      one_member : ((acc : List Member) (i : ℕ) → GivesMembers b acc i (bodies.members_from nodes ts b (deeper_members nodes ts b) turns acc i)) → (o : Option Member) (j : ℕ) → MemberFrom b i o j
          → GivesMembers b acc i (bodies.members_step nodes ts b (deeper_members nodes ts b) (bodies.members_from nodes ts b (deeper_members nodes ts b) turns) acc o j)
      one_member again o j (a_member {m} w) = one_more acc m (λ _ _ r. member_first w r) (again (acc ++ m ∷ []) j)
      one_member again o j (no_name e) = read (no_more acc no_members)

  sound_body : (a : ℕ) → SoundBody a
  unfolding bodies.members
  sound_body zero = record { members = λ i. whole_list (s_members zero tt (length ts) [] i) }
  sound_body (suc a) = record { members = λ i. whole_list (s_members (suc a) (sound_body a) (length ts) [] i) }

  -- the member at a place; or none, and no name is there
  abbrev pub IsMemberAt : ℕ → ℕ → Option Member → ℕ → Type 0
  IsMemberAt b i (Some m) j = IsOneMember ts b m i j
  IsMemberAt b i None j = (next_kind ts false i ≢ Some k.Identifier) × (j ≡ i)

  pub s_member : (b i : ℕ) → Gives (IsMemberAt b i) (bodies.member_of nodes ts b (deeper_members nodes ts b) i)
  s_member b i = implies (at_depth b) by
    where
      at_depth : (b : ℕ) → Gives (MemberFrom b i) (bodies.member_of nodes ts b (deeper_members nodes ts b) i)
      at_depth zero = s_member_of zero tt i
      at_depth (suc a) = s_member_of (suc a) (sound_body a) i

      by : (o : Option Member) (j : ℕ) → MemberFrom b i o j → IsMemberAt b i o j
      by o j (a_member m) = m
      by o j (no_name e) = (e, refl)

  -- ---- whole texts

  -- what follows the mark
  abbrev text_from : ℕ → ℕ → Outcome Tree
  text_from b i =
      and_then (bodies.members nodes ts b i) (λ ms j. let end = after_if_next ts false k.LineComment j in
      and_then (steps.expect_end ts (next_kind ts false end) end) (λ _. pure (node.tree (length ts) (node.body (first_token_in ts false i j) j ms))))

  s_text : (b i : ℕ) → IsOptionalMark ts i → Gives (λ t _. IsFile ts b t) (text_from b i)
  s_text b i f =
      next _ ((sound_body b).members i) (λ ms j w. eat_then ts false k.LineComment j (λ _ end. and_then (steps.expect_end ts (next_kind ts false end) end) (λ _. pure (node.tree (length ts) (node.body (first_token_in ts false i j) j ms))))
      (λ q. next _ (s_end {P = λ _ _. next_kind ts false (after_next ts false j) ≡ None} _ (λ e. e)) (λ _ _ e. read (file f w (at_comment q e))))
      (λ _. next _ (s_end {P = λ _ _. next_kind ts false j ≡ None} j (λ e. e)) (λ _ _ e. read (file f w (at_end e)))))

  pub s_file : (b : ℕ) → Gives (λ t _. IsFile ts b t) (bodies.file nodes ts b 0)
  unfolding bodies.file
  s_file b = eat_then ts false k.Mark 0 (λ _ i. text_from b i) (λ q. s_text b _ (mark q)) (λ _. s_text b 0 no_mark)
