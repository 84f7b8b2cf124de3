-- What the rules on blocks look at in a block whose tokens are elsewhere too.
use Rattle.std.proofs.Common.{◌≡◌, ◌∙◌, ℕ, Bool, true, false, not, List, [], ◌∷◌, Option, Some, None, refl, sym, ap, ap₂, codes, arith, ◌<◌, ◌||◌, zero, suc, slice_get, unwrap_or}
use Rattle.std.specs.List.{flat_map, list_any}
use Rattle.std.specs.Option.{option_map}
use Rattle.hcl_grammar.specs.Nodes as node
use Rattle.hcl_grammar.specs.declared.tree.Attribute.{Attribute}
use Rattle.hcl_grammar.specs.declared.tree.Block.{Block, roll-Block}
use Rattle.hcl_grammar.specs.declared.tree.Content.{Content, out-Content}
use Rattle.hcl_grammar.specs.declared.tree.Expr.{Expr}
use Rattle.hcl_grammar.specs.declared.tree.ExprKind.{out-ExprKind, ExprKind}
use Rattle.hcl_grammar.specs.declared.tree.Label.{Label}
use Rattle.hcl_grammar.specs.declared.tree.Member.{Member}
use Rattle.hcl_grammar.specs.declared.tree.Part.{Part}
use Rattle.hcl_grammar.specs.declared.tree.Primary.{out-Primary, Primary}
use Rattle.hcl_grammar_laws.proofs.Opens as opens
use Rattle.hcl_scan.specs.Follows.{tokens_of}
use Rattle.hcl_token.specs.Tokens.{Pair}
use Rattle.tf_reuse.proofs.MovedParts.{form_of, shape_of}
use Rattle.tf_reuse.proofs.RenumberedNodes as moved
use Rattle.tf_reuse.proofs.RenumberedNodes.{MovedExpr, MovedForm, MovedShape, MovedParts, MovedNumber, MovedLabels, MovedContent, MovedMembers}
use Rattle.tf_reuse.proofs.RenumberedTrivia.{spelling_moved, moved_token}
use Rattle.tf_reuse.proofs.Window.{Here, Same}
use Rattle.tf_reuse.specs.SameTokens.{SameTokens}
use Rattle.tf_reuse.specs.Renumbering.{renumber}
use Rattle.tf_rules.specs.Attributes.{attributes, layer_attributes, member_attributes, has_no_parts, is_empty_string_primary, is_empty_string_kind, is_empty_string, is_attribute}
use Rattle.tf_rules.specs.Rules.Missing.{is_undocumented}
use Rattle.tf_rules.specs.Spelling.{token_text, name_text}
use Rattle.tf_rules.specs.declared.finding.Message.{Message}
use Rattle.tf_rules.specs.declared.finding.NameKind.{NameKind}

abbrev pub message : Option NameKind → Option ℕ → Message
message named name = record { kind = named; name = name }

-- ---- `""`

module _ (R T : ℕ → ℕ → Type 0) where
  empty_parts : {ps ps' : List Part} → MovedParts R T ps ps' → has_no_parts ps' ≡ has_no_parts ps
  empty_parts moved.no_parts = refl
  empty_parts (moved.parts x xs) = refl

  empty_shape : {x x' : Primary} → MovedShape R T x x' → is_empty_string_primary (out-Primary x') ≡ is_empty_string_primary (out-Primary x)
  unfolding node.call node.for_tuple node.for_object node.template
  empty_shape moved.number = refl
  empty_shape moved.identifier = refl
  empty_shape (moved.call s ns es) = simp (opens.open_call) refl
  empty_shape (moved.tuple es) = simp (opens.open_tuple) refl
  empty_shape (moved.object xs) = simp (opens.open_object) refl
  empty_shape (moved.for_tuple x v o) = simp (opens.open_for_tuple) refl
  empty_shape (moved.for_object g x key v o) = simp (opens.open_for_object) refl
  empty_shape (moved.quoted (moved.template p q xs)) = simp (opens.open_quoted) (empty_parts xs)
  empty_shape (moved.heredoc t) = simp (opens.open_heredoc) refl
  empty_shape (moved.parens e) = simp (opens.open_parens) refl

  empty_form : {x x' : ExprKind} → MovedForm R T x x' → is_empty_string_kind (out-ExprKind x') ≡ is_empty_string_kind (out-ExprKind x)
  empty_form (moved.conditional c a b) = simp (opens.open_conditional) refl
  empty_form (moved.chain h ls) = simp (opens.open_chain) refl
  empty_form (moved.prefixed op e) = simp (opens.open_prefixed) refl
  empty_form (moved.tailed t xs) = simp (opens.open_tailed) refl
  empty_form (moved.plain t) = simp (opens.open_plain) (empty_shape (shape_of t))

  empty_expr : {e e' : Expr} → MovedExpr R T e e' → is_empty_string e' ≡ is_empty_string e
  empty_expr x = empty_form (form_of x)

module _ (old new : List Pair) {from to count : ℕ} (w : SameTokens (tokens_of old) (tokens_of new) from to count) where
  -- ---- words

  pub first_same : {i i' j j' : ℕ} → Here w i i' → Here w j j' → i < j → Same w i i'
  first_same h g l = record { before = h.before; within = omega (arith, l, h.in_old, g.in_old, g.within); in_old = h.in_old; in_new = h.in_new }

  pub word_moves : {n n' : ℕ} → Same w n n' → token_text new n' ≡ token_text old n
  word_moves h = ap (λ (o : Option (List ℕ)). unwrap_or o []) (spelling_moved old new w h)

  pub name_moves : {o o' : Option ℕ} → MovedNumber (Here w) (Same w) o o' → name_text new o' ≡ name_text old o
  name_moves moved.no_number = refl
  name_moves (moved.one_number h) = word_moves h

  pub number_moves : {o o' : Option ℕ} → MovedNumber (Here w) (Same w) o o' → o' ≡ option_map (renumber from to) o
  number_moves moved.no_number = refl
  number_moves (moved.one_number h) = ap Some (moved_token old new w h)

  -- ---- attributes

  pub data SameAttributes : List Attribute → List Attribute → Type 0 where
    none : SameAttributes [] []
    more : {a a' : Attribute} {xs xs' : List Attribute} → Same w a.name a'.name → is_empty_string a'.value ≡ is_empty_string a.value → SameAttributes xs xs'
        → SameAttributes (a ∷ xs) (a' ∷ xs')

  attribute_moves : {i i' j j' : ℕ} {e e' : Expr} → Here w i i' → Here w j j' → i < j → MovedExpr (Here w) (Same w) e e' → {xs xs' : List Attribute} → SameAttributes xs xs'
      → SameAttributes (node.attribute i j e ∷ xs) (node.attribute i' j' e' ∷ xs')
  unfolding node.attribute
  attribute_moves h g l x more_ones = more (first_same h g l) (empty_expr (Here w) (Same w) x) more_ones

  unfoldable pub rolled : ℕ → ℕ → List Label → Content → Block
  rolled i j ls x = roll-Block (record { first = i; past = j; block_type = i; labels = ls; content = x })

  members_attributes : {ms ms' : List Member} → MovedMembers (Here w) (Same w) ms ms' → SameAttributes (flat_map member_attributes ms) (flat_map member_attributes ms')
  unfolding node.block rolled
  members_attributes moved.no_members = none
  members_attributes (moved.members (moved.attribute {i} {i'} {j} {j'} {e} {e'} h g l x) r) =
      rw (opens.open_attribute (node.attribute i j e), opens.open_attribute (node.attribute i' j' e')) (attribute_moves h g l x (members_attributes r))
  members_attributes (moved.members (moved.block {i} {i'} {j} {j'} {ls} {ls'} {x} {x'} h g l n c) r) =
      rw (opens.open_block (rolled i j ls x), opens.open_block (rolled i' j' ls' x')) (members_attributes r)

  pub content_attributes : {x x' : Content} → MovedContent (Here w) (Same w) x x' → SameAttributes (layer_attributes (out-Content x)) (layer_attributes (out-Content x'))
  unfolding node.body
  content_attributes (moved.body {i} {i'} {j} {j'} {ms} {ms'} h g ns) = rw (opens.open_lines (node.body i j ms), opens.open_lines (node.body i' j' ms')) (members_attributes ns)
  content_attributes (moved.on_line moved.nothing) = rw (opens.open_line None) none
  content_attributes (moved.on_line (moved.one {i} {i'} {j} {j'} {e} {e'} h g l x)) =
      rw (opens.open_line (Some (node.attribute i j e)), opens.open_line (Some (node.attribute i' j' e'))) (attribute_moves h g l x none)

  pub has_moves : (name : List ℕ) (empty : Bool) {xs xs' : List Attribute} → SameAttributes xs xs' → list_any (is_attribute new name empty) xs' ≡ list_any (is_attribute old name empty) xs
  has_moves name empty none = refl
  has_moves name empty (more h e r) = rw (word_moves h, e, has_moves name empty r) refl

  pub undocumented_moves : {xs xs' : List Attribute} → SameAttributes xs xs' → is_undocumented new xs' ≡ is_undocumented old xs
  undocumented_moves h = ap₂ (λ a b. not a || b) (has_moves (codes "description") false h) (has_moves (codes "description") true h)

  -- ---- labels

  pub data SameLabel : Option Label → Option Label → Type 0 where
    no_label : SameLabel None None
    one_label : {l l' : Label} → MovedNumber (Here w) (Same w) l.name l'.name → Here w l.first l'.first → Here w l.past l'.past → SameLabel (Some l) (Some l')

  pub label_at : {ls ls' : List Label} → MovedLabels (Here w) (Same w) ls ls' → (k : ℕ) → SameLabel (slice_get ls k) (slice_get ls' k)
  unfolding node.label
  label_at moved.no_labels k = no_label
  label_at (moved.labels h g l n r) zero = one_label n h g
  label_at (moved.labels h g l n r) (suc k) = label_at r k

  -- what the rules on blocks look at in a block
  pub record SameBlock (b b' : Block) : Type 0 where
    pub name : Same w b.block_type b'.block_type
    pub labelled : MovedLabels (Here w) (Same w) b.labels b'.labels
    pub inside : SameAttributes (attributes b) (attributes b')
