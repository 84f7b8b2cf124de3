-- For proofs: what the parser of bodies answers, whatever it makes.
use Rattle.std.specs.Prelude.{ℕ, zero, suc, Bool, false, if◌then◌else◌, List, length, Option, Some, None}
use Rattle.std.specs.Prelude.{Err}
use Rattle.hcl_token.specs.declared.kind.Kind.{Kind}
use Rattle.hcl_token.specs.declared.kind.Kind.TheVariants as k
use Rattle.hcl_grammar.specs.declared.fault.TokenFault.TheVariants.{TooDeep}
use Rattle.hcl_grammar.specs.declared.goal.Goal.TheVariants.{Whole}
use Rattle.hcl_grammar.specs.Pure.Makers.{Types, Makers}
use Rattle.hcl_grammar.specs.Pure.Parser.{under}
use Rattle.hcl_grammar.specs.Pure.Reading.{Step, ◌>>=◌, ◌>>◌, pure, position, peek_index, peek_kind}
use Rattle.hcl_grammar.specs.Pure.Reading.{eat, expect, bump_known, enter}
use Rattle.hcl_grammar.specs.Pure.Steps.{as_some, eat_newline, eat_inner_newline, eol, expect_end}
use Rattle.hcl_grammar.specs.Tokens.{Token, first_token_in}

-- one less, if there is one
abbrev pub saturating_pred : ℕ → ℕ
saturating_pred zero = zero
saturating_pred (suc depth) = depth

module _ {t : Types} (a : Makers t) (ts : List Token) where
  open t use {Attribute, Label, Labels, Content, Member, Members, Tree}

  -- after the opening quote
  unfoldable pub quoted_label : ℕ → Step Label
  quoted_label first = do
    name ← peek_index ts false
    is_text ← eat ts false k.QuoteLit
    expect ts false k.QuoteClose
    end ← position
    pure (a.label first end (if is_text then Some name else None))

  -- by the kind of the token that comes next
  abbrev pub label_by : ℕ → Option Kind → Step (Option Label)
  label_by first (Some k.Identifier) = do
    bump_known ts false
    end ← position
    pure (Some (a.label first end (Some first)))
  label_by first (Some k.QuoteOpen) = bump_known ts false >> as_some (quoted_label first)
  label_by first (Some _) = pure None
  label_by first None = pure None

  -- a label, if one comes next
  unfoldable pub label_of : Step (Option Label)
  label_of = do
    first ← peek_index ts false
    t ← peek_kind ts false
    label_by first t

  abbrev pub labels_step : (Labels → Step Labels) → Labels → Option Label → Step Labels
  labels_step more found None = pure found
  labels_step more found (Some x) = more (a.add_label found x)

  -- Label*, at most n
  unfoldable pub labels_from : ℕ → Labels → Step Labels
  labels_from zero found = pure found
  labels_from (suc n) found = do
    x ← label_of
    labels_step (labels_from n) found x

  -- (Identifier "=" Expr)?, its expression at this depth
  unfoldable pub one_line_body : ℕ → Step Content
  one_line_body depth = do
    first ← peek_index ts false
    is_name ← eat ts false k.Identifier
    if is_name then (do
      expect ts false k.Equal
      value ← (under a ts depth).expr false Whole
      end ← position
      pure (a.one_line (Some (a.attribute first end value)))) else pure (a.one_line None)

  -- inner: the attributes and blocks of one construct deeper
  module _ (depth : ℕ) (inner : Step Members) where
    -- after the name and `=`
    unfoldable pub attribute_by : ℕ → Step Member
    attribute_by first = do
      value ← (under a ts depth).expr false Whole
      eol ts
      end ← position
      pure (a.attribute_member (a.attribute first end value))

    -- the body of a block, after the line of its brace
    unfoldable pub nested_body : Step Content
    nested_body = do
      from ← position
      xs ← inner
      to ← position
      pure (a.block_body (a.body (first_token_in ts false from to) to xs))

    -- after `{`
    unfoldable pub block_content : Step Content
    block_content = do
      is_line ← eat_inner_newline ts
      if is_line then nested_body else one_line_body (saturating_pred depth)

    -- after the word
    unfoldable pub block_by : ℕ → Step Member
    block_by first = do
      labels ← labels_from (length ts) a.no_labels
      opening ← peek_index ts false
      expect ts false k.OpenBrace
      enter depth opening
      x ← block_content
      expect ts false k.CloseBrace
      eol ts
      end ← position
      pure (a.block first end labels x)

    -- after the name
    unfoldable pub attribute_or_block : ℕ → Step Member
    attribute_or_block first = do
      is_attribute ← eat ts false k.Equal
      if is_attribute then attribute_by first else block_by first

    -- an attribute or a block, if one comes next
    unfoldable pub member_of : Step (Option Member)
    member_of = do
      first ← peek_index ts false
      is_name ← eat ts false k.Identifier
      if is_name then as_some (attribute_or_block first) else pure None

    abbrev pub members_step : (Members → Step Members) → Members → Option Member → Step Members
    members_step more found None = pure found
    members_step more found (Some x) = more (a.add_member found x)

    -- Body, at most n lines, attributes and blocks
    unfoldable pub members_from : ℕ → Members → Step Members
    members_from zero found = pure found
    members_from (suc n) found = do
      is_line ← eat_newline ts
      if is_line then members_from n found else (do
        x ← member_of
        members_step (members_from n) found x)

  -- a body with constructs nested no deeper than the number
  unfoldable pub members : ℕ → Step Members
  members zero = members_from zero (λ i. Err (TooDeep i)) (length ts) a.no_members
  members (suc depth) = members_from (suc depth) (members depth) (length ts) a.no_members

  abbrev pub deeper_members : ℕ → Step Members
  deeper_members zero = λ i. Err (TooDeep i)
  deeper_members (suc depth) = members depth

  -- File
  unfoldable pub file : ℕ → Step Tree
  file depth = do
    is_mark ← eat ts false k.Mark
    from ← position
    xs ← members depth
    to ← position
    is_comment ← eat ts false k.LineComment
    t ← peek_kind ts false
    expect_end ts t
    pure (a.tree (length ts) (a.body (first_token_in ts false from to) to xs))
