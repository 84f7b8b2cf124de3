-- For proofs: the productions of bodies, over a text as it is read at one place.
use Rattle.std.specs.Prelude.{ℕ, suc, length, Option}
use Rattle.hcl_grammar.specs.Pure.Reading.{Step}
use Rattle.hcl_reader.specs.ReaderRules.{ReaderState}
use Rattle.hcl_grammar.specs.Pure.Makers.{Types, Makers}
use Rattle.hcl_grammar.specs.Pure.BodyParser as p

module _ {types : Types} (a : Makers types) (t : ReaderState) where
  open types use {Label, Labels, Content, Member, Members, Tree}

  abbrev pub quoted_label : ℕ → Step Label
  quoted_label first = p.quoted_label a t.tokens first

  abbrev pub label : Step (Option Label)
  label = p.label_of a t.tokens

  abbrev pub labels_from : ℕ → Labels → Step Labels
  labels_from n found = p.labels_from a t.tokens n found

  abbrev pub labels : Step Labels
  labels = labels_from (length t.tokens) a.no_labels

  abbrev pub attribute : ℕ → Step Member
  attribute first = p.attribute_by a t.tokens t.depth (p.deeper_members a t.tokens t.depth) first

  abbrev pub block : ℕ → Step Member
  block first = p.block_by a t.tokens t.depth (p.deeper_members a t.tokens t.depth) first

  abbrev pub attribute_or_block : ℕ → Step Member
  attribute_or_block first =
      p.attribute_or_block a t.tokens t.depth (p.deeper_members a t.tokens t.depth) first

  abbrev pub member : Step (Option Member)
  member = p.member_of a t.tokens t.depth (p.deeper_members a t.tokens t.depth)

  abbrev pub members_from : ℕ → Members → Step Members
  members_from n found =
      p.members_from a t.tokens t.depth (p.deeper_members a t.tokens t.depth) n found

  abbrev pub members : Step Members
  members = p.members a t.tokens t.depth

  abbrev pub file : Step Tree
  file = p.file a t.tokens t.depth

  -- ---- in braces that were opened

  abbrev pub one_line_body : Step Content
  one_line_body = p.one_line_body a t.tokens t.depth

  abbrev pub nested_body : Step Content
  nested_body = p.nested_body a t.tokens (suc t.depth) (p.members a t.tokens t.depth)

  abbrev pub block_content : Step Content
  block_content = p.block_content a t.tokens (suc t.depth) (p.members a t.tokens t.depth)
