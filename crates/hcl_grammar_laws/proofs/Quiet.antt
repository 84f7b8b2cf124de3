-- Tokens that differ in what their line comments say, and in nothing else, are alike.
use Rattle.std.proofs.Common.{◌≡◌, ◌+◌, ℕ, Bool, true, false, cond, List, [], ◌∷◌, map, drop, slice_get, length, Option, Some, None, refl, sym, ap, subst, ◌∙◌}
use Rattle.std.specs.List.{prefix_len}
use Rattle.std.specs.Option.{option_map}
use Rattle.std.proofs.lemmas.List.{drop-map, length-map}
use Rattle.std.proofs.lemmas.Option.{slice_get-map}
use Rattle.hcl_token.specs.declared.kind.Kind.{Kind}
use Rattle.hcl_token.specs.declared.kind.Kind.TheVariants as k
use Rattle.hcl_grammar.specs.declared.tree.Tree.{Tree}
use Rattle.hcl_grammar.specs.Bodies.{IsFile}
use Rattle.hcl_grammar.specs.Lookahead.{NextIsWord}
use Rattle.hcl_grammar.specs.Tokens.{Token, is_skipped, next_index, next_token, next_kind}
use Rattle.hcl_token.specs.Kinds.{is_line_comment}
use Rattle.hcl_grammar_laws.specs.Comments.{without_comment_text}
use Rattle.hcl_grammar_laws.proofs.Alike.{Alike}
use Rattle.hcl_grammar_laws.proofs.AlikeBodies.{same_file}

kept : (t : Token) → (without_comment_text t).0 ≡ t.0
kept t =
    elim (is_line_comment t.0) as (λ v. is_line_comment t.0 ≡ v → (without_comment_text t).0 ≡ t.0) [
      | true ↦ λ e. rw e refl
      | false ↦ λ e. rw e refl
    ] refl

dropped : (m : Bool) (ts : List Token) → prefix_len (λ (t : Token). is_skipped m t.0) (map without_comment_text ts) ≡ prefix_len (λ (t : Token). is_skipped m t.0) ts
dropped m [] = refl
dropped m (t ∷ ts) =
    ap (λ (kind : Kind). cond (is_skipped m kind) (1 + prefix_len (λ (t : Token). is_skipped m t.0) (map without_comment_text ts)) 0) (kept t)
    ∙ ap (λ (n : ℕ). cond (is_skipped m t.0) (1 + n) 0) (dropped m ts)

start_unsaid : (ts : List Token) (m : Bool) (i : ℕ) → next_index (map without_comment_text ts) m i ≡ next_index ts m i
unfolding next_index
start_unsaid ts m i = ap (λ (n : ℕ). i + n) (ap (prefix_len (λ (t : Token). is_skipped m t.0)) (drop-map without_comment_text i ts) ∙ dropped m (drop i ts))

token_unsaid : (ts : List Token) (m : Bool) (i : ℕ) → next_token (map without_comment_text ts) m i ≡ option_map without_comment_text (next_token ts m i)
unfolding next_token
token_unsaid ts m i = ap (slice_get (map without_comment_text ts)) (start_unsaid ts m i) ∙ slice_get-map without_comment_text ts (next_index ts m i)

kind_of_option : (o : Option Token) → option_map (λ (t : Token). t.0) (option_map without_comment_text o) ≡ option_map (λ (t : Token). t.0) o
kind_of_option None = refl
kind_of_option (Some t) = ap Some (kept t)

next_unsaid : (ts : List Token) (m : Bool) (i : ℕ) → next_kind (map without_comment_text ts) m i ≡ next_kind ts m i
unfolding next_kind
next_unsaid ts m i = ap (option_map (λ (t : Token). t.0)) (token_unsaid ts m i) ∙ kind_of_option (next_token ts m i)

-- a word is said
said : (ts : List Token) (m : Bool) (w : List ℕ) (i : ℕ) → NextIsWord ts m w i → NextIsWord (map without_comment_text ts) m w i
said ts m w i p = token_unsaid ts m i ∙ ap (option_map without_comment_text) p

word_of : (o : Option Token) (w : List ℕ) → option_map without_comment_text o ≡ Some (k.Identifier, w) → o ≡ Some (k.Identifier, w)
word_of None w e = absurd (cc)
word_of (Some t) w e =
    let is : without_comment_text t ≡ (k.Identifier, w) = cc in
    let kind : t.0 ≡ k.Identifier = sym (kept t) ∙ ap (λ (u : Token). u.0) is in
    let no : is_line_comment t.0 ≡ false = ap is_line_comment kind in
    let whole : without_comment_text t ≡ t = rw no refl in
    ap Some (sym whole ∙ is)

heard : (ts : List Token) (m : Bool) (w : List ℕ) (i : ℕ) → NextIsWord (map without_comment_text ts) m w i → NextIsWord ts m w i
heard ts m w i p = word_of (next_token ts m i) w (sym (token_unsaid ts m i) ∙ p)

word_between : (ts us : List Token) → map without_comment_text ts ≡ map without_comment_text us → (m : Bool) (w : List ℕ) (i : ℕ) → NextIsWord ts m w i → NextIsWord us m w i
word_between ts us e m w i p = heard us m w i (subst (λ (l : List Token). NextIsWord l m w i) e (said ts m w i p))

alike : (ts us : List Token) → map without_comment_text ts ≡ map without_comment_text us → Alike ts us
alike ts us e = record {
  starts = λ m i. sym (start_unsaid us m i) ∙ ap (λ (l : List Token). next_index l m i) (sym e) ∙ start_unsaid ts m i;
  nexts = λ m i. sym (next_unsaid us m i) ∙ ap (λ (l : List Token). next_kind l m i) (sym e) ∙ next_unsaid ts m i;
  words = word_between ts us e;
  others = λ m w i none found. none (word_between us ts (sym e) m w i found);
  lengths = sym (length-map us without_comment_text) ∙ ap length (sym e) ∙ length-map ts without_comment_text;
}

pub comment_text_is_ignored : (ts us : List Token) (d : ℕ) (t : Tree) → map without_comment_text ts ≡ map without_comment_text us → IsFile ts d t → IsFile us d t
comment_text_is_ignored ts us d t e f = same_file (alike ts us e) f
