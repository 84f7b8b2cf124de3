-- A text that parses has no empty gap between two tokens that join.
use Rattle.std.proofs.Common.{◌≡◌, ℕ, suc, Bool, true, false, List, [], ◌∷◌, ◌++◌, slice_get, Some, refl, sym, ap, subst, ◌∙◌}
use Rattle.hcl_token.specs.declared.kind.Kind.{Kind}
use Rattle.hcl_token.specs.declared.kind.Kind.TheVariants as k
use Rattle.hcl_token.specs.Joins.{joins_with}
use Rattle.hcl_token.specs.Tokens.{Pair, whole_text}
use Rattle.hcl_scan.specs.Characters.{is_prefix_of}
use Rattle.hcl_scan.specs.Tokenization.{TokenizesFrom, mark_prefix, byte_order_mark}
use Rattle.hcl_scan.specs.Follows.{AreApart, tokens_of, mark}
use Rattle.hcl_scan.specs.Lexeme.{IsLongest}
use Rattle.hcl_scan.specs.Modes.{Mode, mode_of, modes_after}
use Rattle.hcl_grammar.specs.Tokens.{Token}
use Rattle.hcl_grammar_laws.specs.Glue.{glues, NoGlue}
use Rattle.hcl_text_laws.proofs.Rows.{rows}
use Rattle.hcl_text_laws.specs.Parses.{ParsedTokensAreApart}

-- no token is next to one that it must not be next to
abbrev Loose : List Token → Type 0
Loose ts = (n : ℕ) (a b : Token) → slice_get ts n ≡ Some a → slice_get ts (suc n) ≡ Some b → glues a.0 b.0 b.1 ≡ false

join_no : (b c : Bool) → (b ≡ true → c ≡ true) → c ≡ false → b ≡ false
join_no true c f g = absurd (let clash : true ≡ false = sym (f refl) ∙ g in cc)
join_no false c f g = refl

-- two tokens and all that follows them
two : (mode other : Mode) (a b : Kind) (s n gap r : List ℕ) → IsLongest mode a s (gap ++ (n ++ r)) → IsLongest other b n r → glues a b n ≡ false → gap ≡ [] → joins_with a s b n ≡ false
two mode other a b s n gap r g w loose e =
    join_no (joins_with a s b n) (glues a b n) (rows mode other s n r a b (subst (λ gap. IsLongest mode a s (gap ++ (n ++ r))) e g) w.0.1) loose

tokens_apart : (modes left : List Mode) (ps : List Pair) (last : List ℕ) → TokenizesFrom modes ps last left → Loose (tokens_of ps) → AreApart ps
tokens_apart modes left [] last h loose = tt
tokens_apart modes left (p ∷ []) last h loose = (tt, tt)
tokens_apart modes left (p ∷ q ∷ ps) last h loose = (
  two (mode_of modes) (mode_of (modes_after p.kind p.spelling modes)) p.kind q.kind p.spelling q.spelling q.gap (whole_text ps last) h.1 h.2.1 (loose 0 (p.kind, p.spelling) (q.kind, q.spelling) refl refl),
  tokens_apart (modes_after p.kind p.spelling modes) left (q ∷ ps) last h.2 (λ n a b x y. loose (suc n) a b x y),
)

-- after the byte order mark too
mark_apart : (p : Pair) (ps : List Pair) → p.kind ≡ k.Mark → AreApart ps → AreApart (p ∷ ps)
mark_apart p [] e h = (tt, h)
mark_apart p (q ∷ ps) e h = (λ _. ap (λ kind. joins_with kind p.spelling q.kind q.spelling) e, h)

whole_apart : (text : List ℕ) (b : Bool) (body ps : List Pair) (left : List Mode) (last : List ℕ) → is_prefix_of byte_order_mark text ≡ b → ps ≡ mark_prefix text ++ body → TokenizesFrom [] body last left → Loose (tokens_of ps) → AreApart ps
whole_apart text true body ps left last t e h loose =
    let made = rw t at e in
    subst AreApart (sym made) (mark_apart mark body refl (tokens_apart [] left body last h (λ n a b x y. (subst (λ ps. Loose (tokens_of ps)) made loose) (suc n) a b x y)))
whole_apart text false body ps left last t e h loose =
    let made = rw t at e in
    subst AreApart (sym made) (tokens_apart [] left body last h (subst (λ ps. Loose (tokens_of ps)) made loose))

pub parsed_tokens_are_apart : NoGlue → ParsedTokensAreApart
parsed_tokens_are_apart no_glue text pairs last d t c w =
    whole_apart text (is_prefix_of byte_order_mark text) c.tokenizes.body pairs [] last refl c.tokenizes.prefix c.tokenizes.tokenizes (no_glue (tokens_of pairs) d t w)
