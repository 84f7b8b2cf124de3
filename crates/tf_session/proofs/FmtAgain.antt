-- The layout that a fmt pushes has the tokens of the text below, and is its own.
use Rattle.std.proofs.Common.{◌≡◌, ◌∙◌, ℕ, List, ◌∷◌, Bool, true, false, Result, Ok, Err, refl, sym, ap, subst}
use Rattle.std.proofs.lemmas.Slice.Eq.{bytes_eq-Decides}
use Rattle.std.proofs.lemmas.Bool.{not-false}
use Rattle.hcl_layout.specs.Layouts.{IsLayout, HaveSameTokens}
use Rattle.hcl_layout.specs.LayoutLaws.{LayoutKeepsTokens, LayoutOfLayout}
use Rattle.tf_lint.proofs.DoesNotParse.{parses_of}
use Rattle.tf_session.specs.declared.command.Command.TheVariants.{Fmt}
use Rattle.tf_session.specs.declared.command.Done.{Done}
use Rattle.tf_session.specs.declared.command.Fault.{Fault}
use Rattle.tf_lint.specs.Steps.{Rewrite, texts_differ}
use Rattle.tf_session.specs.Formatting.{Formats, FmtRewrites}
use Rattle.tf_session.specs.Machine.{Stack, done, push_text, PushesText}
use Rattle.tf_session.specs.FmtLaws.{FmtKeepsTokens, FmtIsIdempotent}

-- what a fmt that returned Done pushed
record FmtPushes (old : Stack) (d : Done) (new : Stack) : Type 0 where
  made : Rewrite
  formats : Formats old.top made
  top : new.top ≡ made.text
  replied : d ≡ done (texts_differ old.top made.text) 0 0
  put : new ≡ push_text Fmt made.text old

-- the top is the text that was pushed, whether it differs or not
on_top : (b : Bool) (text : List ℕ) (old new : Stack) → texts_differ old.top text ≡ b → new ≡ push_text Fmt text old → new.top ≡ text
on_top true text old new e h =
    let put : push_text Fmt text old ≡ record { top = text; below = (record { text = old.top; command = Fmt }) ∷ old.below } = rw e refl in
    ap (λ (s : Stack). s.top) (h ∙ put)
on_top false text old new e h =
    let put : push_text Fmt text old ≡ old = rw e refl in
    ap (λ (s : Stack). s.top) (h ∙ put) ∙ (bytes_eq-Decides old.top text).0 (not-false _ e)

formatted_by : (old new : Stack) (d : Done) (answer : Result Rewrite Fault) → FmtRewrites old.top answer → PushesText Fmt answer old (Ok d) new → FmtPushes old d new
formatted_by old new d (Err fault) makes puts = let e = puts.0 in cc
formatted_by old new d (Ok made) makes puts = record {
  made = made;
  formats = makes;
  top = on_top (texts_differ old.top made.text) made.text old new refl puts.1;
  replied =
      let e = puts.0 in
      let same : d ≡ done (texts_differ old.top made.text) made.fixed made.left = cc in
      same ∙ ap (λ (n : ℕ). done (texts_differ old.top made.text) n made.left) makes.fixed_is ∙ ap (done (texts_differ old.top made.text) 0) makes.left_is;
  put = puts.1;
}

pub fmt_keeps_tokens : LayoutKeepsTokens → FmtKeepsTokens
fmt_keeps_tokens keeps old new d h =
    let l = formatted_by old new d h.0 h.1 h.2 in
    subst (λ (t : List ℕ). HaveSameTokens old.top t) (sym l.top) (keeps old.top l.made.text l.formats.parsed.tree (parses_of old.top l.formats.parsed l.formats.reads) l.formats.layout l.formats.short)

pub fmt_changes_once : LayoutOfLayout → FmtIsIdempotent
fmt_changes_once again old mid new d e h g =
    let l = formatted_by old mid d h.0 h.1 h.2 in
    let m = formatted_by mid new e g.0 g.1 g.2 in
    let second = subst (λ (t : List ℕ). IsLayout t m.made.text) l.top m.formats.layout in
    let same : m.made.text ≡ mid.top = again old.top l.made.text m.made.text l.formats.parsed.tree (parses_of old.top l.formats.parsed l.formats.reads) l.formats.layout second ∙ sym l.top in
    let stays : texts_differ mid.top m.made.text ≡ false = rw ((bytes_eq-Decides mid.top m.made.text).1 (sym same)) refl in
    let kept : push_text Fmt m.made.text mid ≡ mid = rw stays refl in
    (m.replied ∙ ap (λ (b : Bool). done b 0 0) stays, m.put ∙ kept)
