-- Laws of `fmt`.
use Rattle.std.specs.Prelude.{◌≡◌, false, Ok}
use Rattle.hcl_layout.specs.Layouts.{HaveSameTokens}
use Rattle.tf_session.specs.declared.command.Command.TheVariants.{Fmt}
use Rattle.tf_session.specs.declared.command.Done.{Done}
use Rattle.tf_session.specs.Machine.{Stack, done, StackStep}

-- Where fmt answers Done, the text on top has the tokens that it had before, line ends and comments
-- among them: only gaps differ.
abbrev pub FmtKeepsTokens : Type 0
FmtKeepsTokens =
    (old new : Stack) (d : Done) → StackStep Fmt old (Ok d) new → HaveSameTokens old.top new.top

-- fmt once more changes nothing
abbrev pub FmtIsIdempotent : Type 0
FmtIsIdempotent = (old mid new : Stack) (d e : Done) → StackStep Fmt old (Ok d) mid
    → StackStep Fmt mid (Ok e) new → (e ≡ done false 0 0) × (new ≡ mid)
