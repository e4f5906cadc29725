-- When a tick makes a session do something, and which numbers come next.
use Rattle.std.specs.Prelude.{◌<◌, ℕ, [], Option, IfSome}
use Rattle.std.specs.Option.{option_map_or}
use Rattle.gu_terms.specs.Numbers.{IsMoment}
use Rattle.gu_session.specs.States.{SessionState}
use Rattle.gu_session.specs.Steps.{Steps}
use Rattle.gu_session.specs.declared.input.Input.TheVariants.{Tick}
use Rattle.gu_session.specs.declared.logged_on.LoggedOn.{LoggedOn}

-- at this moment a tick does nothing: nothing is given, and the session is unchanged
abbrev pub Rests : SessionState → ℕ → Type 0
Rests s now = Steps s Tick now [] s

-- a tick does nothing at any moment before this one; if there is none, it never does anything
abbrev pub RestsUntil : SessionState → Option ℕ → Type 0
RestsUntil s due = (now : ℕ) → IsMoment now → IfSome due (λ (moment : ℕ). now < moment) → Rests s now

-- at this moment, if there is one, a tick does something
abbrev pub ActsAt : SessionState → Option ℕ → Type 0
ActsAt s due = IfSome due (λ (moment : ℕ). ¬ (Rests s moment))

-- the expected number of the firm's next message, which is 1 before its Logon
abbrev pub expected_of : SessionState → ℕ
expected_of s = option_map_or (λ (at : LoggedOn). at.expected) s.at 1
