-- Closing a house: what its connections are sent, and what they keep.
use Rattle.std.specs.Prelude.{◌≡◌, ◌++◌, ℕ, List, Option}
use Rattle.gu_engine.specs.Exchange.{BeginsAt, ClosesSession}
use Rattle.gu_engine.specs.declared.backlog.Backlog.{Backlog}
use Rattle.gu_engine.specs.declared.backlog.Left.TheVariants as left
use Rattle.gu_engine.specs.declared.connection.Connection.{Connection}

-- no turn left anything unanswered
abbrev pub IsIdle : {O : Type 0} → Backlog O → Type 0
IsIdle backlog = backlog.left ≡ left.Nothing

-- a backlog keeps the reader's bytes and the unanswered events
pub record KeepsInput {O : Type 0} (old new : Backlog O) : Type 0 where
  pub bytes : new.intake ≡ old.intake
  pub left : new.left ≡ old.left

-- it also keeps the answers that it holds
pub record HoldsTheSame {O : Type 0} (old new : Backlog O) : Type 0 where
  pub input : KeepsInput old new
  pub held : new.held.bytes.items ≡ old.held.bytes.items

-- the session is closed at the moment that the clock gives, and the bytes that it sends are held after the other answers
pub record Closes {H C O : Type 0} (ahead : C → Option (List ℕ)) (old new : Connection H C) (before after : Backlog O) : Type 0 where
  pub now : ℕ
  pub begun : Connection H C
  pub begins : BeginsAt ahead old now begun
  pub text : List ℕ
  pub closes : ClosesSession now begun text new
  pub input : KeepsInput before after
  pub held : after.held.bytes.items ≡ before.held.bytes.items ++ text
