-- Answers held before they are sent: machinery of the loop.
use Rattle.std.specs.Prelude.{◌≡◌, ◌<◌, ◌⊎◌, true, false, ℕ, List, [], ◌++◌, length, Option}
use Rattle.std.specs.Io.KnownBytes.{Appends}
use Rattle.gu_streams.specs.Written.{WrotePart}
use Rattle.gu_streams.specs.declared.error.StreamError.{StreamError}
use Rattle.gu_streams.specs.declared.error.StreamError.TheVariants.{Memory, Write}
use Rattle.gu_engine.specs.Running.{AnswersSome, Engine}
use Rattle.gu_engine.specs.declared.event.Event.{Event}

-- a text was given: the first bytes of what was held and of the text were written, and the rest is held
pub record Gives (text held_old held_new : List ℕ) (output_old output_new : Option (List ℕ)) : Type 0 where
  pub sent : List ℕ
  pub appended : Appends output_old output_new sent
  pub parts : held_old ++ text ≡ sent ++ held_new

-- the same, for some text
pub record GivesSome (held_old held_new : List ℕ) (output_old output_new : Option (List ℕ)) : Type 0 where
  pub text : List ℕ
  pub gave : Gives text held_old held_new output_old output_new

-- the first of the events that a turn brought are answered, and a prefix of what was held and of these answers was written
pub record GivesPart {S : Type 0} (engine : Engine S) (now : ℕ) (old : S) (brought : List Event) (held : List ℕ) (output_old output_new : Option (List ℕ)) : Type 0 where
  pub text : List ℕ
  pub new : S
  pub answered : AnswersSome engine now old brought text new
  pub wrote : WrotePart (held ++ text) output_old output_new

-- nothing is due, unless nothing is left to do
abbrev pub IsReady : {S : Type 0} → Engine S → S → Type 0
IsReady engine state = (engine.is_due state ≡ false) ⊎ (engine.is_done state ≡ true)

-- all these events are answered, with what is due then; or so much is held that some of what is due is left
pub record GivesAnswers {S : Type 0} (engine : Engine S) (now : ℕ) (old : S) (brought : List Event) (new : S) (held_old held_new : List ℕ) (output_old output_new : Option (List ℕ)) : Type 0 where
  pub text : List ℕ
  pub some : AnswersSome engine now old brought text new
  pub none : some.others ≡ []
  pub gave : Gives text held_old held_new output_old output_new
  pub ends : IsReady engine new ⊎ (65536 < length held_new)

-- an allocation failed, or the writer did
abbrev pub IsAnswerFault : StreamError → Type 0
IsAnswerFault error = (error ≡ Memory) ⊎ (error ≡ Write)
