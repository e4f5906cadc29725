-- A house: how it answers requests, and which notices it has for a firm.
use Rattle.std.specs.Prelude.{◌≡◌, ℕ, Option, None, Some}
use Rattle.std.specs.Borrow.{MutBor}
use Rattle.gu_terms.specs.declared.command.Command.{Command}
use Rattle.gu_terms.specs.declared.firm.FirmId.{FirmId}
use Rattle.gu_terms.specs.declared.notice.Stretch.{Stretch}
use Rattle.gu_msgs.specs.declared.asking.Request.{Request}
use Rattle.gu_msgs.specs.declared.asking.Request.TheVariants.{Enter}
use Rattle.gu_session.specs.declared.input.Outcome.{Outcome}
use Rattle.gu_engine.specs.declared.house.Answered.{Answered}
use Rattle.gu_engine.specs.declared.house.Ask.{Ask}

-- The rules of a house, by its states: which outcome a request may have, and which batch of its notices a firm may be given of the entries
-- from a number on; and the house after each.
pub record HouseRules (H : Type 0) : Type 1 where
  pub answers : H → Request → Outcome → H → Type 0
  pub tells : H → FirmId → ℕ → Stretch → H → Type 0

-- a house gives a firm a batch of its notices of the entries from a number on, or none
abbrev pub TellsAny : {H : Type 0} → HouseRules H → H → FirmId → ℕ → Option Stretch → H → Type 0
TellsAny rules old firm from None new = new ≡ old
TellsAny rules old firm from (Some stretch) new = rules.tells old firm from stretch new

-- A firm's request is answered. The message's number and the moment don't matter. Any notices that the house adds come after its answer.
pub record AnswersAsk {H : Type 0} (rules : HouseRules H) (old : H) (ask : Ask) (from : ℕ) (answered : Answered) (new : H) : Type 0 where
  pub mid : H
  pub answers : rules.answers old ask.request answered.outcome mid
  pub tells : TellsAny rules mid ask.firm from answered.stretch new

-- a request to enter a command
abbrev pub IsCommand : Request → Type 0
IsCommand request = (command : Command) × (request ≡ Enter command)

-- the rules of a borrowed house: those of the house itself
abbrev pub lent : {H : Type 0} → HouseRules H → HouseRules (MutBor H)
lent rules = record {
  answers = λ old request outcome new. rules.answers old.now request outcome new.now;
  tells = λ old firm from stretch new. rules.tells old.now firm from stretch new.now;
}
