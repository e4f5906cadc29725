-- A seat whose firms may have shares answers as the seat does.
use Rattle.std.proofs.Common.{◌≡◌, ℕ, Bool, true, false, Option, None, Some, refl, inl, inr}
use Rattle.gu_terms.specs.declared.command.Command.{Command}
use Rattle.gu_terms.specs.declared.firm.FirmId.{FirmId}
use Rattle.gu_terms.specs.declared.notice.Stretch.{Stretch}
use Rattle.gu_msgs.specs.declared.asking.Request.{Request}
use Rattle.gu_msgs.specs.declared.asking.Request.TheVariants.{Enter}
use Rattle.gu_session.specs.declared.input.Failure.{Failure}
use Rattle.gu_session.specs.declared.input.Outcome.{Outcome}
use Rattle.gu_session.specs.declared.input.Outcome.TheVariants.{Failed}
use Rattle.gu_ref.specs.Tables.{Tables}
use Rattle.gu_engine.specs.Houses.{AnswersAsk, TellsAny}
use Rattle.gu_engine.specs.declared.house.Answered.{Answered}
use Rattle.gu_engine.specs.declared.house.Ask.{Ask}
use Rattle.gu_desk.specs.Holds.{Looks}
use Rattle.gu_desk.specs.Seats.{SeatState}
use Rattle.gu_houses.specs.SeatHouse.{SeatAnswers, rules_of_seat}
use Rattle.gu_houses.specs.SharedHouse.{AnswersByShare, AnswersWithin, SharedSeat, rules_within}

-- a seat's answer is one that it may give with or without shares
within : (reference : Tables) (has_shares : Bool) (old new : SeatState) (request : Request) (outcome : Outcome)
    → SeatAnswers reference old request outcome new → AnswersWithin reference has_shares old request outcome new
within reference false old new request outcome answers = answers
within reference true old new request outcome answers = record { mid = old; looks = inl refl; answers = inl answers }

-- so are the notices that it adds
tells_within : (reference : Tables) (has_shares : Bool) (mid new : SeatState) (firm : FirmId) (from : ℕ) (stretch : Option Stretch)
    → TellsAny (rules_of_seat reference) mid firm from stretch new
    → TellsAny (rules_within reference) (record { seat = mid; has_shares = has_shares }) firm from stretch (record { seat = new; has_shares = has_shares })
tells_within reference has_shares mid new firm from None tells = λ i. record { seat = tells i; has_shares = has_shares }
tells_within reference has_shares mid new firm from (Some stretch) tells = (tells, refl)

-- what a seat answers, with the notices that it adds
pub answers_within : (reference : Tables) (has_shares : Bool) (old new : SeatState) (ask : Ask) (from : ℕ) (answered : Answered)
    → AnswersAsk (rules_of_seat reference) old ask from answered new
    → AnswersAsk (rules_within reference) (record { seat = old; has_shares = has_shares }) ask from answered (record { seat = new; has_shares = has_shares })
answers_within reference has_shares old new ask from answered is = record {
  mid = record { seat = is.mid; has_shares = has_shares };
  answers = (within reference has_shares old is.mid ask.request answered.outcome is.answers, refl);
  tells = tells_within reference has_shares is.mid new ask.firm from answered.stretch is.tells;
}

-- a command is entered after a look
pub entered_after : (reference : Tables) (old mid new : SeatState) (command : Command) (outcome : Outcome)
    → Looks reference old mid → SeatAnswers reference mid (Enter command) outcome new → AnswersByShare reference old (Enter command) outcome new
entered_after reference old mid new command outcome looks answers = record { mid = mid; looks = looks; answers = inl answers }

-- or withheld
pub withheld_after : (reference : Tables) (old mid new : SeatState) (command : Command) (outcome : Outcome)
    → Looks reference old mid → (failure : Failure) × (outcome ≡ Failed failure) → new ≡ mid → AnswersByShare reference old (Enter command) outcome new
withheld_after reference old mid new command outcome looks fails same = record {
  mid = mid;
  looks = looks;
  answers = inr (record { command = (command, refl); failure = fails.0; outcome_is = fails.1; new_is = same });
}
