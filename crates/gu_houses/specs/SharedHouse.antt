-- A seat at a desk as a house whose firms may have shares: each firm's sessions then use only a part of the available room.
use Rattle.std.specs.Prelude.{◌≡◌, ◌⊎◌, ℕ, Bool, true, false}
use Rattle.gu_terms.specs.declared.firm.FirmId.{FirmId}
use Rattle.gu_terms.specs.declared.notice.Stretch.{Stretch}
use Rattle.gu_msgs.specs.declared.asking.Request.{Request}
use Rattle.gu_session.specs.declared.input.Failure.{Failure}
use Rattle.gu_session.specs.declared.input.Outcome.{Outcome}
use Rattle.gu_session.specs.declared.input.Outcome.TheVariants.{Failed}
use Rattle.gu_ref.specs.Tables.{Tables}
use Rattle.gu_engine.specs.Houses.{HouseRules, IsCommand}
use Rattle.gu_desk.specs.Holds.{Looks}
use Rattle.gu_desk.specs.Seats.{SeatState}
use Rattle.gu_houses.specs.SeatHouse.{SeatAnswers, SeatTells}

-- a seat, and whether the firms that it answers have shares
pub record SharedSeat : Type 0 where
  pub seat : SeatState
  pub has_shares : Bool

-- a command isn't entered, and nothing else changes
pub record IsWithheld (request : Request) (outcome : Outcome) (old new : SeatState) : Type 0 where
  pub command : IsCommand request
  pub failure : Failure
  pub outcome_is : outcome ≡ Failed failure
  pub new_is : new ≡ old

-- how a seat answers a firm with a share: it may look at the book first, and then answers, or withholds a command
pub record AnswersByShare (reference : Tables) (old : SeatState) (request : Request) (outcome : Outcome) (new : SeatState) : Type 0 where
  pub mid : SeatState
  pub looks : Looks reference old mid
  pub answers : SeatAnswers reference mid request outcome new ⊎ IsWithheld request outcome mid new

-- how a seat answers firms that may have shares: without shares as any seat
abbrev pub AnswersWithin : Tables → Bool → SeatState → Request → Outcome → SeatState → Type 0
AnswersWithin reference false old request outcome new = SeatAnswers reference old request outcome new
AnswersWithin reference true old request outcome new = AnswersByShare reference old request outcome new

-- the same as a house, whose firms always have shares or never do
abbrev pub SharedAnswers : Tables → SharedSeat → Request → Outcome → SharedSeat → Type 0
SharedAnswers reference old request outcome new =
    AnswersWithin reference old.has_shares old.seat request outcome new.seat × (new.has_shares ≡ old.has_shares)

-- notices don't depend on shares
abbrev pub SharedTells : Tables → SharedSeat → FirmId → ℕ → Stretch → SharedSeat → Type 0
SharedTells reference old firm from stretch new =
    SeatTells reference old.seat firm from stretch new.seat × (new.has_shares ≡ old.has_shares)

-- a seat whose firms may have shares as a house, at a desk with this reference
abbrev pub rules_within : Tables → HouseRules SharedSeat
rules_within reference = record { answers = SharedAnswers reference; tells = SharedTells reference }
