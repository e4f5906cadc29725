-- Laws of the order in which a session gives outputs. Each is the contract of a public function.
use Rattle.std.specs.Prelude.{◌≡◌, ◌≤◌, ◌⊎◌, ◌+◌, ℕ, true, List, [], ◌∷◌, Option, None, Some, ⊤}
use Rattle.std.specs.List.{filter_map}
use Rattle.gu_terms.specs.declared.firm.FirmId.{FirmId}
use Rattle.gu_session.specs.AnswerRules.{asked_by}
use Rattle.gu_session.specs.Encoded.{Response, Sends, Hands, Closes}
use Rattle.gu_session.specs.Laws.{IsReached}
use Rattle.gu_session.specs.Runs.{handed_reference}
use Rattle.gu_session.specs.States.{SessionState}
use Rattle.gu_session.specs.Steps.{Steps}
use Rattle.gu_session.specs.declared.input.Input.{Input}
use Rattle.gu_session.specs.declared.input.Input.TheVariants.{Answer}
use Rattle.gu_session.specs.declared.input.Outcome.{Outcome}
use Rattle.gu_session.specs.declared.logged_on.LoggedOn.{LoggedOn}

-- nothing follows an end
abbrev pub EndsLast : List Response → Type 0
EndsLast [] = ⊤
EndsLast (Sends message ∷ given) = EndsLast given
EndsLast (Hands asked ∷ given) = EndsLast given
EndsLast (Closes ∷ given) = given ≡ []

-- in every run, a session ends at most once, and last
abbrev pub CloseIsLast : Type 0
CloseIsLast = (firms : List FirmId) (given : List Response) (s : SessionState) → IsReached firms given s → EndsLast given

-- nothing is given, or only the end
abbrev pub IsSilent : List Response → Type 0
IsSilent given = (given ≡ []) ⊎ (given ≡ Closes ∷ [])

-- until a firm logs on, nothing is given but the end
abbrev pub NothingBeforeTheLogon : Type 0
NothingBeforeTheLogon = (firms : List FirmId) (given : List Response) (s : SessionState) → IsReached firms given s → s.at ≡ None → IsSilent given

-- the request handed out has the number that was expected, which it uses up
pub record IsNextOne (old : Option LoggedOn) (new : Option LoggedOn) (reference : ℕ) : Type 0 where
  pub at : LoggedOn
  pub after : LoggedOn
  pub stood : old ≡ Some at
  pub stands : new ≡ Some after
  pub expected : at.expected ≡ reference
  pub used : after.expected ≡ reference + 1

-- there is no reference, or only the next one
abbrev pub AreNext : Option LoggedOn → Option LoggedOn → List ℕ → Type 0
AreNext old new [] = ⊤
AreNext old new (reference ∷ others) = IsNextOne old new reference × (others ≡ [])

-- a step hands out at most one request, whose number was expected; so nothing is handed out twice, out of order or above a gap
abbrev pub HandsOutInOrder : Type 0
HandsOutInOrder = (old new : SessionState) (input : Input) (now : ℕ) (given : List Response) → Steps old input now given new →
    AreNext old.at new.at (filter_map handed_reference given)

-- while a firm is logged on, the expected number never decreases
abbrev pub ExpectedNeverFalls : Type 0
ExpectedNeverFalls = (old new : SessionState) (input : Input) (now : ℕ) (given : List Response) (at after : LoggedOn) → Steps old input now given new →
    old.at ≡ Some at → new.at ≡ Some after → at.expected ≤ after.expected

-- references ascend, starting at this one or above
abbrev pub AscendsFrom : ℕ → List ℕ → Type 0
AscendsFrom low [] = ⊤
AscendsFrom low (reference ∷ references) = (low ≤ reference) × AscendsFrom (reference + 1) references

-- in every run, the references handed out ascend, so that each is handed out once
abbrev pub ReferencesGoUp : Type 0
ReferencesGoUp = (firms : List FirmId) (given : List Response) (s : SessionState) → IsReached firms given s → AscendsFrom 1 (filter_map handed_reference given)

-- an answer to a request that isn't waiting gives nothing; after one that gives something, it no longer waits, unless the session ended
pub record IsAnswered (old new : SessionState) (reference : ℕ) (given : List Response) : Type 0 where
  pub unasked : asked_by reference old.waiting ≡ None → given ≡ []
  pub settled : (given ≡ []) ⊎ (asked_by reference new.waiting ≡ None) ⊎ (new.is_closed ≡ true)

-- each question is answered at most once
abbrev pub OneAnswer : Type 0
OneAnswer = (old new : SessionState) (reference : ℕ) (outcome : Outcome) (now : ℕ) (given : List Response) →
    Steps old (Answer reference outcome) now given new → IsAnswered old new reference given
