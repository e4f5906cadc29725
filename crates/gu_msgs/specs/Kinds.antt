-- The kinds of values of fields, and the fault of a text that isn't of its kind.
use Rattle.std.specs.Prelude.{◌≡◌, ◌≢◌, ◌≤◌, ◌⊎◌, ◌^◌, ℕ, Bool, true, false, List, Option, Some, None, Result, Ok, Err, codes, IsTrue, ⊤, ℤ}
use Rattle.std.specs.Str.Parse.{digits_value}
use Rattle.gu_terms.specs.Days.{IsDay, IsDayText, year_of, month_of, day_of}
use Rattle.gu_terms.specs.Names.{IsName, IsId}
use Rattle.gu_terms.specs.NumberText.{IsNumberText, MeansLots, MeansPrice}
use Rattle.gu_msgs.specs.AllocStatuses.{status_number}
use Rattle.gu_msgs.specs.TestReqIds.{IsTestReqId}
use Rattle.gu_msgs.specs.Values.{is_numeral}
use Rattle.gu_msgs.specs.declared.alloc_status.AllocStatus.{AllocStatus}
use Rattle.gu_msgs.specs.declared.reject_reason.SessionRejectReason.{SessionRejectReason}
use Rattle.gu_msgs.specs.declared.reject_reason.SessionRejectReason.TheVariants.{ValueIsIncorrect, IncorrectDataFormat}
use Rattle.gu_msgs.specs.declared.row.Kind.{Kind}
use Rattle.gu_msgs.specs.declared.row.Kind.TheVariants.{Text, TestReqId, YesOrNo, Id, Name, Lots, Price, Date, Number, Status}

-- the text is this whole number: only digits, leading zeros allowed
pub record IsNumber (text : List ℕ) (n : ℕ) : Type 0 where
  pub numeral : IsTrue (is_numeral text)
  pub value : digits_value 10 text ≡ n

-- the text is a whole number from `least` to `most`
pub record IsNumberWithin (least most : ℕ) (text : List ℕ) : Type 0 where
  pub numeral : IsTrue (is_numeral text)
  pub from : least ≤ digits_value 10 text
  pub to : digits_value 10 text ≤ most

-- the text is `Y` or `N`
abbrev pub IsYesOrNo : List ℕ → Type 0
IsYesOrNo text = (text ≡ codes "Y") ⊎ (text ≡ codes "N")

-- the text is eight digits, which are a date
pub record IsDate (text : List ℕ) : Type 0 where
  pub is_text : IsDayText text
  pub there : IsDay (year_of text) (month_of text) (day_of text)

-- the text is in the format of its kind: lots and prices are number texts, dates have eight digits, whole numbers are digits
abbrev pub IsFormatted : Kind → List ℕ → Type 0
IsFormatted Text text = ⊤
IsFormatted TestReqId text = ⊤
IsFormatted YesOrNo text = ⊤
IsFormatted Id text = ⊤
IsFormatted Name text = ⊤
IsFormatted Lots text = IsNumberText text
IsFormatted Price text = IsNumberText text
IsFormatted Date text = IsDayText text
IsFormatted (Number least most) text = IsTrue (is_numeral text)
IsFormatted Status text = IsTrue (is_numeral text)

-- the text is allowed
abbrev pub IsSound : Kind → List ℕ → Type 0
IsSound Text text = ⊤
IsSound TestReqId text = IsTestReqId text
IsSound YesOrNo text = IsYesOrNo text
IsSound Id text = IsId text
IsSound Name text = IsName text
IsSound Lots text = (n : ℕ) × MeansLots text n
IsSound Price text = (z : ℤ) × MeansPrice text z
IsSound Date text = IsDate text
IsSound (Number least most) text = IsNumberWithin least most text
IsSound Status text = (status : AllocStatus) × IsNumber text (status_number status)

-- why a text isn't allowed: it isn't in the format; or it is, but its value isn't allowed
abbrev pub IsAtFault : Kind → List ℕ → SessionRejectReason → Type 0
IsAtFault kind text IncorrectDataFormat = ¬ IsFormatted kind text
IsAtFault kind text ValueIsIncorrect = IsFormatted kind text × (¬ IsSound kind text)
IsAtFault kind text _ = ⊥

-- ---- machinery: results of reading a text

-- a value if the text is allowed, or why it isn't
abbrev pub IsJudged : {T : Type 0} → Kind → List ℕ → Result T SessionRejectReason → Type 0
IsJudged kind text (Ok value) = IsSound kind text
IsJudged kind text (Err reason) = IsAtFault kind text reason

-- the value, or ValueIsIncorrect if there is none
abbrev pub allowed : {T : Type 0} → Option T → Result T SessionRejectReason
allowed (Some value) = Ok value
allowed None = Err ValueIsIncorrect

-- the text is `Y`, or isn't
abbrev pub SaysYes : List ℕ → Bool → Type 0
SaysYes text true = text ≡ codes "Y"
SaysYes text false = text ≢ codes "Y"

-- why a text isn't a whole number of 64 bits
abbrev pub IsNoNumber : List ℕ → SessionRejectReason → Type 0
IsNoNumber text IncorrectDataFormat = ¬ IsTrue (is_numeral text)
IsNoNumber text ValueIsIncorrect = IsTrue (is_numeral text) × (2 ^ 64 ≤ digits_value 10 text)
IsNoNumber text _ = ⊥
