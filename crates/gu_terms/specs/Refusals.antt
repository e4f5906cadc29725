-- Why a command is refused: the number, name and text of each refusal.
use Rattle.std.specs.Prelude.{ℕ, Bool, ◌≤◌, ◌==◌, ◌&&◌, if◌then◌else◌, nat_le, ◌++◌, ◌∷◌, List, length, Option, None, Some, codes}
use Rattle.std.specs.List.{AllPass}
use Rattle.std.specs.Option.{option_map_or}
use Rattle.gu_terms.specs.LimitKeys.{kind_of, name_of_key}
use Rattle.gu_terms.specs.declared.limit_key.LimitKey.{LimitKey}
use Rattle.gu_terms.specs.declared.refusal.Refusal.{Refusal}
use Rattle.gu_terms.specs.declared.refusal.Refusal.TheVariants.{NoDay, WrongDay, UnknownInstrument, UnknownAccount, NotYours, DuplicateId, MatchConflict, UnknownTrade, NotMatched, NoAgreement, TooManyLots, TooManyOffers, UnknownOffer, OfferClosed, LimitReached, UnknownKey, TooHigh, OfferOpen, NothingToReverse}

-- its number; if several conditions hold, the reply is the refusal with the least number
abbrev pub number_of : Refusal → ℕ
number_of NoDay = 1
number_of WrongDay = 2
number_of UnknownInstrument = 3
number_of UnknownAccount = 4
number_of NotYours = 5
number_of DuplicateId = 6
number_of MatchConflict = 7
number_of UnknownTrade = 8
number_of NotMatched = 9
number_of NoAgreement = 10
number_of TooManyLots = 11
number_of TooManyOffers = 12
number_of UnknownOffer = 13
number_of OfferClosed = 14
number_of (LimitReached key) = 15
number_of UnknownKey = 16
number_of TooHigh = 17
number_of OfferOpen = 18
number_of NothingToReverse = 19

-- the refusal with this number, among those that name no key; NothingToReverse for any other number
abbrev pub refusal_of : ℕ → Refusal
refusal_of number =
    if number == 1 then NoDay
    else if number == 2 then WrongDay
    else if number == 3 then UnknownInstrument
    else if number == 4 then UnknownAccount
    else if number == 5 then NotYours
    else if number == 6 then DuplicateId
    else if number == 7 then MatchConflict
    else if number == 8 then UnknownTrade
    else if number == 9 then NotMatched
    else if number == 10 then NoAgreement
    else if number == 11 then TooManyLots
    else if number == 12 then TooManyOffers
    else if number == 13 then UnknownOffer
    else if number == 14 then OfferClosed
    else if number == 16 then UnknownKey
    else if number == 17 then TooHigh
    else if number == 18 then OfferOpen
    else NothingToReverse

-- its name in a reply
abbrev pub name_of : Refusal → List ℕ
name_of NoDay = codes "NoDay"
name_of WrongDay = codes "WrongDay"
name_of UnknownInstrument = codes "UnknownInstrument"
name_of UnknownAccount = codes "UnknownAccount"
name_of NotYours = codes "NotYours"
name_of DuplicateId = codes "DuplicateId"
name_of MatchConflict = codes "MatchConflict"
name_of UnknownTrade = codes "UnknownTrade"
name_of NotMatched = codes "NotMatched"
name_of NoAgreement = codes "NoAgreement"
name_of TooManyLots = codes "TooManyLots"
name_of TooManyOffers = codes "TooManyOffers"
name_of UnknownOffer = codes "UnknownOffer"
name_of OfferClosed = codes "OfferClosed"
name_of (LimitReached key) = codes "LimitReached"
name_of UnknownKey = codes "UnknownKey"
name_of TooHigh = codes "TooHigh"
name_of OfferOpen = codes "OfferOpen"
name_of NothingToReverse = codes "NothingToReverse"

-- a name, followed by a space, the kind of a key, a space and the key's name
abbrev pub named_with_key : List ℕ → LimitKey → List ℕ
named_with_key name key = name ++ 32 ∷ kind_of key ++ 32 ∷ name_of_key key

-- the key that it names, if it names one
abbrev pub key_in : Refusal → Option LimitKey
key_in (LimitReached key) = Some key
key_in _ = None

-- its text in a reply: its name, followed by the key if it names one
abbrev pub text_of : Refusal → List ℕ
text_of refusal = option_map_or (named_with_key (name_of refusal)) (key_in refusal) (name_of refusal)

-- a byte of printable ASCII, or a space
abbrev pub is_printed_byte : ℕ → Bool
is_printed_byte b = nat_le 32 b && nat_le b 126

-- one to forty-eight such bytes
pub record IsRefusalText (text : List ℕ) : Type 0 where
  pub some : 1 ≤ length text
  pub most : length text ≤ 48
  pub each : AllPass is_printed_byte text
