-- The texts of refusals are short and printed.
use Rattle.std.proofs.Common.{◌≡◌, ℕ, ◌≤◌, true, List, ◌++◌, length, codes, MatchOption, refl, arith, length-append}
use Rattle.std.specs.List.{list_all}
use Rattle.std.proofs.lemmas.Bool.Decides.{nat_tests}
use Rattle.std.proofs.lemmas.List.Elements.{All-append, All-weaker}
use Rattle.std.proofs.lemmas.List.Sums.{AllPass-from_list_all}
use Rattle.gu_terms.specs.LimitKeys.{name_of_key}
use Rattle.gu_terms.specs.Names.{IsName, is_name_byte}
use Rattle.gu_terms.specs.Refusals.{IsRefusalText, is_printed_byte, key_in, text_of}
use Rattle.gu_terms.specs.declared.limit_key.LimitKey.TheVariants.{Exec, Agr, Acct, Carry, Guar}
use Rattle.gu_terms.specs.declared.refusal.Refusal.{Refusal}
use Rattle.gu_terms.specs.declared.refusal.Refusal.TheVariants.{NoDay, WrongDay, UnknownInstrument, UnknownAccount, NotYours, DuplicateId, MatchConflict, UnknownTrade, NotMatched, NoAgreement, TooManyLots, TooManyOffers, UnknownOffer, OfferClosed, LimitReached, UnknownKey, TooHigh, OfferOpen, NothingToReverse}

-- a byte of a name is printed
name_printed : (b : ℕ) → is_name_byte b ≡ true → is_printed_byte b ≡ true
name_printed b is = grind (arith, nat_tests)

-- a text of at most twenty printed bytes
printed : (text : List ℕ) → list_all is_printed_byte text ≡ true → 1 ≤ length text → length text ≤ 20 → IsRefusalText text
printed text each some most =
    record { some = some; most = omega (arith, most); each = AllPass-from_list_all is_printed_byte text each }

-- a name after printed bytes
printed_name : (front name : List ℕ) → list_all is_printed_byte front ≡ true → 1 ≤ length front → length front ≤ 20 → IsName name
    → IsRefusalText (front ++ name)
printed_name front name each some most is = record {
  some = omega (arith, length-append front name, some);
  most = omega (arith, length-append front name, most, is.most);
  each = All-append (λ b. is_printed_byte b ≡ true) front name (AllPass-from_list_all is_printed_byte front each) (All-weaker _ _ name_printed name is.each);
}

-- the text of a refusal whose key has a valid name
pub refusal_text : (refusal : Refusal) → MatchOption (key_in refusal) (Unit {0}) (λ key. IsName (name_of_key key)) → IsRefusalText (text_of refusal)
refusal_text NoDay is = printed (codes "NoDay") refl (omega arith) (omega arith)
refusal_text WrongDay is = printed (codes "WrongDay") refl (omega arith) (omega arith)
refusal_text UnknownInstrument is = printed (codes "UnknownInstrument") refl (omega arith) (omega arith)
refusal_text UnknownAccount is = printed (codes "UnknownAccount") refl (omega arith) (omega arith)
refusal_text NotYours is = printed (codes "NotYours") refl (omega arith) (omega arith)
refusal_text DuplicateId is = printed (codes "DuplicateId") refl (omega arith) (omega arith)
refusal_text MatchConflict is = printed (codes "MatchConflict") refl (omega arith) (omega arith)
refusal_text UnknownTrade is = printed (codes "UnknownTrade") refl (omega arith) (omega arith)
refusal_text NotMatched is = printed (codes "NotMatched") refl (omega arith) (omega arith)
refusal_text NoAgreement is = printed (codes "NoAgreement") refl (omega arith) (omega arith)
refusal_text TooManyLots is = printed (codes "TooManyLots") refl (omega arith) (omega arith)
refusal_text TooManyOffers is = printed (codes "TooManyOffers") refl (omega arith) (omega arith)
refusal_text UnknownOffer is = printed (codes "UnknownOffer") refl (omega arith) (omega arith)
refusal_text OfferClosed is = printed (codes "OfferClosed") refl (omega arith) (omega arith)
refusal_text (LimitReached (Exec firm)) is = printed_name (codes "LimitReached EXEC ") firm.name refl (omega arith) (omega arith) is
refusal_text (LimitReached (Agr agreement)) is = printed_name (codes "LimitReached AGR ") agreement.name refl (omega arith) (omega arith) is
refusal_text (LimitReached (Acct account)) is = printed_name (codes "LimitReached ACCT ") account.name refl (omega arith) (omega arith) is
refusal_text (LimitReached (Carry firm)) is = printed_name (codes "LimitReached CARRY ") firm.name refl (omega arith) (omega arith) is
refusal_text (LimitReached (Guar firm)) is = printed_name (codes "LimitReached GUAR ") firm.name refl (omega arith) (omega arith) is
refusal_text UnknownKey is = printed (codes "UnknownKey") refl (omega arith) (omega arith)
refusal_text TooHigh is = printed (codes "TooHigh") refl (omega arith) (omega arith)
refusal_text OfferOpen is = printed (codes "OfferOpen") refl (omega arith) (omega arith)
refusal_text NothingToReverse is = printed (codes "NothingToReverse") refl (omega arith) (omega arith)
