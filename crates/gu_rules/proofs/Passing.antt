-- Commands that pass all tests.
use Rattle.gu_rules.proofs.Words.{◌≡◌, ℕ, Bool, true, false, List, [], ◌∷◌, ◌++◌, Option, Some, None, slice_get, zero, suc, refl, sym, ap, nat_lt, inl, inr, find, option_map, option_map_or, cases_Bool, Refusal, Done, Accepted, Denied, LimitKey, LimitReached, first_standing, refusal_in, room_tests}

-- if a command is accepted, no test holds
pub none_stands : (tests : List (Bool × Refusal)) (done given : Done) → first_standing tests done ≡ Accepted given → (k : ℕ) (stands : Bool) (why : Refusal) → slice_get tests k ≡ Some (stands, why) → stands ≡ false
none_stands [] done given e k stands why at = cc
none_stands ((true, first) ∷ tests) done given e k stands why at = cc
none_stands ((false, first) ∷ tests) done given e zero stands why at = sym (ap (λ (found : Option (Bool × Refusal)). option_map_or (λ test. test.0) found false) at)
none_stands ((false, first) ∷ tests) done given e (suc k) stands why at = none_stands tests done given e k stands why at

-- if one of the tests holds, the first that does gives the answer
pub standing_in : (tests : List (Bool × Refusal)) (done : Done) (why : Refusal) → refusal_in tests ≡ Some why → first_standing tests done ≡ Denied why
standing_in [] done why e = cc
standing_in ((true, first) ∷ tests) done why e = let one : first ≡ why = cc in ap Denied one
standing_in ((false, first) ∷ tests) done why e = standing_in tests done why e

-- if none does, the tests after them decide
pub standing_after : (tests more : List (Bool × Refusal)) (done : Done) → refusal_in tests ≡ None → first_standing (tests ++ more) done ≡ first_standing more done
standing_after [] more done e = refl
standing_after ((true, first) ∷ tests) more done e = cc
standing_after ((false, first) ∷ tests) more done e = standing_after tests more done e

-- nor is there any that holds
pub standing_none : (tests : List (Bool × Refusal)) (done : Done) → refusal_in tests ≡ None → first_standing tests done ≡ Accepted done
standing_none [] done e = refl
standing_none ((true, first) ∷ tests) done e = cc
standing_none ((false, first) ∷ tests) done e = standing_none tests done e

-- the first key of a path with less room than these lots
pub room_first : (room : LimitKey → ℕ) (lots : ℕ) (path : List LimitKey) → refusal_in (room_tests room lots path) ≡ option_map LimitReached (find (λ key. nat_lt (room key) lots) path)
room_first room lots [] = refl
room_first room lots (key ∷ path) =
    elim (cases_Bool (nat_lt (room key) lots)) [
      | inl hit ↦ rw hit refl
      | inr miss ↦ rw miss (room_first room lots path)
    ]
