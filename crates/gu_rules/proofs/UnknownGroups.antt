-- A group that the reference lacks has no limits.
use Rattle.gu_rules.proofs.Words.{◌≡◌, ℕ, ◌&&◌, not, Bool, true, false, List, [], ◌∷◌, take, slice_get, zero, suc, Option, Some, None, inl, inr, refl, sym, ap, subst, filter_map, last_or, cases_Bool, same_group-true, SetLimit, Entry, Asked, Group, LimitKey, UnknownKey, LimitSet, Accepted, same_group, is_group, Tables, is_known_key, limit_tests, IsLegal, MayFollow, keys_in_order, limit_row, limit_rows, limit_set, limit_set_by}
use Rattle.gu_terms.specs.declared.command.SetLimit.{SetLimit as SetLimitOf}
use Rattle.gu_rules.specs.BookState.{BookState}
use Rattle.gu_rules.proofs.Passing.{none_stands}

known : (a b : Bool) → not (a && b) ≡ false → a ≡ true
known true b h = refl
known false b h = cc

-- an accepted limit is for a known group
limit_group : (reference : Tables) (before : List Entry) (it : SetLimitOf) → MayFollow reference before (Asked (SetLimit it) (Accepted LimitSet)) → is_group reference it.group ≡ true
limit_group reference before it may =
    known (is_group reference it.group) (is_known_key reference it.key)
    (none_stands (limit_tests reference it.group it.key it.lots) LimitSet LimitSet (sym may) 0 (not (is_group reference it.group && is_known_key reference it.key)) UnknownKey refl)

-- so no entry sets one for an unknown group
sets_nothing : (reference : Tables) (before : List Entry) (group : Group) (key : LimitKey) (entry : Entry) → is_group reference group ≡ false → MayFollow reference before entry
    → limit_set_by group key entry ≡ None
sets_nothing reference before group key (Asked (SetLimit it) (Accepted LimitSet)) unknown may =
    elim (cases_Bool (same_group it.group group)) [
      | inl hit ↦
          let here : is_group reference group ≡ true = subst (λ (g : Group). is_group reference g ≡ true) (same_group-true it.group group hit) (limit_group reference before it may) in
          cc
      | inr miss ↦ rw miss refl
    ]
sets_nothing reference before group key entry unknown may = refl

gives_nothing : {X Y : Type 0} (given : X → Option Y) (items : List X) → ((k : ℕ) (x : X) → slice_get items k ≡ Some x → given x ≡ None) → filter_map given items ≡ []
gives_nothing given [] none = refl
gives_nothing given (x ∷ items) none = rw (none zero x refl) (gives_nothing given items (λ k. none (suc k)))

-- a limit that wasn't set
pub limit_row-unset : (reference : Tables) (history : List Entry) (group : Group) (key : LimitKey) → limit_set history group key ≡ None → limit_row reference history group key ≡ None
limit_row-unset reference history group key e = rw e refl

-- the limits of an unknown group
pub unknown_group : (book : BookState) (group : Group) → IsLegal book.reference book.history → is_group book.reference group ≡ false → limit_rows book group ≡ []
unknown_group book group legal unknown =
    gives_nothing (limit_row book.reference book.history group) (keys_in_order book.reference)
    (λ k key at. limit_row-unset book.reference book.history group key
    (ap (last_or None)
    (gives_nothing (limit_set_by group key) book.history (λ j entry there. sets_nothing book.reference (take j book.history) group key entry unknown (legal.each j entry there)))))
