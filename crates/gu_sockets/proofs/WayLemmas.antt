-- Ways of firms of which one door has changed, at the same listener.
use Rattle.std.proofs.Common.{◌≡◌, ◌<◌, ℕ, Bool, true, false, not, nat_eq, List, [], ◌∷◌, Option, Some, None, Result, Ok, Err, IfOk, IfSome, IsSomeAnd, OnErr, map, length, get_or, ap, refl, sym, subst, ◌∙◌, ◌||◌, set, arith, slice_get, All}
use Rattle.std.specs.Prelude.{slice_set}
use Rattle.std.specs.List.{list_any}
use Rattle.std.specs.Option.{option_map}
use Rattle.std.proofs.lemmas.List.{map-set, set-get_or, get_or-set_same, length-set}
use Rattle.std.proofs.lemmas.List.Elements.{All-head}
use Rattle.std.proofs.lemmas.List.Folds.{list_any_at}
use Rattle.std.proofs.lemmas.Option.{slice_get_read, slice_get-map}
use Rattle.gu_sockets.specs.declared.door.Door.{Door}
use Rattle.gu_sockets.specs.declared.firm_ways.Arrival.{Arrival}
use Rattle.gu_sockets.specs.declared.firm_ways.Arrival.TheVariants.{ByPort, ByDoor}
use Rattle.gu_sockets.specs.declared.firm_ways.FirmWays.{FirmWays}
use Rattle.gu_sockets.specs.Doorways.{CameIn, KeepsListeners, is_door_due, is_open, is_there, is_way_due}

-- the listeners are the same, in the same order
pub same_listeners : {D : Type 0} (doors : List (Door D)) (number : ℕ) (old new : Door D)
    → old ≡ get_or doors number old → new.listener ≡ old.listener
    → map (λ (door : Door D). door.listener) (slice_set doors number new) ≡ map (λ (door : Door D). door.listener) doors
same_listeners {D} doors number old new is same =
    let f : Door D → D = λ door. door.listener in
    map-set f doors number new
    ∙ ap (λ (one : D). set (map f doors) number one) same
    ∙ sym (map-set f doors number old)
    ∙ ap (λ (one : Door D). map f (set doors number one)) is
    ∙ ap (map f) (set-get_or doors number old)

-- the second of two holds, so one of them does
pub second_holds : (a b : Bool) → b ≡ true → (a || b) ≡ true
second_holds true b holds = refl
second_holds false b holds = holds

-- the first of two holds, so one of them does
pub first_holds : (a b : Bool) → a ≡ true → (a || b) ≡ true
first_holds a b holds = ap (λ (one : Bool). one || b) holds

-- one that is due then makes one of them due
pub one_is_due : {D : Type 0} (doors : List (Door D)) (number : ℕ) (new : Door D) (port : Bool) → number < length doors → new.is_due ≡ true
    → (port || list_any (λ (door : Door D). door.is_due) (slice_set doors number new)) ≡ true
one_is_due {D} doors number new port within due =
    let f : Door D → Bool = λ door. door.is_due in
    let there = get_or-set_same doors number new new within in
    let count = length-set doors number new in
    second_holds port _ (list_any_at f (set doors number new) number new (omega (arith, count, within)) (ap f there ∙ due))

-- the one at its place
pub one_there : {D : Type 0} (doors : List (Door D)) (number : ℕ) (new : Door D) → number < length doors
    → slice_get (slice_set doors number new) number ≡ Some new
one_there doors number new within =
    let count = length-set doors number new in
    slice_get_read (set doors number new) (length doors) number new (sym count) within (sym (get_or-set_same doors number new new within))

-- who was accepted by what listens at a door came in by it
pub came_by_door : {D B : Type 0} (accepts : D → B → Type 0) (doors : List (Door D)) (number : ℕ) (door : Door D) (one : B)
    → number < length doors → door ≡ get_or doors number door → accepts door.listener one
    → IsSomeAnd (slice_get (map (λ (door : Door D). door.listener) doors) number) (λ listener. accepts listener one)
came_by_door {D} accepts doors number door one within is accepted =
    let f : Door D → D = λ door. door.listener in
    let there = slice_get_read doors (length doors) number door refl within is in
    let listens : slice_get (map f doors) number ≡ Some door.listener = slice_get-map f doors number ∙ ap (option_map f) there in
    subst (λ (listener : Option D). IsSomeAnd listener (λ l. accepts l one)) (sym listens) accepted

-- who came in after none had came in by the ways that there were before
pub came_before : {P D A B : Type 0} (at_port : P → A → Type 0) (at_door : D → B → Type 0) (old new : FirmWays P D) (who : Arrival A B)
    → KeepsListeners old new → CameIn at_port at_door new who → CameIn at_port at_door old who
came_before {P} {D} at_port at_door old new (ByPort one) kept came =
    subst (λ (listener : Option P). IsSomeAnd listener (λ l. at_port l one)) kept.port came
came_before {P} {D} at_port at_door old new (ByDoor number one) kept came =
    subst (λ (listeners : List D). IsSomeAnd (slice_get listeners number) (λ l. at_door l one)) kept.doors came

-- the same for a result
pub who_came_before : {P D A B E : Type 0} (at_port : P → A → Type 0) (at_door : D → B → Type 0) (old new : FirmWays P D)
    (result : Result (Option (Arrival A B)) E) → KeepsListeners old new → IfOk result (λ who. IfSome who (CameIn at_port at_door new))
    → IfOk result (λ who. IfSome who (CameIn at_port at_door old))
who_came_before at_port at_door old new (Ok (Some who)) kept came = came_before at_port at_door old new who kept came
who_came_before at_port at_door old new (Ok None) kept came = tt
who_came_before at_port at_door old new (Err error) kept came = tt

-- what holds anyway holds after a failure
pub after_failure : {T E : Type 0} (result : Result T E) (P : Type 0) → P → OnErr result P
after_failure (Ok value) P holds = tt
after_failure (Err error) P holds = holds

-- if each door that is there is due, one is due as long as one is there
pub open_is_due : {P D : Type 0} (port : Option (Door P)) (doors : List (Door D)) → is_door_due port ≡ is_there port
    → All (λ (door : Door D). door.is_due ≡ true) doors → (is_there port || not (nat_eq (length doors) 0)) ≡ true
    → (is_door_due port || list_any (λ (door : Door D). door.is_due) doors) ≡ true
open_is_due port [] same all is_open = ap (λ (one : Bool). one || false) same ∙ is_open
open_is_due {P} {D} port (door ∷ doors) same all is_open =
    second_holds (is_door_due port) _ (first_holds door.is_due _ (All-head (λ (one : Door D). one.is_due ≡ true) door doors all))

-- the same for new ways
pub new_is_due : {P D : Type 0} (ways : FirmWays P D) (port : Option (Door P)) (doors : List (Door D)) → ways.port ≡ port → ways.doors.items ≡ doors
    → is_door_due port ≡ is_there port → All (λ (door : Door D). door.is_due ≡ true) doors → is_open ways ≡ true → is_way_due ways ≡ true
new_is_due {P} {D} ways port doors is_port are_doors same all is_open =
    open_is_due ways.port ways.doors.items (subst (λ (one : Option (Door P)). is_door_due one ≡ is_there one) (sym is_port) same)
    (subst (λ (each : List (Door D)). All (λ (door : Door D). door.is_due ≡ true) each) (sym are_doors) all) is_open
