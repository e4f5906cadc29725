-- The use of a key after an entry: if it grows, it stays within the limit.
use Rattle.gu_rules.proofs.Words.{◌≡◌, ℕ, zero, suc, ◌+◌, ◌-◌, ◌<◌, ◌≤◌, ◌++◌, ◌&&◌, true, List, [], ◌∷◌, length, sum_by, Option, refl, sym, ap, ◌∙◌, arith, append-nil, append_assoc, inl, inr, subst, unwrap_or, cases_Bool, sum_by-cons, AllByRecursion, option_map_or, slice_index_or, key_eq-same, Later, Later-from_AllPairs, same_group-true, both, has_key, key_eq, same_group, lots_of, Command, OpenDay, GiveUp, Claim, Refuse, Reverse, Entry, Asked, Swept, SweepEntry, Group, LimitKey, Done, Reply, Accepted, Denied, Take, Tables, lots_under as lots_charged, changed, closed, reversed, taken, Row, left_in, IsAccepted, IsLegal, MayFollow, accepted_entry, limit_of, limit_set, path_after, room_of, use_in, use_of, standing_of, IsSweepOf, part, parts, group_view, offers_shown}
use Rattle.gu_terms.specs.declared.command.Claim.{Claim as ClaimOf}
use Rattle.gu_terms.specs.declared.command.GiveUp.{GiveUp as GiveUpOf}
use Rattle.gu_rules.proofs.AcceptedCommands.{giving_up, is-accepted, opening}
use Rattle.gu_rules.proofs.ChangedSums.{use_in-closed, use_in-next_day, use_in-reversed, use_in-taken, use_in-with_lines}
use Rattle.gu_rules.proofs.Facts.{claimable, refusable, reversible, row_at-other, today-is}
use Rattle.gu_rules.proofs.GivenUp.{givable}
use Rattle.gu_rules.proofs.InOrder.{IsInOrder}
use Rattle.gu_rules.proofs.LegalOrder.{IsLeft, IsOrdered, legal_ordered, sweep_left, takes_first}
use Rattle.gu_rules.proofs.Parts.{parts-same, standing_of-same}
use Rattle.gu_rules.proofs.Quiet.{denied-lines, denied-quiet, limit_set-kept}
use Rattle.gu_rules.proofs.Spoken.{denied-idle, refused, refused-others, refused-own, taken_back, taken_back-others, taken_back-own}
use Rattle.gu_rules.proofs.StandingLemmas.{IsIdle}
use Rattle.gu_rules.proofs.Stepping.{standing_of-idle, standing_of-lines, standing_of-one, standing_of-opened}
use Rattle.gu_rules.proofs.SweptOffers.{all-left}
use Rattle.gu_rules.proofs.SweptRooms.{all-used, none-used, under-room, used_by}
use Rattle.gu_rules.proofs.Takers.{claim-takes, claimed, sweep-takes, takes-others, takes-own}

-- if the use of a key grows with an entry, it is within the limit
abbrev pub StaysWithin : Tables → List Entry → Entry → Group → LimitKey → Type 0
StaysWithin reference history entry group key =
    use_of reference history group key < use_of reference (history ++ entry ∷ []) group key
    → use_of reference (history ++ entry ∷ []) group key ≤ limit_of (history ++ entry ∷ []) group key

module _ (reference : Tables) (history : List Entry) (group : Group) (key : LimitKey) where
  -- an entry that leaves the offers unchanged leaves the use unchanged
  still : (entry : Entry) → standing_of (history ++ entry ∷ []) ≡ standing_of history → StaysWithin reference history entry group key
  still entry same grows = absurd (omega (arith, grows, ap (λ (rs : List Row). use_in reference rs group key) same))

  -- so does one that increases no use
  lower : (entry : Entry) (rows : List Row) → standing_of (history ++ entry ∷ []) ≡ rows → use_in reference rows group key ≤ use_of reference history group key → StaysWithin reference history entry group key
  lower entry rows are less grows = absurd (omega (arith, grows, less, ap (λ (rs : List Row). use_in reference rs group key) are))

  -- lots for which there is room may be added
  higher : (entry : Entry) (lots : ℕ) → use_of reference (history ++ entry ∷ []) group key ≡ use_of reference history group key + lots → lots ≤ room_of reference history group key
      → limit_set (history ++ entry ∷ []) group key ≡ limit_set history group key → StaysWithin reference history entry group key
  higher entry lots more fits same grows =
      let limit : limit_of (history ++ entry ∷ []) group key ≡ limit_of history group key = ap (λ (set : Option ℕ). unwrap_or set 0) same in
      omega (arith, more, fits, limit, grows)

-- a property of each key by index is one of a key in the list
keyed-at : (P : LimitKey → Type 0) (keys : List LimitKey) (key : LimitKey) → has_key keys key ≡ true → ((k : ℕ) (d : LimitKey) → k < length keys → P (slice_index_or keys k d)) → P key
keyed-at P [] key has each = cc
keyed-at P (first ∷ keys) key has each =
    elim (cases_Bool (key_eq first key)) [
      | inl hit ↦ subst P (key_eq-same first key hit) (each zero first (omega arith))
      | inr miss ↦ keyed-at P keys key (sym (rw miss refl) ∙ has) (λ k d within. each (suc k) d (omega (arith, within)))
    ]

-- ---- commands

module _ (reference : Tables) (history : List Entry) (group : Group) (key : LimitKey) (o : IsInOrder history) where
  -- a claim
  claims : (it : ClaimOf) → IsAccepted reference history (Claim it) → StaysWithin reference history (claimed it.firm it.offer (left_in (standing_of history) it.offer)) group key
  claims it is =
      let n = it.offer in
      let f = claimable reference history it.firm n o is in
      let row = f.0 in
      let may = f.2 in
      let lots = left_in (standing_of history) n in
      let entry = claimed it.firm n lots in
      let takes = claim-takes it.firm n lots in
      let path = path_after reference row.offer in
      let rows = standing_of-one history entry n row (taken lots) takes.only.opens takes.only.lines o.balanced (takes-others entry n lots takes) may.there.at (takes-own entry n lots row takes) in
      let more = ap (λ (rs : List Row). use_in reference rs group key) rows ∙ use_in-taken reference (standing_of history) n row lots may.there.at group key in
      elim (cases_Bool (same_group group row.offer.group && has_key path key)) [
        | inl under ↦
            let parts = both _ _ under in
            let own : group ≡ row.offer.group = same_group-true group row.offer.group parts.0 in
            let fits : lots ≤ room_of reference history row.offer.group key = keyed-at (λ k. lots ≤ room_of reference history row.offer.group k) path key parts.1 may.room in
            let charged : lots_charged row.offer.group path lots group key ≡ lots = rw under refl in
            higher reference history group key entry (lots_charged row.offer.group path lots group key) more
            (omega (arith, charged, fits, ap (λ (g : Group). room_of reference history g key) own))
            (limit_set-kept history entry group key (takes.only.sets group key))
        | inr apart ↦
            let charged : lots_charged row.offer.group path lots group key ≡ 0 = rw apart refl in
            λ grows. absurd (omega (arith, grows, more, charged))
      ]

  -- a give-up
  gives_up : (it : GiveUpOf) → IsAccepted reference history (GiveUp it)
      → StaysWithin reference history (accepted_entry reference history (GiveUp it)) group key
  gives_up it is =
      let f = givable reference history it is in
      let report = f.0 in
      let at = f.1 in
      let may = f.2 in
      let entry = giving_up it.firm it.id it.report it.lines at (length (standing_of history) + 1) in
      let idle : IsIdle entry = record { takes = λ n. refl; gives = λ n. refl; closed = λ n. refl } in
      subst (λ (d : Done). StaysWithin reference history (Asked (GiveUp it) (Accepted d)) group key) (sym may.did)
      (lower reference history group key entry _ (standing_of-lines history entry it.firm it.report at it.lines refl idle refl o.balanced o.named)
      (omega (arith, use_in-with_lines reference (standing_of history) it.firm it.report at it.lines group key)))

  -- any accepted command
  accepted : (command : Command) → IsAccepted reference history command → StaysWithin reference history (accepted_entry reference history command) group key
  accepted (OpenDay it) is =
      lower reference history group key (opening it.day) _ (standing_of-opened history (opening it.day) it.day refl refl (record { takes = λ n. refl; gives = λ n. refl; closed = λ n. refl }) o.balanced)
      (omega (arith, use_in-next_day reference (standing_of history) group key))
  accepted (GiveUp it) is = gives_up it is
  accepted (Claim it) is = claims it is
  accepted (Refuse it) is =
      let f = refusable reference history it.firm it.offer it.why o is in
      let lots = left_in (standing_of history) it.offer in
      lower reference history group key (refused it.firm it.offer it.why lots) _
      (standing_of-one history (refused it.firm it.offer it.why lots) it.offer f.0 closed refl refl o.balanced (refused-others it.firm it.offer it.why lots) f.2.at (refused-own it.firm it.offer it.why lots f.0))
      (omega (arith, use_in-closed reference (standing_of history) it.offer f.0 f.2.at group key))
  accepted (Reverse it) is =
      let f = reversible reference history it.firm it.offer o is in
      subst (λ (lots : ℕ). StaysWithin reference history (taken_back it.firm it.offer lots) group key) (sym (today-is (standing_of history) it.offer f.0 f.2.there.at))
      (lower reference history group key (taken_back it.firm it.offer f.0.today) _
      (standing_of-one history (taken_back it.firm it.offer f.0.today) it.offer f.0 reversed refl refl o.balanced (taken_back-others it.firm it.offer f.0.today) f.2.there.at (taken_back-own it.firm it.offer f.0))
      (omega (arith, use_in-reversed reference (standing_of history) it.offer f.0 f.2.there.at group key)))
  accepted command is =
      let entry = accepted_entry reference history command in
      still reference history group key entry (standing_of-idle history entry refl refl o.balanced (record { takes = λ n. refl; gives = λ n. refl; closed = λ n. refl }))

-- ---- sweeps

module _ (reference : Tables) (sweep : SweepEntry) (group : Group) (key : LimitKey) where
  -- the lots that takes use, given these offers
  abbrev used : List Row → List Take → ℕ
  used rows takes = sum_by (used_by reference rows sweep.group (offers_shown reference [] sweep.group) group key) takes

  -- takes from later offers use the same as before
  used-later : (rows : List Row) (n lots : ℕ) (takes : List Take) → AllByRecursion (λ (t : Take). n < t.offer) takes → used (changed rows n (taken lots)) takes ≡ used rows takes
  used-later rows n lots [] later = refl
  used-later rows n lots (take ∷ takes) later =
      let same = row_at-other rows n take.offer (taken lots) (λ is. absurd (omega (arith, later.0, is))) in
      let one : used_by reference (changed rows n (taken lots)) sweep.group (offers_shown reference [] sweep.group) group key take ≡ used_by reference rows sweep.group (offers_shown reference [] sweep.group) group key take =
      ap (λ (found : Option Row). option_map_or (λ (r : Row). lots_charged r.offer.group (path_after reference r.offer) take.lots group key) found 0) same in
      omega (
        arith,
        sum_by-cons (used_by reference (changed rows n (taken lots)) sweep.group (offers_shown reference [] sweep.group) group key) take takes,
        sum_by-cons (used_by reference rows sweep.group (offers_shown reference [] sweep.group) group key) take takes,
        one,
        used-later rows n lots takes later.1,
      )

  -- takes, one after another, add their lots to the use
  all-charged : (takes : List Take) (history : List Entry) → IsOrdered reference history → Later (λ (a b : Take). a.offer < b.offer) takes → AllByRecursion (IsLeft (standing_of history)) takes
      → use_of reference (history ++ parts sweep takes) group key ≡ use_of reference history group key + used (standing_of history) takes
  all-charged [] history ordered later left = ap (λ (h : List Entry). use_of reference h group key) (append-nil history) ∙ omega arith
  all-charged (take ∷ takes) history ordered later left =
      let old = standing_of history in
      let next = history ++ part sweep take ∷ [] in
      let first = takes_first reference sweep take takes history ordered later left in
      let whole : use_of reference (history ++ parts sweep (take ∷ takes)) group key ≡ use_of reference (next ++ parts sweep takes) group key =
      ap (λ (h : List Entry). use_of reference h group key) (sym (append_assoc history (part sweep take ∷ []) (parts sweep takes))) in
      let mine : used_by reference old sweep.group (offers_shown reference [] sweep.group) group key take ≡ lots_charged first.row.offer.group (path_after reference first.row.offer) take.lots group key = rw first.at refl in
      omega (
        arith,
        whole,
        all-charged takes next first.ordered later.1 first.left,
        ap (λ (rs : List Row). use_in reference rs group key) first.rows,
        use_in-taken reference old take.offer first.row take.lots first.at group key,
        ap (λ (rs : List Row). used rs takes) first.rows,
        used-later old take.offer take.lots takes later.0,
        sum_by-cons (used_by reference old sweep.group (offers_shown reference [] sweep.group) group key) take takes,
        mine,
      )

  -- a sweep of a group's view
  pub sweeps : (history : List Entry) → IsOrdered reference history → IsSweepOf (group_view reference history sweep.group) sweep → StaysWithin reference history (Swept sweep) group key
  sweeps history ordered right =
      let rows = standing_of history in
      let later = Later-from_AllPairs (λ (a b : Take). a.offer < b.offer) sweep.takes right.ascending in
      let all = all-charged sweep.takes history ordered later (sweep_left reference history sweep right) in
      let same = standing_of-same (history ++ parts sweep sweep.takes) (history ++ Swept sweep ∷ []) (parts-same history sweep right.ascending) in
      let more : use_of reference (history ++ Swept sweep ∷ []) group key ≡ use_of reference history group key + used rows sweep.takes = sym (ap (λ (rs : List Row). use_in reference rs group key) same) ∙ all in
      let left = all-left reference history sweep right in
      elim (cases_Bool (same_group group sweep.group)) [
        | inl own ↦
            let one : group ≡ sweep.group = same_group-true group sweep.group own in
            let within = all-used reference rows sweep.group (offers_shown reference history sweep.group) group key sweep.takes later left in
            let fits = under-room reference history sweep.group key (lots_of sweep.takes) right.right.admissible in
            higher reference history group key (Swept sweep) (used rows sweep.takes) more (omega (arith, within, fits, ap (λ (g : Group). room_of reference history g key) one))
            (limit_set-kept history (Swept sweep) group key ((sweep-takes sweep).sets group key))
        | inr other ↦
            let none = none-used reference rows sweep.group (offers_shown reference history sweep.group) group key sweep.takes other left in
            λ grows. absurd (omega (arith, grows, more, none))
      ]

-- ---- all of it

-- an entry that may follow a legal history
pub stays_within : (reference : Tables) (history : List Entry) (entry : Entry) (group : Group) (key : LimitKey) → IsLegal reference history → length history < 1000000 → MayFollow reference history entry
    → StaysWithin reference history entry group key
stays_within reference history (Asked command (Denied why)) group key legal room may =
    let o = (legal_ordered reference history legal).order in
    still reference history group key (Asked command (Denied why)) (standing_of-idle history (Asked command (Denied why)) (denied-quiet history command why).opens (denied-lines command why) o.balanced (denied-idle command why))
stays_within reference history (Asked command (Accepted done)) group key legal room may =
    let is = is-accepted reference history command (Accepted done) room may refl in
    subst (λ (r : Reply). StaysWithin reference history (Asked command r) group key) (sym (may ∙ is.accepted))
    (accepted reference history group key (legal_ordered reference history legal).order command is)
stays_within reference history (Swept sweep) group key legal room may = sweeps reference sweep group key history (legal_ordered reference history legal) may.sweeps
