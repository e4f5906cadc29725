-- The lots swept in a legal history are bounded: each sweep takes from at most 4,096 offers, and from each no more than it has.
use Rattle.gu_rules.proofs.Words.{◌≡◌, ℕ, zero, suc, ◌+◌, ◌-◌, ◌*◌, ◌≤◌, ◌<◌, ◌++◌, Bool, true, false, List, [], ◌∷◌, length, slice_get, take, Option, Some, None, if◌then◌else◌, refl, sym, ap, ◌∙◌, arith, length-append, subst, AllByRecursion, option_and_then, option_map, recursion_from_All, sum_by-append, sum_by-cons, lots_of, AgreementId, Entry, Asked, Swept, SweepEntry, Offer, agreement_between, Tables, all-at, Row, left_of, open_numbers, ViewOffer as ShownOffer, IsLegal, MayFollow, path_after, lines_by, offers_of, standing_from, standing_of, offers_shown, shown, shown_at, MaySweep}
use Rattle.gu_terms.specs.Histories.{lots_swept, swept_by}
use Rattle.gu_offers.specs.Rows.{IsSound}
use Rattle.gu_view.specs.Takes.{total}
use Rattle.gu_rules.proofs.LegalOrder.{IsOrdered, follows, none-ordered}
use Rattle.gu_rules.proofs.Onward.{each_legal}
use Rattle.gu_rules.proofs.StandingLemmas.{offers_of-push}
use Rattle.gu_rules.proofs.ViewLemmas.{each-given, few-given, offers-are}

-- the lots that the first entries swept, and those of the next
pub next-swept : (history : List Entry) (place lots : ℕ) → option_map swept_by (slice_get history place) ≡ Some lots → lots_swept (take (place + 1) history) ≡ lots_swept (take place history) + lots
next-swept history place lots is = let next : place + 1 ≡ suc place = omega arith in ap (λ n. lots_swept (take n history)) next ∙ by history place is
  where
    by : (entries : List Entry) (at : ℕ) → option_map swept_by (slice_get entries at) ≡ Some lots → lots_swept (take (suc at) entries) ≡ lots_swept (take at entries) + lots
    by [] at e = cc
    by (entry ∷ later) zero e = let own : swept_by entry ≡ lots = cc in omega (arith, sum_by-cons swept_by entry [], own)
    by (entry ∷ later) (suc at) e = omega (arith, by later at e, sum_by-cons swept_by entry (take (suc at) later), sum_by-cons swept_by entry (take at later))

-- no offer has more than 1,000,000 lots, since none is made with more. (The lists in the definitions have no such bound.)
abbrev pub AreSmall : List Offer → Type 0
AreSmall offers = AllByRecursion (λ (o : Offer). o.lots ≤ 1000000) offers

-- nor has any as it is now
abbrev AreSmallRows : List Row → Type 0
AreSmallRows rows = AllByRecursion (λ (r : Row). r.offer.lots ≤ 1000000) rows

rows-small : (history : List Entry) (n : ℕ) (offers : List Offer) → AreSmall offers → AreSmallRows (standing_from history n offers)
rows-small history n [] small = tt
rows-small history n (offer ∷ offers) small = (small.0, rows-small history (n + 1) offers small.1)

offers-small : (history : List Entry) (n : ℕ) (offers : List Offer) → AllByRecursion IsSound (standing_from history n offers) → AreSmall offers
offers-small history n [] sound = tt
offers-small history n (offer ∷ offers) sound = (sound.0.lots.most, offers-small history (n + 1) offers sound.1)

-- sound offers are small
pub sound-small : (history : List Entry) → AllByRecursion IsSound (standing_of history) → AreSmall (offers_of history)
sound-small history sound = offers-small history 1 (offers_of history) sound

-- the first offers, if more were made
first-small : (offers more : List Offer) → AreSmall (offers ++ more) → AreSmall offers
first-small [] more small = tt
first-small (offer ∷ offers) more small = (small.0, first-small offers more small.1)

-- ---- what a view shows of small offers

left-small : (row : Row) → row.offer.lots ≤ 1000000 → left_of row ≤ 1000000
left-small row small = by row.is_shut
  where
    by : (shut : Bool) → (if shut then 0 else row.offer.lots - row.moved) ≤ 1000000
    by true = omega arith
    by false = omega arith

shown-small : (reference : Tables) (rows : List Row) → AreSmallRows rows → (n : ℕ) (o : ShownOffer) → shown_at reference rows n ≡ Some o → o.lots ≤ 1000000
shown-small reference rows small zero o is = cc
shown-small reference rows small (suc place) o is = by (slice_get rows place) refl is
  where
    of : (row : Row) → row.offer.lots ≤ 1000000 → (between : Option AgreementId)
        → option_map {U = ShownOffer} (λ id. record { number = suc place; lots = left_of row; agreement = id; path = path_after reference row.offer }) between ≡ Some o → o.lots ≤ 1000000
    of row most None h = cc
    of row most (Some id) h =
        let made : ShownOffer = record { number = suc place; lots = left_of row; agreement = id; path = path_after reference row.offer } in
        let same : made ≡ o = cc in
        subst (λ (x : ShownOffer). x.lots ≤ 1000000) same (left-small row most)

    by : (found : Option Row) → slice_get rows place ≡ found
        → option_and_then (shown reference) (option_map (λ (r : Row). record { number = suc place; offer = r.offer; left = left_of r }) found) ≡ Some o → o.lots ≤ 1000000
    by None e h = cc
    by (Some row) e h = of row (all-at (λ (r : Row). r.offer.lots ≤ 1000000) rows place row small e) (agreement_between reference row.offer.firm row.offer.account) h

-- the lots that may be taken from small offers
total-small : (lots : ℕ → ℕ) (offers : List ShownOffer) → AllByRecursion (λ (o : ShownOffer). lots o.number ≤ o.lots) offers → AllByRecursion (λ (o : ShownOffer). o.lots ≤ 1000000) offers
    → total offers lots ≤ 1000000 * length offers
total-small lots [] taken small = omega arith
total-small lots (o ∷ offers) taken small = omega (arith, sum_by-cons (λ (x : ShownOffer). lots x.number) o offers, total-small lots offers taken.1 small.1, taken.0, small.0)

-- ---- sweeps

-- a sweep takes at most 4,096,000,000 lots
sweep-small : (reference : Tables) (before : List Entry) (sweep : SweepEntry) → IsOrdered reference before → AreSmall (offers_of before) → MaySweep reference before sweep → sweep.lots ≤ 4096000000
sweep-small reference before sweep ordered small may =
    let offers = offers_shown reference before sweep.group in
    let right = may.sweeps.right in
    let rows = standing_of before in
    let numbers = open_numbers rows sweep.group in
    let are = offers-are reference rows sweep.group in
    let few : length offers ≤ 4096 = omega (arith, ap length are, few-given (shown_at reference rows) numbers, ordered.shown.few sweep.group) in
    let each : AllByRecursion (λ (o : ShownOffer). o.lots ≤ 1000000) offers =
    subst (AllByRecursion (λ (o : ShownOffer). o.lots ≤ 1000000)) (sym are)
    (each-given (λ (o : ShownOffer). o.lots ≤ 1000000) (shown_at reference rows) numbers (shown-small reference rows (rows-small before 1 (offers_of before) small))) in
    let taken = recursion_from_All (λ (o : ShownOffer). lots_of sweep.takes o.number ≤ o.lots) offers right.admissible.offers in
    omega (arith, total-small (lots_of sweep.takes) offers taken each, right.taken, few)

-- an entry sweeps no more
entry-small : (reference : Tables) (before : List Entry) (entry : Entry) → IsOrdered reference before → AreSmall (offers_of before) → MayFollow reference before entry → swept_by entry ≤ 4096000000
entry-small reference before (Asked command reply) ordered small may = omega arith
entry-small reference before (Swept sweep) ordered small may = sweep-small reference before sweep ordered small may

-- an orderly history with small offers sweeps at most that many lots
record SweepsFew (reference : Tables) (history : List Entry) : Type 0 where
  ordered : IsOrdered reference history
  few : AreSmall (offers_of history) → lots_swept history ≤ 4096000000 * length history

-- a legal history of small offers sweeps at most 4,096,000,000 lots for each entry
pub few-swept : (reference : Tables) (history : List Entry) → IsLegal reference history → AreSmall (offers_of history) → lots_swept history ≤ 4096000000 * length history
few-swept reference history legal small = (each_legal reference (SweepsFew reference) (record { ordered = none-ordered reference; few = λ none. omega arith }) next history legal).few small
  where
    next : (before : List Entry) (entry : Entry) → length before < 1000000 → MayFollow reference before entry → SweepsFew reference before → SweepsFew reference (before ++ entry ∷ [])
    next before entry room may so_far = record {
      ordered = follows reference before entry room may so_far.ordered;
      few = λ all.
          let first = first-small (offers_of before) (lines_by entry) (subst AreSmall (offers_of-push before entry) all) in
          omega (
            arith,
            so_far.few first,
            entry-small reference before entry so_far.ordered first may,
            sum_by-append swept_by before (entry ∷ []),
            sum_by-cons swept_by entry [],
            length-append before (entry ∷ []),
          );
    }
