-- The totals of a history followed by a sweep's takes are those of the history followed by the sweep.
use Rattle.gu_book.proofs.Words.{ℕ, ◌*◌, ◌≤◌, List, length, Option, is_some, unwrap_or, ap, ◌∙◌, ◌≡◌, [], ◌∷◌, ◌++◌, arith, length-append, IsAscending, Entry, Swept, SweepEntry, Offer, Report, Side, Symbol, Tables, Row, lots_on, use_in, offers_of, standing_of, held_in, reports_of, parts, in_order, whole, sweep-takes, IsBeside, IsKept, Totals}
use Rattle.gu_rules.proofs.Parts.{ComeToSame, alike-push, ordered-same, parts-same, standing_of-same}

module _ (one two : List Entry) (same : ComeToSame one two) where
  -- the totals of one are those of the other
  beside-same : (reference : Tables) (totals : Totals) → IsBeside reference one totals → ((side : Side) (symbol : Symbol) → lots_on totals.positions side symbol ≤ 2000000 * length two)
      → IsBeside reference two totals
  beside-same reference totals b sums = record {
    today = b.today ∙ same.alike.day;
    reports = b.reports ∙ same.alike.reports;
    offers = b.offers ∙ standing_of-same one two same;
    give_ups = λ firm id. b.give_ups firm id ∙ same.alike.give_ups firm id;
    set = λ group key. b.set group key ∙ ap (λ (o : Option ℕ). is_some o) (same.alike.sets group key);
    limits = λ group key. b.limits group key ∙ ap (λ (o : Option ℕ). unwrap_or o 0) (same.alike.sets group key);
    uses = λ group key. b.uses group key ∙ ap (λ (rs : List Row). use_in reference rs group key) (standing_of-same one two same);
    positions = λ side account symbol.
        b.positions side account symbol
        ∙ ap (λ (rs : List Row). held_in (reports_of one) rs side account symbol) (standing_of-same one two same)
        ∙ ap (λ (qs : List Report). held_in qs (standing_of two) side account symbol) same.alike.reports;
    sums = sums;
  }

-- the totals of a history followed by a sweep's takes are those of the history followed by the sweep
pub kept-whole : (reference : Tables) (history : List Entry) (sweep : SweepEntry) (totals : Totals) → IsAscending sweep.takes → length (offers_of history) ≤ 16 * length history
    → ((side : Side) (symbol : Symbol) → lots_on totals.positions side symbol ≤ 2000000 * length history)
    → IsKept reference (history ++ parts sweep sweep.takes) totals → IsKept reference (history ++ Swept sweep ∷ []) totals
kept-whole reference history sweep totals ascending few sums kept =
    let same = parts-same history sweep ascending in
    let longer = length-append history (Swept sweep ∷ []) in
    let offers : length (offers_of (history ++ Swept sweep ∷ [])) ≡ length (offers_of history) =
    ap {A = List Offer} length (alike-push history (Swept sweep) (sweep-takes sweep)).offers in
    record {
      orderly = whole (history ++ Swept sweep ∷ [])
          (ordered-same (history ++ parts sweep sweep.takes) (history ++ Swept sweep ∷ []) same (in_order (history ++ parts sweep sweep.takes) kept.orderly)) (omega (arith, few, longer, offers));
      beside = beside-same (history ++ parts sweep sweep.takes) (history ++ Swept sweep ∷ []) same reference totals kept.beside
          (λ side symbol. omega (arith, sums side symbol, longer));
    }
