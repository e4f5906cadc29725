-- The totals after a report.
use Rattle.gu_book.proofs.Words.{◌≡◌, ℕ, ◌+◌, ◌≤◌, ◌++◌, false, List, [], ◌∷◌, Option, Some, None, is_some, unwrap_or, refl, sym, ap, ◌∙◌, arith, length-append, option_to_list, sum_by-cons, AccountId, Entry, FirmId, Group, Id, LimitKey, Report, Side, Symbol, Tables, conflicts, with_match, Row, lots_at, limit_set_by, use_in, gave_up, lines_by, standing_of, AreFound, held_in, moved_into, moved_out, traded, Fits, open_day, opened_day, report_on, reports_of, moved_out-le-traded, reports_of-push, in_order, whole, few-kept, has_give_up-kept, limit_set-kept, open_day-kept, IsIdle, standing_of-idle, IsKept, is_kept_give_up, HoldsMore, lots_of_reports, made_a_trade, GiveUpKey, Totals}
use Rattle.gu_rules.proofs.Reported.{held_in-reported, traded-matched, traded-opened}
use Rattle.gu_rules.proofs.OrderedReports.{ordered-reported}

-- what is added with it: its own lots and those of the one that waited for it, or nothing
held-more : (reports : List Report) (rows : List Row) (r : Report) (side : Side) (account : AccountId) (symbol : Symbol) → conflicts (with_match r.match_id reports) r ≡ false
    → AreFound reports rows → moved_out reports rows side account symbol ≤ traded reports side account symbol
    → held_in (reports ++ r ∷ []) rows side account symbol ≡ held_in reports rows side account symbol + lots_of_reports (made_a_trade (with_match r.match_id reports) r) side account symbol
held-more reports rows r side account symbol fits found less = by (with_match r.match_id reports) refl fits
  where
    moved : (moved_into (reports ++ r ∷ []) rows side account symbol ≡ moved_into reports rows side account symbol) × (moved_out (reports ++ r ∷ []) rows side account symbol ≡ moved_out reports rows side account symbol)
    moved = held_in-reported reports rows r side account symbol found

    by : (sides : List Report) → with_match r.match_id reports ≡ sides → conflicts sides r ≡ false
        → held_in (reports ++ r ∷ []) rows side account symbol ≡ held_in reports rows side account symbol + lots_of_reports (made_a_trade sides r) side account symbol
    by [] e h = omega (arith, moved.0, moved.1, traded-opened reports r side account symbol e, less)
    by (waiting ∷ []) e h =
        let lots : Report → ℕ = λ q. lots_at q.side q.account q.symbol q.lots side account symbol in
        omega (
          arith,
          moved.0,
          moved.1,
          traded-matched reports waiting r side account symbol e,
          sum_by-cons lots waiting (r ∷ []),
          sum_by-cons lots r [],
          less,
        )
    by (first ∷ second ∷ more) e h = cc

-- a report
pub kept-reported : (reference : Tables) (history : List Entry) (entry : Entry) (old new : Totals) (r : Report) → IsKept reference history old
    → report_on (open_day history) entry ≡ Some r → opened_day entry ≡ None → lines_by entry ≡ [] → IsIdle entry
    → ((firm : FirmId) (id : Id) → gave_up firm id entry ≡ false) → ((group : Group) (key : LimitKey) → limit_set_by group key entry ≡ None) → Fits (reports_of history) r
    → new.today ≡ old.today → new.give_ups.keys ≡ old.give_ups.keys → new.trades ≡ old.trades ++ r ∷ [] → new.offers ≡ old.offers → new.limits ≡ old.limits
    → HoldsMore old.positions new.positions (made_a_trade (with_match r.match_id old.trades) r)
    → IsKept reference (history ++ entry ∷ []) new
kept-reported reference history entry old new r kept reports opens nothing idle gives sets fits today give_ups trades offers limits holds =
    let o = kept.orderly in
    let b = kept.beside in
    let rows = standing_of-idle history entry opens nothing o.balanced idle in
    let taken : reports_of (history ++ entry ∷ []) ≡ reports_of history ++ r ∷ [] = reports_of-push history entry ∙ ap (λ (q : Option Report). reports_of history ++ option_to_list q) reports in
    record {
      orderly = whole (history ++ entry ∷ []) (ordered-reported history entry r (in_order history o) opens idle fits taken rows) (few-kept history entry nothing o.few);
      beside = record {
        today = today ∙ b.today ∙ sym (open_day-kept history entry opens);
        reports = trades ∙ ap (λ (rs : List Report). rs ++ r ∷ []) b.reports ∙ sym taken;
        offers = offers ∙ b.offers ∙ sym rows;
        give_ups = λ firm id. ap (λ (keys : List GiveUpKey). is_kept_give_up keys firm id) give_ups ∙ b.give_ups firm id ∙ sym (has_give_up-kept history entry firm id (gives firm id));
        set = λ at on. rw limits (b.set at on ∙ ap (λ (q : Option ℕ). is_some q) (sym (limit_set-kept history entry at on (sets at on))));
        limits = λ at on. rw limits (b.limits at on ∙ ap (λ (q : Option ℕ). unwrap_or q 0) (sym (limit_set-kept history entry at on (sets at on))));
        uses = λ at on. rw limits (b.uses at on ∙ ap (λ (rs : List Row). use_in reference rs at on) (sym rows));
        positions = λ side account symbol.
            holds.lots side account symbol
            ∙ (λ i. b.positions side account symbol i + lots_of_reports (made_a_trade (with_match r.match_id (b.reports i)) r) side account symbol)
            ∙ sym (held-more (reports_of history) (standing_of history) r side account symbol fits.fits o.found
            (moved_out-le-traded (reports_of history) (standing_of history) side account symbol o.covered o.within))
            ∙ (λ i. held_in (sym taken i) (sym rows i) side account symbol);
        sums = λ side symbol. omega (arith, holds.sums side symbol, b.sums side symbol, length-append history (entry ∷ []));
      };
    }
