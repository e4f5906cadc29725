-- The totals after an entry that opens no day, reports nothing, gives nothing up and sets no limit.
use Rattle.gu_book.proofs.Words.{ℕ, ◌*◌, ◌≤◌, List, [], ◌∷◌, ◌++◌, length, arith, length-append, ◌≡◌, Option, is_some, unwrap_or, sym, ap, ◌∙◌, refl, AccountId, Command, Entry, Asked, Group, LimitKey, Refusal, Denied, Report, Side, Symbol, Tables, SameLimits, used_in, Row, lots_in, lots_on, use_in, standing_of, held_in, reports_of, orderly-idle, reports_of-kept, IsQuiet, denied-lines, denied-quiet, has_give_up-kept, limit_set-kept, open_day-kept, denied-idle, standing_of-idle, IsBeside, IsKept, is_kept_give_up, SameEntries, GiveUpKey, Totals}

-- the lots on a side stay within what this many entries can bring
pub bound-kept : (history : List Entry) (entry : Entry) (lots : ℕ) → lots ≤ 2000000 * length history → lots ≤ 2000000 * length (history ++ entry ∷ [])
bound-kept history entry lots less = omega (arith, length-append history (entry ∷ []), less)

-- afterwards the totals are unchanged, except for offers, uses and positions
pub beside-quiet : (reference : Tables) (history : List Entry) (entry : Entry) (rows : List Row) (old new : Totals) → IsQuiet history entry → IsBeside reference history old
    → SameEntries old new → SameLimits old.limits new.limits → standing_of (history ++ entry ∷ []) ≡ rows → new.offers ≡ rows
    → ((group : Group) (key : LimitKey) → used_in new.limits group key ≡ use_in reference rows group key)
    → ((side : Side) (account : AccountId) (symbol : Symbol) → lots_in new.positions side account symbol ≡ held_in (reports_of history) rows side account symbol)
    → ((side : Side) (symbol : Symbol) → lots_on new.positions side symbol ≤ lots_on old.positions side symbol)
    → IsBeside reference (history ++ entry ∷ []) new
beside-quiet reference history entry rows old new quiet beside same limits are offers uses positions sums = record {
  today = same.today ∙ beside.today ∙ sym (open_day-kept history entry quiet.opens);
  reports = same.trades ∙ beside.reports ∙ sym (reports_of-kept history entry quiet.reports);
  offers = offers ∙ sym are;
  give_ups = λ firm id.
      ap (λ (keys : List GiveUpKey). is_kept_give_up keys firm id) same.give_ups ∙ beside.give_ups firm id ∙ sym (has_give_up-kept history entry firm id (quiet.gives_up firm id));
  set = λ group key. limits.known group key ∙ beside.set group key ∙ ap (λ (o : Option ℕ). is_some o) (sym (limit_set-kept history entry group key (quiet.sets group key)));
  limits = λ group key. limits.lots group key ∙ beside.limits group key ∙ ap (λ (o : Option ℕ). unwrap_or o 0) (sym (limit_set-kept history entry group key (quiet.sets group key)));
  uses = λ group key. uses group key ∙ ap (λ (rs : List Row). use_in reference rs group key) (sym are);
  positions = λ side account symbol.
      positions side account symbol
      ∙ ap (λ (rs : List Row). held_in (reports_of history) rs side account symbol) (sym are)
      ∙ ap (λ (rs : List Report). held_in rs (standing_of (history ++ entry ∷ [])) side account symbol) (sym (reports_of-kept history entry quiet.reports));
  sums = λ side symbol. bound-kept history entry (lots_on new.positions side symbol) (omega (arith, sums side symbol, beside.sums side symbol));
}

-- a refusal leaves the totals unchanged
pub kept-denied : (reference : Tables) (history : List Entry) (totals : Totals) (command : Command) (why : Refusal) → IsKept reference history totals → IsKept reference (history ++ Asked command (Denied why) ∷ []) totals
kept-denied reference history totals command why kept =
    let entry = Asked command (Denied why) in
    let quiet = denied-quiet history command why in
    let idle = denied-idle command why in
    record {
      orderly = orderly-idle history entry kept.orderly quiet.reports quiet.opens (denied-lines command why) idle;
      beside = beside-quiet reference history entry (standing_of history) totals totals quiet kept.beside (record { today = refl; trades = refl; give_ups = refl })
          (record { known = λ group key. refl; lots = λ group key. refl })
          (standing_of-idle history entry quiet.opens (denied-lines command why) kept.orderly.balanced idle) kept.beside.offers kept.beside.uses kept.beside.positions
          (λ side symbol. omega arith);
    }
