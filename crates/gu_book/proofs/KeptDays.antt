-- The totals after an opening, a limit, and a give-up.
use Rattle.gu_book.proofs.Words.{◌≡◌, ℕ, ◌-◌, ◌≤◌, ◌&&◌, ◌||◌, ◌++◌, Bool, true, false, List, [], ◌∷◌, length, map, Option, Some, is_some, unwrap_or, refl, sym, ap, ◌∙◌, if◌then◌else◌, inl, inr, cases_Bool, same_firm, same_id, same_group, Entry, FirmId, Group, Id, LimitKey, Line, Report, Tables, limit_in, same_place, is_of_trade, report_by, next_day, with_lines, Row, counted_under, lots_on, limit_of, limit_set, limit_set_by, use_in, has_give_up, standing_of, held_in, open_day, opened_day, reports_of, held_in-next_day, held_in-with_lines, use_in-next_day, use_in-with_lines, last-given, orderly-idle, orderly-lines, orderly-opened, reports_of-kept, has_give_up-kept, has_give_up-push, limit_set-kept, open_day-kept, unreported, IsIdle, either-false, standing_of-idle, standing_of-lines, standing_of-opened, giving_up, opening, setting, Sets, IsBeside, IsKept, is_kept_give_up, UsesNothing, GiveUpKey, Totals}
use Rattle.std.proofs.lemmas.List.Folds.{list_any-append}
use Rattle.gu_terms.specs.Lines.{lots_in_all}
use Rattle.gu_terms.specs.LimitKeys.{key_eq}
use Rattle.gu_terms.specs.declared.day.Day.{Day}
use Rattle.gu_limits.proofs.LimitLemmas.{same_place-sym}
use Rattle.gu_book.proofs.KeptQuiet.{bound-kept}

-- an opening
pub kept-opened : (reference : Tables) (history : List Entry) (old new : Totals) (day : Day) → IsKept reference history old
    → new.today ≡ Some day → new.trades ≡ old.trades → new.give_ups.keys ≡ old.give_ups.keys → new.offers ≡ map next_day old.offers
    → UsesNothing old.limits new.limits → new.positions ≡ old.positions
    → IsKept reference (history ++ opening day ∷ []) new
kept-opened reference history old new day kept today trades give_ups offers uses positions =
    let entry = opening day in
    let later = history ++ entry ∷ [] in
    let none = unreported entry (λ d. refl) (open_day history) in
    let idle : IsIdle entry = record { takes = λ n. refl; gives = λ n. refl; closed = λ n. refl } in
    let rows = standing_of-opened history entry day refl refl idle kept.orderly.balanced in
    let reports = reports_of-kept history entry none in
    let b = kept.beside in
    record {
      orderly = orderly-opened history entry day kept.orderly none refl refl idle;
      beside = record {
        today = today ∙ sym (last-given opened_day history entry day refl);
        reports = trades ∙ b.reports ∙ sym reports;
        offers = offers ∙ ap (map next_day) b.offers ∙ sym rows;
        give_ups = λ firm id. ap (λ (keys : List GiveUpKey). is_kept_give_up keys firm id) give_ups ∙ b.give_ups firm id ∙ sym (has_give_up-kept history entry firm id refl);
        set = λ group key. uses.limits.known group key ∙ b.set group key ∙ ap (λ (o : Option ℕ). is_some o) (sym (limit_set-kept history entry group key refl));
        limits = λ group key. uses.limits.lots group key ∙ b.limits group key ∙ ap (λ (o : Option ℕ). unwrap_or o 0) (sym (limit_set-kept history entry group key refl));
        uses = λ group key. uses.uses group key ∙ sym (use_in-next_day reference (standing_of history) group key) ∙ ap (λ (rs : List Row). use_in reference rs group key) (sym rows);
        positions = λ side account symbol.
            rw positions (b.positions side account symbol)
            ∙ sym (held_in-next_day (reports_of history) (standing_of history) side account symbol)
            ∙ (λ i. held_in (sym reports i) (sym rows i) side account symbol);
        sums = λ side symbol. rw positions (bound-kept history entry (lots_on old.positions side symbol) (b.sums side symbol));
      };
    }

-- a limit
pub kept-set : (reference : Tables) (history : List Entry) (old new : Totals) (group : Group) (key : LimitKey) (lots : ℕ) → IsKept reference history old
    → new.today ≡ old.today → new.trades ≡ old.trades → new.give_ups.keys ≡ old.give_ups.keys → new.offers ≡ old.offers
    → Sets old.limits new.limits group key lots → new.positions ≡ old.positions
    → IsKept reference (history ++ setting group key lots ∷ []) new
kept-set reference history old new group key lots kept today trades give_ups offers sets positions =
    let none = unreported entry (λ d. refl) (open_day history) in
    let idle : IsIdle entry = record { takes = λ n. refl; gives = λ n. refl; closed = λ n. refl } in
    let rows = standing_of-idle history entry refl refl kept.orderly.balanced idle in
    let reports = reports_of-kept history entry none in
    record {
      orderly = orderly-idle history entry kept.orderly none refl refl idle;
      beside = record {
        today = today ∙ b.today ∙ sym (open_day-kept history entry refl);
        reports = trades ∙ b.reports ∙ sym reports;
        offers = offers ∙ b.offers ∙ sym rows;
        give_ups = λ firm id. ap (λ (keys : List GiveUpKey). is_kept_give_up keys firm id) give_ups ∙ b.give_ups firm id ∙ sym (has_give_up-kept history entry firm id refl);
        set = λ at on. sets.known at on ∙ ap (λ known. same_place at on group key || known) (b.set at on) ∙ known at on;
        limits = λ at on. sets.limits at on ∙ limits at on;
        uses = λ at on. sets.uses at on ∙ b.uses at on ∙ ap (λ (rs : List Row). use_in reference rs at on) (sym rows);
        positions = λ side account symbol. rw positions (b.positions side account symbol) ∙ (λ i. held_in (sym reports i) (sym rows i) side account symbol);
        sums = λ side symbol. rw positions (bound-kept history entry (lots_on old.positions side symbol) (b.sums side symbol));
      };
    }
  where
    entry : Entry
    entry = setting group key lots

    b : IsBeside reference history old
    b = kept.beside

    -- two ways of comparing a place with the one that is set
    turned : (at : Group) (on : LimitKey) → same_place at on group key ≡ (same_group group at && key_eq key on)
    turned at on = same_place-sym at on group key

    given : (at : Group) (on : LimitKey) → (same_group group at && key_eq key on) ≡ true → limit_set (history ++ entry ∷ []) at on ≡ Some lots
    given at on hit = last-given (limit_set_by at on) history entry lots (rw hit refl)

    left : (at : Group) (on : LimitKey) → (same_group group at && key_eq key on) ≡ false → limit_set (history ++ entry ∷ []) at on ≡ limit_set history at on
    left at on miss = limit_set-kept history entry at on (rw miss refl)

    known : (at : Group) (on : LimitKey) → (same_place at on group key || is_some (limit_set history at on)) ≡ is_some (limit_set (history ++ entry ∷ []) at on)
    known at on =
        elim (cases_Bool (same_group group at && key_eq key on)) [
          | inl hit ↦ rw (turned at on, hit, given at on hit) refl
          | inr miss ↦ rw (turned at on, miss, left at on miss) refl
        ]

    limits : (at : Group) (on : LimitKey) → (if same_place at on group key then lots else limit_in old.limits at on) ≡ limit_of (history ++ entry ∷ []) at on
    limits at on =
        elim (cases_Bool (same_group group at && key_eq key on)) [
          | inl hit ↦ rw (turned at on, hit, given at on hit) refl
          | inr miss ↦ rw (turned at on, miss, left at on miss) (b.limits at on)
        ]

-- a give-up of a matched report with enough free lots
pub kept-given_up : (reference : Tables) (history : List Entry) (old new : Totals) (id : Id) (report : Report) (lines : List Line) (group : Group) (first : ℕ) → IsKept reference history old
    → new.today ≡ old.today → new.trades ≡ old.trades → new.give_ups.keys ≡ old.give_ups.keys ++ record { firm = report.firm; id = id } ∷ []
    → new.offers ≡ with_lines old.offers report.firm report.id group lines → new.limits ≡ old.limits → new.positions ≡ old.positions
    → report_by (reports_of history) report.firm report.id ≡ Some report → is_of_trade (reports_of history) report ≡ true
    → lots_in_all lines ≤ report.lots - counted_under (standing_of history) report.firm report.id → length lines ≤ 16
    → IsKept reference (history ++ giving_up report.firm id report.id lines group first ∷ []) new
kept-given_up reference history old new id report lines group first kept today trades give_ups offers limits positions found matched free few =
    let none = unreported entry (λ d. refl) (open_day history) in
    let idle : IsIdle entry = record { takes = λ n. refl; gives = λ n. refl; closed = λ n. refl } in
    let made = with_lines (standing_of history) report.firm report.id group lines in
    let rows = standing_of-lines history entry report.firm report.id group lines refl idle refl kept.orderly.balanced kept.orderly.named in
    let reports = reports_of-kept history entry none in
    record {
      orderly = orderly-lines history entry report group lines kept.orderly none refl idle refl found matched free few;
      beside = record {
        today = today ∙ b.today ∙ sym (open_day-kept history entry refl);
        reports = trades ∙ b.reports ∙ sym reports;
        offers = offers ∙ ap (λ (rs : List Row). with_lines rs report.firm report.id group lines) b.offers ∙ sym rows;
        give_ups = ids;
        set = λ at on. rw limits (b.set at on ∙ ap (λ (o : Option ℕ). is_some o) (sym (limit_set-kept history entry at on refl)));
        limits = λ at on. rw limits (b.limits at on ∙ ap (λ (o : Option ℕ). unwrap_or o 0) (sym (limit_set-kept history entry at on refl)));
        uses = λ at on.
            rw limits (b.uses at on)
            ∙ sym (use_in-with_lines reference (standing_of history) report.firm report.id group lines at on)
            ∙ ap (λ (rs : List Row). use_in reference rs at on) (sym rows);
        positions = λ side account symbol.
            rw positions (b.positions side account symbol)
            ∙ sym (held_in-with_lines (reports_of history) (standing_of history) report.firm report.id group lines side account symbol)
            ∙ (λ i. held_in (sym reports i) (sym rows i) side account symbol);
        sums = λ side symbol. rw positions (bound-kept history entry (lots_on old.positions side symbol) (b.sums side symbol));
      };
    }
  where
    entry : Entry
    entry = giving_up report.firm id report.id lines group first

    b : IsBeside reference history old
    b = kept.beside

    ids : (firm : FirmId) (other : Id) → is_kept_give_up new.give_ups.keys firm other ≡ has_give_up (history ++ entry ∷ []) firm other
    ids firm other =
        let key : GiveUpKey = record { firm = report.firm; id = id } in
        let is_it : GiveUpKey → Bool = λ k. same_firm k.firm firm && same_id k.id other in
        ap (λ (keys : List GiveUpKey). is_kept_give_up keys firm other) give_ups
        ∙ list_any-append is_it old.give_ups.keys (key ∷ [])
        ∙ (λ i. b.give_ups firm other i || either-false (is_it key) i)
        ∙ sym (has_give_up-push history entry firm other)
