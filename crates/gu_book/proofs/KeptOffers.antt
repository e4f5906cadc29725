-- The totals after an entry that changes one offer.
use Rattle.gu_book.proofs.Words.{◌≡◌, ℕ, ◌+◌, ◌-◌, ◌≤◌, ◌++◌, false, List, [], ◌∷◌, Some, refl, sym, ap, ◌∙◌, arith, Entry, FirmId, Report, Tables, changed, closed, reversed, taken, Row, row_at, lots_at, standing_of, terms_of, AreWithin, open_day, reports_of, held_in-closed, held_in-reversed, held_in-taken, use_in-closed, use_in-reversed, use_in-taken, IsThere, all-changed, orderly-taken, orderly-refused, orderly-taken_back, today-le-moved, IsQuiet, unreported, refused, refused-others, refused-own, taken_back, taken_back-others, taken_back-own, standing_of-one, TakesOne, takes-others, takes-own, IsKept, HoldsMoved, SameEntries, UsesLess, UsesMore, Totals}
use Rattle.gu_terms.specs.declared.alloc_reject.AllocReject.{AllocReject}
use Rattle.gu_rules.proofs.Covered.{covered-taken}
use Rattle.gu_book.proofs.KeptQuiet.{beside-quiet}

-- these entries open no day, report nothing, give nothing up and set no limit
quiet-taken : (history : List Entry) (entry : Entry) (n lots : ℕ) → TakesOne entry n lots → IsQuiet history entry
quiet-taken history entry n lots takes = record { opens = takes.only.opens; reports = takes.only.reports (open_day history); gives_up = takes.only.gives_up; sets = takes.only.sets }

quiet-refused : (history : List Entry) (firm : FirmId) (n : ℕ) (why : AllocReject) (lots : ℕ) → IsQuiet history (refused firm n why lots)
quiet-refused history firm n why lots = record { opens = refl; reports = unreported (refused firm n why lots) (λ d. refl) (open_day history); gives_up = λ f i. refl; sets = λ g k. refl }

quiet-taken_back : (history : List Entry) (firm : FirmId) (n lots : ℕ) → IsQuiet history (taken_back firm n lots)
quiet-taken_back history firm n lots = record { opens = refl; reports = unreported (taken_back firm n lots) (λ d. refl) (open_day history); gives_up = λ f i. refl; sets = λ g k. refl }

-- no more is moved than an offer has, if only lots that are left are taken
pub within-taken : (history : List Entry) (n lots : ℕ) (row : Row) → row_at (standing_of history) n ≡ Some row → row.moved + lots ≤ row.offer.lots → AreWithin (standing_of history)
    → AreWithin (changed (standing_of history) n (taken lots))
within-taken history n lots row at less within = all-changed (λ r. r.moved ≤ r.offer.lots) (standing_of history) n row (taken lots) at less within

-- a claim, or a sweep of one offer
pub kept-taken : (reference : Tables) (history : List Entry) (old new : Totals) (entry : Entry) (n lots : ℕ) (row : Row) (report : Report) → TakesOne entry n lots → IsKept reference history old → IsThere history n row report
    → row.is_shut ≡ false → row.moved + lots ≤ row.offer.lots → SameEntries old new → new.offers ≡ changed old.offers n (taken lots)
    → UsesMore reference old.limits new.limits row.offer lots → HoldsMoved old.positions new.positions (terms_of report) report.account row.offer.account lots
    → IsKept reference (history ++ entry ∷ []) new
kept-taken reference history old new entry n lots row report takes kept there stands less same offers uses holds =
    let rows = standing_of history in
    let reports = reports_of history in
    let quiet = quiet-taken history entry n lots takes in
    let covered = covered-taken reports rows n row lots there.at stands kept.orderly.covered in
    let within = within-taken history n lots row there.at less kept.orderly.within in
    record {
      orderly = orderly-taken history entry n lots row takes kept.orderly there.at stands less;
      beside = beside-quiet reference history entry (changed rows n (taken lots)) old new quiet kept.beside same uses.limits
          (standing_of-one history entry n row (taken lots) takes.only.opens takes.only.lines kept.orderly.balanced (takes-others entry n lots takes) there.at (takes-own entry n lots row takes))
          (offers ∙ ap (λ (rs : List Row). changed rs n (taken lots)) kept.beside.offers)
          (λ group key. omega (arith, uses.uses group key, kept.beside.uses group key, use_in-taken reference rows n row lots there.at group key))
          (λ side account symbol.
          holds.lots side account symbol
          ∙ ap
          (λ (held : ℕ). held - lots_at report.side report.account report.symbol lots side account symbol + lots_at report.side row.offer.account report.symbol lots side account symbol)
          (kept.beside.positions side account symbol)
          ∙ sym (held_in-taken reports rows n row there.at side account symbol report lots there.behind covered within))
          (λ side symbol. omega (arith, holds.sums side symbol));
    }

-- a refusal
pub kept-refused : (reference : Tables) (history : List Entry) (old new : Totals) (firm : FirmId) (n : ℕ) (why : AllocReject) (lots : ℕ) (row : Row) (report : Report) → IsKept reference history old → IsThere history n row report
    → SameEntries old new → new.offers ≡ changed old.offers n closed → new.limits ≡ old.limits → new.positions ≡ old.positions
    → IsKept reference (history ++ refused firm n why lots ∷ []) new
kept-refused reference history old new firm n why lots row report kept there same offers limits positions =
    let rows = standing_of history in
    let reports = reports_of history in
    let quiet = quiet-refused history firm n why lots in
    record {
      orderly = orderly-refused history firm n why lots row kept.orderly there.at;
      beside = beside-quiet reference history (refused firm n why lots) (changed rows n closed) old new quiet kept.beside same
          (rw limits (record { known = λ group key. refl; lots = λ group key. refl }))
          (standing_of-one history (refused firm n why lots) n row closed refl refl kept.orderly.balanced (refused-others firm n why lots) there.at (refused-own firm n why lots row))
          (offers ∙ ap (λ (rs : List Row). changed rs n closed) kept.beside.offers)
          (λ group key. rw limits (kept.beside.uses group key ∙ sym (use_in-closed reference rows n row there.at group key)))
          (λ side account symbol. rw positions (kept.beside.positions side account symbol ∙ sym (held_in-closed reports rows n row there.at side account symbol)))
          (λ side symbol. rw positions (omega arith));
    }

-- a reversal
pub kept-taken_back : (reference : Tables) (history : List Entry) (old new : Totals) (firm : FirmId) (n : ℕ) (row : Row) (report : Report) → IsKept reference history old → IsThere history n row report
    → SameEntries old new → new.offers ≡ changed old.offers n reversed
    → UsesLess reference old.limits new.limits row.offer row.today → HoldsMoved old.positions new.positions (terms_of report) row.offer.account report.account row.today
    → IsKept reference (history ++ taken_back firm n row.today ∷ []) new
kept-taken_back reference history old new firm n row report kept there same offers uses holds =
    let rows = standing_of history in
    let reports = reports_of history in
    let quiet = quiet-taken_back history firm n row.today in
    record {
      orderly = orderly-taken_back history firm n row kept.orderly there.at;
      beside = beside-quiet reference history (taken_back firm n row.today) (changed rows n reversed) old new quiet kept.beside same uses.limits
          (standing_of-one history (taken_back firm n row.today) n row reversed refl refl kept.orderly.balanced (taken_back-others firm n row.today) there.at (taken_back-own firm n row))
          (offers ∙ ap (λ (rs : List Row). changed rs n reversed) kept.beside.offers)
          (λ group key. omega (arith, uses.uses group key, kept.beside.uses group key, use_in-reversed reference rows n row there.at group key))
          (λ side account symbol.
          holds.lots side account symbol
          ∙ ap
          (λ (held : ℕ). held - lots_at report.side row.offer.account report.symbol row.today side account symbol + lots_at report.side report.account report.symbol row.today side account symbol)
          (kept.beside.positions side account symbol)
          ∙ sym (held_in-reversed reports rows n row there.at side account symbol report there.behind kept.orderly.covered kept.orderly.within (today-le-moved history n row kept.orderly.balanced there.at)))
          (λ side symbol. omega (arith, holds.sums side symbol));
    }
