-- One more entry.
use Rattle.gu_rules.proofs.Words.{◌≡◌, ℕ, ◌+◌, ◌<◌, List, [], ◌∷◌, ◌++◌, length, take, Option, Some, None, refl, sym, ap, ◌∙◌, arith, length-append, append_assoc, append-nil, get_or, filter_map, last_or, option_to_list, take_more, filter_map-append, Entry, Report, IsLegal, MayBeEntered, MayFollow, StandsLast, open_day, report_on, reports_after, reports_of, Tables}
use Rattle.gu_terms.proofs.Gathered.{last_or-last, push_each}

-- what one more item gives is the last
pub last-given : {X Y : Type 0} (given : X → Option Y) (before : List X) (item : X) (value : Y) → given item ≡ Some value → last_or None (filter_map given (before ++ item ∷ [])) ≡ Some value
last-given given before item value e = ap (last_or None) (filter_map-append given before (item ∷ [])) ∙ rw e (last_or-last None (filter_map given before) value)

-- if it gives nothing, the last stays
pub last-kept : {X Y : Type 0} (given : X → Option Y) (before : List X) (item : X) → given item ≡ None → last_or None (filter_map given (before ++ item ∷ [])) ≡ last_or None (filter_map given before)
last-kept {Y = Y} given before item e = ap (last_or None) (filter_map-append given before (item ∷ [])) ∙ rw e (ap (last_or {A = Y} None) (append-nil (filter_map given before)))

reports_after-push : (before later : List Entry) (entry : Entry) → reports_after before (later ++ entry ∷ []) ≡ reports_after before later ++ option_to_list (report_on (open_day (before ++ later)) entry)
reports_after-push before [] entry = rw (append-nil before) (append-nil (option_to_list (report_on (open_day before) entry)))
reports_after-push before (first ∷ later) entry =
    let rest = reports_after-push (before ++ first ∷ []) later entry in
    let made = option_to_list (report_on (open_day before) first) in
    ap (λ (rs : List Report). made ++ rs) rest
    ∙ ap (λ (all : List Entry). made ++ (reports_after (before ++ first ∷ []) later ++ option_to_list (report_on (open_day all) entry))) (append_assoc before (first ∷ []) later)
    ∙ sym (append_assoc made (reports_after (before ++ first ∷ []) later) (option_to_list (report_on (open_day (before ++ first ∷ later)) entry)))

-- the reports after one more entry
pub reports_of-push : (before : List Entry) (entry : Entry) → reports_of (before ++ entry ∷ []) ≡ reports_of before ++ option_to_list (report_on (open_day before) entry)
reports_of-push before entry = reports_after-push [] before entry

-- the entries up to the next one
pub take-next : (history : List Entry) (i : ℕ) {entry : Entry} → i < length history → entry ≡ get_or history i entry → take (i + 1) history ≡ take i history ++ entry ∷ []
take-next history i {entry} within is = take_more history i entry within ∙ ap (λ (e : Entry). take i history ++ e ∷ []) (sym is)

-- the reports that these entries accepted
pub reports_of-next : (history : List Entry) (i : ℕ) {entry : Entry} → i < length history → entry ≡ get_or history i entry
    → reports_of (take (i + 1) history) ≡ reports_of (take i history) ++ option_to_list (report_on (open_day (take i history)) entry)
reports_of-next history i {entry} within is = ap reports_of (take-next history i within is) ∙ reports_of-push (take i history) entry

-- a legal history followed by an entry that may follow it is legal
pub legal_push : (reference : Tables) (history : List Entry) (entry : Entry) → IsLegal reference history → length history < 1000000 → MayBeEntered entry → MayFollow reference history entry → IsLegal reference (history ++ entry ∷ [])
legal_push reference history entry legal room entered may = record {
  within = omega (arith, length-append history (entry ∷ []));
  entered = push_each (λ (before : List Entry) (e : Entry). MayBeEntered e) history entry legal.entered entered;
  each = push_each (MayFollow reference) history entry legal.each may;
}

-- and that entry is its last
pub stands_last : (reference : Tables) (history : List Entry) (entry : Entry) → IsLegal reference history → length history < 1000000 → MayBeEntered entry → MayFollow reference history entry → StandsLast reference (length history + 1) entry
stands_last reference history entry legal room entered may = record { before = history; legal = legal_push reference history entry legal room entered may; number_is = refl }
