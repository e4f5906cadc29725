-- Entries that say the same of days, reports, offers and limits come to one book.
use Rattle.gu_days.proofs.Words.{◌≡◌, ℕ, zero, suc, ◌+◌, ◌-◌, Bool, cond, ◌||◌, not, List, [], ◌∷◌, ◌++◌, length, reverse, drop, sum_by, Option, Some, None, is_some, refl, sym, ap, ◌∙◌, subst, arith, if◌then◌else◌, map, option_map, option_to_list, unwrap_or, Day, Entry, Group, Tables, state_of, entries_today, open_day, opened_day, report_on, reports_after, reports_of, touches, touching_after, version_of, group_view, offers_in, keys_of}
use Rattle.std.specs.List.{filter_map, flat_map, last_or, list_any, prefix_len, suffix_len, cons_option}
use mathlib.Core.List.{reverse_aux}
use Rattle.std.proofs.lemmas.List.Sums.{sum_by-cons}
use Rattle.gu_terms.specs.declared.firm.FirmId.{FirmId}
use Rattle.gu_terms.specs.declared.id.Id.{Id}
use Rattle.gu_terms.specs.declared.limit_key.LimitKey.{LimitKey}
use Rattle.gu_terms.specs.declared.offer.Offer.{Offer}
use Rattle.gu_offers.specs.Rows.{Row}
use Rattle.gu_rules.specs.Limits.{limit_row, limit_set, limit_set_by, room_of, use_in, use_of}
use Rattle.gu_rules.specs.Offers.{closes, gave_up, given_back_by, has_give_up, is_shut, lines_by, moved_of, offers_of, standing, standing_from, standing_of, taken_by}
use Rattle.gu_rules.specs.Positions.{held_in}
use Rattle.gu_days.specs.SameBooks.{AreOneBook}

-- an entry says of each thing what another says
pub record IsAlike (entry other : Entry) : Type 0 where
  pub opened : opened_day other ≡ opened_day entry
  pub reported : (today : Option Day) → report_on today other ≡ report_on today entry
  pub lines : lines_by other ≡ lines_by entry
  pub taken : (n : ℕ) → taken_by n other ≡ taken_by n entry
  pub given : (n : ℕ) → given_back_by n other ≡ given_back_by n entry
  pub closed : (n : ℕ) → closes n other ≡ closes n entry
  pub gave : (firm : FirmId) (id : Id) → gave_up firm id other ≡ gave_up firm id entry
  pub set : (group : Group) (key : LimitKey) → limit_set_by group key other ≡ limit_set_by group key entry
  pub touched : (before others : List Entry) (group : Group) → offers_of others ≡ offers_of before → touches others group other ≡ touches before group entry

-- one by one
abbrev pub AreAlike : List Entry → List Entry → Type 0
AreAlike [] [] = Unit {0}
AreAlike [] (other ∷ others) = ⊥
AreAlike (entry ∷ entries) [] = ⊥
AreAlike (entry ∷ entries) (other ∷ others) = IsAlike entry other × AreAlike entries others

pub alike-append : (xs ys others more : List Entry) → AreAlike xs others → AreAlike ys more → AreAlike (xs ++ ys) (others ++ more)
alike-append [] ys [] more h k = k
alike-append [] ys (other ∷ others) more h k = absurd h
alike-append (x ∷ xs) ys [] more h k = absurd h
alike-append (x ∷ xs) ys (other ∷ others) more h k = (h.0, alike-append xs ys others more h.1 k)

pub alike-length : (xs others : List Entry) → AreAlike xs others → length others ≡ length xs
alike-length [] [] h = refl
alike-length [] (other ∷ others) h = absurd h
alike-length (x ∷ xs) [] h = absurd h
alike-length (x ∷ xs) (other ∷ others) h = ap suc (alike-length xs others h.1)

alike-reversed : (xs others after more : List Entry) → AreAlike xs others → AreAlike after more → AreAlike (reverse_aux xs after) (reverse_aux others more)
alike-reversed [] [] after more h k = k
alike-reversed [] (other ∷ others) after more h k = absurd h
alike-reversed (x ∷ xs) [] after more h k = absurd h
alike-reversed (x ∷ xs) (other ∷ others) after more h k = alike-reversed xs others (x ∷ after) (other ∷ more) h.1 (h.0, k)

alike-drop : (k : ℕ) (xs others : List Entry) → AreAlike xs others → AreAlike (drop k xs) (drop k others)
alike-drop zero xs others h = h
alike-drop (suc k) [] [] h = tt
alike-drop (suc k) [] (other ∷ others) h = absurd h
alike-drop (suc k) (x ∷ xs) [] h = absurd h
alike-drop (suc k) (x ∷ xs) (other ∷ others) h = alike-drop k xs others h.1

-- ---- what is gathered from entries that say the same

alike-filter_map : {Y : Type 0} (f : Entry → Option Y) → ((entry other : Entry) → IsAlike entry other → f other ≡ f entry)
    → (xs others : List Entry) → AreAlike xs others → filter_map f others ≡ filter_map f xs
alike-filter_map f same [] [] h = refl
alike-filter_map f same [] (other ∷ others) h = absurd h
alike-filter_map f same (x ∷ xs) [] h = absurd h
alike-filter_map f same (x ∷ xs) (other ∷ others) h =
    let one = same x other h.0 in
    let rest = alike-filter_map f same xs others h.1 in
    λ i. cons_option (one i) (rest i)

alike-flat_map : {Y : Type 0} (f : Entry → List Y) → ((entry other : Entry) → IsAlike entry other → f other ≡ f entry)
    → (xs others : List Entry) → AreAlike xs others → flat_map f others ≡ flat_map f xs
alike-flat_map f same [] [] h = refl
alike-flat_map f same [] (other ∷ others) h = absurd h
alike-flat_map f same (x ∷ xs) [] h = absurd h
alike-flat_map f same (x ∷ xs) (other ∷ others) h =
    let one = same x other h.0 in
    let rest = alike-flat_map f same xs others h.1 in
    λ i. one i ++ rest i

alike-sum_by : (f : Entry → ℕ) → ((entry other : Entry) → IsAlike entry other → f other ≡ f entry)
    → (xs others : List Entry) → AreAlike xs others → sum_by f others ≡ sum_by f xs
alike-sum_by f same [] [] h = refl
alike-sum_by f same [] (other ∷ others) h = absurd h
alike-sum_by f same (x ∷ xs) [] h = absurd h
alike-sum_by f same (x ∷ xs) (other ∷ others) h = omega (arith, same x other h.0, alike-sum_by f same xs others h.1, sum_by-cons f x xs, sum_by-cons f other others)

alike-list_any : (f : Entry → Bool) → ((entry other : Entry) → IsAlike entry other → f other ≡ f entry)
    → (xs others : List Entry) → AreAlike xs others → list_any f others ≡ list_any f xs
alike-list_any f same [] [] h = refl
alike-list_any f same [] (other ∷ others) h = absurd h
alike-list_any f same (x ∷ xs) [] h = absurd h
alike-list_any f same (x ∷ xs) (other ∷ others) h =
    let one = same x other h.0 in
    let rest = alike-list_any f same xs others h.1 in
    λ i. one i || rest i

-- ---- days and reports

pub alike-open_day : (xs others : List Entry) → AreAlike xs others → open_day others ≡ open_day xs
alike-open_day xs others h = ap (last_or None) (alike-filter_map opened_day (λ entry other same. same.opened) xs others h)

alike-reports_after : (before others later more : List Entry) → AreAlike before others → AreAlike later more → reports_after others more ≡ reports_after before later
alike-reports_after before others [] [] h k = refl
alike-reports_after before others [] (o ∷ more) h k = absurd k
alike-reports_after before others (e ∷ later) [] h k = absurd k
alike-reports_after before others (e ∷ later) (o ∷ more) h k =
    let day = alike-open_day before others h in
    let one : report_on (open_day others) o ≡ report_on (open_day before) e = k.0.reported (open_day others) ∙ ap (λ (d : Option Day). report_on d e) day in
    let rest = alike-reports_after (before ++ e ∷ []) (others ++ o ∷ []) later more (alike-append before (e ∷ []) others (o ∷ []) h (k.0, tt)) k.1 in
    λ i. option_to_list (one i) ++ rest i

pub alike-reports_of : (xs others : List Entry) → AreAlike xs others → reports_of others ≡ reports_of xs
alike-reports_of xs others h = alike-reports_after [] [] xs others tt h

-- ---- today

alike-prefix_len : (f : Entry → Bool) → ((entry other : Entry) → IsAlike entry other → f other ≡ f entry)
    → (xs others : List Entry) → AreAlike xs others → prefix_len f others ≡ prefix_len f xs
alike-prefix_len f same [] [] h = refl
alike-prefix_len f same [] (other ∷ others) h = absurd h
alike-prefix_len f same (x ∷ xs) [] h = absurd h
alike-prefix_len f same (x ∷ xs) (other ∷ others) h =
    let one = same x other h.0 in
    let rest = alike-prefix_len f same xs others h.1 in
    λ i. cond (one i) (1 + rest i) 0

alike-entries_today : (xs others : List Entry) → AreAlike xs others → AreAlike (entries_today xs) (entries_today others)
alike-entries_today xs others h =
    let q : Entry → Bool = λ y. not (is_some (opened_day y)) in
    let same : (entry other : Entry) → IsAlike entry other → q other ≡ q entry = λ entry other a. ap (λ (d : Option Day). not (is_some d)) a.opened in
    let suffix : suffix_len q others ≡ suffix_len q xs = alike-prefix_len q same (reverse xs) (reverse others) (alike-reversed xs others [] [] h tt) in
    let size = alike-length xs others h in
    let place : length others - suffix_len q others ≡ length xs - suffix_len q xs = omega (arith, suffix, size) in
    subst (λ (n : ℕ). AreAlike (entries_today xs) (drop n others)) (sym place) (alike-drop (length xs - suffix_len q xs) xs others h)

-- ---- offers

alike-moved_of : (xs others : List Entry) → AreAlike xs others → (n : ℕ) → moved_of others n ≡ moved_of xs n
alike-moved_of xs others h n =
    let taken = alike-sum_by (taken_by n) (λ entry other a. a.taken n) xs others h in
    let given = alike-sum_by (given_back_by n) (λ entry other a. a.given n) xs others h in
    omega (arith, taken, given)

alike-standing : (xs others : List Entry) → AreAlike xs others → (n : ℕ) (offer : Offer) → standing others n offer ≡ standing xs n offer
alike-standing xs others h n offer =
    let moved = alike-moved_of xs others h n in
    let today = alike-moved_of (entries_today xs) (entries_today others) (alike-entries_today xs others h) n in
    let shut : is_shut others n ≡ is_shut xs n = alike-list_any (closes n) (λ entry other a. a.closed n) xs others h in
    λ i. record { offer = offer; moved = moved i; today = today i; is_shut = shut i }

alike-standing_from : (xs others : List Entry) → AreAlike xs others → (n : ℕ) (offers : List Offer) → standing_from others n offers ≡ standing_from xs n offers
alike-standing_from xs others h n [] = refl
alike-standing_from xs others h n (offer ∷ offers) =
    let one = alike-standing xs others h n offer in
    let rest = alike-standing_from xs others h (n + 1) offers in
    λ i. one i ∷ rest i

pub alike-offers_of : (xs others : List Entry) → AreAlike xs others → offers_of others ≡ offers_of xs
alike-offers_of xs others h = alike-flat_map lines_by (λ entry other a. a.lines) xs others h

pub alike-standing_of : (xs others : List Entry) → AreAlike xs others → standing_of others ≡ standing_of xs
alike-standing_of xs others h = ap (standing_from others 1) (alike-offers_of xs others h) ∙ alike-standing_from xs others h 1 (offers_of xs)

-- ---- limits

alike-limit_set : (xs others : List Entry) → AreAlike xs others → (group : Group) (key : LimitKey) → limit_set others group key ≡ limit_set xs group key
alike-limit_set xs others h group key = ap (last_or None) (alike-filter_map (limit_set_by group key) (λ entry other a. a.set group key) xs others h)

alike-use_of : (reference : Tables) (xs others : List Entry) → AreAlike xs others → (group : Group) (key : LimitKey) → use_of reference others group key ≡ use_of reference xs group key
alike-use_of reference xs others h group key = ap (λ (rows : List Row). use_in reference rows group key) (alike-standing_of xs others h)

alike-room_of : (reference : Tables) (xs others : List Entry) → AreAlike xs others → (group : Group) (key : LimitKey) → room_of reference others group key ≡ room_of reference xs group key
alike-room_of reference xs others h group key =
    let set = alike-limit_set xs others h group key in
    let used = alike-use_of reference xs others h group key in
    λ i. unwrap_or (set i) 0 - used i

alike-limit_row : (reference : Tables) (xs others : List Entry) → AreAlike xs others → (group : Group) (key : LimitKey) → limit_row reference others group key ≡ limit_row reference xs group key
alike-limit_row reference xs others h group key =
    let set = alike-limit_set xs others h group key in
    let used = alike-use_of reference xs others h group key in
    λ i. option_map (λ limit. record { key = key; limit = limit; used = used i; room = limit - used i }) (set i)

-- ---- versions and views

alike-touching_after : (before others later more : List Entry) (group : Group) → AreAlike before others → AreAlike later more
    → touching_after others group more ≡ touching_after before group later
alike-touching_after before others [] [] group h k = refl
alike-touching_after before others [] (o ∷ more) group h k = absurd k
alike-touching_after before others (e ∷ later) [] group h k = absurd k
alike-touching_after before others (e ∷ later) (o ∷ more) group h k =
    let one = k.0.touched before others group (alike-offers_of before others h) in
    let size = alike-length before others h in
    let rest = alike-touching_after (before ++ e ∷ []) (others ++ o ∷ []) later more group (alike-append before (e ∷ []) others (o ∷ []) h (k.0, tt)) k.1 in
    λ i. option_to_list (if one i then Some (size i + 1) else None) ++ rest i

alike-version_of : (xs others : List Entry) → AreAlike xs others → (group : Group) → version_of others group ≡ version_of xs group
alike-version_of xs others h group = ap (λ (l : List ℕ). length l) (alike-touching_after [] [] xs others group tt h)

pub alike-group_view : (reference : Tables) (xs others : List Entry) → AreAlike xs others → (group : Group) → group_view reference others group ≡ group_view reference xs group
alike-group_view reference xs others h group =
    let version = alike-version_of xs others h group in
    let rows = alike-standing_of xs others h in
    let room : (key : LimitKey) → room_of reference others group key ≡ room_of reference xs group key = alike-room_of reference xs others h group in
    λ i. record {
      group = group;
      version = version i;
      offers = offers_in reference (rows i) group;
      rooms = map (λ key. record { key = key; lots = room key i }) (keys_of (offers_in reference (rows i) group));
    }

-- ---- the book

pub alike-state_of : (reference : Tables) (xs others : List Entry) → AreAlike xs others → state_of reference others ≡ state_of reference xs
alike-state_of reference xs others h =
    let today = alike-open_day xs others h in
    let reports = alike-reports_of xs others h in
    let offers = alike-standing_of xs others h in
    let gave : (firm : FirmId) (id : Id) → has_give_up others firm id ≡ has_give_up xs firm id = λ firm id. alike-list_any (gave_up firm id) (λ entry other a. a.gave firm id) xs others h in
    let room = alike-room_of reference xs others h in
    λ i. record { today = today i; reports = reports i; offers = offers i; has_give_up = λ firm id. gave firm id i; room = λ group key. room group key i }

pub one_book : (reference : Tables) (history other : List Entry) → AreAlike history other → AreOneBook reference history other
one_book reference history other h = record {
  length = alike-length history other h;
  today = alike-open_day history other h;
  reports = alike-reports_of history other h;
  offers = alike-standing_of history other h;
  limits = alike-limit_row reference history other h;
  positions = λ side account symbol.
      let reports = alike-reports_of history other h in
      let rows = alike-standing_of history other h in
      λ i. held_in (reports i) (rows i) side account symbol;
  versions = alike-version_of history other h;
  views = alike-group_view reference history other h;
  answers = alike-state_of reference history other h;
}
