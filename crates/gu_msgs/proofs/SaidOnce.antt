-- Fields have at most one value for each content: texts, numbers, days, sides, and so reports.
use Rattle.gu_msgs.proofs.Words.{◌≡◌, ℕ, ◌/◌, ◌^◌, zero, suc, ◌<◌, List, [], ◌∷◌, length, Option, None, Some, refl, sym, ap, ◌∙◌, subst, arith, ℤ, pos, mul-div_cancel, pow-succ', IsDay, WritesDay, Means, MeansLots, MeansPrice, with_sign, fraction_digits, Day, Side, Buy, Sell, TagValue, GivesDay, IsReport, IsSide, side_number, Holds, first_value}
use lib.Dec.{T_prop}
use Rattle.std.specs.Coded.{le_prop}
use Rattle.gu_terms.specs.declared.lots.Lots.{Lots}
use Rattle.gu_terms.specs.declared.price.Price.{Price}
use Rattle.gu_msgs.specs.declared.inbound.TradeCaptureReport.{TradeCaptureReport}

-- a value that is present is unique
pub one_text : (a b : List ℕ) (v : Option (List ℕ)) → v ≡ Some a → v ≡ Some b → a ≡ b
one_text a b v p q = let same : Some a ≡ Some b = sym p ∙ q in cc

-- a power of ten is above 0
pub ten_to_positive : (k : ℕ) → 0 < 10 ^ k
ten_to_positive zero = omega arith
ten_to_positive (suc k) = omega (arith, ten_to_positive k, pow-succ' 10 k)

-- a number text means one number
pub one_number : (text : List ℕ) (parts : ℕ) (y z : ℤ) → Means text parts y → Means text parts z → y ≡ z
one_number text parts y z p q =
    let power = 10 ^ length (fraction_digits text) in
    let positive = ten_to_positive (length (fraction_digits text)) in
    let same : p.size ≡ q.size = sym (mul-div_cancel p.size positive) ∙ ap (λ n. n / power) (sym p.counts ∙ q.counts) ∙ mul-div_cancel q.size positive in
    p.sign ∙ ap (with_sign text) same ∙ sym q.sign

-- a date is valid in only one way
IsDay-prop : (year month day : ℕ) → IsProp (IsDay year month day)
IsDay-prop year month day = hlevel (le_prop, T_prop)

-- two days with the same date are equal
same_date : (a b : Day) → a.year ≡ b.year → a.month ≡ b.month → a.day ≡ b.day → a ≡ b
same_date a b years months days =
    let Is : ℕ → ℕ → ℕ → Type 0 = λ year month day. (there : IsDay year month day) → a ≡ (record { year = year; month = month; day = day; there = there }) in
    let own : Is a.year a.month a.day = λ there i. record { year = a.year; month = a.month; day = a.day; there = IsDay-prop a.year a.month a.day a.there there i } in
    subst (λ year. Is year b.month b.day) years (subst (λ month. Is a.year month b.day) months (subst (λ day. Is a.year a.month day) days own)) b.there

-- a text is at most one day
one_day : (text : List ℕ) (a b : Day) → WritesDay text a.year a.month a.day → WritesDay text b.year b.month b.day → a ≡ b
one_day text a b p q = same_date a b (p.year_is ∙ sym q.year_is) (p.month_is ∙ sym q.month_is) (p.day_is ∙ sym q.day_is)

-- a number is that of one side
one_side : (a b : Side) → side_number a ≡ side_number b → a ≡ b
one_side Buy Buy e = refl
one_side Sell Sell e = refl
one_side Buy Sell e = absurd (omega arith)
one_side Sell Buy e = absurd (omega arith)

-- ---- first values of two reports

-- a value with two properties is one value
held_once : (tag : ℕ) (P Q : List ℕ → Type 0) (fields : List TagValue) (p : Holds tag P fields) (q : Holds tag Q fields) → p.value ≡ q.value
held_once tag P Q fields p q = one_text p.value q.value (first_value tag fields) p.first q.first

pub lots_once : (tag : ℕ) (fields : List TagValue) (a b : Lots) → Holds tag (λ text. MeansLots text a) fields → Holds tag (λ text. MeansLots text b) fields → a ≡ b
lots_once tag fields a b p q =
    let moved = subst (λ (text : List ℕ). MeansLots text a) (held_once tag _ _ fields p q) p.such in
    let same : pos a ≡ pos b = one_number q.value 1 (pos a) (pos b) moved.means q.such.means in
    cc

price_once : (tag : ℕ) (fields : List TagValue) (a b : Price) → Holds tag (λ text. MeansPrice text a) fields → Holds tag (λ text. MeansPrice text b) fields → a ≡ b
price_once tag fields a b p q =
    let moved = subst (λ (text : List ℕ). MeansPrice text a) (held_once tag _ _ fields p q) p.such in
    one_number q.value 1000000 a b moved.means q.such.means

day_given : (tag : ℕ) (fields : List TagValue) (a b : Option Day) → GivesDay tag fields a → GivesDay tag fields b → a ≡ b
day_given tag fields None None p q = refl
day_given tag fields None (Some b) p q = let both : None ≡ Some q.value = sym p ∙ q.first in cc
day_given tag fields (Some a) None p q = let both : None ≡ Some p.value = sym q ∙ p.first in cc
day_given tag fields (Some a) (Some b) p q =
    let moved = subst (λ (text : List ℕ). WritesDay text a.year a.month a.day) (held_once tag _ _ fields p q) p.such in
    ap Some (one_day q.value a b moved q.such)

pub one_entry : (a b : List TagValue) (all : List (List TagValue)) → all ≡ a ∷ [] → all ≡ b ∷ [] → a ≡ b
one_entry a b all p q = let same : a ∷ [] ≡ b ∷ [] = sym p ∙ q in cc

-- ---- reports

pub same_report : (fields : List TagValue) (a b : TradeCaptureReport) → IsReport fields a → IsReport fields b → a ≡ b
same_report fields a b p q =
    let moved : IsSide q.entry a = subst (λ (entry : List TagValue). IsSide entry a) (one_entry p.entry q.entry _ p.one_side q.one_side) p.is_side in
    let ids : a.trade_report_id ≡ b.trade_report_id = one_text _ _ _ p.report_id q.report_id in
    let match_ids : a.trd_match_id ≡ b.trd_match_id = one_text _ _ _ p.match_id q.match_id in
    let symbols : a.symbol.name ≡ b.symbol.name = one_text _ _ _ p.symbol q.symbol in
    let all_lots : a.last_qty ≡ b.last_qty = lots_once _ fields a.last_qty b.last_qty p.quantity q.quantity in
    let prices : a.last_px ≡ b.last_px = price_once _ fields a.last_px b.last_px p.price q.price in
    let days : a.trade_date ≡ b.trade_date = day_given _ fields a.trade_date b.trade_date p.date q.date in
    let sides : a.side ≡ b.side = one_side a.side b.side (sym moved.side ∙ q.is_side.side) in
    let accounts : a.account.name ≡ b.account.name = one_text _ _ _ moved.account q.is_side.account in
    λ i. record {
      trade_report_id = ids i;
      trd_match_id = match_ids i;
      symbol = record { name = symbols i };
      last_qty = all_lots i;
      last_px = prices i;
      trade_date = days i;
      side = sides i;
      account = record { name = accounts i };
    }
