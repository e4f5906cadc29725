-- Each text is allowed, or isn't for a reason.
use Rattle.gu_msgs.proofs.Words.{◌≡◌, ◌⊎◌, inl, inr, ℕ, ◌*◌, ◌/◌, ◌^◌, ◌≤◌, ◌++◌, Bool, true, false, ℤ, pos, List, [], ◌∷◌, length, codes, refl, sym, ap, ◌∙◌, subst, arith, negsuc, digit_value, list_all, AllDigits, digits_value, mul-div_cancel, cases_Bool, cases_order, ints, AllPass-from_list_all, list_all-from_AllPass, IsDate as IsCivil, days_in_month, IsDay, IsDayText, year_of, month_of, day_of, IsNumberText, Means, MeansLots, MeansPrice, fraction_digits, whole_digits, with_sign, has_soh, IsAtFault, IsFormatted, IsNumber, IsNumberWithin, IsSound, IsYesOrNo, is_numeral, SessionRejectReason, ValueIsIncorrect, IncorrectDataFormat, Kind}
use Rattle.std.specs.Str.{bytes_eq}
use Rattle.std.proofs.lemmas.Slice.Eq.{bytes_eq-Decides}
use Rattle.gu_terms.specs.Names.{IsId, IsName, is_id_byte, is_name_byte}
use Rattle.gu_terms.specs.Numbers.{IsPrice}
use Rattle.gu_msgs.specs.AllocStatuses.{status_number}
use Rattle.gu_msgs.specs.Kinds.{IsDate}
use Rattle.gu_msgs.specs.TestReqIds.{IsTestReqId}
use Rattle.gu_msgs.specs.declared.alloc_status.AllocStatus.{AllocStatus}
use Rattle.gu_msgs.specs.declared.row.Kind.TheVariants as kind
use Rattle.gu_msgs.proofs.OneMessage.{status_at, status_at-number}
use Rattle.gu_msgs.proofs.SaidOnce.{one_number, ten_to_positive}

-- a statement holds, or it doesn't
abbrev pub IsDecided : Type 0 → Type 0
IsDecided P = P ⊎ (P → ⊥)

-- ---- statements

pub le_decided : (a b : ℕ) → IsDecided (a ≤ b)
le_decided a b =
    elim (cases_order a b) [
      | inl same ↦ inl (omega arith)
      | inr (inl below) ↦ inl (omega arith)
      | inr (inr above) ↦ inr (λ le. omega (arith, le, above))
    ]

pub same_decided : (a b : ℕ) → IsDecided (a ≡ b)
same_decided a b =
    elim (cases_order a b) [
      | inl same ↦ inl same
      | inr (inl below) ↦ inr (λ same. omega (arith, same, below))
      | inr (inr above) ↦ inr (λ same. omega (arith, same, above))
    ]

pub test_decided : (b : Bool) → IsDecided (b ≡ true)
test_decided true = inl refl
test_decided false = inr (λ e. cc)

clean_decided : (b : Bool) → IsDecided (b ≡ false)
clean_decided false = inl refl
clean_decided true = inr (λ e. cc)

pub text_decided : (a b : List ℕ) → IsDecided (a ≡ b)
text_decided a b =
    elim (cases_Bool (bytes_eq a b)) [
      | inl same ↦ inl ((bytes_eq-Decides a b).0 same)
      | inr other ↦ inr (λ same. let test = (bytes_eq-Decides a b).1 same in cc)
    ]

-- three statements together
three_decided : {P Q R S : Type 0} → (P → Q → R → S) → (S → P × Q × R) → IsDecided P → IsDecided Q → IsDecided R → IsDecided S
three_decided make parts (inl p) (inl q) (inl r) = inl (make p q r)
three_decided make parts (inr p) q r = inr (λ s. p (parts s).0)
three_decided make parts (inl p) (inr q) r = inr (λ s. q (parts s).1)
three_decided make parts (inl p) (inl q) (inr r) = inr (λ s. r (parts s).2)

-- ---- names, ids and codes

id_decided : (text : List ℕ) → IsDecided (IsId text)
id_decided text =
    three_decided (λ a b c. record { some = a; most = b; each = AllPass-from_list_all is_id_byte text c })
    (λ is. (is.some, is.most, list_all-from_AllPass is_id_byte text is.each))
    (le_decided 1 (length text)) (le_decided (length text) 64) (test_decided (list_all is_id_byte text))

name_decided : (text : List ℕ) → IsDecided (IsName text)
name_decided text =
    three_decided (λ a b c. record { some = a; most = b; each = AllPass-from_list_all is_name_byte text c })
    (λ is. (is.some, is.most, list_all-from_AllPass is_name_byte text is.each))
    (le_decided 1 (length text)) (le_decided (length text) 12) (test_decided (list_all is_name_byte text))

test_req_id_decided : (text : List ℕ) → IsDecided (IsTestReqId text)
test_req_id_decided text =
    three_decided (λ a b c. record { some = a; most = b; clean = c }) (λ is. (is.some, is.most, is.clean))
    (le_decided 1 (length text)) (le_decided (length text) 1024) (clean_decided (has_soh text))

flag_decided : (text : List ℕ) → IsDecided (IsYesOrNo text)
flag_decided text =
    elim (text_decided text (codes "Y")) [
      | inl set ↦ inl (inl set)
      | inr not_set ↦ elim (text_decided text (codes "N")) [
        | inl unset ↦ inl (inr unset)
        | inr not_unset ↦ inr (λ is. elim is [ inl set ↦ not_set set | inr unset ↦ not_unset unset ])
      ]
    ]

-- ---- numbers

digits_decided : (text : List ℕ) → IsDecided (AllDigits 10 text)
digits_decided [] = inl tt
digits_decided (d ∷ ds) =
    elim (le_decided (digit_value d) 9) [
      | inl digit ↦ elim (digits_decided ds) [
        | inl digits ↦ inl (omega (arith, digit), digits)
        | inr other ↦ inr (λ all. other all.1)
      ]
      | inr other ↦ inr (λ all. let digit = all.0 in other (omega (arith, digit)))
    ]

number_text_decided : (text : List ℕ) → IsDecided (IsNumberText text)
number_text_decided text =
    three_decided (λ a b c. record { whole = a; fraction = b; some = c }) (λ is. (is.whole, is.fraction, is.some))
    (digits_decided (whole_digits text)) (digits_decided (fraction_digits text)) (le_decided 1 _)

-- a number text means some number of parts, or none
means_decided : (text : List ℕ) (parts : ℕ) → IsDecided ((z : ℤ) × Means text parts z)
means_decided text parts =
    let power = 10 ^ length (fraction_digits text) in
    let value = digits_value 10 (whole_digits text ++ fraction_digits text) * parts in
    let positive = ten_to_positive (length (fraction_digits text)) in
    elim (number_text_decided text) [
      | inl is ↦ elim (same_decided value (value / power * power)) [
        | inl counts ↦ inl (with_sign text (value / power), record { is_number = is; size = value / power; counts = counts; sign = refl })
        | inr differs ↦ inr (λ means.
            (let m = means.1 in
            let size : value / power ≡ m.size = ap (λ (n : ℕ). n / power) m.counts ∙ mul-div_cancel m.size positive in
            differs (m.counts ∙ ap (λ (n : ℕ). n * power) (sym size))))
      ]
      | inr other ↦ inr (λ means. let m = means.1 in other m.is_number)
    ]

-- the number that a text means, if it is a number of lots
lots_of_number : (text : List ℕ) (z : ℤ) → Means text 1 z → IsDecided ((n : ℕ) × MeansLots text n)
lots_of_number text (pos n) means =
    elim (le_decided 1 n) [
      | inl some ↦ elim (le_decided n 1000000) [
        | inl most ↦ inl (n, record { means = means; sound = record { some = some; most = most } })
        | inr above ↦ inr (λ other.
            (let o = other.1 in let same : pos other.0 ≡ pos n = one_number text 1 (pos other.0) (pos n) o.means means in
            let number : other.0 ≡ n = cc in above (subst (λ (k : ℕ). k ≤ 1000000) number o.sound.most)))
      ]
      | inr below ↦ inr (λ other.
          (let o = other.1 in let same : pos other.0 ≡ pos n = one_number text 1 (pos other.0) (pos n) o.means means in
          let number : other.0 ≡ n = cc in below (subst (λ (k : ℕ). 1 ≤ k) number o.sound.some)))
    ]
lots_of_number text (negsuc n) means =
    inr (λ other. let o = other.1 in let same : pos other.0 ≡ negsuc n = one_number text 1 (pos other.0) (negsuc n) o.means means in cc)

lots_decided : (text : List ℕ) → IsDecided ((n : ℕ) × MeansLots text n)
lots_decided text =
    elim (means_decided text 1) [
      | inl means ↦ lots_of_number text means.0 means.1
      | inr other ↦ inr (λ lots. let l = lots.1 in other (pos lots.0, l.means))
    ]

-- the bounds of a price
price_range_decided : (z : ℤ) → IsDecided (IsPrice z)
price_range_decided (pos n) =
    elim (le_decided n 999999999999999) [
      | inl most ↦ inl (record { least = omega (arith, ints); most = omega (arith, ints, most) })
      | inr above ↦ inr (λ is. let most = is.most in above (omega (arith, ints, most)))
    ]
price_range_decided (negsuc n) =
    elim (le_decided n 999999999999998) [
      | inl least ↦ inl (record { least = omega (arith, ints, least); most = omega (arith, ints) })
      | inr below ↦ inr (λ is. let least = is.least in below (omega (arith, ints, least)))
    ]

price_decided : (text : List ℕ) → IsDecided ((z : ℤ) × MeansPrice text z)
price_decided text =
    elim (means_decided text 1000000) [
      | inl means ↦ elim (price_range_decided means.0) [
        | inl sound ↦ inl (means.0, record { means = means.1; sound = sound })
        | inr outside ↦ inr (λ price.
            (let p = price.1 in let same : price.0 ≡ means.0 = one_number text 1000000 price.0 means.0 p.means means.1 in
            outside (subst IsPrice same p.sound)))
      ]
      | inr other ↦ inr (λ price. let p = price.1 in other (price.0, p.means))
    ]

within_decided : (least most : ℕ) (text : List ℕ) → IsDecided (IsNumberWithin least most text)
within_decided least most text =
    three_decided (λ a b c. record { numeral = a; from = b; to = c }) (λ is. (is.numeral, is.from, is.to))
    (test_decided (is_numeral text)) (le_decided least (digits_value 10 text)) (le_decided (digits_value 10 text) most)

status_decided : (text : List ℕ) → IsDecided ((status : AllocStatus) × IsNumber text (status_number status))
status_decided text =
    let n = digits_value 10 text in
    elim (test_decided (is_numeral text)) [
      | inl numeral ↦ elim (same_decided n (status_number (status_at n))) [
        | inl same ↦ inl (status_at n, record { numeral = numeral; value = same })
        | inr other ↦ inr (λ status.
            (let s = status.1 in
            let back : status_at n ≡ status.0 = ap status_at s.value ∙ status_at-number status.0 in
            other (s.value ∙ ap status_number (sym back))))
      ]
      | inr other ↦ inr (λ status. let s = status.1 in other s.numeral)
    ]

-- ---- dates

day_text_decided : (text : List ℕ) → IsDecided (IsDayText text)
day_text_decided text =
    elim (same_decided (length text) 8) [
      | inl eight ↦ elim (digits_decided text) [ inl digits ↦ inl (record { eight = eight; digits = digits }) | inr other ↦ inr (λ is. other is.digits) ]
      | inr other ↦ inr (λ is. other is.eight)
    ]

civil_decided : (year month day : ℕ) → IsDecided (IsCivil (pos year) (pos month) (pos day))
civil_decided year month day =
    let last = days_in_month (pos year) month in
    elim (le_decided year 9999) [
      | inr late ↦ inr (λ is. let y = is.0 in let until = y.1 in late (omega (arith, ints, until)))
      | inl until ↦ elim (le_decided 1 month) [
        | inr none ↦ inr (λ is. let m = is.1 in let some = m.0 in none (omega (arith, ints, some)))
        | inl some ↦ elim (le_decided month 12) [
          | inr late ↦ inr (λ is. let m = is.1 in let most = m.1 in late (omega (arith, ints, most)))
          | inl most ↦ elim (le_decided 1 day) [
            | inr none ↦ inr (λ is. let d = is.2 in let first = d.0 in none (omega (arith, ints, first)))
            | inl first ↦ elim (le_decided day last) [
              | inr late ↦ inr (λ is. let d = is.2 in let end = d.1 in late (omega (arith, ints, end)))
              | inl end ↦ inl ((omega (arith, ints), omega (arith, ints, until)), (omega (arith, ints, some), omega (arith, ints, most)), (omega (arith, ints, first), omega (arith, ints, end)))
            ]
          ]
        ]
      ]
    ]

day_decided : (year month day : ℕ) → IsDecided (IsDay year month day)
day_decided year month day =
    three_decided (λ a b c. record { from = a; until = b; date = c }) (λ is. (is.from, is.until, is.date))
    (le_decided 1 year) (le_decided year 9999) (civil_decided year month day)

date_decided : (text : List ℕ) → IsDecided (IsDate text)
date_decided text =
    elim (day_text_decided text) [
      | inl is ↦ elim (day_decided (year_of text) (month_of text) (day_of text)) [
        | inl there ↦ inl (record { is_text = is; there = there })
        | inr other ↦ inr (λ date. other date.there)
      ]
      | inr other ↦ inr (λ date. other date.is_text)
    ]

-- ---- kinds

sound_decided : (k : Kind) (text : List ℕ) → IsDecided (IsSound k text)
sound_decided kind.Text text = inl tt
sound_decided kind.TestReqId text = test_req_id_decided text
sound_decided kind.YesOrNo text = flag_decided text
sound_decided kind.Id text = id_decided text
sound_decided kind.Name text = name_decided text
sound_decided kind.Lots text = lots_decided text
sound_decided kind.Price text = price_decided text
sound_decided kind.Date text = date_decided text
sound_decided (kind.Number least most) text = within_decided least most text
sound_decided kind.Status text = status_decided text

formatted_decided : (k : Kind) (text : List ℕ) → IsDecided (IsFormatted k text)
formatted_decided kind.Text text = inl tt
formatted_decided kind.TestReqId text = inl tt
formatted_decided kind.YesOrNo text = inl tt
formatted_decided kind.Id text = inl tt
formatted_decided kind.Name text = inl tt
formatted_decided kind.Lots text = number_text_decided text
formatted_decided kind.Price text = number_text_decided text
formatted_decided kind.Date text = day_text_decided text
formatted_decided (kind.Number least most) text = test_decided (is_numeral text)
formatted_decided kind.Status text = test_decided (is_numeral text)

-- a text is allowed, or isn't for a reason
pub sound_or_not : (k : Kind) (text : List ℕ) → IsSound k text ⊎ ((reason : SessionRejectReason) × IsAtFault k text reason)
sound_or_not k text =
    elim (sound_decided k text) [
      | inl sound ↦ inl sound
      | inr other ↦ elim (formatted_decided k text) [
        | inl formatted ↦ inr (ValueIsIncorrect, (formatted, other))
        | inr bad ↦ inr (IncorrectDataFormat, bad)
      ]
    ]
