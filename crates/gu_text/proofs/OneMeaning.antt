-- A word means at most one thing.
use Rattle.std.proofs.Common.{◌≡◌, ◌∙◌, ◌<◌, ◌/◌, ◌^◌, ℕ, ℤ, pos, zero, suc, true, List, Some, length, refl, sym, ap, arith}
use Rattle.std.specs.Str.{bytes_eq}
use Rattle.std.proofs.lemmas.Slice.Eq.{bytes_eq-Decides}
use Rattle.std.proofs.Math.Nat.{mul-div_cancel, pow-succ'}
use Rattle.gu_terms.proofs.SameValues.{same_date}
use Rattle.gu_terms.specs.AllocRejects.{reject_number}
use Rattle.gu_terms.specs.Days.{WritesDay}
use Rattle.gu_terms.specs.LimitKeys.{kind_of, name_of_key}
use Rattle.gu_terms.specs.NumberText.{Means, MeansLots, MeansPrice, with_sign, fraction_digits}
use Rattle.gu_terms.specs.declared.account.AccountId.{AccountId}
use Rattle.gu_terms.specs.declared.alloc_reject.AllocReject.{AllocReject}
use Rattle.gu_terms.specs.declared.alloc_reject.AllocReject.TheVariants.{BlockLevel, AccountLevel, Intermediary}
use Rattle.gu_terms.specs.declared.day.Day.{Day}
use Rattle.gu_terms.specs.declared.firm.FirmId.{FirmId}
use Rattle.gu_terms.specs.declared.group.Group.{Group}
use Rattle.gu_terms.specs.declared.limit_key.LimitKey.{LimitKey}
use Rattle.gu_terms.specs.declared.limit_key.LimitKey.TheVariants.{Exec, Agr, Acct, Carry, Guar}
use Rattle.gu_terms.specs.declared.side.Side.{Side}
use Rattle.gu_terms.specs.declared.side.Side.TheVariants.{Buy, Sell}
use Rattle.gu_terms.specs.declared.symbol.Symbol.{Symbol}
use Rattle.gu_text.specs.Scripts.{side_word}
use Rattle.gu_text.specs.SheetLines.{number_of}

ten_to_positive : (k : ℕ) → 0 < 10 ^ k
ten_to_positive zero = omega arith
ten_to_positive (suc k) = omega (arith, ten_to_positive k, pow-succ' 10 k)

-- a number text means one number
one_number : (text : List ℕ) (parts : ℕ) (y z : ℤ) → Means text parts y → Means text parts z → y ≡ z
one_number text parts y z p q =
    let power = 10 ^ length (fraction_digits text) in
    let positive = ten_to_positive (length (fraction_digits text)) in
    let same : p.size ≡ q.size = sym (mul-div_cancel p.size positive) ∙ ap (λ n. n / power) (sym p.counts ∙ q.counts) ∙ mul-div_cancel q.size positive in
    p.sign ∙ ap (with_sign text) same ∙ sym q.sign

-- one number of lots
pub one_lots : (text : List ℕ) (a b : ℕ) → MeansLots text a → MeansLots text b → a ≡ b
one_lots text a b p q = let same : pos a ≡ pos b = one_number text 1 (pos a) (pos b) p.means q.means in cc

-- one price
pub one_price : (text : List ℕ) (y z : ℤ) → MeansPrice text y → MeansPrice text z → y ≡ z
one_price text y z p q = one_number text 1000000 y z p.means q.means

-- one day
pub one_day : (text : List ℕ) (a b : Day) → WritesDay text a.year a.month a.day → WritesDay text b.year b.month b.day → a ≡ b
one_day text a b p q = same_date a b (p.year_is ∙ sym q.year_is) (p.month_is ∙ sym q.month_is) (p.day_is ∙ sym q.day_is)

-- one reason
pub one_reject : (a b : AllocReject) → reject_number a ≡ reject_number b → a ≡ b
one_reject BlockLevel BlockLevel e = refl
one_reject AccountLevel AccountLevel e = refl
one_reject Intermediary Intermediary e = refl
one_reject _ _ e = absurd (omega (arith, e))

-- one side
pub one_side : (a b : Side) → side_word a ≡ side_word b → a ≡ b
one_side Buy Buy e = refl
one_side Sell Sell e = refl
one_side a b e = let t : bytes_eq (side_word a) (side_word b) ≡ true = (bytes_eq-Decides (side_word a) (side_word b)).1 e in cc

-- one key
pub one_key : (a b : LimitKey) → kind_of a ≡ kind_of b → name_of_key a ≡ name_of_key b → a ≡ b
one_key (Exec a) (Exec b) kinds names = ap (λ n. Exec (record { name = n })) names
one_key (Agr a) (Agr b) kinds names = ap (λ n. Agr (record { name = n })) names
one_key (Acct a) (Acct b) kinds names = ap (λ n. Acct (record { name = n })) names
one_key (Carry a) (Carry b) kinds names = ap (λ n. Carry (record { name = n })) names
one_key (Guar a) (Guar b) kinds names = ap (λ n. Guar (record { name = n })) names
one_key a b kinds names = let t : bytes_eq (kind_of a) (kind_of b) ≡ true = (bytes_eq-Decides (kind_of a) (kind_of b)).1 kinds in cc

-- one firm, one account, one group, one instrument
pub one_firm : (a b : FirmId) → a.name ≡ b.name → a ≡ b
one_firm a b names = λ i. record { name = names i }

pub one_account : (a b : AccountId) → a.name ≡ b.name → a ≡ b
one_account a b names = λ i. record { name = names i }

pub one_group : (a b : Group) → a.name ≡ b.name → a ≡ b
one_group a b names = λ i. record { name = names i }

pub one_symbol : (a b : Symbol) → a.name ≡ b.name → a ≡ b
one_symbol a b names = λ i. record { name = names i }

-- one number
pub one_value : (text : List ℕ) (a b : ℕ) → number_of text ≡ Some a → number_of text ≡ Some b → a ≡ b
one_value text a b p q = let same : Some a ≡ Some b = sym p ∙ q in cc
