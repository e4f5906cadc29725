-- Messages whose numbers ascend, on both sides of a number.
use Rattle.gu_session.proofs.Words.{◌≡◌, ℕ, ◌+◌, ◌<◌, ◌≤◌, Bool, false, ◌&&◌, nat_le, nat_lt, List, [], ◌∷◌, ◌++◌, None, Some, slice_get, take, drop, zero, suc, refl, ap, sym, subst, ◌∙◌, arith, take-append-drop, filter-append, AreBelow, AreFrom, AreWithin, sent_within, Sent}

-- a message in the list has a number in the range
pub within-get : (from to : ℕ) (kept : List Sent) (place : ℕ) (sent : Sent) → AreWithin from to kept → slice_get kept place ≡ Some sent → from ≤ sent.number
within-get from to [] place sent within here = absurd (cc)
within-get from to (first ∷ later) zero sent (above, rest) here =
    let same : first ≡ sent = cc in subst (λ (s : Sent). from ≤ s.number) same above
within-get from to (first ∷ later) (suc place) sent (above, rest) here =
    let next : first.number + 1 ≤ sent.number = within-get (first.number + 1) to later place sent rest here in omega (arith, above, next)

-- all messages up to one below a number are below it
pub below-take : (number from to : ℕ) (kept : List Sent) (place : ℕ) (sent : Sent) → AreWithin from to kept → slice_get kept place ≡ Some sent → sent.number < number →
    AreBelow number (take (suc place) kept)
below-take number from to [] place sent within here less = absurd (cc)
below-take number from to (first ∷ later) zero sent (above, rest) here less =
    let same : sent ≡ first = cc in (subst (λ (s : Sent). s.number < number) same less, tt)
below-take number from to (first ∷ later) (suc place) sent (above, rest) here less =
    let next : first.number + 1 ≤ sent.number = within-get (first.number + 1) to later place sent rest here in
    (omega (arith, less, next), below-take number (first.number + 1) to later place sent rest here less)

-- none in a range is below a number before it
pub from-within : (number from to : ℕ) (kept : List Sent) → AreWithin from to kept → number ≤ from → AreFrom number kept
from-within number from to [] within before = tt
from-within number from to (first ∷ later) (above, rest) before =
    (omega (arith, above, before), from-within number (first.number + 1) to later rest (omega (arith, above, before)))

-- none from a message on is below a number that the message isn't below
pub from-drop-at : (number from to : ℕ) (kept : List Sent) (place : ℕ) (sent : Sent) → AreWithin from to kept → slice_get kept place ≡ Some sent → number ≤ sent.number →
    AreFrom number (drop place kept)
from-drop-at number from to [] place sent within here more = absurd (cc)
from-drop-at number from to (first ∷ later) zero sent (above, rest) here more =
    let same : sent ≡ first = cc in
    let reach : number ≤ first.number = subst (λ (s : Sent). number ≤ s.number) same more in
    (reach, from-within number (first.number + 1) to later rest (omega (arith, reach)))
from-drop-at number from to (first ∷ later) (suc place) sent (above, rest) here more = from-drop-at number (first.number + 1) to later place sent rest here more

-- if there is no message, none follows
pub from-drop-none : (number : ℕ) (kept : List Sent) (place : ℕ) → slice_get kept place ≡ None → AreFrom number (drop place kept)
from-drop-none number [] zero none = tt
from-drop-none number [] (suc place) none = tt
from-drop-none number (first ∷ later) zero none = absurd (cc)
from-drop-none number (first ∷ later) (suc place) none = from-drop-none number later place none

-- without the first ones
pub from-drop : (number n : ℕ) (kept : List Sent) → AreFrom number kept → AreFrom number (drop n kept)
from-drop number zero kept all = all
from-drop number (suc n) [] all = tt
from-drop number (suc n) (first ∷ later) (one, rest) = from-drop number n later rest

-- from a later index on
pub from-past : (number place later : ℕ) (kept : List Sent) → AreFrom number (drop place kept) → place ≤ later → AreFrom number (drop later kept)
from-past number zero later kept all past = from-drop number later kept all
from-past number (suc place) zero kept all past = absurd (omega (arith, past))
from-past number (suc place) (suc later) [] all past = tt
from-past number (suc place) (suc later) (first ∷ rest) all past = from-past number place later rest all (omega (arith, past))

-- nothing below the first number is requested
pub none_below : (from to : ℕ) (kept : List Sent) → AreBelow from kept → sent_within from to kept ≡ []
none_below from to [] below = refl
none_below from to (first ∷ later) (less, rest) =
    let out : (nat_le from first.number && nat_lt first.number to) ≡ false = grind (arith, less) in
    rw out (none_below from to later rest)

-- nor anything from the last number on
pub none_above : (from to : ℕ) (kept : List Sent) → AreFrom to kept → sent_within from to kept ≡ []
none_above from to [] above = refl
none_above from to (first ∷ later) (more, rest) =
    let out : (nat_le from first.number && nat_lt first.number to) ≡ false = grind (arith, more) in
    rw out (none_above from to later rest)

-- requested messages come after those below them
pub past_below : (from to place : ℕ) (kept : List Sent) → AreBelow from (take place kept) → sent_within from to (drop place kept) ≡ sent_within from to kept
past_below from to place kept below =
    let asked : Sent → Bool = λ (sent : Sent). nat_le from sent.number && nat_lt sent.number to in
    let parts : sent_within from to (take place kept ++ drop place kept) ≡ sent_within from to (take place kept) ++ sent_within from to (drop place kept) =
    filter-append asked (take place kept) (drop place kept) in
    sym (ap (λ (sent : List Sent). sent ++ sent_within from to (drop place kept)) (none_below from to (take place kept) below))
    ∙ sym parts ∙ ap (sent_within from to) (take-append-drop place kept)
