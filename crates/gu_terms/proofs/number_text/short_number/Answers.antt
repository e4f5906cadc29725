use Rattle.std.proofs.Common.{◌≡◌, ◌≤◌, ◌+◌, ◌-◌, ◌++◌, ◌∙◌, ℕ, List, length, take, drop, ap, sym, subst, arith}
use Rattle.std.specs.Str.Parse.{AllDigits, digits_value, digits_value_after}
use Rattle.std.proofs.lemmas.List.{length-drop, take_all, take_rest}
use Rattle.gu_terms.specs.NumberText.{HasDigits}
use Rattle.gu_terms.proofs.NumberLemmas.{after-append, powers_of_ten, ten_to_positive}
use Rattle.gu_terms.proofs.ShortNumbers.{digits_alone, digits_and_point}
use Rattle.gu_terms.proofs.number_text.short_number.Goals as goal

pub with_digits-whole-requires : goal.with_digits-whole-requires
with_digits-whole-requires c = (omega (arith, c.if-text-gt-SHORT.false), ten_to_positive (12 - length c.args.text.now))

pub returns-then-place-text-clause-digits : goal.returns-then-place-text-clause-digits
returns-then-place-text-clause-digits c =
    let text = c.args.text.now in
    let read = c.with_digits-whole.ensures in
    let whole : take c.with_digits-whole.result.1 text ≡ text = take_all c.with_digits-whole.result.1 text (omega (arith, c.if-place-text.true)) in
    let value : digits_value 10 text ≡ c.with_digits-whole.result.0 = ap (digits_value 10) (sym whole) ∙ sym read.number in
    subst (λ (n : ℕ). HasDigits text n 0) value (digits_alone text (grind (arith, c.if-place-eq0.false, read.count)) (subst (AllDigits 10) whole read.digits))

pub with_digits-digits-requires : goal.with_digits-digits-requires
with_digits-digits-requires c =
    let text = c.args.text.now in
    let place = c.with_digits-whole.result.1 in
    let fraction : take (length text - (place + 1)) (drop (place + 1) text) ≡ drop (place + 1) text = take_rest text (place + 1) in
    let long = ap (λ (ds : List ℕ). length ds) fraction in
    let few : 12 - length text + place ≤ 12 - length (take (length text - (place + 1)) (drop (place + 1) text)) = omega (arith, long, length-drop (place + 1) text, c.if-text-gt-SHORT.false) in
    let most = powers_of_ten _ _ few in
    (omega (arith, long, length-drop (place + 1) text, c.if-text-gt-SHORT.false), omega (arith, c.with_digits-whole.ensures.few, most))

pub returns-clause-digits : goal.returns-clause-digits
returns-clause-digits c =
    let text = c.args.text.now in
    let place = c.with_digits-whole.result.1 in
    let places = c.with_digits-digits.result.1 in
    let front = c.with_digits-whole.ensures in
    let back = c.with_digits-digits.ensures in
    let fraction : take (length text - (place + 1)) (drop (place + 1) text) ≡ drop (place + 1) text = take_rest text (place + 1) in
    let long = ap (λ (ds : List ℕ). length ds) fraction in
    let read : take places (take (length text - (place + 1)) (drop (place + 1) text)) ≡ drop (place + 1) text = take_all places _ c.if-places-fraction.false ∙ fraction in
    let value : digits_value 10 (take place text ++ drop (place + 1) text) ≡ c.with_digits-digits.result.0 =
    after-append 0 (take place text) (drop (place + 1) text)
    ∙ ap (λ (n : ℕ). digits_value_after 10 n (drop (place + 1) text)) (sym front.number)
    ∙ ap (λ (ds : List ℕ). digits_value_after 10 c.with_digits-whole.result.0 ds) (sym read)
    ∙ sym back.number in
    let said = digits_and_point text place (grind (arith, c.if-place-eq0.false)) (grind (arith, c.if-place-text.false, front.count)) front.digits c.if-text-place-ne46.false (subst (AllDigits 10) read back.digits) in
    subst (λ (n : ℕ). HasDigits text n places) value
    (subst (λ (k : ℕ). HasDigits text (digits_value 10 (take place text ++ drop (place + 1) text)) k) (omega (arith, long, back.count, c.if-places-fraction.false)) said)
