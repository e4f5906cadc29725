use Rattle.std.proofs.Common.{◌≡◌, ◌<◌, ◌+◌, ◌%◌, ◌++◌, ◌∷◌, [], List, ℕ, take, drop, set, length, get_or, ap, sym, ◌∙◌, arith, append_assoc}
use Rattle.std.proofs.lemmas.List.{drop_more, get_or_at, length-take-le, set_at, take_more}
use Rattle.gu_fix.specs.Sums.{running_sums, sum_after}
use Rattle.gu_fix.proofs.SumLemmas.{length-running, running-append, sum_after-append}
use Rattle.gu_fix.proofs.window.sum_up.Goals as goal

pub loop-place-preserved : goal.loop-place-preserved
loop-place-preserved c =
    let old = c.args.bytes.now in
    let base = c.args.base in
    let i = c.loop-place.place in
    let now = c.loop-place.bytes in
    let inv = c.loop-place.invariant in
    let within : i < length old = c.loop-place-test.true in
    let b = get_or old i 0 in
    let rest = drop (i + 1) old in
    let before = running_sums base (take i old) in
    let size : length before ≡ i = length-running base (take i old) ∙ length-take-le i old (omega (arith, within)) in
    let parts : now ≡ before ++ b ∷ rest = inv.bytes ∙ ap (λ (t : List ℕ). before ++ t) (drop_more old i 0 within) in
    let here : get_or now i 0 ≡ b = ap (λ (t : List ℕ). get_or t i 0) parts ∙ get_or_at before b rest 0 i size in
    let more = take_more old i 0 within in
    let next = (c.loop-place.total + get_or now i 0) % 256 in
    let sum : next ≡ (sum_after base (take i old) + b) % 256 = ap (λ n. (n + get_or now i 0) % 256) inv.total ∙ ap (λ n. (sum_after base (take i old) + n) % 256) here in
    let behind : running_sums base (take (i + 1) old) ≡ before ++ next ∷ [] =
    ap (running_sums base) more ∙ running-append base (take i old) (b ∷ []) ∙ ap (λ n. before ++ n ∷ []) (sym sum) in
    record {
      total = sum ∙ sym (sum_after-append base (take i old) (b ∷ [])) ∙ ap (sum_after base) (sym more);
      bytes = ap (λ (t : List ℕ). set t i next) parts ∙ set_at before b rest next i size ∙ sym (append_assoc before (next ∷ []) rest)
          ∙ ap (λ (t : List ℕ). t ++ rest) (sym behind);
    }
