use Rattle.std.proofs.Common.{◌≡◌, ◌++◌, List, ℕ, length, ap, sym, ◌∙◌, arith}
use Rattle.std.proofs.lemmas.List.{take_all, length-append}
use Rattle.gu_fix.specs.Sums.{running_sums, sum_after}
use Rattle.gu_fix.proofs.SumLemmas.{length-running, running-append}
use Rattle.gu_fix.proofs.window.Window.push.Goals as goal

pub invariant_of-self-2 : goal.invariant_of-self-2
invariant_of-self-2 c =
    let w = c.self.inside in
    let bytes = w.bytes.items in
    let piece = c.args.piece.now in
    let sums = c.self.invariant.summed c.if-not-self.false in
    let grown = c.in_ok-extend_from_slice.ensures.items in
    let same = c.in_ok-reserve.ensures.items in
    let long : length w.sums.items ≡ length bytes = ap length sums ∙ length-running 0 bytes in
    let total : c.sum_before-total.result ≡ sum_after 0 bytes =
    c.sum_before-total.ensures bytes (c.deref.ensures.value ∙ same ∙ sums) ∙ ap (sum_after 0) (take_all _ bytes (omega (arith, long, ap length same, c.len.ensures, c.reserve.new.self.ok.0))) in
    let summed : c.push_sums.new.sums.items ≡ running_sums 0 c.extend_from_slice-2.new.self.items =
    c.push_sums.ensures ∙ ap (λ (t : List ℕ). t ++ running_sums c.sum_before-total.result piece) (same ∙ sums) ∙ ap (λ n. running_sums 0 bytes ++ running_sums n piece) total
    ∙ sym (running-append 0 bytes piece) ∙ ap (running_sums 0) (sym grown) in
    record {
      summed = λ keeps. summed;
      lean = omega (arith, c.self.invariant.lean, ap length grown, length-append bytes piece);
    }
