use Rattle.std.proofs.Common.{◌≡◌, ◌++◌, ◌∷◌, [], ◌%◌, List, ℕ, ap, ◌∙◌, append_assoc, drop, length, arith}
use Rattle.std.specs.Prelude.{sum}
use Rattle.std.proofs.lemmas.List.{drop_at}
use Rattle.gu_fix.specs.WholeMessage.{opening, soh, front_of, trailer_of, trailer_after}
use Rattle.gu_fix.proofs.encoding.push_message.Goals as goal

pub returns-clause-ok : goal.returns-clause-ok
unfolding opening
returns-clause-ok c =
    let was = c.args.out.now.items in
    let digits = c.args.digits.now in
    let rest = soh ∷ c.args.text.now in
    let front = front_of digits c.args.text.now in
    let items : c.extend_from_slice-3.new.self.items ≡ was ++ front =
    c.in_ok-extend_from_slice-3.ensures.items
    ∙ ap (λ (t : List ℕ). t ++ c.args.text.now) (c.in_ok-push.ensures.items ∙ ap (λ (t : List ℕ). t ++ soh ∷ []) (c.in_ok-extend_from_slice-2.ensures.items ∙ ap (λ (t : List ℕ). t ++ digits) (c.in_ok-extend_from_slice.ensures.items ∙ ap (λ (t : List ℕ). t ++ opening) c.in_ok-reserve.ensures.items)))
    ∙ append_assoc (was ++ opening ++ digits) (soh ∷ []) c.args.text.now ∙ ap (λ (t : List ℕ). t ++ rest) (append_assoc was opening digits) ∙ append_assoc was (opening ++ digits) rest in
    let began : length was ≡ c.len-start.result = omega (arith, c.len-start.ensures, ap length c.in_ok-reserve.ensures.items) in
    let summed : drop c.len-start.result c.deref.result.now ≡ front = ap (drop c.len-start.result) (c.deref.ensures.value ∙ items) ∙ drop_at was front c.len-start.result began in
    let trailer_is : c.trailer.result ≡ trailer_after front = c.trailer.ensures ∙ ap trailer_of (c.checksum_from-sum.ensures ∙ ap (λ (t : List ℕ). sum t % 256) summed) in
    c.in_ok-extend_from_slice-4.ensures.items ∙ ap (λ (t : List ℕ). t ++ c.trailer.result) items ∙ ap (λ (t : List ℕ). was ++ front ++ t) trailer_is
