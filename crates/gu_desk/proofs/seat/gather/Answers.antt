use Rattle.gu_desk.proofs.Words.{rules, ◌≡◌, ◌∙◌, ◌∷◌, [], List, All, ap, arith, length, length-append, subst, sym, map-id, SeatState}
use Rattle.std.specs.Vec.Iter.{into_iter_items, into_iter_len}
use Rattle.std.proofs.lemmas.Iterator.Adapters.{YieldsList-from_vec}
use Rattle.std.proofs.lemmas.Iterator.Consumers.{YieldsList-end}
use Rattle.std.proofs.lemmas.List.Elements.{All-push}
use Rattle.std.proofs.lemmas.List.Sums.{sum_by-append}
use mathlib.Core.List.{IsPrefix}
use Rattle.gu_desk.proofs.seat.gather.Goals as goal

pub loop-seat-preserved : goal.loop-seat-preserved
loop-seat-preserved g c =
    let i = c.loop-seat.invariant in
    let seats : List SeatState = c.loop-seat.yielded in
    let seat : SeatState = c.in-Some.seat in
    let all = c.args.annals.now in
    let begins = subst (IsPrefix c.seat.inside.front) i.history c.compare.ensures.begins in
    let own = subst (λ (s : SeatState). IsPrefix s.front all) c.seat.view_is begins in
    let count = length-append seats (seat ∷ []) in
    let entries : c.seat.inside.entries.amount ≡ seat.entries = ap (λ (s : SeatState). s.entries) c.seat.view_is in
    let swept : c.seat.inside.swept.amount ≡ seat.swept = ap (λ (s : SeatState). s.swept) c.seat.view_is in
    record {
      parts = (omega (arith, count, c.merge.ensures.parts, i.parts.0, c.seat.invariant.0), c.merge.ensures.apart);
      amount = omega (arith, sum_by-append (λ (s : SeatState). s.entries) seats (seat ∷ []), c.merge.ensures.amount, i.amount, entries);
      swept_parts = (omega (arith, count, c.merge-in-loop-seat.ensures.parts, i.swept_parts.0, c.seat.invariant.1), c.merge-in-loop-seat.ensures.apart);
      swept_amount = omega (arith, sum_by-append (λ (s : SeatState). s.swept) seats (seat ∷ []), c.merge-in-loop-seat.ensures.amount, i.swept_amount, swept);
      history = c.compare.ensures.same ∙ i.history;
      seen = All-push (λ (s : SeatState). IsPrefix s.front all) seats seat i.seen own;
    }

pub returns-clause-seen : goal.returns-clause-seen
returns-clause-seen g c =
    let all = c.args.seats.items in
    let items : into_iter_items c.into_iter-seat-iterator.result ≡ all = cc in
    let count : into_iter_len c.into_iter-seat-iterator.result ≡ length all = search rules in
    let end = YieldsList-end (YieldsList-from_vec all items count) c.loop-seat.yielded c.loop-seat.seat-iterator c.loop-seat.yielded_by c.next.result c.next.new.self c.in-None.is c.next.ensures.steps in
    let whole : c.loop-seat.yielded ≡ all = sym (map-id c.loop-seat.yielded) ∙ end.0 in
    subst (λ (seats : List SeatState). All (λ (s : SeatState). IsPrefix s.front c.args.annals.now) seats) whole c.loop-seat.invariant.seen
