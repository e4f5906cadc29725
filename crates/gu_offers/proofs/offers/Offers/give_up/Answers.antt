use Rattle.gu_offers.proofs.Words.{◌≡◌, ◌∙◌, refl, ap, map, length, arith, length-map, with_lines, given_for, row_of, rows_of}
use Rattle.gu_offers.proofs.Growing.{kept-offered, kept-same, rows-offered}
use Rattle.gu_offers.proofs.KeptIds.{taken_off}
use Rattle.gu_offers.proofs.offers.Offers.give_up.Goals as goal

pub invariant_of-self-in_default : goal.invariant_of-self-in_default
invariant_of-self-in_default c =
    let rows : length (rows_of c.self.inside) ≡ length c.self.inside.rows = length-map c.self.inside.rows (row_of c.self.inside.day) in
    let view : length (rows_of c.self.inside) ≡ length c.args.self.now = ap length c.self.view_is in
    let lines : length c.as_slice-lines.result.now ≡ length c.args.lines.now = ap length c.as_slice-lines.ensures.lines in
    kept-offered c.args.firm c.args.report c.args.group c.self.inside
    (record { rows = c.push.new.self; groups = c.append.new.self; day = c.self.inside.day }) c.self.invariant
    c.as_slice-lines.result.now c.are_lots.ensures
    c.in_ok-push.ensures.pushed refl
    c.get.result (omega (arith, c.get.ensures.number, c.known-first.ensures, c.len-count.ensures, c.self.invariant.few))
    (omega (arith, rows, view, lines, c.requires))
    c.in_default.ensures.appended

pub returns-clause-offered : goal.returns-clause-offered
returns-clause-offered c =
    rows-offered c.args.firm c.args.report c.args.group c.self.inside
    (record { rows = c.push.new.self; groups = c.append.new.self; day = c.self.inside.day }) c.self.invariant
    c.as_slice-lines.result.now c.are_lots.ensures
    c.in_ok-push.ensures.pushed refl
    ∙ (λ i. with_lines (c.self.view_is i) c.args.firm c.args.report c.args.group (c.as_slice-lines.ensures.lines i))

pub invariant_of-self : goal.invariant_of-self
invariant_of-self c =
    kept-same c.self.inside (record { rows = c.push.new.self; groups = c.self.inside.groups; day = c.self.inside.day }) c.self.invariant c.in_err-push.ensures.refused refl (λ group. refl)

pub invariant_of-self-in-Err : goal.invariant_of-self-in-Err
invariant_of-self-in-Err c =
    kept-same c.self.inside (record { rows = c.truncate.new.self; groups = c.append.new.self; day = c.self.inside.day }) c.self.invariant
    (taken_off c.self.inside.rows (map (given_for c.args.firm c.args.report c.args.group) c.as_slice-lines.result.now) c.push.new.self c.truncate.new.self c.len-count.result
    c.truncate.ensures c.len-count.ensures c.in_ok-push.ensures.pushed) refl
    c.in-Err.ensures.refused
