use Rattle.std.proofs.Common.{◌+◌, ◌-◌, ◌<◌, length, get_or, drop, ap, ◌∙◌, arith}
use Rattle.std.proofs.lemmas.List.{take_rest, get_or-drop, length-drop}
use Rattle.std.proofs.lemmas.Bool.{eq-eqb}
use Rattle.gu_fix.proofs.Scanning.{garbled_without_first}
use Rattle.gu_fix.proofs.scan.next_start.Goals as goal

pub returns-in-Some-clause-garbled : goal.returns-in-Some-clause-garbled
returns-in-Some-clause-garbled c =
    let bytes = c.args.bytes.now in
    let found = simp take_rest at c.in-Some.ensures in
    let within : c.in-Some.index < length (drop 1 bytes) = found.0.high in
    garbled_without_first bytes (c.in-Some.index + 1) (omega (arith, within, length-drop 1 bytes)) c.requires.garbled
    (λ k some lt e. found.0.before (k - 1) (omega arith) (omega arith) (eq-eqb (get_or (drop 1 bytes) (k - 1) 0) 56 (get_or-drop 1 bytes (k - 1) 0 ∙ ap (λ i. get_or bytes i 0) (omega arith) ∙ e)))

pub returns-in-None-clause-garbled : goal.returns-in-None-clause-garbled
returns-in-None-clause-garbled c =
    let bytes = c.args.bytes.now in
    let none = simp take_rest at c.in-None.ensures in
    garbled_without_first bytes (length bytes) (omega arith) c.requires.garbled
    (λ k some lt e. none (k - 1) (omega arith) (omega (arith, length-drop 1 bytes)) (eq-eqb (get_or (drop 1 bytes) (k - 1) 0) 56 (get_or-drop 1 bytes (k - 1) 0 ∙ ap (λ i. get_or bytes i 0) (omega arith) ∙ e)))
