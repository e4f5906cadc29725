use Rattle.std.proofs.Common.{◌≡◌, ℕ, ◌+◌, ◌<◌, ◌≤◌, ◌^◌, ◌-◌, List, length, sym, subst, arith}
use Rattle.std.proofs.lemmas.List.{length-map, length-take-le}
use Rattle.gu_etcd.specs.Node.{Says}
use Rattle.gu_etcd.specs.Steps.{log_in}
use Rattle.gu_etcd.proofs.Recalling.{keeps, known_of, later, nothing_else, says_of}
use Rattle.gu_etcd.proofs.Results.{if_ok_implies}
use Rattle.gu_etcd.proofs.memory_node.MemoryNodeNode.put.Goals as goal

pub returns-clause-answer : goal.returns-clause-answer
returns-clause-answer c =
    let old = c.args.self.now in
    let new = c.step.new.self in
    let entry = c.args.entry.now in
    let s = c.step.ensures in
    if_ok_implies c.step.result s.answer (λ answer is honest log may.
    let was : (old.failures < 2 ^ 64 - 1) × (old.refusals < 2 ^ 64 - 1) × (old.shortages < 2 ^ 64 - 1) =
    (omega (arith, honest.0, s.failures_stay), omega (arith, honest.1, s.refusals_stay), omega (arith, honest.2, s.shortages_stay)) in
    let long : length (log_in old) ≡ length old.log.items = length-map old.log.items (λ e. e.items) in
    let fits : old.known ≤ length (log_in old) = omega (arith, old.within) in
    let next : c.args._number ≡ old.known + 1 = omega (arith, c.requires.next was, length-take-le old.known (log_in old) fits) in
    subst (λ (l : List (List ℕ)). Says old.leader.items c.args._number entry answer l) (sym may) (says_of old.leader.items entry old new c.args._number answer next is))

pub returns-clause-known : goal.returns-clause-known
returns-clause-known c =
    let s = c.step.ensures in
    if_ok_implies c.step.result s.answer (λ answer is honest. known_of c.args.entry.now c.args.self.now c.step.new.self answer c.args.self.now.within s.log is)

pub returns-clause-time : goal.returns-clause-time
returns-clause-time c honest =
    let old = c.args.self.now in
    let new = c.step.new.self in
    let entry = c.args.entry.now in
    let s = c.step.ensures in
    record {
      later = later entry old new s.log;
      nothing_else = λ t log before had. nothing_else entry old new s.log t log had;
      keeps = λ t log before had. keeps entry old new s.log t log had;
    }
