use Rattle.std.proofs.Common.{ℕ, ◌+◌, List, length, refl, sym, ◌∙◌, ap, subst, arith, rules, IsErrOf}
use Rattle.gu_etcd.specs.declared.node.NodeError.TheVariants.{Memory, Unanswered}
use Rattle.gu_etcd.specs.declared.node.PutAnswer.{PutAnswer}
use Rattle.gu_etcd.specs.Log.{IsOf}
use Rattle.gu_etcd.specs.Node.{Says, known_after}
use Rattle.gu_etcd.proofs.Asking.{not_yet_asked, asked_again}
use Rattle.gu_etcd.proofs.Results.{no_err}
use Rattle.gu_etcd.proofs.outcome.put_until_answered.Goals as goal

pub loop-attempt-init : goal.loop-attempt-init
loop-attempt-init g c = λ honest.
    (refl, omega arith, not_yet_asked g.N.Node c.args.entry.now c.args.node.now honest (c.requires.settled honest) (g.met.N.Node.only_now c.args.node.now))

pub put-requires : goal.put-requires
put-requires g c = record {
  number = c.requires.number;
  short = c.requires.short;
  next = λ honest.
      let so_far = c.loop-attempt.invariant honest in
      c.requires.next so_far.2.before ∙ ap (λ (l : List (List ℕ)). length l + 1) (sym so_far.0);
  own = λ honest.
      let so_far = c.loop-attempt.invariant honest in
      subst (λ (l : List ℕ). IsOf l c.args.entry.now) (sym so_far.2.leader) (c.requires.own so_far.2.before);
}

pub loop-attempt-preserved : goal.loop-attempt-preserved
loop-attempt-preserved g c = λ honest.
    let so_far = c.loop-attempt.invariant (c.put.ensures.before honest) in
    let cause = c.in-Err-Unanswered.ensures.cause honest in
    let came : IsErrOf c.put.result Unanswered = first_of (search rules, cc) in
    let failed = (c.put.ensures.cause honest).unanswered came in (
      c.in-Err-Unanswered.ensures.unknown honest ∙ so_far.0,
      omega (arith, so_far.1, failed),
      asked_again g.N.Node c.args.number c.args.entry.now c.args.node.now c.loop-attempt.node c.put.new.self (c.requires.next so_far.2.before) so_far.2
          (c.put.ensures.leader honest) (c.put.ensures.order honest) (c.put.ensures.time honest) cause.stay,
    )

pub returns-in-Ok : goal.returns-in-Ok
returns-in-Ok g c =
    let so_far = λ (honest : g.N.Node.is_honest c.put.new.self). c.loop-attempt.invariant (c.put.ensures.before honest) in
    let asked = λ (honest : g.N.Node.is_honest c.put.new.self). let cause = c.put.ensures.cause honest in
    asked_again g.N.Node c.args.number c.args.entry.now c.args.node.now c.loop-attempt.node c.put.new.self (c.requires.next (so_far honest).2.before) (so_far honest).2
    (c.put.ensures.leader honest) (c.put.ensures.order honest) (c.put.ensures.time honest) cause.stay in
    record {
      before = λ honest. (so_far honest).2.before;
      leader = λ honest. (asked honest).leader;
      begun = λ honest. (asked honest).begun;
      answer = λ honest log may. subst (λ (l : List ℕ). Says l c.args.number c.args.entry.now c.in-Ok.answer log) (so_far honest).2.leader (c.in-Ok.ensures.answer honest log may);
      known = λ honest. c.in-Ok.ensures.known honest ∙ ap (λ (l : List (List ℕ)). known_after l c.args.entry.now c.in-Ok.answer) (so_far honest).0;
      any_moment = λ honest. (asked honest).moments;
      cause = λ honest. record {
        unanswered = λ of. absurd (cc);
        memory = λ of. absurd (cc);
        refused = λ is. let refused = (c.in-Ok.ensures.cause honest).refused is in let stay = (so_far honest).2.stay.refusals in omega (arith, refused, stay);
        stay = (asked honest).stay;
      };
    }

pub returns-in-Err-Memory : goal.returns-in-Err-Memory
returns-in-Err-Memory g c =
    let so_far = λ (honest : g.N.Node.is_honest c.put.new.self). c.loop-attempt.invariant (c.put.ensures.before honest) in
    let asked = λ (honest : g.N.Node.is_honest c.put.new.self). let cause = c.put.ensures.cause honest in
    asked_again g.N.Node c.args.number c.args.entry.now c.args.node.now c.loop-attempt.node c.put.new.self (c.requires.next (so_far honest).2.before) (so_far honest).2
    (c.put.ensures.leader honest) (c.put.ensures.order honest) (c.put.ensures.time honest) cause.stay in
    record {
      before = λ honest. (so_far honest).2.before;
      leader = λ honest. (asked honest).leader;
      begun = λ honest. (asked honest).begun;
      answer = tt;
      known = tt;
      any_moment = λ honest. (asked honest).moments;
      cause = λ honest. record {
        unanswered = λ of. absurd (no_err {T = PutAnswer} Memory Unanswered (λ is. cc) of);
        memory = λ of.
            let came : IsErrOf c.put.result Memory = first_of (search rules, cc) in
            let short = (c.put.ensures.cause honest).memory came in
            let stay = (so_far honest).2.stay.shortages in
            omega (arith, short, stay);
        refused = tt;
        stay = (asked honest).stay;
      };
    }

pub returns : goal.returns
returns g c =
    let so_far = λ (honest : g.N.Node.is_honest c.loop-attempt.node). c.loop-attempt.invariant honest in
    record {
      before = λ honest. (so_far honest).2.before;
      leader = λ honest. (so_far honest).2.leader;
      begun = λ honest. (so_far honest).2.begun;
      answer = tt;
      known = tt;
      any_moment = λ honest. (so_far honest).2.moments;
      cause = λ honest. record {
        unanswered = λ of. omega (arith, (so_far honest).1);
        memory = λ of. absurd (no_err {T = PutAnswer} Unanswered Memory (λ is. cc) of);
        refused = tt;
        stay = (so_far honest).2.stay;
      };
    }
