use Rattle.std.proofs.Common.{◌≡◌, ◌++◌, ◌∷◌, [], ℕ, List, ◌∙◌, rules, IsErrOf}
use Rattle.gu_etcd.specs.Log.{IsSettled}
use Rattle.gu_etcd.specs.Outcome.{IsIn, IsNotIn}
use Rattle.gu_etcd.specs.declared.appender.AppendError.TheVariants.{Failed, Fenced, Full, Memory}
use Rattle.gu_etcd.specs.declared.node.NodeError.TheVariants as NoAnswer
use Rattle.gu_etcd.proofs.Histories.{kept_by_answer, fenced_by_answer, known_by_answer, refused_by_answer}
use Rattle.gu_etcd.proofs.Results.{on_ok_implies, err_says, err_is, no_err}
use Rattle.gu_etcd.proofs.outcome.put_until_settled.Goals as goal

pub returns-in-Ok : goal.returns-in-Ok
returns-in-Ok g c =
    let node = g.N.Node in
    let old = c.args.node.now in
    let new = c.put_until_answered.new.node in
    let entry = c.args.entry.now in
    let answer = c.in-Ok.answer in
    let asked = c.put_until_answered.ensures in
    let says = c.outcome_of.ensures in
    record {
      before = asked.before;
      leader = asked.leader;
      kept = on_ok_implies (IsIn answer entry) (node.is_honest new → node.known new ≡ node.known old ++ entry ∷ []) c.outcome_of.result says.kept
          (λ is honest. c.in-Ok.ensures.known honest ∙ known_by_answer (node.known old) entry answer is);
      settles = on_ok_implies (IsIn answer entry)
          (node.is_honest new → (log : List (List ℕ)) → node.may_hold new log → IsSettled (node.known old ++ entry ∷ []) (node.leader old) log) c.outcome_of.result says.kept
          (λ is honest log may.
          kept_by_answer (node.known old) (node.leader old) c.args.number entry (c.requires.next (asked.before honest)) answer log (c.requires.own (asked.before honest)) is
          (asked.begun honest log may) (c.in-Ok.ensures.answer honest log may));
      fenced = λ of honest log may.
          fenced_by_answer (node.known old) (node.leader old) c.args.number entry (c.requires.next (asked.before honest)) answer log (c.requires.own (asked.before honest))
          (err_says (IsNotIn answer entry) Fenced Fenced c.outcome_of.result says.fenced of) (asked.begun honest log may) (c.in-Ok.ensures.answer honest log may);
      any_moment = asked.any_moment;
      failed = λ of honest. let is : Fenced ≡ Failed = err_is (IsNotIn answer entry) Fenced Failed c.outcome_of.result says.fenced of in absurd (cc);
      refused = λ of honest.
          (c.in-Ok.ensures.cause honest).refused
          (refused_by_answer answer entry (err_says (IsNotIn answer entry) Fenced Fenced c.outcome_of.result says.fenced of));
      memory = λ of honest. let is : Fenced ≡ Memory = err_is (IsNotIn answer entry) Fenced Memory c.outcome_of.result says.fenced of in absurd (cc);
      not_full = λ of. let is : Fenced ≡ Full = err_is (IsNotIn answer entry) Fenced Full c.outcome_of.result says.fenced of in cc;
    }

pub returns-in-Err-Memory : goal.returns-in-Err-Memory
returns-in-Err-Memory g c =
    let asked = c.put_until_answered.ensures in
    record {
      before = asked.before;
      leader = asked.leader;
      kept = tt;
      settles = tt;
      fenced = λ of. absurd (no_err {T = Unit {0}} Memory Fenced (λ is. cc) of);
      any_moment = asked.any_moment;
      failed = λ of. absurd (no_err {T = Unit {0}} Memory Failed (λ is. cc) of);
      refused = λ of. absurd (no_err {T = Unit {0}} Memory Fenced (λ is. cc) of);
      memory = λ of honest.
          let came : IsErrOf c.put_until_answered.result NoAnswer.Memory = first_of (search rules, cc) in
          (asked.cause honest).memory came;
      not_full = λ of. no_err {T = Unit {0}} Memory Full (λ is. cc) of;
    }

pub returns-in-Err-Unanswered : goal.returns-in-Err-Unanswered
returns-in-Err-Unanswered g c =
    let asked = c.put_until_answered.ensures in
    record {
      before = asked.before;
      leader = asked.leader;
      kept = tt;
      settles = tt;
      fenced = λ of. absurd (no_err {T = Unit {0}} Failed Fenced (λ is. cc) of);
      any_moment = asked.any_moment;
      failed = λ of honest.
          let came : IsErrOf c.put_until_answered.result NoAnswer.Unanswered = first_of (search rules, cc) in
          (asked.cause honest).unanswered came;
      refused = λ of. absurd (no_err {T = Unit {0}} Failed Fenced (λ is. cc) of);
      memory = λ of. absurd (no_err {T = Unit {0}} Failed Memory (λ is. cc) of);
      not_full = λ of. no_err {T = Unit {0}} Failed Full (λ is. cc) of;
    }
