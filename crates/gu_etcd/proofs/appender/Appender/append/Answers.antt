use Rattle.std.proofs.Common.{◌∷◌, [], ℕ, List, length, sym, ap, subst, arith}
use Rattle.std.proofs.lemmas.List.{length-append}
use Rattle.gu_etcd.specs.Log.{IsSettled}
use Rattle.gu_etcd.proofs.appender.Appender.append.Goals as goal

pub put_until_settled-requires : goal.put_until_settled-requires
put_until_settled-requires g c = record {
  number = omega (arith, c.args.self.within);
  short = c.requires.short;
  own = c.requires.own;
  next = λ honest. omega (arith, c.args.self.counted honest);
  settled = c.args.self.settled;
}

pub invariant_of-result : goal.invariant_of-result
invariant_of-result g c = record {
  within = omega (arith, c.args.self.within);
  counted = λ honest.
      let kept = c.in-Ok.ensures.kept honest in
      let long = ap (λ (l : List (List ℕ)). length l) kept in
      let more = length-append (g.N.Node.known c.args.self.node) (c.args.entry.now ∷ []) in
      omega (arith, c.args.self.counted (c.put_until_settled.ensures.before honest), long, more);
  settled = λ honest log may.
      subst (λ (l : List ℕ). IsSettled (g.N.Node.known c.put_until_settled.new.node) l log) (sym (c.put_until_settled.ensures.leader honest))
      (subst (λ (k : List (List ℕ)). IsSettled k (g.N.Node.leader c.args.self.node) log) (sym (c.in-Ok.ensures.kept honest)) (c.in-Ok.ensures.settles honest log may));
}

pub returns-in-Ok : goal.returns-in-Ok
returns-in-Ok g c = record {
  before = c.put_until_settled.ensures.before;
  before_stopped = tt;
  kept = c.in-Ok.ensures.kept;
  leader = c.put_until_settled.ensures.leader;
  leader_stopped = tt;
  any_moment = c.put_until_settled.ensures.any_moment;
  any_moment_stopped = tt;
  fenced = tt;
  reason = tt;
}
