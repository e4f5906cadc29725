use Rattle.std.proofs.Common.{◌≡◌, ◌≤◌, ◌++◌, ◌∷◌, [], ℕ, List, length, refl, sym, ◌∙◌, ap, subst}
use Rattle.gu_journal.specs.Sink.{HasBegun}
use Rattle.gu_etcd.specs.declared.log_sink.Led.TheVariants.{Ended, Going}
use Rattle.gu_etcd.specs.declared.node.TheConstants.{MAX_ENTRY}
use Rattle.gu_etcd.specs.Kept.{kept_by, leader_of}
use Rattle.gu_etcd.specs.Log.{entry_of}
use Rattle.gu_etcd.specs.Sinks.{kept_in, led_by}
use Rattle.gu_etcd.specs.Texts.{text_of_log}
use Rattle.gu_etcd.proofs.Entries.{entry_is, own_entry, short_entry}
use Rattle.gu_etcd.proofs.OwnParts.{fits_after, own_after, own_settled, text_next}
use Rattle.gu_etcd.proofs.SinkMoments.{at_place, found_moments}
use Rattle.gu_etcd.proofs.log_sink.LogSinkSink.append.Goals as goal

pub append-requires : goal.append-requires
append-requires g c =
    let sink = c.args.self in
    let batch = c.args.batch.now in
    let is : c.deref.result.now ≡ entry_of sink.desk batch = entry_is _ _ _ sink.desk batch c.deref.ensures.value c.in-Ok.ensures c.as_bytes.ensures.bytes in
    record {
      short = subst (λ (e : List ℕ). length e ≤ MAX_ENTRY) (sym is) (short_entry sink.desk batch c.as_bytes.ensures.named c.requires.short);
      own = λ honest. own_entry sink.desk (leader_of sink.appender) batch _ (sink.leads honest) is;
    }

pub invariant_of-result : goal.invariant_of-result
invariant_of-result g c =
    let sink = c.args.self in
    let batch = c.args.batch.now in
    let appender = c.in-Ok-append.appender in
    let says = c.in-Ok-append.ensures in
    let is : c.deref.result.now ≡ entry_of sink.desk batch = entry_is _ _ _ sink.desk batch c.deref.ensures.value c.in-Ok.ensures c.as_bytes.ensures.bytes in
    let started : g.N.Node.is_honest appender.node → sink.start ≤ length (kept_by appender) = λ honest.
    fits_after sink.start (kept_by sink.appender) (kept_by appender) c.deref.result.now (says.kept honest) (sink.started (says.before honest)) in
    let own = λ (honest : g.N.Node.is_honest appender.node).
    let was = says.before honest in
    own_after sink.start (leader_of sink.appender) (leader_of appender) (kept_by sink.appender) (kept_by appender) c.deref.result.now (says.leader honest) (says.kept honest)
    (sink.started was) (own_entry sink.desk (leader_of sink.appender) batch _ (sink.leads was) is) in
    record {
      leads = λ honest. sink.leads (says.before honest) ∙ sym (says.leader honest);
      started = started;
      own = own;
      found = λ honest log may. own_settled (leader_of appender) sink.start (kept_by appender) (started honest) (own honest) log (appender.settled honest log may);
    }

pub returns-in-Ok-append-clause-kept : goal.returns-in-Ok-append-clause-kept
returns-in-Ok-append-clause-kept g c honest =
    let sink = c.args.self in
    let batch = c.args.batch.now in
    let is : c.deref.result.now ≡ entry_of sink.desk batch = entry_is _ _ _ sink.desk batch c.deref.ensures.value c.in-Ok.ensures c.as_bytes.ensures.bytes in
    ap (λ (log : List (List ℕ)). text_of_log log) (c.in-Ok-append.ensures.kept honest ∙ ap (λ (e : List ℕ). kept_by sink.appender ++ e ∷ []) is)
    ∙ text_next (kept_by sink.appender) sink.desk batch c.as_bytes.ensures.named

pub returns-in-Ok-append-clause-any_moment : goal.returns-in-Ok-append-clause-any_moment
returns-in-Ok-append-clause-any_moment g c honest =
    let sink = c.args.self in
    let batch = c.args.batch.now in
    let says = c.in-Ok-append.ensures in
    let was = says.before honest in
    let is : c.deref.result.now ≡ entry_of sink.desk batch = entry_is _ _ _ sink.desk batch c.deref.ensures.value c.in-Ok.ensures c.as_bytes.ensures.bytes in
    found_moments (led_by sink) (Going sink.start c.in-Ok-append.appender) (kept_by sink.appender) sink.desk batch c.deref.result.now c.as_bytes.ensures.named c.requires.lines
    (sink.leads was) is (sink.started was) (sink.own was) refl (says.leader honest) (says.any_moment honest)

pub returns-in-Err-clause-any_moment_stopped : goal.returns-in-Err-clause-any_moment_stopped
returns-in-Err-clause-any_moment_stopped g c =
    let sink = c.args.self in
    let batch = c.args.batch.now in
    let says = c.in-Err.ensures in
    let is : c.deref.result.now ≡ entry_of sink.desk batch = entry_is _ _ _ sink.desk batch c.deref.ensures.value c.in-Ok.ensures c.as_bytes.ensures.bytes in
    at_place (led_by sink) (Ended sink.start c.in-Err.stopped) _ (HasBegun (kept_in sink) batch) c.new-in-Err.ensures.place
    (λ honest.
    let was = says.before_stopped honest in
    found_moments (led_by sink) (Ended sink.start c.in-Err.stopped) (kept_by sink.appender) sink.desk batch c.deref.result.now c.as_bytes.ensures.named c.requires.lines
    (sink.leads was) is (sink.started was) (sink.own was) refl (says.leader_stopped honest) (says.any_moment_stopped honest))
