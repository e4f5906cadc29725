use Rattle.gu_keeping.proofs.Words.{◌≡◌, ◌≤◌, ◌+◌, ◌++◌, ◌∷◌, [], ◌∙◌, ℕ, List, length, take, sym, ap, subst, append_assoc, append-nil, arith, Entry, unknown_origins, IsBatchOf}
use Rattle.std.proofs.lemmas.Result.{IfOk-weaker}
use Rattle.gu_keeping.specs.declared.batch.Batch.{Batch}
use Rattle.gu_keeping.proofs.Made.{next_taken, part_count, part_made, same_batch, unknown_added}
use Rattle.gu_keeping.proofs.opening.next_batch.Goals as goal
use Rattle.gu_keeping.proofs.opening.next_batch.Goals.{else-loop-place-test, then-loop-place-test+in_ok-entry+in_ok-add+then-not-branch}

pub loop-place-init : goal.loop-place-init
loop-place-init c =
    let history = c.args.history.now in
    let made = c.in_ok-batch.ensures in
    record {
      entries = [];
      made = made;
      so_far = ap (λ (n : ℕ). take n history) c.count-place.ensures ∙ sym (append-nil (take c.args.chain.count history));
      count_is = omega (arith, made.link.count_is, c.count-place.ensures);
    }

pub loop-place-preserved : goal.loop-place-preserved
loop-place-preserved c =
    let history = c.args.history.now in
    let so_far = c.loop-place.invariant in
    let entry = c.in_ok-entry.entry in
    let added = c.in_ok-add.ensures.added c.if-not-branch.false in
    record {
      entries = so_far.entries ++ entry ∷ [];
      made = unknown_added c.args.chain so_far.entries entry c.loop-place.batch c.add.new.self so_far.made added;
      so_far =
          next_taken history c.loop-place.place entry c.in_ok-entry.ensures
          ∙ ap (λ (l : List Entry). l ++ entry ∷ []) so_far.so_far
          ∙ append_assoc (take c.args.chain.count history) so_far.entries (entry ∷ []);
      count_is = omega (arith, added.link.count_is, so_far.count_is);
    }

pub returns : goal.returns
returns c =
    let chain = c.args.chain in
    let history = c.args.history.now in
    let so_far = c.loop-place.invariant in
    let entries = so_far.entries in
    let place = c.loop-place.place in
    let batch = c.loop-place-test.batch in
    let count : chain.count + length entries ≡ place = sym so_far.made.link.count_is ∙ so_far.count_is in
    let up_to : place ≤ length history =
    omega (arith, c.loop-place.auto.place-end (omega (arith, c.count-place.ensures, c.len-place-end.ensures, c.requires)), c.len-place-end.ensures) in
    let of : IsBatchOf chain (unknown_origins entries) entries batch = elim c.loop-place-test.branch [
      | else-loop-place-test w ↦ subst (λ (b : Batch). IsBatchOf chain (unknown_origins entries) entries b) (sym w.batch-is) so_far.made
      | then-loop-place-test+in_ok-entry+in_ok-add+then-not-branch w ↦
          let same = w.in_ok-add.ensures.unchanged w.if-not-branch.true in
          same_batch chain (unknown_origins entries) entries c.loop-place.batch batch so_far.made
          (ap (λ (b : Batch). b.text.items) w.batch-is ∙ same.0) (ap (λ (b : Batch). b.link) w.batch-is ∙ same.1)
    ] in
    record {
      batch = IfOk-weaker c.end.result _ _ (λ made ended. part_made chain made.1 history entries place made.0.items so_far.so_far count (ended chain (unknown_origins entries) entries of)) c.end.ensures;
      within = IfOk-weaker c.end.result _ _ (λ made ended. omega (arith, part_count chain made.1 entries place count (ended chain (unknown_origins entries) entries of).1, up_to)) c.end.ensures;
    }
