use Rattle.std.proofs.Common.{◌≡◌, ◌++◌, List, ℕ, sym, ◌∙◌, ap}
use Rattle.std.proofs.lemmas.Bool.Decides.{Decides-eqb}
use Rattle.std.proofs.lemmas.Slice.Eq.{slice_eq-Decides}
use Rattle.gu_etcd.specs.Texts.{batch_of}
use Rattle.gu_standby.proofs.Batches.{batch_of_entry}
use Rattle.gu_standby.proofs.follower.Follower.play.Goals as goal

pub returns-clause-text : goal.returns-clause-text
returns-clause-text c =
    let read : batch_of c.args.entry.now ≡ c.in-Some.batch.now = batch_of_entry _ _ _ c.in-Some.ensures.parts c.in-Some.ensures.named in
    c.in-Ok.ensures.text ∙ ap (λ (batch : List ℕ). c.args.self.now.played.text.items ++ batch) (sym read)

pub returns-clause-closed : goal.returns-clause-closed
returns-clause-closed c =
    let read : batch_of c.args.entry.now ≡ c.in-Some.batch.now = batch_of_entry _ _ _ c.in-Some.ensures.parts c.in-Some.ensures.named in
    let same = slice_eq-Decides Decides-eqb _ _ c.eq-self.result c.eq-self.ensures in
    (λ is. read ∙ same.0 is, λ is. same.1 (sym read ∙ is))
