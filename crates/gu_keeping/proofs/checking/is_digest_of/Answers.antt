use Rattle.gu_keeping.proofs.Words.{◌++◌, ◌∙◌, List, ℕ, sym, ap, line_of, digest_row}
use Rattle.std.proofs.lemmas.Bool.Decides.{Decides-eqb}
use Rattle.std.proofs.lemmas.Slice.Eq.{slice_eq-Decides}
use Rattle.gu_keeping.proofs.Made.{without_feed}
use Rattle.gu_keeping.proofs.checking.is_digest_of.Goals as goal

pub returns : goal.returns
returns c =
    let row = digest_row c.args.chain.now in
    let made = c.append_digest.new.output in
    let text = c.in_ok-append_digest.ensures ∙ ap (λ (t : List ℕ). t ++ line_of row) c.new-comment.ensures.items in
    let comment = c.as_slice.ensures.value ∙ without_feed row made.items c.pop.new.self.items made.len made.ok.0 text c.pop.ensures.rest in
    let same = slice_eq-Decides Decides-eqb c.as_slice.result.now c.args.line.now c.eq.result c.eq.ensures in
    (λ yes. sym (same.0 yes) ∙ comment, λ is. same.1 (comment ∙ sym is))
