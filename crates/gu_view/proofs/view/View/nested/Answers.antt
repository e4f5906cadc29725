use Rattle.gu_view.proofs.Words.{◌∙◌, sym}
use Rattle.gu_view.proofs.NestingLemmas.{nested_from, rooms_agree}
use Rattle.gu_view.proofs.view.View.nested.Goals as goal

pub returns : goal.returns
returns c =
    rw (← c.self.view_is) (
      λ agree. nested_from _ c.self.invariant.sound c.self.invariant.whole (rw (← c.self.view_is) at (sym c.keys_agree.ensures ∙ agree)),
      λ nested. rw (← c.self.view_is) at c.keys_agree.ensures ∙ rooms_agree _ nested,
    )
