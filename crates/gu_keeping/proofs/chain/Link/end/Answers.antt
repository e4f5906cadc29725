use Rattle.gu_keeping.proofs.Words.{◌++◌, ◌∙◌, List, ℕ, refl, ap, sha256}
use Rattle.gu_keeping.proofs.Made.{ended_none, ended_some}
use Rattle.gu_keeping.proofs.chain.Link.end.Goals as goal

pub returns-then-self : goal.returns-then-self
returns-then-self c = λ chain entries of. ended_none chain entries c.args.self.now of c.if-self.true

pub returns : goal.returns
returns c = λ chain entries of.
    let link = c.args.self.now in
    ended_some chain entries link _ of c.if-self.false refl refl
    (c.digest_of.ensures ∙ ap (λ (t : List ℕ). sha256 (link.chain.digest ++ t)) c.deref.ensures.value)
