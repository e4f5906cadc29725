use Rattle.std.proofs.Common.{refl, rules}
use Rattle.gu_terms.proofs.lines.Lines.new.Goals as goal

pub known-requires : goal.known-requires
known-requires c = search rules

pub returns-clause-sound : goal.returns-clause-sound
returns-clause-sound c = (λ is. search rules, λ lines. refl)
