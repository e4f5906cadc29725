use Rattle.gu_notices.proofs.Words.{take, flat_map, told_of_take, Keeps, CoversEach, register_in}
use Rattle.gu_notices.proofs.firm_filter.FirmFilter.add_takes.Lts.Given as given

pub record invariant-loop-take (l : given.Live-loop-take) : Type 0 where
  pub added : CoversEach (register_in l.register) l.self (λ later. flat_map (told_of_take later) (take l.take-index l.takes))
  pub kept : Keeps l.fn.self l.self
