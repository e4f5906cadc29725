use Rattle.gu_notices.proofs.Words.{◌-◌, flat_map, range_with_len, told_of_line, Keeps, CoversEach, register_in}
use Rattle.gu_notices.proofs.firm_filter.FirmFilter.add_lines.Lts.Given as given

pub record invariant-loop-number (l : given.Live-loop-number) : Type 0 where
  pub added : CoversEach (register_in l.register) l.self (λ later. flat_map (told_of_line later) (range_with_len l.from (l.number - l.from)))
  pub kept : Keeps l.fn.self l.self
