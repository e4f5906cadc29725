-- Machinery: refusals of a sweep, by the hold of the lock that refused it.
use Rattle.gu_book.specs.declared.error.AskError.{AskError}
use Rattle.gu_book.specs.declared.error.AskError.TheVariants as first
use Rattle.gu_book.specs.declared.error.SeenError.{SeenError}
use Rattle.gu_book.specs.declared.error.SeenError.TheVariants as second
use Rattle.gu_desk.specs.declared.error.SweepError.{SweepError}
use Rattle.gu_desk.specs.declared.error.SweepError.TheVariants as sweep

-- the refusal of a sweep for which no view was taken
abbrev pub refusal_of_first_hold : AskError → SweepError
refusal_of_first_hold first.Memory = sweep.Memory
refusal_of_first_hold first.UnknownGroup = sweep.UnknownGroup

-- the refusal of a sweep whose proposal was not committed
abbrev pub refusal_of_second_hold : SeenError → SweepError
refusal_of_second_hold second.Memory = sweep.Memory
refusal_of_second_hold second.Full = sweep.Full
refusal_of_second_hold (second.Stale seen now) = sweep.Stale seen now
