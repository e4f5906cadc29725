-- How a run ends, and its exit status.
use Rattle.std.specs.Prelude.{ℕ, Bool, true, false}
use Rattle.gu_words.specs.declared.status.Status.{Status}
use Rattle.gu_words.specs.declared.status.Status.TheVariants.{Done, Fault, Refused}

-- the exit status
abbrev pub number_of : Status → ℕ
number_of Done = 0
number_of Fault = 1
number_of Refused = 2

-- the status that an audit makes: done if it finds nothing amiss, and else a fault
abbrev pub status_of_audit : Bool → Status
status_of_audit true = Done
status_of_audit false = Fault
