-- Why a reference file is refused: the number and name of each fault.
use Rattle.std.specs.Prelude.{ℕ, List, codes, if◌then◌else◌}
use Rattle.csv.specs.Reading.{is_io}
use Rattle.csv.specs.declared.error.ErrorKind.{ErrorKind}
use Rattle.gu_ref.specs.declared.error.RefFault.{RefFault}
use Rattle.gu_ref.specs.declared.error.RefFault.TheVariants.{Memory, BadRow, Unknown, Twice, TooMany, ReadFault}

-- its number; 0 for out of memory, which is not a fault of the file
abbrev pub number_of : RefFault → ℕ
number_of Memory = 0
number_of (BadRow line) = 1
number_of (Unknown line) = 2
number_of (Twice line) = 3
number_of TooMany = 4
number_of ReadFault = 5

-- its name, without the line
abbrev pub name_of : RefFault → List ℕ
name_of Memory = codes "Memory"
name_of (BadRow line) = codes "BadRow"
name_of (Unknown line) = codes "Unknown"
name_of (Twice line) = codes "Twice"
name_of TooMany = codes "TooMany"
name_of ReadFault = codes "ReadFault"

-- the fault for an error in reading records: the reader's failure, or out of memory
abbrev pub failure_of : ErrorKind → RefFault
failure_of kind = if is_io kind then ReadFault else Memory
