-- Holds: what a seat learns of the desk's one history while it holds the lock. What it has seen is a prefix of that history, and only
-- grows.
use Rattle.std.specs.Prelude.{◌≡◌, ℕ, ◌+◌, ◌≤◌, ◌⊎◌, ◌++◌, [], ◌∷◌, List, Option, Some, length}
use mathlib.Core.List.{IsPrefix}
use Rattle.gu_terms.specs.Histories.{swept_by}
use Rattle.gu_terms.specs.declared.command.Command.{Command}
use Rattle.gu_terms.specs.declared.entry.Entry.{Entry}
use Rattle.gu_terms.specs.declared.entry.Entry.TheVariants.{Asked}
use Rattle.gu_terms.specs.declared.firm.FirmId.{FirmId}
use Rattle.gu_terms.specs.declared.notice.Stretch.{Stretch}
use Rattle.gu_terms.specs.declared.receipt.Receipt.{Receipt}
use Rattle.gu_terms.specs.declared.reply.Reply.{Reply}
use Rattle.gu_ref.specs.Tables.{Tables}
use Rattle.gu_rules.specs.BookState.{BookState}
use Rattle.gu_rules.specs.Legal.{IsLegal}
use Rattle.gu_rules.specs.Notices.{IsStretch}
use Rattle.gu_book.specs.declared.error.EnterError.{EnterError}
use Rattle.gu_book.specs.declared.error.EnterError.TheVariants.{Memory, Full}
use Rattle.gu_desk.specs.Seats.{SeatState}

-- the entry is of this command
abbrev pub Asks : Command → Entry → Type 0
Asks command entry = (reply : Reply) × (entry ≡ Asked command reply)

-- the book as a seat has seen it: the desk's reference, and the prefix of the desk's one history that the seat has seen
abbrev pub book_seen : Tables → SeatState → BookState
book_seen reference seat = record { reference = reference; history = seat.front }

-- a seat sees the same prefix of the desk's one history or a longer one, which is legal, and enters nothing
pub record Sees (reference : Tables) (old new : SeatState) : Type 0 where
  pub begins : IsPrefix old.front new.front
  pub legal : IsLegal reference new.front
  pub entries_is : new.entries ≡ old.entries
  pub swept_is : new.swept ≡ old.swept

-- nothing is entered, and the seat's state is unchanged or it sees the same prefix or a longer one
abbrev pub Looks : Tables → SeatState → SeatState → Type 0
Looks reference old new = (new ≡ old) ⊎ Sees reference old new

-- a command isn't entered: the book is full, as the seat then sees; or an allocation failed, and the seat's state is unchanged
abbrev pub IsRefused : Tables → SeatState → EnterError → SeatState → Type 0
IsRefused reference old Full new = Sees reference old new × (1000000 ≤ length new.front)
IsRefused reference old Memory new = new ≡ old

-- one entry is made from a seat: it is the last in the history as the seat then sees it, after all that the seat had seen before, and the
-- receipt has its number
pub record Enters (reference : Tables) (old : SeatState) (receipt : Receipt) (new : SeatState) : Type 0 where
  pub before : List Entry
  pub begins : IsPrefix old.front before
  pub front_is : new.front ≡ before ++ receipt.entry ∷ []
  pub legal : IsLegal reference new.front
  pub number_is : receipt.number ≡ length new.front
  pub entries_is : new.entries ≡ old.entries + 1
  pub swept_is : new.swept ≡ old.swept + swept_by receipt.entry

-- the batch was asked for, and is the batch of the firm's notices from that number on, by this book
pub record IsStretchAsked (book : BookState) (asked : Option (FirmId × ℕ)) (stretch : Stretch) : Type 0 where
  pub firm : FirmId
  pub from : ℕ
  pub asked_is : asked ≡ Some (firm, from)
  pub stretch_is : IsStretch book firm from stretch
