-- A log that is followed.
use Rattle.gu_ref.specs.Tables.{Tables}
use Rattle.gu_rules.specs.BookState.{BookState}
use Rattle.gu_days.specs.Arriving.{IsPlayedSoFar}
use Rattle.gu_standby.specs.declared.follower.Follower.{Follower}

-- the text that a follower has came from its log, batch by batch, and was played from a book without entries
abbrev pub HasPlayed : Tables → Follower → Type 0
HasPlayed reference follower = IsPlayedSoFar reference follower.played.text.items follower.played.script

-- the book that the text so far led to
abbrev pub book_of : Follower → BookState
book_of follower = follower.played.script.course.state.book
