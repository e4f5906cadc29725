-- Events: what entries did that firms get notices of.
use Rattle.std.specs.Prelude.{true, List, [], length}
use Rattle.gu_terms.specs.declared.command.Command.TheVariants.{ReportSide, GiveUp, Claim, Refuse, Reverse}
use Rattle.gu_terms.specs.declared.entry.Entry.{Entry}
use Rattle.gu_terms.specs.declared.entry.Entry.TheVariants.{Asked, Swept}
use Rattle.gu_terms.specs.declared.entry_event.EntryEvent.{EntryEvent}
use Rattle.gu_terms.specs.declared.entry_event.EntryEvent.TheVariants as event
use Rattle.gu_terms.specs.declared.reply.Done.TheVariants.{Reported, Offered, Claimed, Refused, Reversed}
use Rattle.gu_terms.specs.declared.reply.Reply.TheVariants.{Accepted}
use Rattle.gu_terms.specs.declared.takes.Take.{Take}

-- what an entry did: a report made a trade, a give-up made an offer for each line, lots of an offer were claimed, refused or moved back, or
-- a group was swept; any other entry has no event
abbrev pub event_of : Entry → EntryEvent
event_of (Asked (ReportSide report) (Accepted (Reported true))) = event.Matched report.match_id
event_of (Asked (GiveUp give_up) (Accepted (Offered group first count))) = event.Offered first (length give_up.lines)
event_of (Asked (Claim claim) (Accepted (Claimed lots))) = event.Claimed claim.offer lots
event_of (Asked (Refuse refusal) (Accepted (Refused lots))) = event.Refused refusal.offer refusal.why lots
event_of (Asked (Reverse reversal) (Accepted (Reversed lots))) = event.Reversed reversal.offer lots
event_of (Swept sweep) = event.Swept
event_of entry = event.Other

-- the takes of a sweep, and none for any other entry
abbrev pub takes_of : Entry → List Take
takes_of (Swept sweep) = sweep.takes
takes_of entry = []
