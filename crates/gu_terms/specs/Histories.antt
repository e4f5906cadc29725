-- The history: all entries, in order.
use Rattle.std.specs.Prelude.{ℕ, zero, suc, List, Option, None, Some, slice_get, sum_by}
use Rattle.gu_terms.specs.declared.command.Command.TheVariants.{GiveUp}
use Rattle.gu_terms.specs.declared.entry.Entry.{Entry}
use Rattle.gu_terms.specs.declared.entry.Entry.TheVariants.{Asked, Swept}
use Rattle.gu_terms.specs.declared.group.Group.{Group}
use Rattle.gu_terms.specs.declared.reply.Done.TheVariants.{Offered}
use Rattle.gu_terms.specs.declared.reply.Reply.TheVariants.{Accepted}

-- the entry with this number; the first has number 1, and none has number 0
abbrev pub entry_at : List Entry → ℕ → Option Entry
entry_at history zero = None
entry_at history (suc place) = slice_get history place

-- the lots that an entry swept
abbrev pub swept_by : Entry → ℕ
swept_by (Asked command reply) = 0
swept_by (Swept sweep) = sweep.lots

-- the lots that all entries swept
abbrev pub lots_swept : List Entry → ℕ
lots_swept history = sum_by swept_by history

-- the product group in the reply to an accepted give-up; none for any other entry
abbrev pub offered_group : Entry → Option Group
offered_group (Asked (GiveUp give_up) (Accepted (Offered group first count))) = Some group
offered_group entry = None
