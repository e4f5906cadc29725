use Rattle.std.proofs.Common.{◌≡◌, None, refl, rules, slice_get}
use Rattle.std.proofs.lemmas.Option.{slice_get_past}
use Rattle.gu_sockets.proofs.WayLemmas.{one_is_due, one_there, same_listeners}
use Rattle.gu_sockets.proofs.firm_ways.FirmWays.note_door.Goals as goal

pub returns-then-number-len-clause-listeners : goal.returns-then-number-len-clause-listeners
returns-then-number-len-clause-listeners g c = record {
  port = refl;
  doors = same_listeners c.args.self.now.doors.items c.args.number _ _ c.index_mut.ensures.value c.note.ensures.listener;
}

pub returns-then-number-len-clause-noted : goal.returns-then-number-len-clause-noted
returns-then-number-len-clause-noted g c =
    let there = one_there c.args.self.now.doors.items c.args.number c.note.new.self (search rules) in
    rw there c.note.ensures.due

pub returns-then-number-len-clause-due : goal.returns-then-number-len-clause-due
returns-then-number-len-clause-due g c _ = one_is_due c.args.self.now.doors.items c.args.number c.note.new.self _ (search rules) c.note.ensures.due

pub returns-else-number-len-clause-noted : goal.returns-else-number-len-clause-noted
returns-else-number-len-clause-noted g c =
    let past : slice_get c.args.self.now.doors.items c.args.number ≡ None = slice_get_past c.args.self.now.doors.items c.args.number (search rules) in
    rw past tt
