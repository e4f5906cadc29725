use Rattle.std.proofs.Common.{◌≡◌, None, take}
use Rattle.gu_script.proofs.JournalLemmas.{IsWrittenTo, open_from}
use Rattle.gu_script.proofs.journal.write_journal.Given as goal

abbrev pub invariant-loop-place : goal.invariant-loop-place
invariant-loop-place g l = record {
  written : IsWrittenTo l.history l.place l.output.items (g.W.Write.contents l.initial.writer) (g.W.Write.contents l.writer);
  today_is : l.today ≡ open_from None (take l.place l.history);
}
