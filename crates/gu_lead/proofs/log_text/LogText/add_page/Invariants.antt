use Rattle.std.proofs.Common.{◌≡◌, ◌+◌}
use Rattle.gu_lead.proofs.log_text.LogText.add_page.Given as goal

abbrev pub invariant-loop-entry : goal.invariant-loop-entry
invariant-loop-entry l = l.self.count ≡ l.fn.self.count + l.entry-index
