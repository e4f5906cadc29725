use Rattle.std.proofs.Common.{◌≡◌, ◌+◌}
use Rattle.gu_ref.specs.Tables.{Tables}
use Rattle.gu_standby.specs.Following.{HasPlayed}
use Rattle.gu_standby.proofs.follower.Follower.play_page.Given as goal

abbrev pub invariant-loop-entry : goal.invariant-loop-entry
invariant-loop-entry l = (l.self.count ≡ l.fn.self.count + l.entry-index) × ((reference : Tables) → HasPlayed reference l.fn.self → HasPlayed reference l.self)
