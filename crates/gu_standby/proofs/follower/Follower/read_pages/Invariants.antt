use Rattle.std.proofs.Common.{◌≡◌, ◌-◌, false}
use Rattle.gu_ref.specs.Tables.{Tables}
use Rattle.gu_etcd.specs.declared.node.TheConstants.{LAST_NUMBER}
use Rattle.gu_standby.specs.Following.{HasPlayed}
use Rattle.gu_standby.proofs.follower.Follower.read_pages.Given as goal

abbrev pub invariant-loop-self : goal.invariant-loop-self
invariant-loop-self g l = (l.self.is_whole ≡ false) × ((reference : Tables) → HasPlayed reference l.fn.self → HasPlayed reference l.self)

abbrev pub decreases-loop-self : goal.decreases-loop-self
decreases-loop-self g l = LAST_NUMBER - l.self.count
