-- When a desk that follows a log may lead it.
use Rattle.std.specs.Prelude.{IsTrue}
use Rattle.gu_standby.specs.declared.follower.Follower.{Follower}
use Rattle.gu_standby.specs.declared.following.Claimed.{Claimed}
use Rattle.gu_standby.specs.declared.following.Claimed.TheVariants as claimed
use Rattle.gu_standby.specs.declared.following.Followed.{Followed}
use Rattle.gu_standby.specs.declared.following.Followed.TheVariants.{Leads, Closed, Dismissed}
use Rattle.gu_standby.specs.declared.following.Look.{Look}
use Rattle.gu_standby.specs.declared.following.Look.TheVariants as look

-- a desk may lead if it has played all that the log had once it had taken the lead, and the last batch doesn't end the day
pub record MayLead (follower : Follower) : Type 0 where
  pub whole : IsTrue follower.is_whole
  pub goes_on : ¬ IsTrue follower.is_closed

-- a desk follows its log no longer: it leads, as it may, or the last batch ends the day, or an operator ended it
abbrev pub IsEnd : {L : Type 0} → Followed L → Follower → Type 0
IsEnd (Leads lead) follower = MayLead follower
IsEnd Closed follower = IsTrue follower.is_closed
IsEnd Dismissed follower = Unit {0}

-- what a look found: if the desk follows the log no longer, this is its end
abbrev pub Finds : {L : Type 0} → Look L → Follower → Type 0
Finds (look.Ends followed) follower = IsEnd followed follower
Finds look.GoesOn follower = Unit {0}
Finds (look.Waits is_answered) follower = Unit {0}

-- what became of a claim: the same
abbrev pub Settles : {L : Type 0} → Claimed L → Follower → Type 0
Settles (claimed.Ends followed) follower = IsEnd followed follower
Settles (claimed.Refused answer) follower = Unit {0}
