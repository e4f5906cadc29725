use Rattle.gu_msgs.proofs.Words.{◌≡◌, List, drop, TagValue, missing, AreStandings}
use Rattle.gu_msgs.proofs.standings.missing.Given as goal

abbrev pub invariant-loop-place : goal.invariant-loop-place
invariant-loop-place l = (fields : List TagValue) → AreStandings l.rows fields l.numbers → missing l.rows fields ≡ missing (drop l.place l.rows) fields
