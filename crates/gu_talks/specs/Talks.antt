-- The exchange of a connection, from visit to visit.
use Rattle.std.specs.Prelude.{◌≡◌}
use Rattle.gu_engine.specs.declared.backlog.Left.TheVariants.{Nothing}
use Rattle.gu_talks.specs.declared.talk.Talk.{Talk}

-- no turn left anything to be answered
abbrev pub HasNothingLeft : {I O : Type 0} → Talk I O → Type 0
HasNothingLeft talk = talk.backlog.left ≡ Nothing
