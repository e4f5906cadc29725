-- How far a connection has come.
use Rattle.std.specs.Prelude.{Bool, true, false}
use Rattle.gu_workers.specs.declared.stage.Stage.{Stage}
use Rattle.gu_workers.specs.declared.stage.Stage.TheVariants.{LoggingOn, Talking, GoingOut, HangingUp}

-- its session is over: nothing that its firm sends is answered any more
abbrev pub is_leaving : Stage → Bool
is_leaving (LoggingOn until) = false
is_leaving Talking = false
is_leaving (GoingOut wait) = true
is_leaving (HangingUp until) = true
