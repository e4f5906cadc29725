-- Commands that may be entered.
use Rattle.gu_terms.specs.Lines.{AreLines}
use Rattle.gu_terms.specs.declared.command.Command.{Command}
use Rattle.gu_terms.specs.declared.command.Command.TheVariants.{GiveUp}

-- a command that may be entered: a give-up must have one to sixteen lines, each of 1 to 1,000,000 lots
abbrev pub MayBeAsked : Command → Type 0
MayBeAsked (GiveUp give_up) = AreLines give_up.lines
MayBeAsked command = Unit {0}
