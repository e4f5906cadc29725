-- Why a log can't be followed any more.
use Rattle.gu_lead.specs.declared.log_text.LogError.{LogError}
use Rattle.gu_lead.specs.declared.log_text.LogError.TheVariants as log
use Rattle.gu_script.specs.declared.error.ScriptError.{ScriptError}
use Rattle.gu_script.specs.declared.error.ScriptError.TheVariants as script
use Rattle.gu_standby.specs.declared.error.FollowError.{FollowError}
use Rattle.gu_standby.specs.declared.error.FollowError.TheVariants.{Memory, Unanswered, Foreign, BadLine}

-- the error of a log that can't be read
abbrev pub error_of_log : LogError → FollowError
error_of_log log.Memory = Memory
error_of_log log.Unanswered = Unanswered
error_of_log log.Foreign = Foreign

-- the error of a text that can't be played: a bad line, or no memory
abbrev pub error_of_script : ScriptError → FollowError
error_of_script (script.BadLine number) = BadLine number
error_of_script script.Memory = Memory
error_of_script script.Read = Memory
error_of_script script.Write = Memory
