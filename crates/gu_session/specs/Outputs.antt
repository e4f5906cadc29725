-- What is seen of a session's outputs, and a step whose messages are appended to a text.
use Rattle.std.specs.Prelude.{◌≡◌, ◌++◌, ℕ, Bool, true, false, List, [], Option, None, Some}
use Rattle.std.specs.List.{filter_map, flat_map, list_any}
use Rattle.std.specs.Option.{option_to_list}
use Rattle.gu_terms.specs.declared.firm.FirmId.{FirmId}
use Rattle.gu_msgs.specs.Asking.{request_of}
use Rattle.gu_msgs.specs.declared.asking.Asking.{Asking}
use Rattle.gu_msgs.specs.declared.asking.Request.{Request}
use Rattle.gu_session.specs.States.{SessionState}
use Rattle.gu_session.specs.Steps.{StepsWith}
use Rattle.gu_session.specs.declared.input.Input.{Input}
use Rattle.gu_session.specs.declared.output.Asked.{Asked}
use Rattle.gu_session.specs.declared.output.Output.{Output}
use Rattle.gu_session.specs.declared.output.Output.TheVariants.{Send, Hand, Close}
use Rattle.gu_session.specs.declared.output.Taken.{Taken}

-- the bytes in an output
abbrev pub bytes_in : Output → List ℕ
bytes_in (Send bytes) = bytes.items
bytes_in (Hand asked) = []
bytes_in Close = []

-- the request in an output
abbrev pub handed_in : Output → Option Asked
handed_in (Send bytes) = None
handed_in (Hand asked) = Some asked
handed_in Close = None

-- this is a request of the firm
abbrev pub IsAskedBy : FirmId → Request → Type 0
IsAskedBy firm request = (asking : Asking) × (request ≡ request_of firm asking)

-- the output is the end
abbrev pub is_close : Output → Bool
is_close (Send bytes) = false
is_close (Hand asked) = false
is_close Close = true

-- a step whose bytes are appended to a text, in order; the request that it hands out, and whether it ends the session, are returned
pub record StepsOnto (old : SessionState) (input : Input) (now : ℕ) (before after : List ℕ) (taken : Taken) (new : SessionState) : Type 0 where
  pub outputs : List Output
  pub steps : StepsWith old input now outputs new
  pub text : after ≡ before ++ flat_map bytes_in outputs
  pub handed : option_to_list taken.handed ≡ filter_map handed_in outputs
  pub close : taken.is_closed ≡ list_any is_close outputs
