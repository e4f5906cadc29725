-- Machinery: a session's outputs apart from its messages. No other crate names this file.
use Rattle.std.specs.Prelude.{Bool, List, [], ◌∷◌, Option, None, Some, if◌then◌else◌}
use Rattle.std.specs.Option.{option_map}
use Rattle.gu_session.specs.Sending.{asked_of}
use Rattle.gu_msgs.specs.declared.outbound.Body.{Body}
use Rattle.gu_session.specs.declared.answer.Answer.{Answer}
use Rattle.gu_session.specs.declared.answer.Answer.TheVariants.{Nothing, One, Positions, Silence}
use Rattle.gu_session.specs.declared.output.Asked.{Asked}
use Rattle.gu_session.specs.declared.output.Output.{Output}
use Rattle.gu_session.specs.declared.output.Output.TheVariants.{Hand, Close}
use Rattle.gu_session.specs.declared.plan.Handed.{Handed}

-- the request to the house, if there is one
abbrev pub asked_in : Option Handed → Option Asked
asked_in handed = option_map asked_of handed

-- the request handed out, as an output
abbrev pub handed_outputs : Option Asked → List Output
handed_outputs None = []
handed_outputs (Some asked) = Hand asked ∷ []

-- the end, if it is reached, as an output
abbrev pub end_outputs : Bool → List Output
end_outputs ends = if ends then Close ∷ [] else []

-- the messages of an answer; none if the session does nothing
abbrev pub messages_in : Answer → Option (List Body)
messages_in Nothing = None
messages_in Silence = Some []
messages_in (One body) = Some (body ∷ [])
messages_in (Positions bodies) = Some bodies.items
