-- A session's outputs: messages as bytes, requests handed out, and the end.
use Rattle.std.specs.Prelude.{◌≡◌, ℕ, List, [], ◌∷◌, ⊤}
use Rattle.gu_fix.specs.Encoding.{message_of}
use Rattle.gu_fix.specs.TagValue.{TagValue}
use Rattle.gu_msgs.specs.Written.{IsWritten}
use Rattle.gu_msgs.specs.declared.outbound.Outbound.{Outbound}
use Rattle.gu_session.specs.declared.output.Asked.{Asked}
use Rattle.gu_session.specs.declared.output.Output.{Output}
use Rattle.gu_session.specs.declared.output.Output.TheVariants.{Send, Hand, Close}

-- a response of a session: a message to send, a request to hand out, or the end
pub data Response : Type 0 where
  Sends : (message : Outbound) → Response
  Hands : (asked : Asked) → Response
  Closes : Response

-- these bytes are the message encoded from its fields
pub record IsEncoded (message : Outbound) (bytes : List ℕ) : Type 0 where
  pub fields : List TagValue
  pub written : IsWritten message fields
  pub bytes_are : bytes ≡ message_of fields

-- this output is that response
abbrev pub IsOutput : Response → Output → Type 0
IsOutput (Sends message) (Send bytes) = IsEncoded message bytes.items
IsOutput (Hands asked) (Hand given) = given ≡ asked
IsOutput Closes Close = ⊤
IsOutput _ _ = ⊥

-- these outputs are those responses, in order
abbrev pub AreOutputs : List Response → List Output → Type 0
AreOutputs [] [] = ⊤
AreOutputs (response ∷ responses) (output ∷ outputs) = IsOutput response output × AreOutputs responses outputs
AreOutputs [] (output ∷ outputs) = ⊥
AreOutputs (response ∷ responses) [] = ⊥
