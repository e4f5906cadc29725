-- Steps one after another, and what is seen of all that they give.
use Rattle.std.specs.Prelude.{◌≡◌, ◌+◌, ℕ, List, [], ◌∷◌, ◌++◌, Option, None, Some, ⊤}
use Rattle.gu_msgs.specs.declared.outbound.Outbound.{Outbound}
use Rattle.gu_session.specs.Encoded.{Response, Sends, Hands, Closes}
use Rattle.gu_session.specs.States.{SessionState}
use Rattle.gu_session.specs.Steps.{Steps}
use Rattle.gu_session.specs.declared.input.Input.{Input}

-- inputs one after another, each with its moment, and everything given for them
abbrev pub Runs : SessionState → List (Input × ℕ) → List Response → SessionState → Type 0
Runs old [] given new = (given ≡ []) × (new ≡ old)
Runs old (input ∷ inputs) given new =
    (first : List Response) × (later : List Response) × (next : SessionState)
    × Steps old input.0 input.1 first next × (given ≡ first ++ later) × Runs next inputs later new

-- a message if it is sent for the first time
abbrev pub if_new : Outbound → Option ℕ → Option Outbound
if_new message None = Some message
if_new message (Some first) = None

-- a message if it is sent again
abbrev pub if_again : Outbound → Option ℕ → Option Outbound
if_again message None = None
if_again message (Some first) = Some message

-- what is sent for the first time
abbrev pub new_message : Response → Option Outbound
new_message (Sends message) = if_new message message.orig_sending_time
new_message (Hands asked) = None
new_message Closes = None

-- what is sent again
abbrev pub repeated_message : Response → Option Outbound
repeated_message (Sends message) = if_again message message.orig_sending_time
repeated_message (Hands asked) = None
repeated_message Closes = None

-- the reference of the request handed out
abbrev pub handed_reference : Response → Option ℕ
handed_reference (Sends message) = None
handed_reference (Hands asked) = Some asked.reference
handed_reference Closes = None

-- numbers go up by one, starting at this one
abbrev pub CountsFrom : ℕ → List Outbound → Type 0
CountsFrom number [] = ⊤
CountsFrom number (message ∷ messages) = (message.msg_seq_num ≡ number) × CountsFrom (number + 1) messages
