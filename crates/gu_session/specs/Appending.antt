-- Machinery: appending messages to a text. No other crate names this file.
use Rattle.std.specs.Prelude.{◌≡◌, ◌++◌, ℕ, List, map}
use Rattle.std.specs.List.{flat_map}
use Rattle.gu_msgs.specs.declared.outbound.Outbound.{Outbound}
use Rattle.gu_session.specs.Encoded.{AreOutputs, IsEncoded, Sends}
use Rattle.gu_session.specs.Outputs.{bytes_in}
use Rattle.gu_session.specs.declared.output.Output.{Output}

-- a message's bytes follow a text
pub record FollowsText (message : Outbound) (before after : List ℕ) : Type 0 where
  pub bytes : List ℕ
  pub encoded : IsEncoded message bytes
  pub text : after ≡ before ++ bytes

-- the bytes of messages follow a text, in order
pub record FollowText (messages : List Outbound) (before after : List ℕ) : Type 0 where
  pub outputs : List Output
  pub are_outputs : AreOutputs (map Sends messages) outputs
  pub text : after ≡ before ++ flat_map bytes_in outputs
