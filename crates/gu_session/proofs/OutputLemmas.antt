-- Outputs for responses, part by part.
use Rattle.gu_session.proofs.Words.{◌≡◌, ◌<◌, ◌+◌, ◌^◌, ℕ, Bool, true, false, List, [], ◌∷◌, ◌++◌, Option, None, Some, Vec, map, length, take, get_or, slice_get, refl, arith, map_more, Global, Outbound, AreOutputs, Response, Sends, asked_in, end_outputs, handed_outputs, ending_of, Output, Handed}
use Rattle.std.proofs.lemmas.Option.{get_or_from_slice_get, slice_get_within}

-- one part after another
pub AreOutputs-append : (responses more : List Response) (outputs others : List Output) → AreOutputs responses outputs → AreOutputs more others →
    AreOutputs (responses ++ more) (outputs ++ others)
AreOutputs-append [] more [] others first second = second
AreOutputs-append [] more (output ∷ outputs) others first second = absurd first
AreOutputs-append (response ∷ responses) more [] others first second = absurd first
AreOutputs-append (response ∷ responses) more (output ∷ outputs) others first second =
    (first.0, AreOutputs-append responses more outputs others first.1 second)

-- the request handed out and the end
pub ending_is_given : (handed : Option Handed) (ends : Bool) → AreOutputs (ending_of handed ends) (handed_outputs (asked_in handed) ++ end_outputs ends)
ending_is_given None true = (tt, tt)
ending_is_given None false = tt
ending_is_given (Some handed) true = (refl, (tt, tt))
ending_is_given (Some handed) false = (refl, tt)

-- one more message
pub one_more : (messages : List Outbound) (place : ℕ) (message : Outbound) (outputs : List Output) (output : Output) → slice_get messages place ≡ Some message →
    AreOutputs (map Sends (take place messages)) outputs → AreOutputs (Sends message ∷ []) (output ∷ []) →
    AreOutputs (map Sends (take (place + 1) messages)) (outputs ++ output ∷ [])
one_more messages place message outputs output here so_far is =
    let within : place < length messages = slice_get_within messages place message here in
    let there : get_or messages place message ≡ message = get_or_from_slice_get messages place message message here in
    rw (map_more Sends messages place message within, there) (AreOutputs-append (map Sends (take place messages)) (Sends message ∷ []) outputs (output ∷ []) so_far is)

-- bytes in a separate buffer
abbrev pub buffer_of : Vec ℕ Global → (bytes : List ℕ) → length bytes < 2 ^ 63 → Vec ℕ Global
buffer_of v bytes short =
    record { ptr = v.ptr; len = length bytes; cap = length bytes; alloc = v.alloc; items = bytes; ok = (refl, omega arith); small = short }
