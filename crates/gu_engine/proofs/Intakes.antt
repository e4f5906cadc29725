-- An intake stores no more bytes than before.
use Rattle.gu_engine.proofs.Words.{◌≡◌, ◌≤◌, ◌+◌, ◌-◌, ℕ, List, [], ◌∷◌, ◌++◌, length, sym, ap, ◌∙◌, arith, append-nil, length-append, length-drop, IsFirstFrame, IsOpen, LeadsOn, none_at_start}

-- a frame and the rest after it
pub length_with_frame : (stream frame rest : List ℕ) → IsFirstFrame stream frame rest → length rest + length frame ≤ length stream
length_with_frame stream frame rest first =
    let lengths : length stream - first.place ≡ length frame + length rest = sym (length-drop first.place stream) ∙ ap length first.parts ∙ length-append frame rest in
    omega arith

-- what leads on without a frame: a message that it begins would be as long in the stream
pub length_without_frame : (stream rest : List ℕ) → IsOpen rest → LeadsOn stream [] rest → length rest ≤ length stream
length_without_frame stream rest is_open leads =
    let message = rest ++ is_open.more in
    let first : IsFirstFrame message message [] = record { place = 0; before = λ k below. absurd (omega arith); is_whole = is_open.is_whole; parts = sym (append-nil message) } in
    let led = leads is_open.more (message ∷ []) ([], first, none_at_start) in
    let most : length led.0 + length message ≤ length (stream ++ is_open.more) = length_with_frame (stream ++ is_open.more) message led.0 led.1 in
    omega (arith, length-append stream is_open.more, length-append rest is_open.more)
