-- New messages in a step, and over a run: their numbers. No rule is used.
use Rattle.gu_session.proofs.Words.{◌≡◌, inl, inr, ℕ, ◌+◌, ◌≤◌, Bool, true, false, nat_lt, List, [], ◌∷◌, ◌++◌, map, filter_map, length, Option, Some, None, refl, ap, sym, subst, ◌∙◌, arith, suc, append-nil, length-append, map-append, filter_map-append, FirmId, ResendRequest, Body, Outbound, Response, Sends, NumbersGoUpByOne, again, behind_last, gap, sent_within, with_gaps, CountsFrom, Runs, new_message, behind, ending_of, given_by, is_over, new_of, numbered, repeats_of, SessionState, new_session, Steps, responses_of, session_after, Input, Sent, Course, Stay, Leave, Go, Handed, Plan}
use Rattle.gu_session.specs.SeqNums.{greatest}

-- messages sent for the first time are all new
pub new_messages-numbered : (firm : FirmId) (now number : ℕ) (bodies : List Body) →
    filter_map new_message (map Sends (numbered firm now number bodies)) ≡ numbered firm now number bodies
new_messages-numbered firm now number [] = refl
new_messages-numbered firm now number (body ∷ bodies) =
    ap (λ (messages : List Outbound). record { firm = firm; msg_seq_num = number; sending_time = now; orig_sending_time = None; body = body } ∷ messages)
    (new_messages-numbered firm now (number + 1) bodies)

-- a gap fill isn't new
pub new_messages-gap : (firm : FirmId) (now from to : ℕ) (rest : List Outbound) →
    filter_map new_message (map Sends (gap firm now from to ++ rest)) ≡ filter_map new_message (map Sends rest)
new_messages-gap firm now from to rest =
    elim (nat_lt from to) as (λ (b : Bool). nat_lt from to ≡ b → filter_map new_message (map Sends (gap firm now from to ++ rest)) ≡ filter_map new_message (map Sends rest)) [
      | true ↦ λ less. rw less refl
      | false ↦ λ more. rw more refl
    ] refl

-- no message sent again is new
pub new_messages-gaps : (firm : FirmId) (now from to : ℕ) (kept : List Sent) → filter_map new_message (map Sends (with_gaps firm now from to kept)) ≡ []
new_messages-gaps firm now from to [] =
    ap (λ (messages : List Outbound). filter_map new_message (map Sends messages)) (sym (append-nil (gap firm now from to))) ∙ new_messages-gap firm now from to []
new_messages-gaps firm now from to (sent ∷ later) =
    new_messages-gap firm now from sent.number (again firm now sent ∷ with_gaps firm now (sent.number + 1) to later)
    ∙ new_messages-gaps firm now (sent.number + 1) to later

pub new_messages-repeats : (s : SessionState) (now : ℕ) (again : Option ResendRequest) (plan : Plan) → plan.again ≡ again →
    filter_map new_message (map Sends (repeats_of s now plan)) ≡ []
new_messages-repeats s now None plan is = rw is refl
new_messages-repeats s now (Some request) plan is =
    rw is (new_messages-gaps plan.after.firm now request.begin_seq_no (behind_last s.next request.end_seq_no) (sent_within request.begin_seq_no (behind_last s.next request.end_seq_no) s.kept))

-- a request handed out and the end aren't messages
pub new_messages-ending : (handed : Option Handed) (ends : Bool) → filter_map new_message (ending_of handed ends) ≡ []
new_messages-ending None true = refl
new_messages-ending None false = refl
new_messages-ending (Some one) true = refl
new_messages-ending (Some one) false = refl

-- the new messages of a plan
pub new_messages-plan : (s : SessionState) (now : ℕ) (plan : Plan) → filter_map new_message (given_by s now plan) ≡ new_of s now plan
new_messages-plan s now plan =
    let repeats = repeats_of s now plan in
    let new = new_of s now plan in
    let end = ending_of plan.handed plan.ends in
    filter_map-append new_message (map Sends (repeats ++ new)) end
    ∙ ap (λ (messages : List Outbound). filter_map new_message (map Sends (repeats ++ new)) ++ messages) (new_messages-ending plan.handed plan.ends)
    ∙ append-nil (filter_map new_message (map Sends (repeats ++ new)))
    ∙ ap (filter_map new_message) (map-append Sends repeats new)
    ∙ filter_map-append new_message (map Sends repeats) (map Sends new)
    ∙ ap (λ (messages : List Outbound). messages ++ filter_map new_message (map Sends new)) (new_messages-repeats s now plan.again plan refl)
    ∙ new_messages-numbered plan.after.firm now s.next plan.messages

-- consecutive numbers, starting at one, for this many messages
pub counts-numbered : (firm : FirmId) (now number : ℕ) (bodies : List Body) → CountsFrom number (numbered firm now number bodies)
counts-numbered firm now number [] = tt
counts-numbered firm now number (body ∷ bodies) = (refl, counts-numbered firm now (number + 1) bodies)

pub length-numbered : (firm : FirmId) (now number : ℕ) (bodies : List Body) → length (numbered firm now number bodies) ≡ length bodies
length-numbered firm now number [] = refl
length-numbered firm now number (body ∷ bodies) = ap (λ (n : ℕ). suc n) (length-numbered firm now (number + 1) bodies)

-- numbers continue
pub counts-append : (number : ℕ) (xs ys : List Outbound) → CountsFrom number xs → CountsFrom (number + length xs) ys → CountsFrom number (xs ++ ys)
counts-append number [] ys first second = subst (λ (n : ℕ). CountsFrom n ys) (omega arith) second
counts-append number (x ∷ xs) ys first second = (first.0, counts-append (number + 1) xs ys first.1 (subst (λ (n : ℕ). CountsFrom n ys) (omega arith) second))

-- a session continues from its next number
pub record GoesOn (old new : SessionState) (messages : List Outbound) : Type 0 where
  pub counts : CountsFrom old.next messages
  pub next : new.next ≡ old.next + length messages
  pub most : old.next ≤ greatest + 1 → new.next ≤ greatest + 1

-- without new messages it stays there
pub nothing_goes_on : (old new : SessionState) → new.next ≡ old.next → GoesOn old new []
nothing_goes_on old new same = record { counts = tt; next = omega (arith, same); most = λ most. omega (arith, same, most) }

-- with a plan that doesn't exceed the greatest number
pub plan_goes_on : (s : SessionState) (now : ℕ) (plan : Plan) → is_over s.next plan ≡ false → GoesOn s (behind s now plan) (filter_map new_message (given_by s now plan))
plan_goes_on s now plan within =
    let messages = new_messages-plan s now plan in
    let many : length (new_of s now plan) ≡ length plan.messages = length-numbered plan.after.firm now s.next plan.messages in
    let fits : s.next + length plan.messages ≤ greatest + 1 = grind (arith, within) in
    subst (λ (ms : List Outbound). GoesOn s (behind s now plan) ms) (sym messages) (record {
      counts = counts-numbered plan.after.firm now s.next plan.messages;
      next = omega (arith, many);
      most = λ most. omega (arith, fits);
    })

-- with any plan
pub plan_or_end_goes_on : (s : SessionState) (now : ℕ) (plan : Plan) (over : Bool) → is_over s.next plan ≡ over →
    GoesOn s (session_after s now (Go plan)) (filter_map new_message (responses_of s now (Go plan)))
plan_or_end_goes_on s now plan true over = rw over (nothing_goes_on s (record s { is_closed = true }) refl)
plan_or_end_goes_on s now plan false over = rw over (plan_goes_on s now plan over)

pub course_goes_on : (s : SessionState) (now : ℕ) (course : Course) → GoesOn s (session_after s now course) (filter_map new_message (responses_of s now course))
course_goes_on s now Stay = nothing_goes_on s s refl
course_goes_on s now Leave = nothing_goes_on s (record s { is_closed = true }) refl
course_goes_on s now (Go plan) = plan_or_end_goes_on s now plan (is_over s.next plan) refl

-- in a step
pub step_goes_on : (old new : SessionState) (input : Input) (now : ℕ) (given : List Response) → Steps old input now given new → GoesOn old new (filter_map new_message given)
step_goes_on old new input now given steps =
    elim steps as (λ _. GoesOn old new (filter_map new_message given)) [
      | inl closed ↦ rw (closed.gives, closed.leaves) (nothing_goes_on old old refl)
      | inr other ↦ rw (other.gives, other.leaves) (course_goes_on old now other.course)
    ]

-- in a run
pub run_goes_on : (old new : SessionState) (inputs : List (Input × ℕ)) (given : List Response) → Runs old inputs given new → GoesOn old new (filter_map new_message given)
run_goes_on old new [] given runs = rw (runs.0, runs.1) (nothing_goes_on old old refl)
run_goes_on old new (input ∷ inputs) given (first, later, next, steps, parts, rest) =
    let one = step_goes_on old next input.0 input.1 first steps in
    let more = run_goes_on next new inputs later rest in
    let messages : filter_map new_message given ≡ filter_map new_message first ++ filter_map new_message later =
    ap (filter_map new_message) parts ∙ filter_map-append new_message first later in
    subst (λ (ms : List Outbound). GoesOn old new ms) (sym messages) (record {
      counts = counts-append old.next (filter_map new_message first) (filter_map new_message later) one.counts
          (subst (λ (n : ℕ). CountsFrom n (filter_map new_message later)) one.next more.counts);
      next = omega (arith, more.next, one.next, length-append (filter_map new_message first) (filter_map new_message later));
      most = λ most. more.most (one.most most);
    })

pub numbers_go_up : NumbersGoUpByOne
numbers_go_up firms given s reached =
    let on = run_goes_on (new_session firms) s reached.inputs given reached.runs in
    record { counts = on.counts; next = on.next; most = on.most (omega arith) }
