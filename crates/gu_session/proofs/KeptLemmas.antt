-- Kept messages after new ones.
use Rattle.gu_session.proofs.Words.{◌≡◌, ℕ, ◌+◌, ◌-◌, ◌≤◌, ◌<◌, List, [], ◌∷◌, ◌++◌, Option, None, Some, length, take, drop, slice_get, get_or, refl, false, subst, unanswered, FirmId, Waiting, AreWithin, IfSome, behind, numbered, firm_of, one_message, ap, sym, ◌∙◌, append_assoc, add-one, arith, option_map_or, option_to_list, is_some, if◌then◌else◌, append-nil, length-append, length-drop, filter_map-append, Buffer, buffer, keep_last, Outbound, IsReady, IsSoundState, seen, new_of, sent_by, sent_in, HasRoom, IsSound, extended, SessionState, Sent, Plan, LoggedOn}
use Rattle.std.specs.List.{filter_map}
use Rattle.std.proofs.Math.Seq.{take-suc}
use Rattle.std.proofs.lemmas.Option.{get_or_from_slice_get, none-some, same_Some, slice_get_within}
use Rattle.gu_session.specs.declared.ready.Ready.{Ready}
use Rattle.gu_session.specs.declared.state.State.{State}
use Rattle.gu_session.proofs.Ascending.{within-append, within-drop, within-numbered}
use Rattle.gu_session.proofs.KeepingOn.{keep_last-append}
use Rattle.gu_session.proofs.NumberLemmas.{length-numbered}

-- the first messages, and the one after them
pub take-more : (messages : List Outbound) (place : ℕ) (message : Outbound) → slice_get messages place ≡ Some message →
    take (place + 1) messages ≡ take place messages ++ message ∷ []
take-more messages place message here =
    let within : place < length messages = slice_get_within messages place message here in
    let there : get_or messages place message ≡ message = get_or_from_slice_get messages place message message here in
    rw (add-one, take-suc messages place message, there) refl

-- with no more
pub extended-none : (kept : Buffer Sent) → length kept.items ≤ kept.capacity → extended kept [] ≡ kept
extended-none kept few =
    let none : length kept.items - kept.capacity ≡ 0 = omega (arith, few) in
    ap (λ (xs : List Sent). buffer (keep_last kept.capacity xs) kept.capacity) (append-nil kept.items)
    ∙ ap (λ (n : ℕ). buffer (drop n kept.items) kept.capacity) none

-- with some, and then with others
pub extended-twice : (kept : Buffer Sent) (xs ys : List Sent) → extended (extended kept xs) ys ≡ extended kept (xs ++ ys)
extended-twice kept xs ys =
    ap (λ (zs : List Sent). buffer zs kept.capacity)
    (keep_last-append kept.capacity (kept.items ++ xs) ys ∙ ap (keep_last kept.capacity) (append_assoc kept.items xs ys))

-- there are never more than there is room for
pub extended-few : (kept : Buffer Sent) (xs : List Sent) → length (extended kept xs).items ≤ (extended kept xs).capacity
extended-few kept xs = omega (arith, length-drop (length (kept.items ++ xs) - kept.capacity) (kept.items ++ xs))

-- the kept form of one message
pub filter_map-one : (message : Outbound) (found : Option Sent) → sent_in message ≡ found → filter_map sent_in (message ∷ []) ≡ option_to_list (sent_in message)
filter_map-one message None is = rw is refl
filter_map-one message (Some one) is = rw is refl

-- one more message is kept
pub extended-more : (before kept : Buffer Sent) (messages : List Outbound) (place : ℕ) (message : Outbound) → slice_get messages place ≡ Some message →
    kept ≡ extended before (filter_map sent_in (take place messages)) →
    extended kept (option_to_list (sent_in message)) ≡ extended before (filter_map sent_in (take (place + 1) messages))
extended-more before kept messages place message here so_far =
    let first = filter_map sent_in (take place messages) in
    ap (λ (k : Buffer Sent). extended k (option_to_list (sent_in message))) so_far
    ∙ extended-twice before first (option_to_list (sent_in message))
    ∙ ap (λ (xs : List Sent). extended before (first ++ xs)) (sym (filter_map-one message (sent_in message) refl))
    ∙ ap (extended before) (sym (filter_map-append sent_in (take place messages) (message ∷ [])))
    ∙ ap (λ (ms : List Outbound). extended before (filter_map sent_in ms)) (sym (take-more messages place message here))

-- in the room that exists after a firm logs on
pub kept_in_room : (at : Option LoggedOn) (kept : Buffer Sent) (room : Option (Buffer Sent)) (sent : List Sent) → HasRoom at kept →
    room ≡ (if is_some at then None else Some (buffer [] 4096)) →
    extended (option_map_or (λ (room : Buffer Sent). room) room kept) sent ≡ buffer (keep_last 4096 (kept.items ++ sent)) 4096
kept_in_room None kept room sent has is = rw (is, has) refl
kept_in_room (Some at) kept room sent has is = rw (is, has) refl

-- the messages prepared are those that a plan sends
pub committed_sent : (s : SessionState) (now : ℕ) (plan : Plan) (ready : Ready) → IsReady s now plan ready →
    length ready.again.items + length plan.messages ≡ length (sent_by s now plan)
committed_sent s now plan ready is =
    rw (← is.again)
    (sym (length-append ready.again.items (new_of s now plan)
    ∙ ap (λ (n : ℕ). length ready.again.items + n) (length-numbered plan.after.firm now s.next plan.messages)))

-- a session is sound after a plan
pub committed_sound : (s : State) (now : ℕ) (plan : Plan) (ready : Ready) → IsReady (seen s) now plan ready → IsSoundState s →
    IsSound (Some plan.after) (s.next + length plan.messages)
    (buffer (keep_last 4096 (s.kept.items ++ filter_map sent_in (new_of (seen s) now plan))) 4096)
committed_sound s now plan ready is sound =
    let sent = filter_map sent_in (new_of (seen s) now plan) in
    record {
      some = omega (arith, sound.some);
      most = is.most;
      room = refl;
      few = omega (arith, length-drop (length (s.kept.items ++ sent) - 4096) (s.kept.items ++ sent));
      ascending = within-drop (length (s.kept.items ++ sent) - 4096) 1 (s.next + length plan.messages) (s.kept.items ++ sent)
          (within-append 1 s.next (s.next + length plan.messages) s.kept.items sent sound.ascending (within-numbered plan.after.firm now s.next plan.messages));
    }

-- one more message is kept in the room that there is
pub kept_one : (kept : Buffer Sent) (message : Outbound) → kept.capacity ≡ 4096 →
    extended kept (option_to_list (sent_in message)) ≡ buffer (keep_last 4096 (kept.items ++ filter_map sent_in (message ∷ []))) 4096
kept_one kept message room =
    ap (extended kept) (sym (filter_map-one message (sent_in message) refl))
    ∙ ap (λ (n : ℕ). buffer (keep_last n (kept.items ++ filter_map sent_in (message ∷ []))) n) room

-- the new message with the next number
pub numbered_one : (firm : FirmId) (next : ℕ) (message : Outbound) → Some firm ≡ Some message.firm → message.msg_seq_num ≡ next → message.orig_sending_time ≡ None →
    numbered firm message.sending_time next (message.body ∷ []) ≡ message ∷ []
numbered_one firm next message same number first = rw (same_Some firm message.firm same, ← number, ← first) refl

-- the session after one message
pub sent_alone : (s : State) (at : Option LoggedOn) (message : Outbound) (answered : Option ℕ) (kept : Buffer Sent) (waiting : List Waiting) → s.at ≡ at → HasRoom at s.kept →
    firm_of at ≡ Some message.firm → message.msg_seq_num ≡ s.next → message.orig_sending_time ≡ None → s.is_closed ≡ false →
    kept ≡ extended s.kept (option_to_list (sent_in message)) → waiting ≡ unanswered answered s.waiting.items →
    IfSome at (λ at. record (seen s) { next = s.next + 1; sent_at = message.sending_time; kept = kept.items; waiting = waiting }
    ≡ behind (seen s) message.sending_time (one_message at message.body answered))
sent_alone s None message answered kept waiting is has firm number first is_open kept_is waiting_is = tt
sent_alone s (Some at) message answered kept waiting is has firm number first is_open kept_is waiting_is =
    let items = ap (λ (k : Buffer Sent). k.items) (kept_is ∙ kept_one s.kept message has)
    ∙ ap (λ (ms : List Outbound). keep_last 4096 (s.kept.items ++ filter_map sent_in ms)) (sym (numbered_one at.firm s.next message firm number first)) in
    rw (is, is_open, waiting_is, items, append-nil s.waiting.items) refl

-- a session is sound after one message
pub sent_sound : (at : Option LoggedOn) (next : ℕ) (before kept : Buffer Sent) (message : Outbound) → IsSound at next before → firm_of at ≡ Some message.firm →
    message.msg_seq_num ≡ next → message.orig_sending_time ≡ None → next ≤ 1000000000 → kept ≡ extended before (option_to_list (sent_in message)) → IsSound at (next + 1) kept
sent_sound None next before kept message sound firm number first most is = absurd (none-some message.firm firm)
sent_sound (Some at) next before kept message sound firm number first most is =
    let sent = filter_map sent_in (message ∷ []) in
    let within = subst (λ (ms : List Outbound). AreWithin next (next + 1) (filter_map sent_in ms)) (numbered_one at.firm next message firm number first)
    (within-numbered at.firm message.sending_time next (message.body ∷ [])) in
    rw (is, kept_one before message sound.room) (record {
      some = omega (arith, sound.some);
      most = omega (arith, most);
      room = refl;
      few = omega (arith, length-drop (length (before.items ++ sent) - 4096) (before.items ++ sent));
      ascending = within-drop (length (before.items ++ sent) - 4096) 1 (next + 1) (before.items ++ sent)
          (within-append 1 next (next + 1) before.items sent sound.ascending within);
    })
