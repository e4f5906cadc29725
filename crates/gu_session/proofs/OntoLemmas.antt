-- Messages appended to a text.
use Rattle.gu_session.proofs.Words.{◌≡◌, inr, ◌<◌, ◌+◌, ◌^◌, ◌||◌, ℕ, Bool, true, false, List, [], ◌∷◌, ◌++◌, Option, None, Some, Result, Ok, Err, Vec, map, length, take, slice_get, refl, ap, sym, ◌∙◌, append_assoc, arith, OnErr, flat_map, list_any, option_to_list, Global, append-nil, length-append, filter_map-append, IfSome, Body, LoggedOn, ◌≤◌, one_message, one_message_course, subst, sent_by, Outbound, FollowText, FollowsText, AreOutputs, Closes, Sends, Follows, FollowsOnto, asked_in, end_outputs, handed_outputs, StepsOnto, bytes_in, handed_in, is_close, IsReady, sent_with, behind, closed, ending_of, given_by, is_over, new_of, numbered, SessionState, IsCourse, responses_of, session_after, Input, Output, Course, Go, Plan}
use Rattle.std.specs.List.{filter_map}
use Rattle.std.proofs.lemmas.Bool.{le-ltb, lt-ltb}
use Rattle.std.proofs.lemmas.Grind.{flat_map-append}
use Rattle.std.proofs.lemmas.List.Folds.{list_any-append}
use Rattle.gu_session.specs.declared.output.Asked.{Asked}
use Rattle.gu_session.specs.declared.output.Output.TheVariants.{Send, Hand, Close}
use Rattle.gu_session.specs.declared.output.Taken.{Taken}
use Rattle.gu_session.specs.declared.ready.Ready.{Ready}
use Rattle.gu_session.proofs.NumberLemmas.{length-numbered}
use Rattle.gu_session.proofs.OutputLemmas.{AreOutputs-append, buffer_of, ending_is_given, one_more}

-- a property that holds whatever the result of a call
pub on_err_from : {T E P : Type 0} (r : Result T E) → P → OnErr r P
on_err_from (Ok value) here = tt
on_err_from (Err error) here = here

-- the number of messages that a prepared plan sends
pub length-sent_with : (plan : Plan) (ready : Ready) (first now : ℕ) → length (sent_with plan ready first now) ≡ length ready.again.items + length plan.messages
length-sent_with plan ready first now =
    length-append ready.again.items (numbered plan.after.firm now first plan.messages)
    ∙ ap (λ (n : ℕ). length ready.again.items + n) (length-numbered plan.after.firm now first plan.messages)

-- initially no message is appended
pub follow-none : (text : List ℕ) → FollowText [] text text
follow-none text = record { outputs = []; are_outputs = tt; text = sym (append-nil text) }

-- one more message is appended
pub follow-more : (v : Vec ℕ Global) (messages : List Outbound) (place : ℕ) (message : Outbound) (before mid : List ℕ) → slice_get messages place ≡ Some message →
    FollowText (take place messages) before mid → FollowsText message mid v.items → FollowText (take (place + 1) messages) before v.items
follow-more v messages place message before mid here so_far one =
    let short : length one.bytes < 2 ^ 63 = omega (arith, v.ok.0, v.ok.1, v.small, length-append mid one.bytes, ap length one.text) in
    let last : Output = Send (buffer_of v one.bytes short) in
    record {
      outputs = so_far.outputs ++ last ∷ [];
      are_outputs = one_more messages place message so_far.outputs last here so_far.are_outputs (one.encoded, tt);
      text = one.text ∙ ap (λ (t : List ℕ). t ++ one.bytes) so_far.text ∙ append_assoc before (flat_map bytes_in so_far.outputs) one.bytes
          ∙ ap (λ (t : List ℕ). before ++ (flat_map bytes_in so_far.outputs ++ t)) (sym (append-nil one.bytes))
          ∙ ap (λ (t : List ℕ). before ++ t) (sym (flat_map-append bytes_in so_far.outputs (last ∷ [])));
    }

-- messages hand nothing out
pub none_handed : (messages : List Outbound) (outputs : List Output) → AreOutputs (map Sends messages) outputs → filter_map handed_in outputs ≡ []
none_handed [] [] are = refl
none_handed [] (output ∷ outputs) are = absurd are
none_handed (message ∷ messages) [] are = absurd are
none_handed (message ∷ messages) (Send bytes ∷ outputs) (one, rest) = none_handed messages outputs rest
none_handed (message ∷ messages) (Hand asked ∷ outputs) (one, rest) = absurd one
none_handed (message ∷ messages) (Close ∷ outputs) (one, rest) = absurd one

-- nor do they end the session
pub none_closes : (messages : List Outbound) (outputs : List Output) → AreOutputs (map Sends messages) outputs → list_any is_close outputs ≡ false
none_closes [] [] are = refl
none_closes [] (output ∷ outputs) are = absurd are
none_closes (message ∷ messages) [] are = absurd are
none_closes (message ∷ messages) (Send bytes ∷ outputs) (one, rest) = none_closes messages outputs rest
none_closes (message ∷ messages) (Hand asked ∷ outputs) (one, rest) = absurd one
none_closes (message ∷ messages) (Close ∷ outputs) (one, rest) = absurd one

-- the responses after the messages have no bytes
pub ending_bytes : (handed : Option Asked) (ends : Bool) → flat_map bytes_in (handed_outputs handed ++ end_outputs ends) ≡ []
ending_bytes None true = refl
ending_bytes None false = refl
ending_bytes (Some asked) true = refl
ending_bytes (Some asked) false = refl

pub ending_handed : (handed : Option Asked) (ends : Bool) → filter_map handed_in (handed_outputs handed ++ end_outputs ends) ≡ option_to_list handed
ending_handed None true = refl
ending_handed None false = refl
ending_handed (Some asked) true = refl
ending_handed (Some asked) false = refl

pub ending_closes : (handed : Option Asked) (ends : Bool) → list_any is_close (handed_outputs handed ++ end_outputs ends) ≡ ends
ending_closes None true = refl
ending_closes None false = refl
ending_closes (Some asked) true = refl
ending_closes (Some asked) false = refl

-- the outputs of a plan that is carried out
pub plan_outputs : (s : SessionState) (now : ℕ) (plan : Plan) (ready : Ready) (outputs : List Output) (taken : Taken) → IsReady s now plan ready →
    AreOutputs (map Sends (sent_with plan ready s.next now)) outputs → taken.handed ≡ asked_in plan.handed → taken.is_closed ≡ plan.ends →
    AreOutputs (given_by s now plan) (outputs ++ (handed_outputs taken.handed ++ end_outputs taken.is_closed))
plan_outputs s now plan ready outputs taken is are handed ends =
    let sent = ap (λ (ms : List Outbound). ms ++ new_of s now plan) is.again in
    rw (← sent, handed, ends)
    (AreOutputs-append (map Sends (sent_with plan ready s.next now)) (ending_of plan.handed plan.ends) outputs _ are (ending_is_given plan.handed plan.ends))

-- a plan is carried out, one output after another
pub plan_given : (old new : SessionState) (now : ℕ) (plan : Plan) (ready : Ready) (outputs : List Output) (taken : Taken) → IsReady old now plan ready →
    is_over old.next plan ≡ false → AreOutputs (map Sends (sent_with plan ready old.next now)) outputs → taken.handed ≡ asked_in plan.handed →
    taken.is_closed ≡ plan.ends → new ≡ behind old now plan → Follows old (Go plan) now (outputs ++ (handed_outputs taken.handed ++ end_outputs taken.is_closed)) new
plan_given old new now plan ready outputs taken is suffice are handed ends behind_is = record {
  are_outputs = rw suffice (plan_outputs old now plan ready outputs taken is are handed ends);
  leaves = rw suffice behind_is;
}

-- a plan is carried out, with the messages that it sends appended to a text
pub sent_followed : (old new : SessionState) (now : ℕ) (plan : Plan) (before after : List ℕ) (taken : Taken) → is_over old.next plan ≡ false →
    FollowText (sent_by old now plan) before after → taken.handed ≡ asked_in plan.handed → taken.is_closed ≡ plan.ends →
    new ≡ behind old now plan → FollowsOnto old (Go plan) now before after taken new
sent_followed old new now plan before after taken suffice follow handed ends behind_is =
    let ending = handed_outputs taken.handed ++ end_outputs taken.is_closed in
    let messages = sent_by old now plan in
    record {
      outputs = follow.outputs ++ ending;
      are_outputs = rw (suffice, handed, ends)
          (AreOutputs-append (map Sends messages) (ending_of plan.handed plan.ends) follow.outputs _ follow.are_outputs (ending_is_given plan.handed plan.ends));
      leaves = rw suffice behind_is;
      text = follow.text ∙ ap (λ (t : List ℕ). before ++ t)
          (sym (append-nil (flat_map bytes_in follow.outputs)) ∙ ap (λ (t : List ℕ). flat_map bytes_in follow.outputs ++ t) (sym (ending_bytes taken.handed taken.is_closed))
          ∙ sym (flat_map-append bytes_in follow.outputs ending));
      handed = sym (filter_map-append handed_in follow.outputs ending ∙ ap (λ (xs : List Asked). xs ++ filter_map handed_in ending) (none_handed messages follow.outputs follow.are_outputs)
          ∙ ending_handed taken.handed taken.is_closed);
      close = sym (list_any-append is_close follow.outputs ending ∙ ap (λ (b : Bool). b || list_any is_close ending) (none_closes messages follow.outputs follow.are_outputs)
          ∙ ending_closes taken.handed taken.is_closed);
    }

-- a prepared plan is carried out, with its messages appended to a text
pub plan_followed : (old new : SessionState) (now : ℕ) (plan : Plan) (ready : Ready) (before after : List ℕ) (taken : Taken) → IsReady old now plan ready →
    is_over old.next plan ≡ false → FollowText (sent_with plan ready old.next now) before after →
    taken.handed ≡ asked_in plan.handed → taken.is_closed ≡ plan.ends →
    new ≡ behind old now plan → FollowsOnto old (Go plan) now before after taken new
plan_followed old new now plan ready before after taken is suffice follow handed ends behind_is =
    sent_followed old new now plan before after taken suffice (subst (λ (ms : List Outbound). FollowText (ms ++ new_of old now plan) before after) is.again follow) handed ends behind_is

-- a session that leaves ends, and no bytes are appended
pub leaving_followed : (old new : SessionState) (course : Course) (now : ℕ) (text : List ℕ) (taken : Taken) → responses_of old now course ≡ Closes ∷ [] →
    session_after old now course ≡ closed old → new ≡ closed old → taken.handed ≡ None → taken.is_closed ≡ true → FollowsOnto old course now text text taken new
leaving_followed old new course now text taken gives after leaves handed close = record {
  outputs = Close ∷ [];
  are_outputs = rw gives (tt, tt);
  leaves = leaves ∙ sym after;
  text = sym (append-nil text);
  handed = ap (λ (asked : Option Asked). option_to_list asked) handed;
  close = close;
}

-- an open session that follows its course steps
pub followed_steps : (old new : SessionState) (input : Input) (course : Course) (now : ℕ) (before after : List ℕ) (taken : Taken) → old.is_closed ≡ false →
    IsCourse old input now course → FollowsOnto old course now before after taken new → StepsOnto old input now before after taken new
followed_steps old new input course now before after taken is_open is follows = record {
  outputs = follows.outputs;
  steps = record {
    given = responses_of old now course;
    steps = inr (record { is_open = is_open; course = course; is_course = is; gives = refl; leaves = follows.leaves });
    are_outputs = follows.are_outputs;
  };
  text = follows.text;
  handed = follows.handed;
  close = follows.close;
}

-- a message needs a number above the greatest
pub one_over : (s new : SessionState) (at : LoggedOn) (body : Body) (answered : Option ℕ) (now : ℕ) (text : List ℕ) (taken : Taken) → s.at ≡ Some at → 1000000000 < s.next →
    new ≡ closed s → taken.handed ≡ None → taken.is_closed ≡ true → FollowsOnto s (one_message_course s.at body answered) now text text taken new
one_over s new at body answered now text taken is most leaves handed close =
    let over : is_over s.next (one_message at body answered) ≡ true = lt-ltb 1000000001 (s.next + 1) (omega (arith, most)) in
    subst (λ (o : Option LoggedOn). FollowsOnto s (one_message_course o body answered) now text text taken new) (sym is)
    (leaving_followed s new (Go (one_message at body answered)) now text taken (rw over refl) (rw over refl) leaves handed close)

-- a message is sent
pub one_followed : (v : Vec ℕ Global) (s new : SessionState) (at : LoggedOn) (body : Body) (answered : Option ℕ) (now : ℕ) (before : List ℕ) (taken : Taken) → s.at ≡ Some at →
    s.next ≤ 1000000000 → FollowsText (record { firm = at.firm; msg_seq_num = s.next; sending_time = now; orig_sending_time = None; body = body }) before v.items →
    taken.handed ≡ None → taken.is_closed ≡ false → IfSome s.at (λ at. new ≡ behind s now (one_message at body answered)) →
    FollowsOnto s (one_message_course s.at body answered) now before v.items taken new
one_followed v s new at body answered now before taken is most pushed handed close behind_is =
    let plan = one_message at body answered in
    let message : Outbound = record { firm = at.firm; msg_seq_num = s.next; sending_time = now; orig_sending_time = None; body = body } in
    let suffice : is_over s.next plan ≡ false = le-ltb 1000000001 (s.next + 1) (omega (arith, most)) in
    let after = subst (λ (o : Option LoggedOn). IfSome o (λ at. new ≡ behind s now (one_message at body answered))) is behind_is in
    subst (λ (o : Option LoggedOn). FollowsOnto s (one_message_course o body answered) now before v.items taken new) (sym is)
    (sent_followed s new now plan before v.items taken suffice (follow-more v (message ∷ []) 0 message before before refl (follow-none before) pushed) handed close after)
