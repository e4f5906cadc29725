-- The end comes at most once, and last; before a firm logs on nothing else comes.
use Rattle.gu_session.proofs.Words.{◌≡◌, ◌⊎◌, inl, inr, ℕ, Bool, true, false, List, [], ◌∷◌, ◌++◌, map, Option, Some, None, refl, ap, sym, subst, ◌∙◌, Outbound, Response, Sends, Hands, Closes, CloseIsLast, EndsLast, IsSilent, NothingBeforeTheLogon, Runs, ending_of, is_over, sent_by, SessionState, new_session, Steps, responses_of, session_after, Input, Course, Stay, Leave, Go, Handed, Plan}
use Rattle.gu_session.proofs.Closing.{closed_run}

-- none of these is an end
abbrev pub HasNoEnd : List Response → Type 0
HasNoEnd [] = Unit {0}
HasNoEnd (Sends message ∷ given) = HasNoEnd given
HasNoEnd (Hands asked ∷ given) = HasNoEnd given
HasNoEnd (Closes ∷ given) = ⊥

-- an end is last, and closes the session
pub record EndsWell (new : SessionState) (given : List Response) : Type 0 where
  pub last : EndsLast given
  pub ended : HasNoEnd given ⊎ (new.is_closed ≡ true)

-- messages before other responses are no end
pub last-sends : (messages : List Outbound) (given : List Response) → EndsLast given → EndsLast (map Sends messages ++ given)
last-sends [] given last = last
last-sends (message ∷ messages) given last = last-sends messages given last

pub none-sends : (messages : List Outbound) (given : List Response) → HasNoEnd given → HasNoEnd (map Sends messages ++ given)
none-sends [] given none = none
none-sends (message ∷ messages) given none = none-sends messages given none

-- the responses after a plan's messages
pub last-ending : (handed : Option Handed) (ends : Bool) → EndsLast (ending_of handed ends)
last-ending None true = refl
last-ending None false = tt
last-ending (Some one) true = refl
last-ending (Some one) false = tt

pub plan_ended : (s : SessionState) (now : ℕ) (plan : Plan) (handed : Option Handed) (ends : Bool) →
    HasNoEnd (map Sends (sent_by s now plan) ++ ending_of handed ends) ⊎ (ends ≡ true)
plan_ended s now plan handed true = inr refl
plan_ended s now plan None false = inl (none-sends (sent_by s now plan) [] tt)
plan_ended s now plan (Some one) false = inl (none-sends (sent_by s now plan) (ending_of (Some one) false) tt)

pub plan_ends_well : (s : SessionState) (now : ℕ) (plan : Plan) (over : Bool) → is_over s.next plan ≡ over → EndsWell (session_after s now (Go plan)) (responses_of s now (Go plan))
plan_ends_well s now plan true over = rw over (record { last = refl; ended = inr refl })
plan_ends_well s now plan false over = rw over (record {
  last = last-sends (sent_by s now plan) (ending_of plan.handed plan.ends) (last-ending plan.handed plan.ends);
  ended = plan_ended s now plan plan.handed plan.ends;
})

pub course_ends_well : (s : SessionState) (now : ℕ) (course : Course) → EndsWell (session_after s now course) (responses_of s now course)
course_ends_well s now Stay = record { last = tt; ended = inl tt }
course_ends_well s now Leave = record { last = refl; ended = inr refl }
course_ends_well s now (Go plan) = plan_ends_well s now plan (is_over s.next plan) refl

-- in a step
pub step_ends_well : (old new : SessionState) (input : Input) (now : ℕ) (given : List Response) → Steps old input now given new → EndsWell new given
step_ends_well old new input now given steps =
    elim steps as (λ _. EndsWell new given) [
      | inl closed ↦ rw (closed.gives, closed.leaves) (record { last = tt; ended = inl tt })
      | inr other ↦ rw (other.gives, other.leaves) (course_ends_well old now other.course)
    ]

-- if there is no end, the others follow
pub last-append : (first later : List Response) → HasNoEnd first → EndsLast later → EndsLast (first ++ later)
last-append [] later none last = last
last-append (Sends message ∷ first) later none last = last-append first later none last
last-append (Hands asked ∷ first) later none last = last-append first later none last
last-append (Closes ∷ first) later none last = absurd none

-- if nothing follows, what ended last still does
pub last-nothing : (first later : List Response) → later ≡ [] → EndsLast first → EndsLast (first ++ later)
last-nothing [] later nothing last = rw nothing tt
last-nothing (Sends message ∷ first) later nothing last = last-nothing first later nothing last
last-nothing (Hands asked ∷ first) later nothing last = last-nothing first later nothing last
last-nothing (Closes ∷ first) later nothing last = rw (last, nothing) refl

-- in a run
pub run_ends_last : (old new : SessionState) (inputs : List (Input × ℕ)) (given : List Response) → Runs old inputs given new → EndsLast given
run_ends_last old new [] given runs = rw runs.0 tt
run_ends_last old new (input ∷ inputs) given (first, later, next, steps, parts, rest) =
    let well = step_ends_well old next input.0 input.1 first steps in
    subst (λ (all : List Response). EndsLast all) (sym parts) (elim well.ended as (λ _. EndsLast (first ++ later)) [
      | inl none ↦ last-append first later none (run_ends_last next new inputs later rest)
      | inr closed ↦ last-nothing first later (closed_run next new inputs later closed rest).0 well.last
    ])

pub close_is_last : CloseIsLast
close_is_last firms given s reached = run_ends_last (new_session firms) s reached.inputs given reached.runs

-- if no firm is logged on after a step, none was before, and nothing is given but the end
pub plan_is_silent : (s : SessionState) (now : ℕ) (plan : Plan) (over : Bool) → is_over s.next plan ≡ over → (session_after s now (Go plan)).at ≡ None →
    (s.at ≡ None) × IsSilent (responses_of s now (Go plan))
plan_is_silent s now plan true over none = rw over ((rw over at none), inr refl)
plan_is_silent s now plan false over none = let impossible : Some plan.after ≡ None = rw over at none in absurd (cc)

pub course_is_silent : (s : SessionState) (now : ℕ) (course : Course) → (session_after s now course).at ≡ None → (s.at ≡ None) × IsSilent (responses_of s now course)
course_is_silent s now Stay none = (none, inl refl)
course_is_silent s now Leave none = (none, inr refl)
course_is_silent s now (Go plan) none = plan_is_silent s now plan (is_over s.next plan) refl none

pub step_is_silent : (old new : SessionState) (input : Input) (now : ℕ) (given : List Response) → Steps old input now given new → new.at ≡ None → (old.at ≡ None) × IsSilent given
step_is_silent old new input now given steps none =
    elim steps as (λ _. (old.at ≡ None) × IsSilent given) [
      | inl closed ↦ (sym (ap (λ (s : SessionState). s.at) closed.leaves) ∙ none, inl closed.gives)
      | inr other ↦
          let silent = course_is_silent old now other.course (sym (ap (λ (s : SessionState). s.at) other.leaves) ∙ none) in
          (silent.0, subst (λ (all : List Response). IsSilent all) (sym other.gives) silent.1)
    ]

-- nothing, or the end and then nothing
pub silent-append : (first later : List Response) → IsSilent first → IsSilent later → (HasNoEnd first ⊎ (later ≡ [])) → IsSilent (first ++ later)
silent-append first later (inl nothing) rest ended = rw nothing rest
silent-append first later (inr closes) rest (inl none) = absurd (subst (λ (all : List Response). HasNoEnd all) closes none)
silent-append first later (inr closes) rest (inr nothing) = rw (closes, nothing) (inr refl)

pub run_is_silent : (old new : SessionState) (inputs : List (Input × ℕ)) (given : List Response) → Runs old inputs given new → new.at ≡ None → (old.at ≡ None) × IsSilent given
run_is_silent old new [] given runs none = (sym (ap (λ (s : SessionState). s.at) runs.1) ∙ none, inl runs.0)
run_is_silent old new (input ∷ inputs) given (first, later, next, steps, parts, rest) none =
    let after = run_is_silent next new inputs later rest none in
    let before = step_is_silent old next input.0 input.1 first steps after.0 in
    let well = step_ends_well old next input.0 input.1 first steps in
    let ended : HasNoEnd first ⊎ (later ≡ []) = elim well.ended as (λ _. HasNoEnd first ⊎ (later ≡ [])) [
      | inl no_end ↦ inl no_end
      | inr closed ↦ inr (closed_run next new inputs later closed rest).0
    ] in
    (before.0, subst (λ (all : List Response). IsSilent all) (sym parts) (silent-append first later before.1 after.1 ended))

pub nothing_before : NothingBeforeTheLogon
nothing_before firms given s reached none = (run_is_silent (new_session firms) s reached.inputs given reached.runs none).1
