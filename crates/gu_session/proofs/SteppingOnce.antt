-- There is at most one step.
use Rattle.gu_session.proofs.Words.{◌≡◌, inl, inr, ℕ, Bool, List, Option, None, Some, Result, Ok, Err, refl, ap, sym, subst, ◌∙◌, arith, FirmId, Response, OneStep, SessionState, IsCourse, StepsOpen, frame_course, responses_of, session_after, Heard, Input, Course}
use Rattle.gu_fix.specs.TagValue.{TagValue}
use Rattle.gu_fix.specs.declared.error.FieldFault.{FieldFault}
use Rattle.gu_fix.proofs.OneReading.{one_reading}
use Rattle.gu_msgs.specs.declared.fault.Fault.{Fault}
use Rattle.gu_msgs.specs.declared.inbound.Inbound.{Inbound}
use Rattle.gu_msgs.proofs.NoFault.{no_fault}
use Rattle.gu_msgs.proofs.OneFault.{one_fault}
use Rattle.gu_msgs.proofs.OneMessage.{one_message}
use Rattle.gu_session.specs.Hearing.{Hears, IsContent, IsFirmIn, IsHeading, IsNumberIn}
use Rattle.gu_session.specs.declared.heard.Heading.{Heading}
use Rattle.gu_session.specs.declared.input.Input.TheVariants as input

-- a text writes one number
pub one_number : (text : Option (List ℕ)) (number other : Option ℕ) → IsNumberIn text number → IsNumberIn text other → number ≡ other
one_number None number other is too = is ∙ sym too
one_number (Some text) None None is too = refl
one_number (Some text) None (Some other) is too = absurd (is too.0)
one_number (Some text) (Some number) None is too = absurd (too is.0)
one_number (Some text) (Some number) (Some other) is too = ap (λ (n : ℕ). Some n) (sym is.1 ∙ too.1)

-- a name is one firm's
pub one_firm : (name : Option (List ℕ)) (firm other : Option FirmId) → IsFirmIn name firm → IsFirmIn name other → firm ≡ other
one_firm None firm other is too = is ∙ sym too
one_firm (Some name) None None is too = refl
one_firm (Some name) None (Some other) is too = absurd (is too.0)
one_firm (Some name) (Some firm) None is too = absurd (too is.0)
one_firm (Some name) (Some firm) (Some other) is too =
    let named : List ℕ → Option FirmId = λ text. Some (record { name = text }) in ap named (is.1 ∙ sym too.1)

-- fields have one header
pub one_heading : (fields : List TagValue) (heading other : Heading) → IsHeading fields heading → IsHeading fields other → heading ≡ other
one_heading fields heading other is too =
    ap (λ (x : Option ℕ). record heading { number = x }) (one_number _ heading.number other.number is.number too.number)
    ∙ ap (λ (x : Option (List ℕ)). record heading { number = other.number; msg_type = x }) (is.msg_type ∙ sym too.msg_type)
    ∙ ap (λ (x : Option FirmId). record heading { number = other.number; msg_type = other.msg_type; sender = x }) (one_firm _ heading.sender other.sender is.sender too.sender)
    ∙ ap (λ (x : Bool). record heading { number = other.number; msg_type = other.msg_type; sender = other.sender; is_to_house = x }) (is.to_house ∙ sym too.to_house)
    ∙ ap (λ (x : Bool). record other { is_poss_dup = x }) (is.poss_dup ∙ sym too.poss_dup)

-- fields say one message, or have one first fault
pub one_content : (fault : Option FieldFault) (fields : List TagValue) (content other : Result Inbound Fault) → IsContent fault fields content → IsContent fault fields other → content ≡ other
one_content (Some fault) fields content other is too = is ∙ sym too
one_content None fields (Ok message) (Ok other) is too = ap (λ (m : Inbound). Ok m) (one_message fields message other is too)
one_content None fields (Ok message) (Err fault) is too = absurd (no_fault fields message fault is too)
one_content None fields (Err fault) (Ok message) is too = absurd (no_fault fields message fault too is)
one_content None fields (Err fault) (Err other) is too = ap (λ (f : Fault). Err f) (one_fault fields fault other is too)

-- bytes have one content
pub one_hearing : (bytes : List ℕ) (heard other : Heard) → Hears bytes heard → Hears bytes other → heard ≡ other
one_hearing bytes heard other is too =
    let same = one_reading bytes too.fields is.fields too.fault is.fault too.has_fields is.has_fields in
    let heading = subst (λ (fields : List TagValue). IsHeading fields other.heading) same.0 too.heading in
    let by_fields = subst (λ (fields : List TagValue). IsContent too.fault fields other.content) same.0 too.content in
    let content = subst (λ (fault : Option FieldFault). IsContent fault is.fields other.content) same.1 by_fields in
    ap (λ (x : Heading). record heard { heading = x }) (one_heading is.fields heard.heading other.heading is.heading heading)
    ∙ ap (λ (x : Result Inbound Fault). record other { content = x }) (one_content is.fault is.fields heard.content other.content is.content content)

-- there is one course
pub one_course : (s : SessionState) (given : Input) (now : ℕ) (course other : Course) → IsCourse s given now course → IsCourse s given now other → course ≡ other
one_course s (input.Frame bytes) now course other is too =
    is.course_is ∙ ap (λ (heard : Heard). frame_course s.firms s.at heard now) (one_hearing bytes is.heard too.heard is.hears too.hears) ∙ sym too.course_is
one_course s (input.Notice notice) now course other is too = is ∙ sym too
one_course s (input.Answer reference outcome) now course other is too = is ∙ sym too
one_course s input.Tick now course other is too = is ∙ sym too
one_course s input.End now course other is too = is ∙ sym too
one_course s input.Close now course other is too = is ∙ sym too

-- two steps of an open session
pub one_open : (old new other : SessionState) (given_input : Input) (now : ℕ) (given others : List Response) →
    StepsOpen old given_input now given new → StepsOpen old given_input now others other → (given ≡ others) × (new ≡ other)
one_open old new other given_input now given others is too =
    let same = one_course old given_input now is.course too.course is.is_course too.is_course in (
      is.gives ∙ ap (λ (course : Course). responses_of old now course) same ∙ sym too.gives,
      is.leaves ∙ ap (λ (course : Course). session_after old now course) same ∙ sym too.leaves,
    )

pub one_step_only : OneStep
one_step_only old new other given_input now given others (inl is) (inl too) = (is.gives ∙ sym too.gives, is.leaves ∙ sym too.leaves)
one_step_only old new other given_input now given others (inl is) (inr too) = absurd (grind (arith, is.is_closed, too.is_open))
one_step_only old new other given_input now given others (inr is) (inl too) = absurd (grind (arith, is.is_open, too.is_closed))
one_step_only old new other given_input now given others (inr is) (inr too) = one_open old new other given_input now given others is too
