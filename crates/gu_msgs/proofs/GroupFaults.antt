-- The groups of a message of each type, and the rows of their counters.
use Rattle.gu_msgs.proofs.Words.{◌≡◌, ◌≢◌, ◌∙◌, ℕ, List, [], ◌∷◌, length, slice_get, None, Option, Some, ap, refl, subst, arith, slice_index, option_or, TagValue, group_fault, groups_fault, AreStandings, IsStanding, body_rows, entry_rows, header_rows, outer_rows, Fault, MsgType, Heartbeat, TestRequest, ResendRequest, Reject, SequenceReset, Logout, Logon, TradeCaptureReport, AllocationInstruction, AllocationReportAck, RequestForPositions, ACCOUNT, NO_ALLOCS, NO_EXECS, NO_SIDES, SIDE}
use Rattle.std.proofs.lemmas.Option.{same_Some}
use Rattle.gu_msgs.specs.Groups.{entries_begun}
use Rattle.gu_msgs.specs.Shape.{counted_fault}

alone : (fault : Option Fault) → option_or fault None ≡ fault
alone None = refl
alone (Some fault) = refl

-- a report has only the group of its sides
pub report_groups : (fields : List TagValue) → groups_fault TradeCaptureReport fields (body_rows TradeCaptureReport) ≡ group_fault TradeCaptureReport fields NO_SIDES
unfolding body_rows entry_rows
report_groups fields = alone (group_fault TradeCaptureReport fields NO_SIDES)

pub sides_stand : (kind : MsgType) (fields : List TagValue) (numbers : List ℕ) → kind ≡ TradeCaptureReport → AreStandings (outer_rows kind) fields numbers → IsStanding fields NO_SIDES (slice_index numbers 18)
unfolding header_rows body_rows
sides_stand kind fields numbers is stand = subst (λ (k : MsgType). AreStandings (outer_rows k) fields numbers) is stand 18 (omega arith)

-- a give-up has the groups of its executions and its lines
pub give_up_groups : (fields : List TagValue) → groups_fault AllocationInstruction fields (body_rows AllocationInstruction)
    ≡ option_or (group_fault AllocationInstruction fields NO_EXECS) (group_fault AllocationInstruction fields NO_ALLOCS)
unfolding body_rows entry_rows
give_up_groups fields = ap (option_or (group_fault AllocationInstruction fields NO_EXECS)) (alone (group_fault AllocationInstruction fields NO_ALLOCS))

pub executions_stand : (kind : MsgType) (fields : List TagValue) (numbers : List ℕ) → kind ≡ AllocationInstruction → AreStandings (outer_rows kind) fields numbers → IsStanding fields NO_EXECS (slice_index numbers 13)
unfolding header_rows body_rows
executions_stand kind fields numbers is stand = subst (λ (k : MsgType). AreStandings (outer_rows k) fields numbers) is stand 13 (omega arith)

pub lines_stand : (kind : MsgType) (fields : List TagValue) (numbers : List ℕ) → kind ≡ AllocationInstruction → AreStandings (outer_rows kind) fields numbers → IsStanding fields NO_ALLOCS (slice_index numbers 14)
unfolding header_rows body_rows
lines_stand kind fields numbers is stand = subst (λ (k : MsgType). AreStandings (outer_rows k) fields numbers) is stand 14 (omega arith)

-- the text of one digit
pub one_digit : (text : List ℕ) → length text ≡ 1 → slice_index text 0 ≡ 49 → text ≡ 49 ∷ []
one_digit [] one is = absurd (omega (arith, one))
one_digit (x ∷ []) one is = ap (λ (n : ℕ). n ∷ []) is
one_digit (x ∷ y ∷ more) one is = absurd (omega (arith, one))

-- a side and its account, counted as one, are without a fault
pub one_side_faultless : (text : List ℕ) (group : List TagValue) (side account : TagValue) → text ≡ 49 ∷ [] → length group ≡ 2 → slice_get group 0 ≡ Some side →
    slice_get group 1 ≡ Some account → side.tag ≡ SIDE → account.tag ≡ ACCOUNT →
    counted_fault (entry_rows NO_SIDES) NO_SIDES (Some text) (entries_begun (entry_rows NO_SIDES) group) ≡ None
unfolding entry_rows
one_side_faultless text [] side account one two first second is has = absurd (omega (arith, two))
one_side_faultless text (x ∷ []) side account one two first second is has = absurd (omega (arith, two))
one_side_faultless text (x ∷ y ∷ []) side account one two first second is has =
    rw (one, ap (λ (f : TagValue). f.tag) (same_Some x side first) ∙ is, ap (λ (f : TagValue). f.tag) (same_Some y account second) ∙ has) refl
one_side_faultless text (x ∷ y ∷ z ∷ more) side account one two first second is has = absurd (omega (arith, two))

-- no other message has any
pub no_groups : (kind : MsgType) (fields : List TagValue) → kind ≢ TradeCaptureReport → kind ≢ AllocationInstruction → groups_fault kind fields (body_rows kind) ≡ None
unfolding body_rows entry_rows
no_groups Heartbeat fields other another = refl
no_groups TestRequest fields other another = refl
no_groups ResendRequest fields other another = refl
no_groups Reject fields other another = refl
no_groups SequenceReset fields other another = refl
no_groups Logout fields other another = refl
no_groups Logon fields other another = refl
no_groups TradeCaptureReport fields other another = absurd (other refl)
no_groups AllocationInstruction fields other another = absurd (another refl)
no_groups AllocationReportAck fields other another = refl
no_groups RequestForPositions fields other another = refl
