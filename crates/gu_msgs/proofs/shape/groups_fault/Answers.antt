use Rattle.gu_msgs.proofs.Words.{◌≡◌, ◌∙◌, List, Option, ap, sym, option_or, TagValue, group_fault, groups_fault, body_rows, Fault, MsgType, AllocationInstruction, NO_ALLOCS, NO_EXECS, NO_SIDES}
use Rattle.gu_msgs.proofs.GroupFaults.{executions_stand, give_up_groups, lines_stand, no_groups, report_groups, sides_stand}
use Rattle.gu_msgs.proofs.shape.groups_fault.Goals as goal

pub group_fault-requires : goal.group_fault-requires
group_fault-requires c = sides_stand c.args.msg_type c.args.fields.now c.args.numbers.now c.in-TradeCaptureReport.is c.requires

pub group_fault-requires-in-AllocationInstruction : goal.group_fault-requires-in-AllocationInstruction
group_fault-requires-in-AllocationInstruction c = executions_stand c.args.msg_type c.args.fields.now c.args.numbers.now c.in-AllocationInstruction.is c.requires

pub group_fault-requires-in-None : goal.group_fault-requires-in-None
group_fault-requires-in-None c = lines_stand c.args.msg_type c.args.fields.now c.args.numbers.now c.in-AllocationInstruction.is c.requires

pub returns-in-TradeCaptureReport : goal.returns-in-TradeCaptureReport
returns-in-TradeCaptureReport c =
    let is = c.in-TradeCaptureReport.is in
    let fields = c.args.fields.now in
    c.group_fault.ensures ∙ ap (λ (k : MsgType). group_fault k fields NO_SIDES) is ∙ sym (report_groups fields) ∙ ap (λ (k : MsgType). groups_fault k fields (body_rows k)) (sym is)

-- the groups of a give-up, whatever its type is called
groups_of_give_up : (kind : MsgType) (fields : List TagValue) → kind ≡ AllocationInstruction → option_or (group_fault kind fields NO_EXECS) (group_fault kind fields NO_ALLOCS) ≡ groups_fault kind fields (body_rows kind)
groups_of_give_up kind fields is =
    ap (λ (k : MsgType). option_or (group_fault k fields NO_EXECS) (group_fault k fields NO_ALLOCS)) is ∙ sym (give_up_groups fields) ∙ ap (λ (k : MsgType). groups_fault k fields (body_rows k)) (sym is)

pub returns-in-Some : goal.returns-in-Some
returns-in-Some c =
    ap (λ (f : Option Fault). option_or f (group_fault c.args.msg_type c.args.fields.now NO_ALLOCS)) (sym c.in-Some.is ∙ c.group_fault-in-AllocationInstruction.ensures)
    ∙ groups_of_give_up c.args.msg_type c.args.fields.now c.in-AllocationInstruction.is

pub returns-in-None : goal.returns-in-None
returns-in-None c =
    c.group_fault-in-None.ensures
    ∙ ap (λ (f : Option Fault). option_or f (group_fault c.args.msg_type c.args.fields.now NO_ALLOCS)) (sym c.in-None.is ∙ c.group_fault-in-AllocationInstruction.ensures)
    ∙ groups_of_give_up c.args.msg_type c.args.fields.now c.in-AllocationInstruction.is

pub returns-in_default : goal.returns-in_default
returns-in_default c = sym (no_groups c.args.msg_type c.args.fields.now c.in_default.not-TradeCaptureReport c.in_default.not-AllocationInstruction)
