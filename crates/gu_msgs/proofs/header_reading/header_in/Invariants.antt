use Rattle.gu_msgs.proofs.Words.{◌≡◌, only_value, MSG_SEQ_NUM, POSS_DUP_FLAG, SENDER_COMP_ID, TARGET_COMP_ID}
use Rattle.gu_msgs.specs.HeaderWalk.{only_after}
use Rattle.gu_msgs.proofs.header_reading.header_in.Given as goal

abbrev pub invariant-loop-field : goal.invariant-loop-field
invariant-loop-field l = record {
  sender : only_after l.sender SENDER_COMP_ID l.field-iterator ≡ only_value SENDER_COMP_ID l.fn.fields;
  target : only_after l.target TARGET_COMP_ID l.field-iterator ≡ only_value TARGET_COMP_ID l.fn.fields;
  number : only_after l.number MSG_SEQ_NUM l.field-iterator ≡ only_value MSG_SEQ_NUM l.fn.fields;
  flag : only_after l.flag POSS_DUP_FLAG l.field-iterator ≡ only_value POSS_DUP_FLAG l.fn.fields;
}
