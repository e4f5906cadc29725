-- The header of a message, regardless of its other fields (FIXT 1.1, Standard Header).
use Rattle.std.specs.Prelude.{◌≡◌, List}
use Rattle.std.specs.Option.{option_map}
use Rattle.gu_fix.specs.TagValue.{TagValue}
use Rattle.gu_fix.specs.declared.tag.TheConstants.{MSG_TYPE}
use Rattle.gu_msgs.specs.Values.{first_value, only_value}
use Rattle.gu_msgs.specs.declared.standard_header.Header.{Header}
use Rattle.gu_msgs.specs.declared.standard_header.HeaderRef.{HeaderRef}
use Rattle.gu_msgs.specs.declared.tags.TheConstants.{SENDER_COMP_ID, TARGET_COMP_ID, MSG_SEQ_NUM, POSS_DUP_FLAG}

-- the type is the first MsgType; each other part is the value of a tag that occurs exactly once
pub record IsHeader (fields : List TagValue) (header : Header) : Type 0 where
  pub msg_type : option_map (λ bytes. bytes.items) header.msg_type ≡ first_value MSG_TYPE fields
  pub sender : option_map (λ bytes. bytes.items) header.sender_comp_id ≡ only_value SENDER_COMP_ID fields
  pub target : option_map (λ bytes. bytes.items) header.target_comp_id ≡ only_value TARGET_COMP_ID fields
  pub number : option_map (λ bytes. bytes.items) header.msg_seq_num ≡ only_value MSG_SEQ_NUM fields
  pub poss_dup : option_map (λ bytes. bytes.items) header.poss_dup_flag ≡ only_value POSS_DUP_FLAG fields

-- the same for a header of references into the message
pub record IsHeaderIn (fields : List TagValue) (header : HeaderRef) : Type 0 where
  pub msg_type : option_map (λ bytes. bytes.now) header.msg_type ≡ first_value MSG_TYPE fields
  pub sender : option_map (λ bytes. bytes.now) header.sender_comp_id ≡ only_value SENDER_COMP_ID fields
  pub target : option_map (λ bytes. bytes.now) header.target_comp_id ≡ only_value TARGET_COMP_ID fields
  pub number : option_map (λ bytes. bytes.now) header.msg_seq_num ≡ only_value MSG_SEQ_NUM fields
  pub poss_dup : option_map (λ bytes. bytes.now) header.poss_dup_flag ≡ only_value POSS_DUP_FLAG fields
