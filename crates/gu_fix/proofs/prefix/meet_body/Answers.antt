use Rattle.gu_fix.specs.WholeMessage.{type_tag}
use Rattle.gu_fix.proofs.Bodies.{body_begins, body_within, body_within_tag, body_apart_tag, body_apart_end}
use Rattle.gu_fix.proofs.prefix.meet_body.Goals as goal

pub returns-then-bytes-len : goal.returns-then-bytes-len
unfolding type_tag
returns-then-bytes-len c = body_within c.args.bytes.now c.in-Begins.ensures.0 c.args.len c.requires c.in-Begins.ensures.1 c.if-bytes-len.true

pub returns-then-bytes-len-eq-SOH : goal.returns-then-bytes-len-eq-SOH
unfolding type_tag
returns-then-bytes-len-eq-SOH c = body_begins c.args.bytes.now c.in-Begins.ensures.0 c.args.len c.requires c.in-Begins.ensures.1 c.if-bytes-len.false c.if-bytes-len-eq-SOH.true

pub returns-else-bytes-len-eq-SOH : goal.returns-else-bytes-len-eq-SOH
returns-else-bytes-len-eq-SOH c = body_apart_end c.args.bytes.now c.args.len c.requires c.if-bytes-len.false c.if-bytes-len-eq-SOH.false

pub returns-in-Within : goal.returns-in-Within
unfolding type_tag
returns-in-Within c = body_within_tag c.args.bytes.now c.in-Within.ensures.0 c.args.len c.requires c.in-Within.ensures.2

pub returns-in-Apart : goal.returns-in-Apart
unfolding type_tag
returns-in-Apart c = body_apart_tag c.args.bytes.now c.args.len c.in-Apart.ensures
