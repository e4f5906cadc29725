use Rattle.gu_fix.proofs.ReadBack.{message_is_whole, read_back}
use Rattle.gu_msgs.specs.Written.{outbound_of}
use Rattle.gu_msgs.proofs.Encodables.{encodable}
use Rattle.gu_msgs.proofs.writing.write_over.Goals as goal

pub returns-clause-encodable : goal.returns-clause-encodable
returns-clause-encodable c = encodable (outbound_of c.args.message.now) c.push_message.new.draft c.in_ok-push_message.ensures c.fields.ensures.plain

pub returns-clause-whole : goal.returns-clause-whole
returns-clause-whole c =
    message_is_whole c.push_message.new.draft (encodable (outbound_of c.args.message.now) c.push_message.new.draft c.in_ok-push_message.ensures c.fields.ensures.plain)

pub returns-clause-read_back : goal.returns-clause-read_back
returns-clause-read_back c =
    read_back c.push_message.new.draft (encodable (outbound_of c.args.message.now) c.push_message.new.draft c.in_ok-push_message.ensures c.fields.ensures.plain)
