use Rattle.std.proofs.Common.{◌≡◌, ap, ◌∙◌, arith, length}
use Rattle.std.specs.Fmt.{decimal}
use Rattle.gu_fix.specs.Encoding.{fields_text}
use Rattle.gu_fix.proofs.Encodings.{length-message}
use Rattle.gu_fix.proofs.ReadBack.{message_is_whole}
use Rattle.gu_fix.proofs.encoding.encode_onto.Goals as goal

pub push_message-pushed-requires : goal.push_message-pushed-requires
push_message-pushed-requires c =
    let fields = c.args.fields.now in
    let text = ap length c.text-text.ensures in
    let digits : length c.as_bytes.result.now ≡ length (decimal (length (fields_text fields))) = ap length (c.as_bytes.ensures.value ∙ c.format.ensures.text ∙ ap decimal text) in
    omega (arith, text, digits, length-message fields, (message_is_whole fields c.requires).most)

pub returns-then-is_err-clause-whole : goal.returns-then-is_err-clause-whole
returns-then-is_err-clause-whole c = message_is_whole c.args.fields.now c.requires

pub returns-else-is_err-clause-whole : goal.returns-else-is_err-clause-whole
returns-else-is_err-clause-whole c = message_is_whole c.args.fields.now c.requires
