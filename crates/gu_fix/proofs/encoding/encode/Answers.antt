use Rattle.std.proofs.Common.{◌≡◌, ◌++◌, List, ℕ, ap, sym, subst, ◌∙◌, arith, length}
use Rattle.std.specs.Fmt.{decimal}
use Rattle.gu_fix.specs.WholeMessage.{IsWhole, front_of, trailer_after}
use Rattle.gu_fix.specs.Encoding.{fields_text, message_of}
use Rattle.gu_fix.proofs.Encodings.{whole_message, length-message}
use Rattle.gu_fix.proofs.encoding.encode.Goals as goal

pub returns-in-Ok-message-clause-whole : goal.returns-in-Ok-message-clause-whole
returns-in-Ok-message-clause-whole c =
    let fs = c.args.fields.now in
    let sound = c.in-Ok.ensures in
    let text : c.as_bytes.result.now ≡ decimal (length (fields_text fs)) = c.as_bytes.ensures.value ∙ c.format.ensures.text ∙ ap decimal sound.counted in
    let items : c.in-Ok-message.out.items ≡ message_of fs = c.in-Ok-message.ensures ∙ ap (λ (t : List ℕ). front_of t (fields_text fs) ++ trailer_after (front_of t (fields_text fs))) text in
    let counted = ap (λ k. length (decimal k)) sound.counted in
    subst IsWhole (sym items) (whole_message fs sound.typed (omega (arith, length-message fs, sound.counted, counted, sound.most)))
