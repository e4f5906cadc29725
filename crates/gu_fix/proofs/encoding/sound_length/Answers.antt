use Rattle.std.proofs.Common.{◌≡◌, ◌<◌, ap, sym, ◌∙◌, arith, length}
use Rattle.std.specs.Fmt.{decimal}
use Rattle.std.proofs.lemmas.Bool.{and_parts}
use Rattle.gu_fix.specs.Encoding.{fields_text}
use Rattle.gu_fix.proofs.Encodings.{bad_tag, empty_value, soh_in_value, too_long, no_fault, length-message}
use Rattle.gu_fix.proofs.encoding.sound_length.Goals as goal

pub returns-then-not-has_message_tags : goal.returns-then-not-has_message_tags
returns-then-not-has_message_tags c = record {
  first = bad_tag c.args.fields.now (sym c.if-not-has_message_tags.ensures);
  no_memory = λ h. cc;
}

pub returns-then-has_empty_value : goal.returns-then-has_empty_value
returns-then-has_empty_value c = record {
  first = empty_value c.args.fields.now (sym c.if-not-has_message_tags.ensures) (sym c.if-has_empty_value.ensures);
  no_memory = λ h. cc;
}

pub returns-then-has_soh_in_value : goal.returns-then-has_soh_in_value
returns-then-has_soh_in_value c = record {
  first = soh_in_value c.args.fields.now (sym c.if-not-has_message_tags.ensures) (sym c.if-has_empty_value.ensures) (sym c.if-has_soh_in_value.ensures);
  no_memory = λ h. cc;
}

pub returns-in_default : goal.returns-in_default
returns-in_default c =
    let body : 65536 < length (fields_text c.args.fields.now) = c.in_default.ensures in
    record {
      first = too_long c.args.fields.now (sym c.if-not-has_message_tags.ensures) (sym c.if-has_empty_value.ensures) (sym c.if-has_soh_in_value.ensures) (omega (arith, length-message c.args.fields.now));
      no_memory = λ h. cc;
    }

pub returns-then-format-len-gt-LONGEST : goal.returns-then-format-len-gt-LONGEST
returns-then-format-len-gt-LONGEST c =
    let n = c.in-Some.ensures.0 in
    let digits : length c.format.result.now ≡ length (decimal (length (fields_text c.args.fields.now))) = ap length (c.format.ensures.text ∙ ap decimal n) in
    record {
      first = too_long c.args.fields.now (sym c.if-not-has_message_tags.ensures) (sym c.if-has_empty_value.ensures) (sym c.if-has_soh_in_value.ensures)
          (omega (arith, length-message c.args.fields.now, n, digits, c.if-format-len-gt-LONGEST.true));
      no_memory = λ h. cc;
    }

pub returns : goal.returns
returns c =
    let n = c.in-Some.ensures.0 in
    let digits : length c.format.result.now ≡ length (decimal (length (fields_text c.args.fields.now))) = ap length (c.format.ensures.text ∙ ap decimal n) in
    let of_len : length (decimal c.in-Some.len) ≡ length (decimal (length (fields_text c.args.fields.now))) = ap (λ k. length (decimal k)) n in
    record {
      sound = no_fault c.args.fields.now (sym c.if-not-has_message_tags.ensures) (sym c.if-has_empty_value.ensures) (sym c.if-has_soh_in_value.ensures)
          (omega (arith, length-message c.args.fields.now, n, digits, c.if-format-len-gt-LONGEST.false));
      typed = (and_parts _ _ (sym c.if-not-has_message_tags.ensures)).0;
      counted = n;
      most = omega (arith, of_len, digits, c.if-format-len-gt-LONGEST.false);
    }
