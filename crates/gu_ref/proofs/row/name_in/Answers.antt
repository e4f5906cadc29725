use Rattle.gu_ref.proofs.Words.{◌∙◌, sym, ap, option_map, name_in}
use Rattle.gu_terms.proofs.NameTests.{name_made}
use Rattle.gu_ref.proofs.row.name_in.Goals as goal

pub returns : goal.returns
returns c =
    name_made c.new.result c.in-Some.bytes.now c.new.ensures.sound c.new.ensures.same
    ∙ sym (ap (λ f. name_in (option_map (λ b. b.now) f)) c.in-Some.is)
