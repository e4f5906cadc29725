use Rattle.std.proofs.Common.{◌≡◌, true, false}
use Rattle.gu_exchange.proofs.Numerals.{text_of_digits}
use Rattle.gu_exchange.proofs.endpoint.is_small.Goals as goal

pub returns-in-Err : goal.returns-in-Err
returns-in-Err c = (
  λ is. let bad : false ≡ true = is in absurd (cc),
  λ small. absurd (c.in-Err.ensures.cases.0 (text_of_digits c.args.text.now small)),
)
