use Rattle.std.proofs.Common.{◌==◌}
use Rattle.gu_text.proofs.FirstBytes.{place_found}
use Rattle.gu_text.proofs.lines.end_of_line.Goals as goal

pub returns : goal.returns
returns c = place_found (λ b. b == 10) c.args.text.now c.memchr.result c.memchr.ensures
