use Rattle.std.proofs.Common.{arith}
use Rattle.gu_text.proofs.LineFeedLaws.{too_long}
use Rattle.gu_text.proofs.line_feed.is_too_long.Goals as goal

pub returns-clause-long : goal.returns-clause-long
returns-clause-long c long = too_long c.args.bytes.now c.requires (search (arith, long))
