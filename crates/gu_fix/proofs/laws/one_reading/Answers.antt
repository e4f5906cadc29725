use Rattle.gu_fix.proofs.OneReading.{one_reading}
use Rattle.gu_fix.proofs.laws.one_reading.Goals as goal

pub returns : goal.returns
returns c = one_reading
