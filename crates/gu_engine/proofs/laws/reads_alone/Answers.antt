use Rattle.gu_engine.proofs.Servings.{are_reads}
use Rattle.gu_engine.proofs.laws.reads_alone.Goals as goal

pub returns : goal.returns
returns c = are_reads
