use Rattle.gu_streams.proofs.counted_reads.asked.Goals as goal

pub returns : goal.returns
returns c = c.min.ensures
