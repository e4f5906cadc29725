use Rattle.gu_text.proofs.WrittenCommandLemmas.{command_says, remark_is_silent, sweep_says, swept_is_silent}
use Rattle.gu_text.proofs.laws.a_written_command_is_read_back.Goals as goal

pub returns : goal.returns
returns c = record { command = command_says; remark = remark_is_silent; sweep = sweep_says; swept = swept_is_silent }
