use Rattle.gu_world.proofs.LegalRuns.{run_legal}
use Rattle.gu_script.proofs.CommittedSheets.{prints_right}
use Rattle.gu_script.proofs.laws.a_committed_sweep_prints_a_right_sheet.Goals as goal

pub returns : goal.returns
returns c = record {
  legal = prints_right;
  runs = λ reference steps course sound run. prints_right reference course.state.book.history sound (run_legal reference steps course run);
}
