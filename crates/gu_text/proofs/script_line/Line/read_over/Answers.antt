use Rattle.gu_text.specs.Words.{words_of}
use Rattle.gu_text.specs.declared.script_forms.Form.TheVariants as form
use Rattle.gu_text.proofs.ScriptLemmas.{begun_bad, read_refused}
use Rattle.gu_text.proofs.script_line.Line.read_over.Goals as goal

pub returns-in-Day-clause-bad : goal.returns-in-Day-clause-bad
returns-in-Day-clause-bad c = begun_bad c.args.line.now c.in-Some.form (words_of c.in-Some.words.now) c.args.number c.day_said.result c.args.said.now c.day_said.new.said c.in-Some.ensures (rw c.in-Day.is c.day_said.ensures)

pub returns-in-Limit-clause-bad : goal.returns-in-Limit-clause-bad
returns-in-Limit-clause-bad c = begun_bad c.args.line.now c.in-Some.form (words_of c.in-Some.words.now) c.args.number c.limit_said.result c.args.said.now c.limit_said.new.said c.in-Some.ensures (rw c.in-Limit.is c.limit_said.ensures)

pub returns-in-Report-clause-bad : goal.returns-in-Report-clause-bad
returns-in-Report-clause-bad c = begun_bad c.args.line.now c.in-Some.form (words_of c.in-Some.words.now) c.args.number c.report_said.result c.args.said.now c.report_said.new.said c.in-Some.ensures (rw c.in-Report.is c.report_said.ensures)

pub returns-in-GiveUp-clause-bad : goal.returns-in-GiveUp-clause-bad
returns-in-GiveUp-clause-bad c = begun_bad c.args.line.now c.in-Some.form (words_of c.in-Some.words.now) c.args.number c.give_up_said.result c.args.said.now c.give_up_said.new.said c.in-Some.ensures (rw c.in-GiveUp.is c.give_up_said.ensures)

pub returns-in-Claim-clause-bad : goal.returns-in-Claim-clause-bad
returns-in-Claim-clause-bad c = begun_bad c.args.line.now c.in-Some.form (words_of c.in-Some.words.now) c.args.number c.claim_said.result c.args.said.now c.claim_said.new.said c.in-Some.ensures (rw c.in-Claim.is c.claim_said.ensures)

pub returns-in-Refuse-clause-bad : goal.returns-in-Refuse-clause-bad
returns-in-Refuse-clause-bad c = begun_bad c.args.line.now c.in-Some.form (words_of c.in-Some.words.now) c.args.number c.refuse_said.result c.args.said.now c.refuse_said.new.said c.in-Some.ensures (rw c.in-Refuse.is c.refuse_said.ensures)

pub returns-in-Reverse-clause-bad : goal.returns-in-Reverse-clause-bad
returns-in-Reverse-clause-bad c = begun_bad c.args.line.now c.in-Some.form (words_of c.in-Some.words.now) c.args.number c.reverse_said.result c.args.said.now c.reverse_said.new.said c.in-Some.ensures (rw c.in-Reverse.is c.reverse_said.ensures)

pub returns-in-See-clause-bad : goal.returns-in-See-clause-bad
returns-in-See-clause-bad c = begun_bad c.args.line.now c.in-Some.form (words_of c.in-Some.words.now) c.args.number c.see_said.result c.args.said.now c.see_said.new.said c.in-Some.ensures (rw c.in-See.is c.see_said.ensures)

pub returns-in-Propose-clause-bad : goal.returns-in-Propose-clause-bad
returns-in-Propose-clause-bad c = begun_bad c.args.line.now c.in-Some.form (words_of c.in-Some.words.now) c.args.number c.propose_said.result c.args.said.now c.propose_said.new.said c.in-Some.ensures (rw c.in-Propose.is c.propose_said.ensures)

pub returns-in-Commit-clause-bad : goal.returns-in-Commit-clause-bad
returns-in-Commit-clause-bad c = begun_bad c.args.line.now c.in-Some.form (words_of c.in-Some.words.now) c.args.number c.commit_said.result c.args.said.now c.commit_said.new.said c.in-Some.ensures (rw c.in-Commit.is c.commit_said.ensures)

pub returns-in-Day-clause-refused : goal.returns-in-Day-clause-refused
returns-in-Day-clause-refused c = read_refused form.Day (words_of c.in-Some.words.now) c.args.number c.day_said.result c.args.said.now c.day_said.new.said c.day_said.ensures

pub returns-in-Limit-clause-refused : goal.returns-in-Limit-clause-refused
returns-in-Limit-clause-refused c = read_refused form.Limit (words_of c.in-Some.words.now) c.args.number c.limit_said.result c.args.said.now c.limit_said.new.said c.limit_said.ensures

pub returns-in-Report-clause-refused : goal.returns-in-Report-clause-refused
returns-in-Report-clause-refused c = read_refused form.Report (words_of c.in-Some.words.now) c.args.number c.report_said.result c.args.said.now c.report_said.new.said c.report_said.ensures

pub returns-in-GiveUp-clause-refused : goal.returns-in-GiveUp-clause-refused
returns-in-GiveUp-clause-refused c = read_refused form.GiveUp (words_of c.in-Some.words.now) c.args.number c.give_up_said.result c.args.said.now c.give_up_said.new.said c.give_up_said.ensures

pub returns-in-Claim-clause-refused : goal.returns-in-Claim-clause-refused
returns-in-Claim-clause-refused c = read_refused form.Claim (words_of c.in-Some.words.now) c.args.number c.claim_said.result c.args.said.now c.claim_said.new.said c.claim_said.ensures

pub returns-in-Refuse-clause-refused : goal.returns-in-Refuse-clause-refused
returns-in-Refuse-clause-refused c = read_refused form.Refuse (words_of c.in-Some.words.now) c.args.number c.refuse_said.result c.args.said.now c.refuse_said.new.said c.refuse_said.ensures

pub returns-in-Reverse-clause-refused : goal.returns-in-Reverse-clause-refused
returns-in-Reverse-clause-refused c = read_refused form.Reverse (words_of c.in-Some.words.now) c.args.number c.reverse_said.result c.args.said.now c.reverse_said.new.said c.reverse_said.ensures

pub returns-in-See-clause-refused : goal.returns-in-See-clause-refused
returns-in-See-clause-refused c = read_refused form.See (words_of c.in-Some.words.now) c.args.number c.see_said.result c.args.said.now c.see_said.new.said c.see_said.ensures

pub returns-in-Propose-clause-refused : goal.returns-in-Propose-clause-refused
returns-in-Propose-clause-refused c = read_refused form.Propose (words_of c.in-Some.words.now) c.args.number c.propose_said.result c.args.said.now c.propose_said.new.said c.propose_said.ensures

pub returns-in-Commit-clause-refused : goal.returns-in-Commit-clause-refused
returns-in-Commit-clause-refused c = read_refused form.Commit (words_of c.in-Some.words.now) c.args.number c.commit_said.result c.args.said.now c.commit_said.new.said c.commit_said.ensures
