use Rattle.std.proofs.Common.{rules}
use Rattle.gu_trades.specs.Reports.{made_on}
use Rattle.gu_trades.proofs.PackedLemmas.{reports_more, within_more}
use Rattle.gu_trades.proofs.reports.add.Goals as goal

pub returns-clause-kept : goal.returns-clause-kept
returns-clause-kept c =
    within_more c.args.texts.now.bytes c.append_texts.new.texts.bytes c.args.rows.now.items c.push_reserved.new.self.items c.len-2.result (made_on c.args.today c.args.report.now)
    c.requires.kept c.of-kept.ensures.sound (search rules) (c.in_ok-append_texts.ensures.appended c.args.today) (search rules)

pub returns-clause-added : goal.returns-clause-added
returns-clause-added c =
    reports_more c.args.texts.now.bytes c.append_texts.new.texts.bytes c.args.rows.now.items c.push_reserved.new.self.items c.len-2.result (made_on c.args.today c.args.report.now)
    c.requires.kept c.of-kept.ensures.sound (search rules) (c.in_ok-append_texts.ensures.appended c.args.today) (search rules)
