use Rattle.std.proofs.Common.{rules}
use Rattle.gu_terms.proofs.PackedLemmas.{kept_fewer}
use Rattle.gu_terms.proofs.history.truncate.Goals as goal

pub returns-clause-kept : goal.returns-clause-kept
returns-clause-kept c =
    kept_fewer c.args.texts.now.bytes c.truncate-2.new.self.bytes c.args.entries.now.items c.truncate.new.self.items c.args.count
    c.requires (search rules) (search rules)
