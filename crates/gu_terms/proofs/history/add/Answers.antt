use Rattle.std.proofs.Common.{rules}
use Rattle.gu_terms.proofs.PackedLemmas.{kept_more}
use Rattle.gu_terms.proofs.history.add.Goals as goal
use Rattle.gu_terms.specs.declared.packed.Packed.{Packed}

pub returns-clause-kept : goal.returns-clause-kept
returns-clause-kept c =
    let new : Packed = record { span = c.span-span.result; reply = c.args.kept.0; body = c.args.kept.1 } in
    kept_more c.args.all.now.bytes c.append.new.all.bytes c.args.texts.now c.args.entries.now.items c.push_reserved.new.self.items new
    c.requires.kept (c.requires.room c.span-span.ensures.short) (search rules) c.requires.texts c.requires.name (search rules) (search rules)
