use Rattle.std.proofs.Common.{append-nil, refl, sym}
use Rattle.gu_notices.proofs.NoticeLemmas.{no_line}
use Rattle.gu_notices.proofs.mailbox.Mailbox.tell_line.Goals as goal

pub returns-in_default : goal.returns-in_default
returns-in_default c =
    let none = no_line c.args.register.now c.args.number c.rules.ensures.few (λ is. let no = c.in_default.ensures.sound.1 is in cc) in
    rw none (record { firm = refl; list = sym (append-nil c.args.self.now.list.items) })
