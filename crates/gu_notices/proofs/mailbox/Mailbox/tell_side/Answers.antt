use Rattle.gu_notices.proofs.Words.{◌++◌, ◌∷◌, [], told_on}
use Rattle.gu_notices.proofs.NoticeLemmas.{told-same, told-then, told_on-two}
use Rattle.gu_notices.proofs.mailbox.Mailbox.tell_side.Goals as goal

pub returns-in_ok-tell_report-in-Both : goal.returns-in_ok-tell_report-in-Both
returns-in_ok-tell_report-in-Both c =
    let number = c.args.number in
    let side = c.args.side in
    let one = c.in-Both.first in
    let two = c.in-Both.second in
    let both =
    told-then c.args.self.now c.tell_report-in-Both.new.self c.tell_report-in-Both-2.new.self c.tell_report-in-Both-2.result (told_on number side (one ∷ [])) (told_on number side (two ∷ []))
    (record { firm = c.in_ok-tell_report-in-Both.ensures.firm; list = c.in_ok-tell_report-in-Both.ensures.list }) c.tell_report-in-Both-2.ensures in
    rw c.in-Both.is (told-same c.args.self.now c.tell_report-in-Both-2.new.self c.tell_report-in-Both-2.result (told_on number side (one ∷ []) ++ told_on number side (two ∷ [])) (told_on number side (one ∷ two ∷ [])) (told_on-two number side one two) both)
