use Rattle.gu_notices.proofs.Words.{◌≡◌, length, AreRecipients, register_in}
use Rattle.gu_notices.proofs.recipients.note_recipients.Lts.Given as given

pub record invariant-loop-place (l : given.Live-loop-place) : Type 0 where
  pub known : AreRecipients (register_in l.register) l.history l.recipients.items
  pub next : length l.recipients.items ≡ l.place
