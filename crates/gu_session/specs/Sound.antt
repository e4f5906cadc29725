-- Machinery: invariants of a session's fields. No other crate names this file.
use Rattle.std.specs.Prelude.{◌≡◌, ◌≤◌, ℕ, List, [], ◌++◌, length, Option, None, Some}
use Rattle.circular_buffer.specs.Buffer.{Buffer, buffer, keep_last}
use Rattle.gu_session.specs.Ascending.{AreWithin}
use Rattle.gu_session.specs.declared.sent_ring.Sent.{Sent}
use Rattle.gu_session.specs.declared.logged_on.LoggedOn.{LoggedOn}

-- nothing is kept before a firm logs on, and there is room for 4,096 messages afterwards
abbrev pub HasRoom : Option LoggedOn → Buffer Sent → Type 0
HasRoom None kept = kept.items ≡ []
HasRoom (Some at) kept = kept.capacity ≡ 4096

-- the next number is valid or the one after the greatest, and the numbers of kept messages ascend below it
pub record IsSound (at : Option LoggedOn) (next : ℕ) (kept : Buffer Sent) : Type 0 where
  pub some : 1 ≤ next
  pub most : next ≤ 1000000001
  pub room : HasRoom at kept
  pub few : length kept.items ≤ kept.capacity
  pub ascending : AreWithin 1 next kept.items

-- the messages kept, followed by these, down to the last for which there is room
abbrev pub extended : Buffer Sent → List Sent → Buffer Sent
extended kept sent = buffer (keep_last kept.capacity (kept.items ++ sent)) kept.capacity
