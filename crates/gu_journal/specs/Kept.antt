-- The contents of a log.
use Rattle.std.specs.Prelude.{◌≡◌, ℕ, List, Option, Some}
use Rattle.std.proofs.Common.{◌∙◌, ap}
use Rattle.gu_journal.specs.declared.device.Device.{Ghosts}
use Rattle.gu_journal.specs.declared.log.Log.{Log}
use Rattle.gu_journal.specs.Log.{found_since}
use Rattle.gu_journal.specs.Text.{found, text_of}

module _ {D : Type 0} {g : Ghosts D} where
  -- the device that it writes to
  abbrev pub device_of : Log D g → D
  device_of log = log.device

  -- the text that it kept
  abbrev pub kept_by : Log D g → List ℕ
  kept_by log = text_of (g.seen log.device)

  -- what it kept is found after a crash
  pub kept_is_found : ((device : D) (c : List ℕ) → g.left_since device (g.moment device) c → g.may_leave device c) → (log : Log D g) (outcome : Option (List ℕ)) → g.is_honest (device_of log)
      → found_since g.left_since (device_of log) (g.moment (device_of log)) outcome → outcome ≡ Some (kept_by log)
  kept_is_found only_now log outcome honest left =
      let s = log.settled honest in
      left.2 ∙ ap found (s.durable left.0 (only_now log.device left.0 left.1)) ∙ s.finds
