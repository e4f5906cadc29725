-- A connection that is listened to: its stream is read until its first message is whole.
use Rattle.std.specs.Prelude.{◌≡◌, ◌⊎◌, ◌++◌, ⊤, ℕ, List, Option}
use Rattle.std.specs.Io.KnownBytes.{Consumes, IsAtEnd, Keeps}
use Rattle.gu_secrets.specs.declared.row.SecretRow.{SecretRow}
use Rattle.gu_terms.specs.declared.firm.FirmId.{FirmId}
use Rattle.gu_knocks.specs.Hearing.{EntersAs, IsHeard, IsTurnedAway}
use Rattle.gu_knocks.specs.declared.heard.Heard.TheVariants as heard
use Rattle.gu_knocks.specs.declared.listening.Listened.{Listened}
use Rattle.gu_knocks.specs.declared.listening.Listened.TheVariants.{Waits, LetsIn, Refuses, Ends, Fails}
use Rattle.gu_knocks.specs.declared.listening.Listening.{Listening}

-- with these further bytes this becomes known, and its stream is the same
abbrev pub Hears : {T : Type 0} → Option (List SecretRow) → List FirmId → Listening T → List ℕ → Listened T → Type 0
Hears rows firms old piece (Waits new) = IsHeard rows firms (old.knock ++ piece) (heard.Waits new.knock) × (new.stream ≡ old.stream)
Hears rows firms old piece (LetsIn glance said stream) =
    EntersAs rows firms (old.knock ++ piece) glance.firm × (said.items ≡ old.knock ++ piece) × (stream ≡ old.stream)
Hears rows firms old piece (Refuses glance stream) = IsTurnedAway rows firms (old.knock ++ piece) × (stream ≡ old.stream)
Hears rows firms old piece _ = ⊥

-- a piece is read from its stream
abbrev pub Reads : {T : Type 0} → (T → Option (List ℕ)) → T → T → List ℕ → Type 0
Reads remaining old new piece = Consumes (remaining old) (remaining new) piece

-- It is listened to once. While it waits, nothing has come, or a piece without a whole message; what lets it in, or turns it away, is all
-- that it has said, with a piece that comes now. Its peer has ended only if its stream is at its end; a stream may fail at any time.
abbrev pub Listens : {T : Type 0} → (T → Option (List ℕ)) → Option (List SecretRow) → List FirmId → Listening T → Listened T → Type 0
Listens remaining rows firms old (Waits new) =
    ((new.knock ≡ old.knock) × Keeps (remaining old.stream) (remaining new.stream))
    ⊎ ((piece : List ℕ) × Reads remaining old.stream new.stream piece × IsHeard rows firms (old.knock ++ piece) (heard.Waits new.knock))
Listens remaining rows firms old (LetsIn glance said stream) =
    (piece : List ℕ) × Reads remaining old.stream stream piece × EntersAs rows firms (old.knock ++ piece) glance.firm × (said.items ≡ old.knock ++ piece)
Listens remaining rows firms old (Refuses glance stream) =
    (piece : List ℕ) × Reads remaining old.stream stream piece × IsTurnedAway rows firms (old.knock ++ piece)
Listens remaining rows firms old Ends = IsAtEnd (remaining old.stream)
Listens remaining rows firms old Fails = ⊤
