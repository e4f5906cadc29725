-- What is known about a connection from everything that it has sent.
use Rattle.std.specs.Prelude.{◌≡◌, ◌⊎◌, ◌<◌, ⊤, ℕ, List, Option, None, Some, length}
use Rattle.gu_fix.specs.Stream.{HasNoFrameYet}
use Rattle.gu_secrets.specs.declared.row.SecretRow.{SecretRow}
use Rattle.gu_terms.specs.declared.firm.FirmId.{FirmId}
use Rattle.gu_knocks.specs.Knocks.{Judges, JudgesFirst}
use Rattle.gu_knocks.specs.declared.guard.Judged.{Judged}
use Rattle.gu_knocks.specs.declared.guard.Judged.TheVariants as judged
use Rattle.gu_knocks.specs.declared.heard.Heard.{Heard}
use Rattle.gu_knocks.specs.declared.heard.Heard.TheVariants.{Waits, LetsIn, Refuses}
use Rattle.gu_knocks.specs.declared.heard.TheConstants.{MOST_SAID}

-- who is let in by a first message: with secrets the firm that it lets in, without secrets anyone who may log on
abbrev pub AdmitsFirst : Option (List SecretRow) → List FirmId → List ℕ → Option FirmId → Type 0
AdmitsFirst (Some rows) firms message (Some firm) = Judges rows firms message (Some firm)
AdmitsFirst None firms message None = ⊤
AdmitsFirst _ firms message _ = ⊥

-- what a first message answers; without secrets nobody is turned away
abbrev pub AnswersFirst : Option (List SecretRow) → List FirmId → List ℕ → Judged → Type 0
AnswersFirst rows firms message (judged.LetsIn glance) = AdmitsFirst rows firms message glance.firm
AnswersFirst (Some rows) firms message (judged.Refuses glance) = Judges rows firms message None
AnswersFirst None firms message (judged.Refuses glance) = ⊥

-- Somebody is let in: with secrets the firm that the first message lets in, without secrets anyone who may log on.
abbrev pub EntersAs : Option (List SecretRow) → List FirmId → List ℕ → Option FirmId → Type 0
EntersAs (Some rows) firms said (Some firm) = JudgesFirst rows firms said (Some firm)
EntersAs None firms said None = ⊤
EntersAs _ firms said _ = ⊥

-- Nobody is let in: there are secrets, and the first message lets in no firm, or too much was sent before it.
abbrev pub IsTurnedAway : Option (List SecretRow) → List FirmId → List ℕ → Type 0
IsTurnedAway None firms said = ⊥
IsTurnedAway (Some rows) firms said = JudgesFirst rows firms said None ⊎ (HasNoFrameYet said × (MOST_SAID < length said))

-- it waits as long as there is no whole message; a connection that is let in has sent all that its session is to read
abbrev pub IsHeard : Option (List SecretRow) → List FirmId → List ℕ → Heard → Type 0
IsHeard rows firms said (Waits knock) = HasNoFrameYet said × (knock ≡ said)
IsHeard rows firms said (LetsIn glance bytes) = EntersAs rows firms said glance.firm × (bytes.items ≡ said)
IsHeard rows firms said (Refuses glance) = IsTurnedAway rows firms said
