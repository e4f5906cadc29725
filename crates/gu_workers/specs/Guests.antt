-- Who is at a place of a worker once a connection has come.
use Rattle.std.specs.Prelude.{◌≡◌, List, [], Option, None, Some, IsSomeAnd}
use Rattle.gu_engine.specs.Exchange.{new_conversation}
use Rattle.gu_secrets.specs.declared.row.SecretRow.{SecretRow}
use Rattle.gu_terms.specs.declared.firm.FirmId.{FirmId}
use Rattle.gu_workers.specs.Knockers.{firms_at}
use Rattle.gu_workers.specs.declared.guest.Guest.{Guest}
use Rattle.gu_workers.specs.declared.guest.Guest.TheVariants.{Talks, Knocks}

-- Without secrets a session begins, in which whoever may log on at this door may log on, unless the first message is looked at before. With
-- secrets there is no session yet. Who is looked at or may be let in at this door is listened to from the first byte on.
abbrev pub BeginsAt : {I O : Type 0} → List FirmId → Option FirmId → Option (List SecretRow) → Guest I O → Type 0
BeginsAt firms door None (Talks place) = place.talk.conversation ≡ new_conversation (firms_at door firms)
BeginsAt firms door _ (Knocks knocker) = (knocker.stand.door ≡ door) × IsSomeAnd knocker.listening (λ listening. listening.knock ≡ [])
BeginsAt firms door (Some rows) (Talks place) = ⊥
