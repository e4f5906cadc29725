-- An exchange of which nothing has changed.
use Rattle.std.proofs.Common.{ℕ, List, Option, refl}
use Rattle.gu_talks.specs.Visits.{StaysAsItIs}
use Rattle.gu_talks.specs.declared.talk.Talk.{Talk}

-- it stays as it is
pub stays : {I O : Type 0} (remaining : I → Option (List ℕ)) (talk : Talk I O) → StaysAsItIs remaining talk talk
stays remaining talk = record { conversation = refl; input = refl; backlog = refl; output = refl; marks = refl }
