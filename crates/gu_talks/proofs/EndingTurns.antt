-- The last turn of a session, and any other.
use Rattle.std.proofs.Common.{◌≡◌, ◌∙◌, Bool, true, false, sym}
use Rattle.gu_engine.specs.Exchange.{EndsSession}
use Rattle.gu_engine.specs.Turned.{is_last}
use Rattle.gu_engine.specs.declared.connection.Connection.{Connection}
use Rattle.gu_engine.specs.declared.turned.Turned.{Turned}
use Rattle.gu_talks.specs.Visits.{EndsAfter}

-- nothing is true and false
not_both : (b : Bool) → b ≡ true → b ≡ false → ⊥
not_both b is is_not = let e : true ≡ false = sym is ∙ is_not in cc

-- after the last turn the session is notified
pub ends_last : {H C : Type 0} (became : Turned) (old new : Connection H C) → is_last became ≡ true → EndsSession old new → EndsAfter became old new
ends_last became old new last ends = record { last = λ _. ends; other = λ not_last. absurd (not_both (is_last became) last not_last) }

-- after any other nothing is done
pub ends_other : {H C : Type 0} (became : Turned) (old new : Connection H C) → is_last became ≡ false → new ≡ old → EndsAfter became old new
ends_other became old new other same = record { last = λ last. absurd (not_both (is_last became) last other); other = λ _. same }
