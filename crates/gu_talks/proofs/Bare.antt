-- A reader that has read nothing ahead.
use Rattle.std.proofs.Common.{◌≡◌, ℕ, Bool, true, false, List, [], Option, None, Some, refl, sym, subst, if◌then◌else◌}
use Rattle.std.specs.Io.KnownBytes.{Keeps, prepend_known}

-- known bytes stay as they are
pub keeps_same : (known : Option (List ℕ)) → Keeps known known
keeps_same None = tt
keeps_same (Some bytes) = refl

-- the same with no bytes before them
none_before : (known : Option (List ℕ)) → Keeps (prepend_known [] known) known
none_before None = tt
none_before (Some bytes) = refl

-- the same under a reader that has read nothing ahead
pub none_ahead : (is_none : Bool) (buffer : List ℕ) (known : Option (List ℕ)) → buffer ≡ [] → Keeps (if is_none then None else prepend_known buffer known) known
none_ahead true buffer known empty = tt
none_ahead false buffer known empty = subst (λ (b : List ℕ). Keeps (prepend_known b known) known) (sym empty) (none_before known)
