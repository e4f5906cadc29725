-- What a connection's turns read: the bytes that are left of its stream, with those that were read of it before.
use Rattle.std.specs.Prelude.{ℕ, List, Option, Some}
use Rattle.std.specs.Io.Buffered.{reader_remaining}
use Rattle.std.specs.Io.Chain.{chain_remaining}
use Rattle.std.specs.Io.Cursor.{cursor_remaining}
use Rattle.std.specs.declared.vec.Vec.{Vec}
use Rattle.std.specs.declared.alloc.Global.{Global}
use Rattle.gu_talks.specs.declared.incoming.Incoming.{Incoming}
use Rattle.gu_talks.specs.declared.source.Ahead.{Ahead}
use Rattle.gu_talks.specs.declared.source.Source.{Source}
use Rattle.gu_talks.specs.declared.source.Source.TheVariants.{Bare, Ahead as AheadOf}

-- the bytes that are left of a half that is read: those that were read before and are read again, and then those of its stream, if they are
-- known
abbrev pub left_incoming : {T : Type 0} → (T → Option (List ℕ)) → Incoming T → Option (List ℕ)
left_incoming remaining incoming = chain_remaining (cursor_remaining (λ (said : Vec ℕ Global). Some said.items)) remaining incoming.stream

-- the bytes that are left: those that were read ahead, and then those of the stream, if they are known
abbrev pub left_ahead : {T : Type 0} → (T → Option (List ℕ)) → Ahead T → Option (List ℕ)
left_ahead remaining ahead = reader_remaining (left_incoming remaining) ahead.reader

-- the bytes that are left of what a connection reads, between its visits
abbrev pub left_of : {T : Type 0} → (T → Option (List ℕ)) → Source T → Option (List ℕ)
left_of remaining (Bare stream reads) = left_incoming remaining stream
left_of remaining (AheadOf ahead) = left_ahead remaining ahead
