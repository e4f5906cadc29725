use Rattle.std.proofs.Common.{◌==◌, sym, subst}
use Rattle.std.specs.Io.Buffered.{reader_buffer, reader_capacity}
use Rattle.std.specs.Io.KnownBytes.{Keeps}
use Rattle.gu_talks.specs.Sources.{left_ahead, left_incoming}
use Rattle.gu_talks.specs.declared.incoming.Incoming.{Incoming}
use Rattle.gu_talks.proofs.Bare.{none_ahead}
use Rattle.gu_talks.proofs.source.Ahead.into_source.Goals as goal

pub returns : goal.returns
returns g c =
    let reader = c.args.self.reader in
    let remaining = g.T.Read.remaining in
    let none = none_ahead (reader_capacity reader == 0) (reader_buffer reader) (left_incoming remaining reader.inner) (c.has_bytes.ensures c.if-has_bytes.false) in
    subst (λ (stream : Incoming g.row.T.Denot). Keeps (left_ahead remaining c.args.self) (left_incoming remaining stream)) (sym c.into_inner.ensures) none
