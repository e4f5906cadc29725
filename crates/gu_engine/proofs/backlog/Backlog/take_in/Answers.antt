use Rattle.gu_engine.proofs.Words.{◌<◌, ◌≤◌, length, take, refl, arith, length-take}
use Rattle.gu_engine.proofs.Leaving.{finds_bytes, finds_silence, reads_bytes}
use Rattle.gu_engine.proofs.backlog.Backlog.take_in.Goals as goal

pub returns-in_default-clause-unheld : goal.returns-in_default-clause-unheld
returns-in_default-clause-unheld g c =
    let bytes = take c.in-Bytes.count c.turn.new.buf in
    let some : 0 < length bytes = simp length-take (omega (arith, c.in-Bytes.ensures.within, c.in-Bytes.count-test.1)) in
    (bytes, reads_bytes g.R.Read.remaining c.args.reads.now c.turn.new.self c.turn.new.buf bytes c.in-Bytes.count c.in-Bytes.ensures refl some)

pub returns-in-Ok-clause-taken : goal.returns-in-Ok-clause-taken
returns-in-Ok-clause-taken g c kept events is =
    let bytes = take c.in-Bytes.count c.turn.new.buf in
    let some : 0 < length bytes = simp length-take (omega (arith, c.in-Bytes.ensures.within, c.in-Bytes.count-test.1)) in
    let most : length bytes ≤ 4096 = simp length-take (omega (arith, c.in-Bytes.ensures.short)) in
    finds_bytes g.R.Read.remaining c.args.reads.now c.turn.new.self c.args.self.now _ kept bytes events (c.is_idle.ensures.0 c.if-not-is_idle.false) is
    (reads_bytes g.R.Read.remaining c.args.reads.now c.turn.new.self c.turn.new.buf bytes c.in-Bytes.count c.in-Bytes.ensures refl some) some most refl c.in-Ok.ensures.taken

pub returns-in-Nothing-clause-taken : goal.returns-in-Nothing-clause-taken
returns-in-Nothing-clause-taken g c kept events is =
    finds_silence g.R.Read.remaining c.args.reads.now c.turn.new.self c.args.self.now _ kept events (c.is_idle.ensures.0 c.if-not-is_idle.false) is c.in-Nothing.ensures refl refl
