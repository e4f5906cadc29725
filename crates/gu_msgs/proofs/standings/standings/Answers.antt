use Rattle.gu_msgs.proofs.Words.{arith, tag_value}
use Rattle.gu_msgs.proofs.StandingLemmas.{found_again, noted_on}
use Rattle.gu_msgs.proofs.standings.standings.Goals as goal

pub returns-then-not-note-clause-once : goal.returns-then-not-note-clause-once
returns-then-not-note-clause-once c =
    let field = tag_value c.in-Some.field.tag c.in-Some.field.value.now in
    found_again c.args.rows.now c.args.fields.now c.loop-field.field-iterator c.next.new.self field c.loop-field.seen c.loop-field.numbers c.note.new.numbers
    c.loop-field.invariant.noted c.in-Some.ensures.steps c.if-not-note.ensures

pub loop-field-preserved : goal.loop-field-preserved
loop-field-preserved c =
    let field = tag_value c.in-Some.field.tag c.in-Some.field.value.now in
    record {
      noted = noted_on c.args.rows.now c.args.fields.now c.loop-field.field-iterator c.next.new.self field c.loop-field.seen c.loop-field.numbers c.note.new.numbers
          c.requires.table.distinct (omega (arith, c.loop-field.invariant.long, c.requires.table.few)) c.loop-field.invariant.noted c.in-Some.ensures.steps c.if-not-note.ensures;
      long = c.note.array_long;
    }
