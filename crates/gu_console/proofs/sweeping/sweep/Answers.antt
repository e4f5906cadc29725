use Rattle.std.proofs.Common.{◌∙◌, Some, ap, inl, subst, sym}
use Rattle.gu_terms.specs.Histories.{swept_by}
use Rattle.gu_terms.specs.declared.entry.Entry.{Entry}
use Rattle.gu_streams.proofs.Writing.{on_ok_then}
use Rattle.gu_desk.specs.Holds.{Enters}
use Rattle.gu_houses.proofs.ReceiptLemmas.{entered_receipt}
use Rattle.gu_console.proofs.sweeping.sweep.Goals as goal

pub returns-in-Ok-clause-answered : goal.returns-in-Ok-clause-answered
returns-in-Ok-clause-answered g c =
    let reference = g.E.EntryLedger.reference in
    let old = c.args.seat.now in
    let new = c.sweep.new.self in
    let number = c.in-Ok.swept.number in
    let swept = c.in-Ok.ensures.swept in
    let made = swept.1 in
    let enters = subst (λ (e : Entry). Enters reference old (record { number = number; entry = e }) new) made.entry_is swept.3 in
    let at = entered_receipt reference old new (record { number = number; entry = swept.0 }) swept.3 ∙ ap Some made.entry_is in
    let lots = ap swept_by (sym made.entry_is) ∙ swept.2 in
    on_ok_then c.say_sheet.result
    (λ text. inl (record {
      number = number;
      sweep = made.sweep;
      view = c.in-Ok.swept.view.value;
      enters = enters;
      group_is = made.group_is;
      view_is = c.in-Ok.ensures.before;
      of_group = c.in-Ok.ensures.group;
      text_is = text;
    }))
    (c.say_sheet.ensures made.sweep at made.group_is lots)
