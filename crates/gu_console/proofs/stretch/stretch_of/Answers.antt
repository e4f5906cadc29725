use Rattle.std.proofs.Common.{◌≡◌, ◌∙◌, ◌<◌, ◌++◌, ℕ, List, Option, ap, arith, inr, length, length-append}
use Rattle.std.specs.List.{flat_map}
use Rattle.std.specs.Option.{option_or}
use Rattle.gu_terms.specs.declared.day.Day.{Day}
use Rattle.gu_text.specs.Texts.{line_of}
use Rattle.gu_script.specs.Journals.{entry_rows, open_after}
use Rattle.gu_console.proofs.ShownLemmas.{one_more_day, one_more_row, room_left}
use Rattle.gu_console.proofs.stretch.stretch_of.Goals as goal

pub loop-place-preserved : goal.loop-place-preserved
loop-place-preserved c =
    let i = c.loop-place.invariant in
    let entries = c.args.entries.now in
    let place = c.loop-place.place in
    let day = c.loop-place.day in
    let entry = c.index-entries-place.result in
    let text = c.loop-place.text.items in
    let row = c.append_entry.new.output.items in
    let within : place < length entries = omega arith in
    let row_is : row ≡ flat_map line_of (entry_rows day entry) =
    c.in_ok-append_entry.ensures ∙ ap (λ (l : List ℕ). l ++ flat_map line_of (entry_rows day entry)) c.clear.ensures.items in
    let all : c.extend_from_slice.new.self.items ≡ text ++ row =
    c.in_ok-extend_from_slice.ensures.items ∙ ap (λ (l : List ℕ). text ++ l) c.deref-in-loop-place-2.ensures.value in
    let later : c.or-day.result ≡ open_after day entry =
    c.or-day.ensures ∙ ap (λ (d : Option Day). option_or d day) c.opened_day.ensures in
    record {
      text_is = all ∙ one_more_row c.args.today day entries place entry text row within c.index-entries-place.is i.text_is i.day_is row_is;
      day_is = one_more_day c.args.today day c.or-day.result entries place entry within c.index-entries-place.is i.day_is later;
      short = room_left place text row c.extend_from_slice.new.self.items c.deref.result.now c.deref-in-loop-place.result.now c.ends_before.result c.if-ends_before.false c.ends_before.ensures
          c.deref.ensures.value c.deref-in-loop-place.ensures.value all;
    }

pub returns-then-ends_before : goal.returns-then-ends_before
returns-then-ends_before c =
    let i = c.loop-place.invariant in
    let entries = c.args.entries.now in
    let place = c.loop-place.place in
    let day = c.loop-place.day in
    let entry = c.index-entries-place.result in
    let text = c.loop-place.text.items in
    let row = c.append_entry.new.output.items in
    let within : place < length entries = omega arith in
    let row_is : row ≡ flat_map line_of (entry_rows day entry) =
    c.in_ok-append_entry.ensures ∙ ap (λ (l : List ℕ). l ++ flat_map line_of (entry_rows day entry)) c.clear.ensures.items in
    let ends = c.ends_before.ensures.0 c.if-ends_before.true in
    let first = ap (λ (l : List ℕ). length l) c.deref.ensures.value in
    let second = ap (λ (l : List ℕ). length l) c.deref-in-loop-place.ensures.value in
    let joined = ap (λ (l : List ℕ). length l) (one_more_row c.args.today day entries place entry text row within c.index-entries-place.is i.text_is i.day_is row_is) in
    record {
      within = omega arith;
      text_is = i.text_is;
      later_is = i.day_is;
      some = λ more. ends.0;
      short = i.short;
      whole = inr (within, omega (arith, ends.1, first, second, joined, length-append text row));
    }
