use Rattle.std.proofs.Common.{◌≡◌, ◌++◌, ◌<◌, ℕ, take}
use Rattle.std.specs.List.{flat_map}
use Rattle.std.specs.Prelude.{All}
use Rattle.gu_terms.specs.Takes.{IsAscending, lots_of}
use Rattle.gu_text.specs.SheetText.{take_line}
use Rattle.gu_text.proofs.sheet_writing.append_takes.Given as goal

abbrev pub invariant-loop-offer : goal.invariant-loop-offer
invariant-loop-offer l = record {
  text : l.output.items ≡ l.initial.output.items ++ flat_map (take_line l.takes) (take l.offer-index l.offers);
  ascending : IsAscending l.rest;
  later : (number : ℕ) → All (λ o. o.number < number) (take l.offer-index l.offers) → lots_of l.rest number ≡ lots_of l.takes number;
}
