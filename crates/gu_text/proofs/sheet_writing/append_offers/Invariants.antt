use Rattle.std.proofs.Common.{◌≡◌, ◌++◌, take}
use Rattle.std.specs.List.{flat_map}
use Rattle.gu_text.specs.SheetText.{offer_line}
use Rattle.gu_text.proofs.sheet_writing.append_offers.Given as goal

abbrev pub invariant-loop-offer : goal.invariant-loop-offer
invariant-loop-offer l = l.output.items ≡ l.initial.output.items ++ flat_map offer_line (take l.offer-index l.offers)
