use Rattle.std.proofs.Common.{◌≡◌, ◌++◌, take}
use Rattle.std.specs.List.{flat_map}
use Rattle.gu_text.specs.WrittenCommands.{cut_offer_remark_text}
use Rattle.gu_text.proofs.command_lines.append_cut_offers.Given as goal

abbrev pub invariant-loop-offer : goal.invariant-loop-offer
invariant-loop-offer l = l.output.items ≡ l.initial.output.items ++ flat_map cut_offer_remark_text (take l.offer-index l.offers)
