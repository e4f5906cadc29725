use Rattle.std.proofs.Common.{◌≡◌, ◌+◌, ◌++◌, ◌∷◌, [], ◌∙◌, ℕ, List, take, sym, ap}
use Rattle.std.specs.List.{flat_map}
use Rattle.std.proofs.lemmas.List.{flat_map_more, take_more}
use Rattle.gu_text.specs.WrittenCommands.{cut_offer_remark_text}
use Rattle.gu_text.proofs.command_lines.append_cut_offers.Goals as goal

pub loop-offer-preserved : goal.loop-offer-preserved
loop-offer-preserved c =
    let offers = c.args.offers.now in
    let i = c.loop-offer.offer-index in
    let o = c.offer-item.result in
    let next : take (i + 1) offers ≡ take i offers ++ o ∷ [] = take_more offers i o c.loop-offer-test.true ∙ ap (λ (n : ℕ). take i offers ++ n ∷ []) (sym c.offer-item.is) in
    c.in_ok-append_cut_offer.ensures
    ∙ ap (λ (t : List ℕ). t ++ cut_offer_remark_text o) c.loop-offer.invariant
    ∙ flat_map_more cut_offer_remark_text c.args.output.now.items (take i offers) o
    ∙ ap (λ (ns : List ℕ). c.args.output.now.items ++ flat_map cut_offer_remark_text ns) (sym next)
