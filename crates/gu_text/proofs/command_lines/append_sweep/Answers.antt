use Rattle.std.proofs.Common.{◌++◌, ◌∙◌, List, ℕ, ap}
use Rattle.std.specs.List.{flat_map}
use Rattle.gu_terms.specs.declared.limit_key.LimitKey.{LimitKey}
use Rattle.gu_terms.specs.declared.takes.Take.{Take}
use Rattle.gu_text.specs.WrittenCommands.{cut_key_remark_text, cut_offer_remark_text, take_remark_text}
use Rattle.gu_text.proofs.WrittenCommandLemmas.{sweep_appended}
use Rattle.gu_text.proofs.command_lines.append_sweep.Goals as goal

pub returns : goal.returns
returns c =
    let sweep = c.args.sweep.now in
    let keys = flat_map cut_key_remark_text sweep.cut.keys in
    let offers = flat_map cut_offer_remark_text sweep.cut.offers in
    let first = c.append_sweep_line.new.output.items in
    c.in_ok-append_cut_offers.ensures
    ∙ ap (λ (xs : List ℕ). c.append_cut_keys.new.output.items ++ flat_map cut_offer_remark_text xs) c.offers.ensures.offers
    ∙ ap (λ (t : List ℕ). t ++ offers)
    (c.in_ok-append_cut_keys.ensures ∙ ap (λ (xs : List LimitKey). c.append_takes.new.output.items ++ flat_map cut_key_remark_text xs) c.keys.ensures.keys)
    ∙ ap (λ (t : List ℕ). (t ++ keys) ++ offers)
    (c.in_ok-append_takes.ensures ∙ ap (λ (xs : List Take). first ++ flat_map take_remark_text xs) c.as_slice.ensures.takes)
    ∙ sweep_appended c.args.output.now.items first sweep c.in_ok-append_sweep_line.ensures
