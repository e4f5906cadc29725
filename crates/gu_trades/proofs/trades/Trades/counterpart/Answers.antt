use Rattle.std.proofs.Common.{◌∙◌, sym, ap, Some}
use Rattle.std.specs.Prelude.{if◌then◌else◌}
use Rattle.std.specs.Option.{option_map}
use Rattle.gu_trades.specs.Terms.{terms_of}
use Rattle.gu_trades.specs.Counterparts.{counterpart_of}
use Rattle.gu_trades.specs.declared.counterpart.Counterpart.TheVariants.{Conflicting, Waiting}
use Rattle.gu_trades.proofs.ReportPlaces.{conflicting-is, counterpart-one, with-none, with-within}
use Rattle.gu_trades.proofs.trades.Trades.counterpart.Goals as goal

pub returns-then-last-eq0 : goal.returns-then-last-eq0
returns-then-last-eq0 c =
    ap (λ reports. counterpart_of reports c.args.terms.now) (sym (with-none c.args.self.now c.args.match_id.now c.last_two-last.result.0 c.last_two-last.ensures.placed.last_is c.if-last-eq0.true))

pub returns-then-first-ne0 : goal.returns-then-first-ne0
returns-then-first-ne0 c =
    conflicting-is c.args.self.now c.args.match_id.now c.last_two-last.result.0 c.last_two-last.result.1 c.last_two-last.ensures.placed c.last_two-last.ensures.sound c.if-first-ne0.true c.args.terms.now

pub kept-requires : goal.kept-requires
kept-requires c = rw c.self.view_is (with-within c.args.self.now c.args.match_id.now c.last_two-last.result.0 c.last_two-last.ensures.placed.last_is c.if-last-eq0.false)

pub returns-then-have_other_sides : goal.returns-then-have_other_sides
returns-then-have_other_sides c =
    let waiting = c.terms-waiting.result in
    let one = counterpart-one c.args.self.now c.args.match_id.now c.last_two-last.result.0 c.last_two-last.result.1 c.last_two-last.ensures.placed c.if-last-eq0.false c.if-first-ne0.false waiting c.args.terms.now
    (ap (option_map terms_of) (rw c.self.view_is at c.kept.ensures) ∙ ap Some (sym c.terms-waiting.ensures)) in
    sym (one ∙ ap (λ b. if b then Waiting waiting else Conflicting) (sym c.have_other_sides.ensures ∙ c.if-have_other_sides.true))

pub returns-else-have_other_sides : goal.returns-else-have_other_sides
returns-else-have_other_sides c =
    let waiting = c.terms-waiting.result in
    let one = counterpart-one c.args.self.now c.args.match_id.now c.last_two-last.result.0 c.last_two-last.result.1 c.last_two-last.ensures.placed c.if-last-eq0.false c.if-first-ne0.false waiting c.args.terms.now
    (ap (option_map terms_of) (rw c.self.view_is at c.kept.ensures) ∙ ap Some (sym c.terms-waiting.ensures)) in
    sym (one ∙ ap (λ b. if b then Waiting waiting else Conflicting) (sym c.have_other_sides.ensures ∙ c.if-have_other_sides.false))
