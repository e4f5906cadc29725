use Rattle.std.proofs.Common.{◌≡◌, ◌∙◌, ◌-◌, Bool, ℕ, Some, true, false, ap, arith, length, refl, slice_get, sym}
use Rattle.std.specs.Option.{option_map}
use Rattle.std.proofs.lemmas.Slice.Eq.{bytes_eq-Decides}
use Rattle.gu_terms.specs.Same.{same_id}
use Rattle.gu_terms.specs.declared.report.Report.{Report}
use Rattle.gu_trades.specs.Kept.{is_with_at}
use Rattle.gu_trades.specs.Numbered.{last_before}
use Rattle.gu_trades.proofs.LastPlaces.{at-is, within-at}
use Rattle.gu_trades.proofs.OtherSides.{alone-on, none_between, trade-alone, trade-other}
use Rattle.gu_trades.proofs.ReportPlaces.{of_trade-is}
use Rattle.gu_trades.proofs.Walks.{with-number, with-on, with-start}
use Rattle.gu_trades.proofs.trades.Trades.is_of_trade.Goals as goal
use Rattle.gu_trades.proofs.trades.Trades.is_of_trade.Goals.{After-last-at, After-loop-at, Then-has_match, else-other-place-via-then-other-place+else-has_match, else-other-place-via-else-other-place}

pub kept-kept-requires : goal.kept-kept-requires
kept-kept-requires c = rw c.self.view_is c.requires

pub loop-at-init : goal.loop-at-init
loop-at-init c =
    let match_id = c.match_bytes-match_id.result.now in
    let own = at-is (λ (r : Report). same_id r.match_id match_id) c.args.self.now c.args.place c.kept-kept.result (rw c.self.view_is at c.kept-kept.ensures)
    ∙ (bytes_eq-Decides c.kept-kept.result.match_id match_id).1 (sym c.match_bytes-match_id.ensures.bytes) in
    let begun = with-start c.self.inside c.args.self.now c.self.invariant c.self.view_is match_id c.number.result c.last-at.result
    (c.number.ensures ∙ with-number c.self.inside c.args.self.now c.self.invariant c.self.view_is match_id c.args.place own) c.last-at.ensures in
    record {
      others = λ other after passes.
          absurd (none_between (is_with_at c.args.self.now match_id) (length c.args.self.now) c.last-at.result other begun.0
          (within-at (λ (r : Report). same_id r.match_id match_id) c.args.self.now other passes) after passes);
      within = begun.1;
      number = begun.2;
    }

pub returns-then-has_match : goal.returns-then-has_match
returns-then-has_match c =
    let match_id = c.match_bytes-match_id.result.now in
    let reports = c.args.self.now in
    let test : ℕ → Bool = is_with_at reports match_id in
    let last = last_before test (length reports) in
    let here = rw c.self.view_is at c.kept-kept.ensures in
    let own = at-is (λ (r : Report). same_id r.match_id match_id) reports c.args.place c.kept-kept.result here
    ∙ (bytes_eq-Decides c.kept-kept.result.match_id match_id).1 (sym c.match_bytes-match_id.ensures.bytes) in
    let hit = at-is (λ (r : Report). same_id r.match_id match_id) reports (c.loop-at.at - 1) c.kept.result (rw c.self.view_is at c.kept.ensures) ∙ sym c.has_match.ensures ∙ c.if-has_match.true in
    let sound = rw c.self.view_is at c.self.invariant.sound in
    of_trade-is reports (slice_get reports c.args.place) match_id (ap (option_map (λ (r : Report). r.match_id)) here ∙ ap Some (sym c.match_bytes-match_id.ensures.bytes))
    ∙ ap (λ (b : Bool). Some b)
    (trade-other reports match_id last (last_before test (last - 1)) c.args.place (record { last_is = refl; first_is = refl }) (sound.sides match_id) (c.loop-at.at - 1) c.if-other-place.true own hit)

pub loop-at-smaller : goal.loop-at-smaller
loop-at-smaller c =
    (with-on c.self.inside c.args.self.now c.self.invariant c.self.view_is c.match_bytes-match_id.result.now c.loop-at.at c.before-at.result c.loop-at-test.true (c.loop-at.invariant.number c.loop-at-test.true) c.before-at.ensures).1

pub loop-at-preserved : goal.loop-at-preserved
loop-at-preserved c =
    let match_id = c.match_bytes-match_id.result.now in
    let reports = c.args.self.now in
    let test : ℕ → Bool = is_with_at reports match_id in
    let on = with-on c.self.inside reports c.self.invariant c.self.view_is match_id c.loop-at.at c.before-at.result c.loop-at-test.true (c.loop-at.invariant.number c.loop-at-test.true) c.before-at.ensures in
    let within = c.loop-at.invariant.within in
    let smaller = on.1 in
    let own : test (c.loop-at.at - 1) ≡ true → c.loop-at.at - 1 ≡ c.args.place = λ passes.
    elim c.else-other-place.branch [
      | else-other-place-via-then-other-place+else-has_match w ↦
          let never : true ≡ false = sym passes ∙ at-is (λ (r : Report). same_id r.match_id match_id) reports (c.loop-at.at - 1) w.kept.result (rw c.self.view_is at w.kept.ensures) ∙ sym w.has_match.ensures ∙ w.if-has_match.false in cc
      | else-other-place-via-else-other-place w ↦ omega (arith, w.if-other-place.false)
    ] in
    record {
      others = alone-on test c.args.place c.loop-at.at c.before-at.result c.loop-at-test.true c.loop-at.invariant.others own on.0;
      within = omega arith;
      number = on.2;
    }

pub returns : goal.returns
returns c =
    let match_id = c.match_bytes-match_id.result.now in
    let reports = c.args.self.now in
    let test : ℕ → Bool = is_with_at reports match_id in
    let last = last_before test (length reports) in
    let here = rw c.self.view_is at c.kept-kept.ensures in
    let sound = rw c.self.view_is at c.self.invariant.sound in
    of_trade-is reports (slice_get reports c.args.place) match_id (ap (option_map (λ (r : Report). r.match_id)) here ∙ ap Some (sym c.match_bytes-match_id.ensures.bytes))
    ∙ ap (λ (b : Bool). Some b)
    (trade-alone reports match_id last (last_before test (last - 1)) c.args.place (record { last_is = refl; first_is = refl }) (sound.sides match_id)
    (λ other passes. c.loop-at.invariant.others other (omega (arith, c.loop-at-test.false)) passes))
