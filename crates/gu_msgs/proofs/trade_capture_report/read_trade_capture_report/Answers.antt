use Rattle.gu_msgs.proofs.Words.{◌≡◌, ◌∙◌, Option, None, Some, ap, sym, WritesDay, Day, GivesDay, MayMean, Outlined, body_rows, header_rows, TradeCaptureReport, TRADE_DATE}
use Rattle.gu_msgs.proofs.OutlineLemmas.{of_type}
use Rattle.gu_msgs.proofs.trade_capture_report.read_trade_capture_report.Goals as goal

-- the day of the row of TradeDate
day_given : (m : Outlined) (day : Option Day) → m.kind ≡ TradeCaptureReport → MayMean m 17 (λ text d. WritesDay text d.year d.month d.day) day → GivesDay TRADE_DATE m.fields day
unfolding header_rows body_rows
day_given m None is_kind given = rw is_kind at given
day_given m (Some day) is_kind given = rw is_kind at given

pub returns : goal.returns
unfolding header_rows body_rows
returns c =
    let m = c.args.outline.now in
    let is_kind = c.requires.shaped.is_kind in
    let report_id = rw is_kind at c.in_ok-trade_report_id.ensures.read.0 in
    let match_id = rw is_kind at c.in_ok-trd_match_id.ensures.read.0 in
    let symbol = rw is_kind at c.in_ok-symbol.ensures.0 in
    let side = c.in_ok-side.ensures.0 in
    rw c.in_ok-new.ensures (
      of_type TradeCaptureReport m c.requires.shaped c.in_ok-side.ensures.1 tt,
      record {
        report_id = report_id.first ∙ ap Some (report_id.such ∙ sym c.known.ensures);
        match_id = match_id.first ∙ ap Some (match_id.such ∙ sym c.known-2.ensures);
        symbol = symbol.first ∙ ap Some symbol.such;
        quantity = rw is_kind at c.in_ok-last_qty.ensures.0;
        price = rw is_kind at c.in_ok-last_px.ensures.0;
        date = day_given m c.in_ok-trade_date.trade_date is_kind c.in_ok-trade_date.ensures.0;
        entry = side.entry;
        one_side = side.one;
        is_side = record { side = side.says.side_is; account = side.says.account_is };
      },
    )
