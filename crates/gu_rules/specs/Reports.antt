-- The open day and the reports, from a history's accepted entries.
use Rattle.std.specs.Prelude.{◌≡◌, false, List, [], ◌∷◌, ◌++◌, Option, Some, None, is_some}
use Rattle.std.specs.List.{after_last, filter_map, last_or}
use Rattle.std.specs.Option.{option_to_list}
use Rattle.gu_terms.specs.declared.day.Day.{Day}
use Rattle.gu_terms.specs.declared.report.Report.{Report}
use Rattle.gu_terms.specs.declared.command.Command.TheVariants.{OpenDay, ReportSide}
use Rattle.gu_terms.specs.declared.reply.Done.TheVariants.{Opened, Reported}
use Rattle.gu_terms.specs.declared.reply.Reply.TheVariants.{Accepted}
use Rattle.gu_terms.specs.declared.entry.Entry.{Entry}
use Rattle.gu_terms.specs.declared.entry.Entry.TheVariants.{Asked}
use Rattle.gu_trades.specs.Matching.{conflicts}
use Rattle.gu_trades.specs.Reports.{has_report, made_on, with_match}

-- the day that an entry opened, if it opened one
abbrev pub opened_day : Entry → Option Day
opened_day (Asked (OpenDay opening) (Accepted Opened)) = Some opening.day
opened_day _ = None

-- the open day: the one opened last
abbrev pub open_day : List Entry → Option Day
open_day history = last_or None (filter_map opened_day history)

-- the entries since the last accepted opening of a day
abbrev pub entries_today : List Entry → List Entry
entries_today history = after_last (λ e. is_some (opened_day e)) history

-- the report that an entry accepted, made on this open day
abbrev pub report_on : Option Day → Entry → Option Report
report_on (Some today) (Asked (ReportSide report) (Accepted (Reported matched))) =
    Some (made_on today report)
report_on _ _ = None

-- the reports that later entries accepted, after these entries
abbrev pub reports_after : List Entry → List Entry → List Report
reports_after before [] = []
reports_after before (entry ∷ later) = option_to_list (report_on (open_day before) entry) ++ reports_after (before ++ entry ∷ []) later

-- the reports that a history accepted, in order
abbrev pub reports_of : List Entry → List Report
reports_of history = reports_after [] history

-- a report fits after these: its firm has none with its id, and it doesn't conflict with those that have its match id
pub record Fits (reports : List Report) (report : Report) : Type 0 where
  pub new_id : has_report reports report.firm report.id ≡ false
  pub fits : conflicts (with_match report.match_id reports) report ≡ false
