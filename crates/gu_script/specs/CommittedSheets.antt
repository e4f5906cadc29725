-- Sheets of committed sweeps.
use Rattle.std.specs.Prelude.{◌≡◌, ℕ, List, Ok, Some, slice_get, take}
use Rattle.gu_terms.specs.Cuts.{has_number}
use Rattle.gu_terms.specs.LimitKeys.{has_key}
use Rattle.gu_terms.specs.Takes.{lots_of}
use Rattle.gu_terms.specs.declared.entry.Entry.{Entry}
use Rattle.gu_terms.specs.declared.entry.Entry.TheVariants.{Swept}
use Rattle.gu_terms.specs.declared.entry.SweepEntry.{SweepEntry}
use Rattle.gu_terms.specs.declared.limit_key.LimitKey.{LimitKey}
use Rattle.gu_ref.specs.Tables.{Tables}
use Rattle.gu_view.specs.Check.{verdict}
use Rattle.gu_view.specs.View.{GroupView}
use Rattle.gu_rules.specs.Views.{group_view}
use Rattle.gu_text.specs.SheetText.{sheet_text}
use Rattle.gu_text.specs.Sheets.{IsSheet}
use Rattle.gu_text.specs.WrittenSheets.{cut_of, sheet_of, takes_of}

-- a sweep of a view prints a right sheet: its text is a sheet of this view, with a take from each of its offers and the cut in the view's
-- order; read back, it passes the check with the sweep's lots, takes the same lots from each offer as the sweep, and has the sweep's cut
pub record PrintsRightSheet (view : GroupView) (sweep : SweepEntry) : Type 0 where
  pub sheet : IsSheet (sheet_text view sweep.takes sweep.cut) (sheet_of view sweep.takes sweep.cut)
  pub right : verdict view (takes_of view sweep.takes) (cut_of view sweep.cut) ≡ Ok sweep.lots
  pub lots : (number : ℕ) → lots_of (takes_of view sweep.takes) number ≡ lots_of sweep.takes number
  pub keys : (key : LimitKey) → has_key (cut_of view sweep.cut).keys key ≡ has_key sweep.cut.keys key
  pub offers : (number : ℕ) → has_number (cut_of view sweep.cut).offers number ≡ has_number sweep.cut.offers number

-- each committed sweep prints a right sheet of its group's view, as the book was just before the commit
abbrev pub PrintRightSheets : Tables → List Entry → Type 0
PrintRightSheets reference history =
    (k : ℕ) (sweep : SweepEntry)
    → slice_get history k ≡ Some (Swept sweep)
    → PrintsRightSheet (group_view reference (take k history) sweep.group) sweep
