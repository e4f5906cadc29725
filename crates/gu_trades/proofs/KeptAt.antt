-- A stored report, read at its index.
use Rattle.std.proofs.Common.{◌≡◌, ◌∙◌, ℕ, ◌<◌, List, All, Some, length, map, get_or, arith, ap, sym, subst, refl}
use Rattle.std.specs.Prelude.{slice_get}
use Rattle.std.proofs.lemmas.List.{length-map}
use Rattle.std.proofs.lemmas.Option.{slice_get-map, slice_get_read}
use Rattle.std.specs.Option.{option_map}
use Rattle.gu_terms.specs.declared.report.Report.{Report}
use Rattle.gu_trades.specs.PackedReports.{IsWithin, report_of_kept}
use Rattle.gu_trades.specs.declared.packed.Packed.{Packed}

module _ (texts : List ℕ) (rows : List Packed) (reports : List Report) (place : ℕ) (view : map (report_of_kept texts) rows ≡ reports) (inside : place < length reports) where
  -- an index of a report is one of the stored rows
  pub kept-inside : place < length rows
  kept-inside = omega (arith, length-map rows (report_of_kept texts), ap length view)

  module _ (kept : Packed) (is : kept ≡ get_or rows place kept) where
    -- the report there is the one stored
    pub report-at : slice_get reports place ≡ Some (report_of_kept texts kept)
    report-at =
        ap (λ reports. slice_get reports place) (sym view)
        ∙ slice_get-map (report_of_kept texts) rows place
        ∙ ap (option_map (report_of_kept texts)) (slice_get_read rows (length rows) place kept refl kept-inside is)

    -- its texts lie within all texts
    pub within-at : (read : List ℕ) → read ≡ texts → All (IsWithin texts) rows → IsWithin read kept
    within-at read same all = subst (λ t. IsWithin t kept) (sym same) (subst (IsWithin texts) (sym is) (all place kept kept-inside))
