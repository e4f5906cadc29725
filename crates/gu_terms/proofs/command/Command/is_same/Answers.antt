use Rattle.std.proofs.Common.{◌≡◌, ◌∙◌, ap, sym}
use Rattle.gu_terms.proofs.SameReports.{report_eq-Decides}
use Rattle.gu_terms.specs.declared.command.Command.TheVariants.{ReportSide}
use Rattle.gu_terms.specs.declared.command.ReportSide.{ReportSide as ReportSideOf}
use Rattle.gu_terms.proofs.command.Command.is_same.Goals as goal

pub returns-in-ReportSide-ReportSide : goal.returns-in-ReportSide-ReportSide
returns-in-ReportSide-ReportSide c =
    let arm = c.in-ReportSide-ReportSide in
    let said = c.eq-in-ReportSide-ReportSide.ensures in
    let decides = report_eq-Decides arm.a arm.b in (
      λ is. arm.is-0 ∙ ap (λ (r : ReportSideOf). ReportSide r) (decides.0 (sym said ∙ is)) ∙ sym arm.is-1,
      λ same. said ∙ decides.1 (let e : ReportSide arm.a ≡ ReportSide arm.b = sym arm.is-0 ∙ same ∙ arm.is-1 in cc),
    )
