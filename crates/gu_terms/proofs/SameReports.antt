-- Reports that compare as the same are equal.
use Rattle.std.proofs.Common.{◌≡◌, true, Option, Some, None, refl, ap, subst}
use Rattle.std.specs.Bool.{Decides}
use Rattle.std.specs.Option.{option_eq}
use Rattle.std.proofs.lemmas.Bool.Decides.{Decides-eqb, Decides-int_eq}
use Rattle.gu_terms.proofs.SameNames.{same_account-own, same_account-true, same_firm-own, same_firm-true, same_id-own, same_id-true, same_symbol-own, same_symbol-true}
use Rattle.gu_terms.proofs.SameValues.{both, same_date}
use Rattle.gu_terms.specs.contracts.command.ReportSidePartialEq.TheImpl as report
use Rattle.gu_terms.specs.contracts.day.DayPartialEq.TheImpl as day
use Rattle.gu_terms.specs.contracts.side.SidePartialEq.TheImpl as side
use Rattle.gu_terms.specs.declared.command.ReportSide.{ReportSide}
use Rattle.gu_terms.specs.declared.day.Day.{Day}
use Rattle.gu_terms.specs.declared.side.Side.{Side}
use Rattle.gu_terms.specs.declared.side.Side.TheVariants.{Buy, Sell}

-- days, of which a report may have none
day_eq-Decides : (a b : Day) → Decides (day.eq-value.it a b) (a ≡ b)
day_eq-Decides a b = (
  λ h. let first = both _ _ h in
      let last = both _ _ first.1 in
      same_date a b ((Decides-eqb a.year b.year).0 first.0) ((Decides-eqb a.month b.month).0 last.0) ((Decides-eqb a.day b.day).0 last.1),
  λ e. rw ((Decides-eqb a.year b.year).1 (ap (λ (d : Day). d.year) e), (Decides-eqb a.month b.month).1 (ap (λ (d : Day). d.month) e), (Decides-eqb a.day b.day).1 (ap (λ (d : Day). d.day) e)) refl,
)

days_eq-Decides : (a b : Option Day) → Decides (option_eq day.eq-value.it a b) (a ≡ b)
days_eq-Decides None None = (λ h. refl, λ e. refl)
days_eq-Decides None (Some b) = (λ h. cc, λ e. cc)
days_eq-Decides (Some a) None = (λ h. cc, λ e. cc)
days_eq-Decides (Some a) (Some b) = (λ h. ap (λ (d : Day). Some d) ((day_eq-Decides a b).0 h), λ e. (day_eq-Decides a b).1 (cc))

-- sides
side_eq-true : (a b : Side) → side.eq-value.it a b ≡ true → a ≡ b
side_eq-true Buy Buy h = refl
side_eq-true Buy Sell h = cc
side_eq-true Sell Buy h = cc
side_eq-true Sell Sell h = refl

side_eq-own : (a : Side) → side.eq-value.it a a ≡ true
side_eq-own Buy = refl
side_eq-own Sell = refl

-- reports
report_eq-true : (a b : ReportSide) → report.eq-value.it a b ≡ true → a ≡ b
report_eq-true a b h =
    let p = both _ _ h in
    let firm = same_firm-true a.firm b.firm p.0 in
    let q = both _ _ p.1 in
    let id = same_id-true a.id b.id q.0 in
    let r = both _ _ q.1 in
    let match_id = same_id-true a.match_id b.match_id r.0 in
    let s = both _ _ r.1 in
    let symbol = same_symbol-true a.symbol b.symbol s.0 in
    let t = both _ _ s.1 in
    let lots = (Decides-eqb a.lots b.lots).0 t.0 in
    let u = both _ _ t.1 in
    let price = (Decides-int_eq a.price b.price).0 u.0 in
    let v = both _ _ u.1 in
    let days = (days_eq-Decides a.day b.day).0 v.0 in
    let w = both _ _ v.1 in
    let sides = side_eq-true a.side b.side w.0 in
    let account = same_account-true a.account b.account w.1 in
    λ i. record {
      firm = firm i;
      id = id i;
      match_id = match_id i;
      symbol = symbol i;
      lots = lots i;
      price = price i;
      day = days i;
      side = sides i;
      account = account i;
    }

report_eq-own : (a : ReportSide) → report.eq-value.it a a ≡ true
report_eq-own a =
    rw (
      same_firm-own a.firm,
      same_id-own a.id,
      same_id-own a.match_id,
      same_symbol-own a.symbol,
      (Decides-eqb a.lots a.lots).1 refl,
      (Decides-int_eq a.price a.price).1 refl,
      (days_eq-Decides a.day a.day).1 refl,
      side_eq-own a.side,
      same_account-own a.account,
    ) refl

pub report_eq-Decides : (a b : ReportSide) → Decides (report.eq-value.it a b) (a ≡ b)
report_eq-Decides a b = (report_eq-true a b, λ e. subst (λ (x : ReportSide). report.eq-value.it a x ≡ true) e (report_eq-own a))
