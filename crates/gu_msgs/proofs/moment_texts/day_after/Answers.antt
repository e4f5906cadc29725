use Rattle.gu_msgs.proofs.Words.{FitsSigned, w16, arith, rules, ints, to_z-of_z}
use Rattle.gu_msgs.proofs.DateLemmas.{is_day, late_year, year_number}
use Rattle.gu_msgs.proofs.moment_texts.day_after.Goals as goal

pub overflow_cast-result : goal.overflow_cast-result
overflow_cast-result c =
    let late = late_year c.date_after-date.result c.args.days c.date_after-date.ensures in
    let range = c.date_after-date.result.year_in in
    let fits : FitsSigned w16 c.date_after-date.result.year = omega (arith, ints) in
    simp to_z-of_z (search (rules, ints))

pub invariant_of-result : goal.invariant_of-result
invariant_of-result c =
    let late = late_year c.date_after-date.result c.args.days c.date_after-date.ensures in
    let range = c.date_after-date.result.year_in in
    let fits : FitsSigned w16 c.date_after-date.result.year = omega (arith, ints) in
    simp to_z-of_z (record { there = is_day c.date_after-date.result late })

pub returns : goal.returns
returns c =
    let late = late_year c.date_after-date.result c.args.days c.date_after-date.ensures in
    let range = c.date_after-date.result.year_in in
    let fits : FitsSigned w16 c.date_after-date.result.year = omega (arith, ints) in
    simp (to_z-of_z, year_number c.date_after-date.result late) c.date_after-date.ensures
