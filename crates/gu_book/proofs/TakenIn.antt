-- Applying openings, limits, reports and give-ups to the totals.
use Rattle.gu_book.proofs.Words.{◌≡◌, ◌+◌, ◌≤◌, ◌++◌, List, [], ◌∷◌, length, map, Option, Some, None, unwrap_or, refl, sym, ap, ◌∙◌, arith, subst, option_and_then, option_map, Command, OpenDay, SetLimit, ReportSide, GiveUp, Entry, Asked, FirmId, Group, Id, Accepted, Report, Tables, Terms, made_on, report_by, with_match, next_day, with_lines, State, done_of, given_up, group_of, state_of, standing_of, Fits, open_day, report_on, fits-in, giving_up, names-are, Sets, MayTakeIn, TakesIn, IsKept, group_named_by, standing_given_up, state_in, MakesReport, HoldsMore, UsesNothing, made_a_trade, Totals}
use Rattle.gu_terms.specs.declared.command.GiveUp.{GiveUp as GiveUpOf}
use Rattle.gu_terms.specs.declared.command.ReportSide.{ReportSide as ReportSideOf}
use Rattle.gu_terms.specs.declared.command.SetLimit.{SetLimit as SetLimitOf}
use Rattle.gu_terms.specs.declared.command.OpenDay.{OpenDay as OpenDayOf}
use Rattle.gu_terms.specs.declared.day.Day.{Day}
use Rattle.gu_terms.specs.declared.reply.Done.{Done}
use Rattle.gu_trades.specs.Counterparts.{standing_in}
use Rattle.gu_trades.specs.declared.standing.Standing.{Standing}
use Rattle.gu_rules.proofs.GivenUp.{may-be-given}
use Rattle.gu_book.proofs.Accepting.{few_offers, state_is}
use Rattle.gu_book.proofs.KeptDays.{kept-given_up, kept-opened, kept-set}
use Rattle.gu_book.proofs.KeptReports.{kept-reported}

-- ---- openings and limits

pub opening-taken : (reference : Tables) (old new : Totals) (it : OpenDayOf) → new.today ≡ Some it.day → new.trades ≡ old.trades → new.give_ups.keys ≡ old.give_ups.keys → new.offers ≡ map next_day old.offers
    → UsesNothing old.limits new.limits → new.positions ≡ old.positions → TakesIn reference old new (OpenDay it)
opening-taken reference old new it today trades give_ups offers uses positions history kept accepted =
    kept-opened reference history old new it.day kept today trades give_ups offers uses positions

pub limit-taken : (reference : Tables) (old new : Totals) (it : SetLimitOf) → new.today ≡ old.today → new.trades ≡ old.trades → new.give_ups.keys ≡ old.give_ups.keys → new.offers ≡ old.offers
    → new.positions ≡ old.positions → Sets old.limits new.limits it.group it.key it.lots → TakesIn reference old new (SetLimit it)
limit-taken reference old new it today trades give_ups offers positions sets history kept accepted =
    kept-set reference history old new it.group it.key it.lots kept today trades give_ups offers sets positions

-- ---- reports

-- a report fits those before it
pub made-fits : (reference : Tables) (totals : Totals) (command : Command) (it : ReportSideOf) (day : Day) (waiting : Option Terms) → MayTakeIn reference totals command → MakesReport totals command it day waiting
    → Fits totals.trades (made_on day it)
made-fits reference totals command it day waiting may is =
    let own = subst (MayTakeIn reference totals) is.is may in
    subst (λ (rs : List Report). Fits rs (made_on day it)) (sym own.kept.beside.reports) (fits-in reference it day own.history (sym own.kept.beside.today ∙ is.opened) own.accepted)

-- and is applied
pub made-taken : (reference : Tables) (old new : Totals) (command : Command) (it : ReportSideOf) (day : Day) (waiting : Option Terms) → MakesReport old command it day waiting
    → new.today ≡ old.today → new.give_ups.keys ≡ old.give_ups.keys → new.offers ≡ old.offers → new.limits ≡ old.limits
    → new.trades ≡ old.trades ++ made_on day it ∷ [] → HoldsMore old.positions new.positions (made_a_trade (with_match it.match_id old.trades) (made_on day it)) → TakesIn reference old new command
made-taken reference old new command it day waiting is today give_ups offers limits trades holds =
    subst (TakesIn reference old new) (sym is.is)
    (λ history kept accepted.
    let entry : Entry = Asked (ReportSide it) (Accepted (done_of reference (state_of reference history) (ReportSide it))) in
    let opened : open_day history ≡ Some day = sym kept.beside.today ∙ is.opened in
    kept-reported reference history entry old new (made_on day it) kept (ap (λ (d : Option Day). report_on d entry) opened) refl refl
    (record { takes = λ n. refl; gives = λ n. refl; closed = λ n. refl }) (λ f i. refl) (λ g k. refl) (fits-in reference it day history opened accepted) today give_ups trades offers limits holds)

-- ---- give-ups

-- the report with a known group
pub group-given : (reference : Tables) (totals : Totals) (firm : FirmId) (own : Id) (group : Group) → option_map (λ (g : Report × Group). g.1) (given_up reference (state_in totals) firm own) ≡ Some group
    → (report : Report) × (given_up reference (state_in totals) firm own ≡ Some (report, group))
group-given reference totals firm own group is = by (given_up reference (state_in totals) firm own) is
  where
    by : (found : Option (Report × Group)) → option_map (λ (g : Report × Group). g.1) found ≡ Some group → (report : Report) × (found ≡ Some (report, group))
    by None e = cc
    by (Some g) e = (g.0, ap (λ (at : Option Group). Some (g.0, unwrap_or at group)) e)

-- what is found, and what is derived from its status
module _ {X S G : Type 0} (stand : X → S) (named : S → Option G) where
  paired : (found : Option X) (s : S) (g : G) → ◌≡◌ {A = Option (S × G)} (Some (s, g)) (option_and_then {U = S × G} (λ s. option_map {U = S × G} (λ g. (s, g)) (named s)) (option_map stand found))
      → (x : X) × (found ≡ Some x) × (stand x ≡ s) × (named s ≡ Some g)
  paired None s g is = cc
  paired (Some x) s g is = by (named (stand x)) refl is
    where
      by : (at : Option G) → named (stand x) ≡ at → ◌≡◌ {A = Option (S × G)} (Some (s, g)) (option_map {U = S × G} (λ g. (stand x, g)) at) → (y : X) × (Some x ≡ Some y) × (stand y ≡ s) × (named s ≡ Some g)
      by None e h = cc
      by (Some other) e h =
          let both : ◌≡◌ {A = S × G} (stand x, other) (s, g) = ap (λ (o : Option (S × G)). unwrap_or o (s, g)) (sym h) in
          let own : stand x ≡ s = ap (λ (p : S × G). p.0) both in
          (x, refl, own, ap named (sym own) ∙ e ∙ ap (λ (p : S × G). Some p.1) both)

  unpaired : (found : Option X) → ◌≡◌ {A = Option (S × G)} None (option_and_then {U = S × G} (λ s. option_map {U = S × G} (λ g. (s, g)) (named s)) (option_map stand found))
      → option_and_then {U = X × G} (λ x. option_map {U = X × G} (λ g. (x, g)) (named (stand x))) found ≡ None
  unpaired None is = refl
  unpaired (Some x) is = by (named (stand x)) is
    where
      by : (at : Option G) → ◌≡◌ {A = Option (S × G)} None (option_map {U = S × G} (λ g. (stand x, g)) at) → option_map {U = X × G} (λ g. (x, g)) at ≡ None
      by None h = refl
      by (Some g) h = cc

-- a report with this status is the firm's with that id
pub standing-given : (reference : Tables) (totals : Totals) (firm : FirmId) (own : Id) (standing : Standing) (group : Group) → Some (standing, group) ≡ standing_given_up reference totals firm own
    → (report : Report) × (given_up reference (state_in totals) firm own ≡ Some (report, group)) × (standing_in totals.trades report ≡ standing) × (report.firm ≡ firm) × (report.id ≡ own)
standing-given reference totals firm own standing group is =
    let p = paired (standing_in totals.trades) (λ (s : Standing). group_named_by reference s.terms) (report_by totals.trades firm own) standing group is in
    let names = names-are totals.trades firm own p.0 p.1 in (
      p.0,
      ap (λ (o : Option Report). option_and_then {U = Report × Group} (λ r. option_map {U = Report × Group} (λ g. (r, g)) (group_of reference r)) o) p.1
          ∙ ap (λ (o : Option Group). option_map {U = Report × Group} (λ g. (p.0, g)) o) (ap (λ (s : Standing). group_named_by reference s.terms) p.2 ∙ p.3),
      p.2,
      names.0,
      names.1,
    )

-- if there is none, none is given up
pub standing-none : (reference : Tables) (totals : Totals) (firm : FirmId) (own : Id) → None ≡ standing_given_up reference totals firm own → given_up reference (state_in totals) firm own ≡ None
standing-none reference totals firm own is = unpaired (standing_in totals.trades) (λ (s : Standing). group_named_by reference s.terms) (report_by totals.trades firm own) is

-- there are enough numbers for the lines
pub give_up-numbers : (reference : Tables) (totals : Totals) (it : GiveUpOf) → length it.lines ≤ 16 → MayTakeIn reference totals (GiveUp it)
    → length totals.offers + length it.lines ≤ 16000000
give_up-numbers reference totals it few may = omega (arith, few_offers reference may.history totals may.kept, may.accepted.room, few)

-- a give-up is applied
pub give_up-taken : (reference : Tables) (old new : Totals) (it : GiveUpOf) (report : Report) (group : Group) → length it.lines ≤ 16
    → given_up reference (state_in old) it.firm it.report ≡ Some (report, group) → new.today ≡ old.today → new.trades ≡ old.trades → new.limits ≡ old.limits → new.positions ≡ old.positions
    → new.give_ups.keys ≡ old.give_ups.keys ++ record { firm = it.firm; id = it.id } ∷ [] → new.offers ≡ with_lines old.offers it.firm it.report group it.lines
    → TakesIn reference old new (GiveUp it)
give_up-taken reference old new it report group few given today trades limits positions give_ups offers history kept is =
    let here = ap (λ (s : State). given_up reference s it.firm it.report) (sym (state_is reference history old kept.beside)) ∙ given in
    let may = may-be-given reference history it is report group here in
    let first = length (standing_of history) + 1 in
    subst (λ (d : Done). IsKept reference (history ++ Asked (GiveUp it) (Accepted d) ∷ []) new) (sym may.did)
    (subst (λ (f : FirmId). IsKept reference (history ++ giving_up f it.id it.report it.lines group first ∷ []) new) may.of_firm
    (subst (λ (o : Id). IsKept reference (history ++ giving_up report.firm it.id o it.lines group first ∷ []) new) may.of_id
    (kept-given_up reference history old new it.id report it.lines group first kept today trades
    (give_ups ∙ (λ i. old.give_ups.keys ++ record { firm = sym may.of_firm i; id = it.id } ∷ []))
    (offers ∙ (λ i. with_lines old.offers (sym may.of_firm i) (sym may.of_id i) group it.lines)) limits positions may.there may.matched may.free few)))
