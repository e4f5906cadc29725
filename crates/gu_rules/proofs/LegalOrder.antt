-- Every legal history is orderly; no group has more than 4,096 open offers, and each offer was made under an agreement.
use Rattle.gu_rules.proofs.Words.{◌≡◌, ℕ, ◌+◌, ◌<◌, ◌≤◌, ◌++◌, List, [], ◌∷◌, length, Option, Some, is_none, refl, sym, ap, ◌∙◌, arith, append-nil, append_assoc, subst, AllByRecursion, option_map_or, option_to_list, Later, Later-from_AllPairs, along, along2, Command, OpenDay, SetLimit, ReportSide, GiveUp, Claim, Refuse, Reverse, Day, Entry, Asked, Swept, SweepEntry, FirmId, Id, Refusal, NoDay, Done, Reply, Accepted, Denied, Report, Take, Tables, made_on, changed, taken, Row, left_in, left_of, row_at, IsAccepted, IsLegal, MayFollow, accepted_entry, done_of, state_of, tests_of, IsShown, IsSweepOf, part, parts, standing_of, open_day, report_on, reports_of, group_view, offers_shown}
use Rattle.gu_terms.specs.declared.command.GiveUp.{GiveUp as GiveUpOf}
use Rattle.gu_terms.specs.declared.command.ReportSide.{ReportSide as ReportSideOf}
use Rattle.gu_rules.proofs.AcceptedCommands.{fits-in, giving_up, is-accepted, opening, setting}
use Rattle.gu_rules.proofs.InOrder.{IsInOrder, in_order, nothing-orderly}
use Rattle.gu_rules.proofs.Facts.{claimable, open-there, refusable, reversible, row_at-other, some-of, today-is}
use Rattle.gu_rules.proofs.GivenUp.{givable}
use Rattle.gu_rules.proofs.Growing.{reports_of-push}
use Rattle.gu_rules.proofs.OrderedReports.{ordered-reported}
use Rattle.gu_rules.proofs.Onward.{each_legal}
use Rattle.gu_rules.proofs.OrderlyLemmas.{ordered-idle, ordered-lines, ordered-opened, ordered-refused, ordered-taken, ordered-taken_back}
use Rattle.gu_rules.proofs.Parts.{ordered-same, parts-same, standing_of-same}
use Rattle.gu_rules.proofs.Passing.{none_stands}
use Rattle.gu_rules.proofs.Quiet.{denied-lines, denied-quiet, unreported}
use Rattle.gu_rules.proofs.ShownLemmas.{shown-taken}
use Rattle.gu_rules.proofs.Spoken.{denied-idle, taken_back}
use Rattle.gu_rules.proofs.StandingLemmas.{IsIdle}
use Rattle.gu_rules.proofs.Stepping.{standing_of-idle, standing_of-one}
use Rattle.gu_rules.proofs.StillShown.{shown-accepted}
use Rattle.gu_rules.proofs.SweptOffers.{TakesLeft, all-left}
use Rattle.gu_rules.proofs.Takers.{claim-takes, claimed, part-takes, takes-others, takes-own}

-- an orderly history in which no group has more than 4,096 open offers, and each offer was made under an agreement
pub record IsOrdered (reference : Tables) (history : List Entry) : Type 0 where
  pub order : IsInOrder history
  pub shown : IsShown reference (standing_of history)

-- ---- commands

-- a report
module _ (reference : Tables) (history : List Entry) (it : ReportSideOf) (is : IsAccepted reference history (ReportSide it)) where
  -- it is made on an open day
  pub day-there : (day : Day) × (open_day history ≡ Some day)
  day-there =
      let command = ReportSide it in
      let state = state_of reference history in
      some-of (open_day history) (none_stands (tests_of reference state command) (done_of reference state command) (done_of reference state command) is.accepted 0 (is_none (open_day history)) NoDay refl)

  reported : IsInOrder history → IsInOrder (history ++ accepted_entry reference history (ReportSide it) ∷ [])
  reported o =
      let entry = accepted_entry reference history (ReportSide it) in
      let day = day-there.0 in
      let r = made_on day it in
      let idle : IsIdle entry = record { takes = λ n. refl; gives = λ n. refl; closed = λ n. refl } in
      let reports : report_on (open_day history) entry ≡ Some r = ap (λ (d : Option Day). report_on d entry) day-there.1 in
      ordered-reported history entry r o refl idle (fits-in reference it day history day-there.1 is)
      (reports_of-push history entry ∙ ap (λ (q : Option Report). reports_of history ++ option_to_list q) reports)
      (standing_of-idle history entry refl refl o.balanced idle)

-- a give-up
gave_up : (reference : Tables) (history : List Entry) (it : GiveUpOf) → IsInOrder history → IsAccepted reference history (GiveUp it)
    → IsInOrder (history ++ accepted_entry reference history (GiveUp it) ∷ [])
gave_up reference history it o is =
    let f = givable reference history it is in
    let report = f.0 in
    let group = f.1 in
    let may = f.2 in
    let first = length (standing_of history) + 1 in
    let entry = giving_up report.firm it.id report.id it.lines group first in
    let idle : IsIdle entry = record { takes = λ n. refl; gives = λ n. refl; closed = λ n. refl } in
    subst (λ (d : Done). IsInOrder (history ++ Asked (GiveUp it) (Accepted d) ∷ [])) (sym may.did)
    (subst (λ (f : FirmId). IsInOrder (history ++ giving_up f it.id it.report it.lines group first ∷ [])) may.of_firm
    (subst (λ (o : Id). IsInOrder (history ++ giving_up report.firm it.id o it.lines group first ∷ [])) may.of_id
    (ordered-lines history entry report group it.lines o (unreported entry (λ d. refl) (open_day history)) refl idle refl may.there may.matched may.free)))

-- any accepted command
accepted : (reference : Tables) (history : List Entry) (command : Command) → IsInOrder history → IsAccepted reference history command
    → IsInOrder (history ++ accepted_entry reference history command ∷ [])
accepted reference history (OpenDay it) o is =
    ordered-opened history (opening it.day) it.day o (unreported (opening it.day) (λ d. refl) (open_day history)) refl refl (record { takes = λ n. refl; gives = λ n. refl; closed = λ n. refl })
accepted reference history (SetLimit it) o is =
    ordered-idle history (setting it.group it.key it.lots) o (unreported (setting it.group it.key it.lots) (λ d. refl) (open_day history)) refl refl (record { takes = λ n. refl; gives = λ n. refl; closed = λ n. refl })
accepted reference history (ReportSide it) o is = reported reference history it is o
accepted reference history (GiveUp it) o is = gave_up reference history it o is
accepted reference history (Claim it) o is =
    let lots = left_in (standing_of history) it.offer in
    let f = claimable reference history it.firm it.offer o is in
    ordered-taken history (claimed it.firm it.offer lots) it.offer lots f.0 (claim-takes it.firm it.offer lots) o f.2.there.at f.2.stands f.2.less
accepted reference history (Refuse it) o is =
    let f = refusable reference history it.firm it.offer it.why o is in
    ordered-refused history it.firm it.offer it.why (left_in (standing_of history) it.offer) f.0 o f.2.at
accepted reference history (Reverse it) o is =
    let f = reversible reference history it.firm it.offer o is in
    subst (λ (lots : ℕ). IsInOrder (history ++ taken_back it.firm it.offer lots ∷ [])) (sym (today-is (standing_of history) it.offer f.0 f.2.there.at)) (ordered-taken_back history it.firm it.offer f.0 o f.2.there.at)

-- a refused command
denied : (reference : Tables) (history : List Entry) (command : Command) (why : Refusal) → IsOrdered reference history → IsOrdered reference (history ++ Asked command (Denied why) ∷ [])
denied reference history command why ordered =
    let entry = Asked command (Denied why) in
    let quiet = denied-quiet history command why in
    let idle = denied-idle command why in
    record {
      order = ordered-idle history entry ordered.order quiet.reports quiet.opens (denied-lines command why) idle;
      shown = subst (IsShown reference) (sym (standing_of-idle history entry quiet.opens (denied-lines command why) ordered.order.balanced idle)) ordered.shown;
    }

-- ---- sweeps

-- the lots of a take are left of its offer
abbrev pub IsLeft : List Row → Take → Type 0
IsLeft rows t = (0 < left_in rows t.offer) × (t.lots ≤ left_in rows t.offer)

-- one take of a sweep: its effect on the offers, after which the other takes are still left
pub record TakesFirst (reference : Tables) (history : List Entry) (sweep : SweepEntry) (take : Take) (takes : List Take) : Type 0 where
  pub row : Row
  pub at : row_at (standing_of history) take.offer ≡ Some row
  pub rows : standing_of (history ++ part sweep take ∷ []) ≡ changed (standing_of history) take.offer (taken take.lots)
  pub ordered : IsOrdered reference (history ++ part sweep take ∷ [])
  pub left : AllByRecursion (IsLeft (standing_of (history ++ part sweep take ∷ []))) takes

pub takes_first : (reference : Tables) (sweep : SweepEntry) (take : Take) (takes : List Take) (history : List Entry) → IsOrdered reference history → Later (λ (a b : Take). a.offer < b.offer) (take ∷ takes)
    → AllByRecursion (IsLeft (standing_of history)) (take ∷ takes) → TakesFirst reference history sweep take takes
takes_first reference sweep take takes history ordered later left =
    let entry = part sweep take in
    let old = standing_of history in
    let new = standing_of (history ++ entry ∷ []) in
    let f = open-there history take.offer ordered.order left.0.0 in
    let one = part-takes sweep take in
    let rows : new ≡ changed old take.offer (taken take.lots) =
    standing_of-one history entry take.offer f.0 (taken take.lots) refl refl ordered.order.balanced (takes-others entry take.offer take.lots one) f.2.at (takes-own entry take.offer take.lots f.0 one) in
    let stays : (t : Take) → take.offer < t.offer → left_in new t.offer ≡ left_in old t.offer = λ t after.
    ap (λ (rs : List Row). left_in rs t.offer) rows
    ∙ ap (λ (o : Option Row). option_map_or left_of o 0) (row_at-other old take.offer t.offer (taken take.lots) (λ same. absurd (omega (arith, after, same)))) in
    record {
      row = f.0;
      at = f.2.at;
      rows = rows;
      ordered = record {
        order = ordered-taken history entry take.offer take.lots f.0 one ordered.order f.2.at f.3 (omega (arith, f.4, left.0.1));
        shown = subst (IsShown reference) (sym rows) (shown-taken reference old take.offer take.lots ordered.shown);
      };
      left = along2 (λ (t : Take). take.offer < t.offer) (IsLeft old) (IsLeft new) takes (λ t after has. (omega (arith, has.0, stays t after), omega (arith, has.1, stays t after))) later.0 left.1;
    }

-- takes, one after another
all-taken : (reference : Tables) (sweep : SweepEntry) (takes : List Take) (history : List Entry) → IsOrdered reference history → Later (λ (a b : Take). a.offer < b.offer) takes
    → AllByRecursion (IsLeft (standing_of history)) takes → IsOrdered reference (history ++ parts sweep takes)
all-taken reference sweep [] history ordered later left = subst (IsOrdered reference) (sym (append-nil history)) ordered
all-taken reference sweep (take ∷ takes) history ordered later left =
    let first = takes_first reference sweep take takes history ordered later left in
    subst (IsOrdered reference) (append_assoc history (part sweep take ∷ []) (parts sweep takes)) (all-taken reference sweep takes (history ++ part sweep take ∷ []) first.ordered later.1 first.left)

-- what a sweep takes is left
pub sweep_left : (reference : Tables) (history : List Entry) (sweep : SweepEntry) → IsSweepOf (group_view reference history sweep.group) sweep → AllByRecursion (IsLeft (standing_of history)) sweep.takes
sweep_left reference history sweep right =
    let rows = standing_of history in
    along (TakesLeft reference rows sweep.group (offers_shown reference history sweep.group)) (IsLeft rows) sweep.takes
    (λ t takes.
    let is : left_in rows t.offer ≡ left_of takes.stands.row = ap (left_in rows) (sym takes.number) ∙ ap (λ (o : Option Row). option_map_or left_of o 0) takes.stands.at in
    (omega (arith, is, takes.stands.is_left), omega (arith, is, takes.lots, takes.stands.lots)))
    (all-left reference history sweep right)

-- a sweep that may follow
swept : (reference : Tables) (history : List Entry) (sweep : SweepEntry) → IsOrdered reference history → IsSweepOf (group_view reference history sweep.group) sweep
    → IsOrdered reference (history ++ Swept sweep ∷ [])
swept reference history sweep ordered right =
    let one = history ++ parts sweep sweep.takes in
    let two = history ++ Swept sweep ∷ [] in
    let same = parts-same history sweep right.ascending in
    let all = all-taken reference sweep sweep.takes history ordered (Later-from_AllPairs (λ (a b : Take). a.offer < b.offer) sweep.takes right.ascending) (sweep_left reference history sweep right) in
    record {
      order = ordered-same one two same all.order;
      shown = subst (IsShown reference) (standing_of-same one two same) all.shown;
    }

-- ---- all of it

-- an entry that may follow
pub follows : (reference : Tables) (before : List Entry) (entry : Entry) → length before < 1000000 → MayFollow reference before entry → IsOrdered reference before → IsOrdered reference (before ++ entry ∷ [])
follows reference before (Asked command (Denied why)) room may ordered = denied reference before command why ordered
follows reference before (Asked command (Accepted done)) room may ordered =
    let is = is-accepted reference before command (Accepted done) room may refl in
    subst (λ (r : Reply). IsOrdered reference (before ++ Asked command r ∷ [])) (sym (may ∙ is.accepted))
    (record { order = accepted reference before command ordered.order is; shown = shown-accepted reference before command ordered.order is ordered.shown })
follows reference before (Swept sweep) room may ordered = swept reference before sweep ordered may.sweeps

-- no entries
pub none-ordered : (reference : Tables) → IsOrdered reference []
none-ordered reference = record { order = in_order [] nothing-orderly; shown = record { few = λ group. omega arith; agreed = tt } }

-- every legal history
pub legal_ordered : (reference : Tables) (history : List Entry) → IsLegal reference history → IsOrdered reference history
legal_ordered reference history legal = each_legal reference (IsOrdered reference) (none-ordered reference) (follows reference) history legal
