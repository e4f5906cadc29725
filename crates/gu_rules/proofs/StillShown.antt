-- After an accepted command no group has more than 4,096 open offers, and each offer was made under an agreement.
use Rattle.gu_rules.proofs.Words.{◌≡◌, ℕ, ◌+◌, ◌++◌, true, List, [], ◌∷◌, length, is_some, refl, sym, subst, AllByRecursion, Command, OpenDay, GiveUp, Claim, Refuse, Reverse, Entry, Asked, FirmId, Line, Done, Accepted, agreement_between, Tables, closed, reversed, taken, left_in, IsAccepted, accepted_entry, IsShown, standing_of}
use Rattle.gu_terms.specs.declared.command.GiveUp.{GiveUp as GiveUpOf}
use Rattle.gu_rules.proofs.Facts.{claimable, refusable, reversible, today-is}
use Rattle.gu_rules.proofs.GivenUp.{givable}
use Rattle.gu_rules.proofs.InOrder.{IsInOrder}
use Rattle.gu_rules.proofs.AcceptedCommands.{giving_up, opening}
use Rattle.gu_rules.proofs.ShownLemmas.{shown-closed, shown-next_day, shown-reversed, shown-taken, shown-with_lines}
use Rattle.gu_rules.proofs.Spoken.{refused, refused-others, refused-own, taken_back, taken_back-others, taken_back-own}
use Rattle.gu_rules.proofs.Stepping.{standing_of-idle, standing_of-lines, standing_of-one, standing_of-opened}
use Rattle.gu_rules.proofs.Takers.{claim-takes, claimed, takes-others, takes-own}

-- a give-up
given-up : (reference : Tables) (history : List Entry) (it : GiveUpOf) → IsInOrder history → IsAccepted reference history (GiveUp it) → IsShown reference (standing_of history)
    → IsShown reference (standing_of (history ++ accepted_entry reference history (GiveUp it) ∷ []))
given-up reference history it orderly is shown =
    let f = givable reference history it is in
    let group = f.1 in
    let may = f.2 in
    let rows = standing_of history in
    let between = subst (λ (f : FirmId). AllByRecursion (λ (l : Line). is_some (agreement_between reference f l.account) ≡ true) it.lines) may.of_firm may.agreed in
    let entry = giving_up it.firm it.id it.report it.lines group (length rows + 1) in
    let stand = standing_of-lines history entry it.firm it.report group it.lines refl (record { takes = λ n. refl; gives = λ n. refl; closed = λ n. refl }) refl orderly.balanced orderly.named in
    subst (λ (d : Done). IsShown reference (standing_of (history ++ Asked (GiveUp it) (Accepted d) ∷ []))) (sym may.did)
    (subst (IsShown reference) (sym stand) (shown-with_lines reference rows it.firm it.report group it.lines between may.few shown))

-- any accepted command
pub shown-accepted : (reference : Tables) (history : List Entry) (command : Command) → IsInOrder history → IsAccepted reference history command → IsShown reference (standing_of history)
    → IsShown reference (standing_of (history ++ accepted_entry reference history command ∷ []))
shown-accepted reference history (OpenDay it) orderly is shown =
    subst (IsShown reference) (sym (standing_of-opened history (opening it.day) it.day refl refl (record { takes = λ n. refl; gives = λ n. refl; closed = λ n. refl }) orderly.balanced))
    (shown-next_day reference (standing_of history) shown)
shown-accepted reference history (GiveUp it) orderly is shown = given-up reference history it orderly is shown
shown-accepted reference history (Claim it) orderly is shown =
    let lots = left_in (standing_of history) it.offer in
    let f = claimable reference history it.firm it.offer orderly is in
    subst (IsShown reference)
    (sym (standing_of-one history (claimed it.firm it.offer lots) it.offer f.0 (taken lots) refl refl orderly.balanced (takes-others (claimed it.firm it.offer lots) it.offer lots (claim-takes it.firm it.offer lots)) f.2.there.at (takes-own (claimed it.firm it.offer lots) it.offer lots f.0 (claim-takes it.firm it.offer lots))))
    (shown-taken reference (standing_of history) it.offer lots shown)
shown-accepted reference history (Refuse it) orderly is shown =
    let lots = left_in (standing_of history) it.offer in
    let f = refusable reference history it.firm it.offer it.why orderly is in
    subst (IsShown reference)
    (sym (standing_of-one history (refused it.firm it.offer it.why lots) it.offer f.0 closed refl refl orderly.balanced (refused-others it.firm it.offer it.why lots) f.2.at (refused-own it.firm it.offer it.why lots f.0)))
    (shown-closed reference (standing_of history) it.offer shown)
shown-accepted reference history (Reverse it) orderly is shown =
    let f = reversible reference history it.firm it.offer orderly is in
    let row = f.0 in
    let today = today-is (standing_of history) it.offer row f.2.there.at in
    subst (λ (lots : ℕ). IsShown reference (standing_of (history ++ taken_back it.firm it.offer lots ∷ []))) (sym today)
    (subst (IsShown reference)
    (sym (standing_of-one history (taken_back it.firm it.offer row.today) it.offer row reversed refl refl orderly.balanced (taken_back-others it.firm it.offer row.today) f.2.there.at (taken_back-own it.firm it.offer row)))
    (shown-reversed reference (standing_of history) it.offer shown))
shown-accepted reference history command orderly is shown =
    let entry = accepted_entry reference history command in
    subst (IsShown reference) (sym (standing_of-idle history entry refl refl orderly.balanced (record { takes = λ n. refl; gives = λ n. refl; closed = λ n. refl }))) shown
