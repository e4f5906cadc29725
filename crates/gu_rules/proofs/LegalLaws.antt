-- Laws of legal histories.
use Rattle.gu_rules.proofs.Words.{◌≡◌, ℕ, ◌+◌, ◌*◌, ◌≤◌, ◌++◌, true, false, suc, List, [], ◌∷◌, length, take, slice_get, Option, Some, is_some, refl, sym, ap, ◌∙◌, arith, length-append, take-append-drop, length-map, length-take, slice_get_within, drop, AccountId, AgreementId, GiveUp, Entry, Asked, FirmId, Group, LimitKey, Line, Offer, Offered, Accepted, Side, Symbol, path_of, account_row, agreement_between, IsSound, Tables, IsLegal, MayBeEntered, lines_by, offers_of, standing_of, LongIsShort, held_of, moved_out, traded, reports_of, touches, group_view}
use Rattle.gu_rules.proofs.AgreementPaths.{path-there}
use Rattle.gu_rules.proofs.ChangedSums.{moved_out-le-traded}
use Rattle.gu_rules.proofs.Elsewhere.{view-elsewhere}
use Rattle.gu_rules.proofs.GivenTrades.{sourced}
use Rattle.gu_rules.proofs.HeldEven.{held-even, none-held}
use Rattle.gu_rules.proofs.LegalOrder.{legal_ordered}
use Rattle.gu_rules.proofs.Onward.{onward}

-- the lots that leave an account
pub leaves_less : (reference : Tables) (history : List Entry) (side : Side) (account : AccountId) (symbol : Symbol) → IsLegal reference history
    → moved_out (reports_of history) (standing_of history) side account symbol ≤ traded (reports_of history) side account symbol
leaves_less reference history side account symbol legal =
    let o = (legal_ordered reference history legal).order in
    moved_out-le-traded (reports_of history) (standing_of history) side account symbol o.covered o.within

-- the lots held
pub long_as_short : (reference : Tables) (history : List Entry) → IsSound reference → IsLegal reference history → LongIsShort (record { reference = reference; history = history })
long_as_short reference history sound legal =
    let o = (legal_ordered reference history legal).order in held-even reference history sound.once.accounts (sourced reference history legal) o.covered o.within

-- an account that isn't in the reference holds nothing
pub unknown-holds-none : (reference : Tables) (history : List Entry) (side : Side) (account : AccountId) (symbol : Symbol) → IsLegal reference history → is_some (account_row reference account) ≡ false
    → held_of history side account symbol ≡ 0
unknown-holds-none reference history side account symbol legal none = none-held reference account none side symbol history (sourced reference history legal)

-- the path of an agreement
pub has_path : (reference : Tables) (firm : FirmId) (account : AccountId) (agreement : AgreementId) → IsSound reference → agreement_between reference firm account ≡ Some agreement
    → is_some (path_of reference agreement) ≡ true
has_path reference firm account agreement sound between =
    let found = path-there reference sound firm account agreement between in ap (λ (p : Option (List LimitKey)). is_some p) found.1

-- ---- how many offers there are

-- an entry makes one offer for each line
few-made : (entry : Entry) → MayBeEntered entry → length (lines_by entry) ≤ 16
few-made (Asked (GiveUp it) (Accepted (Offered group first count))) lines_are =
    omega (arith, lines_are.most, length-map {B = Offer} it.lines (λ (l : Line). record { firm = it.firm; report = it.report; group = group; account = l.account; lots = l.lots }))
few-made entry entered = omega arith

few-offers : (history : List Entry) → ((k : ℕ) (entry : Entry) → slice_get history k ≡ Some entry → MayBeEntered entry) → length (offers_of history) ≤ 16 * length history
few-offers [] entered = omega arith
few-offers (entry ∷ later) entered =
    let size : length (offers_of (entry ∷ later)) ≡ length (lines_by entry) + length (offers_of later) = length-append (lines_by entry) (offers_of later) in
    omega (arith, size, few-made entry (entered 0 entry refl), few-offers later (λ k. entered (suc k)))

pub few_offers_made : (reference : Tables) (history : List Entry) → IsLegal reference history → length (offers_of history) ≤ 16 * length history
few_offers_made reference history legal = few-offers history legal.entered

-- ---- views

-- if no entry from an index on touches a group, its view is unchanged
pub view-stays : (reference : Tables) (history : List Entry) (first : ℕ) (group : Group) → IsLegal reference history
    → ((place : ℕ) (entry : Entry) → first ≤ place → slice_get history place ≡ Some entry → touches (take place history) group entry ≡ false)
    → group_view reference history group ≡ group_view reference (take first history) group
view-stays reference history first group legal quiet =
    (onward history (λ h. (length (take first history) ≤ length h) × (group_view reference h group ≡ group_view reference (take first history) group)) next (take first history) (drop first history)
    (sym (take-append-drop first history)) (omega arith, refl)).1
  where
    next : (k : ℕ) (entry : Entry) → slice_get history k ≡ Some entry
        → (length (take first history) ≤ length (take k history)) × (group_view reference (take k history) group ≡ group_view reference (take first history) group)
        → (length (take first history) ≤ length (take k history ++ entry ∷ [])) × (group_view reference (take k history ++ entry ∷ []) group ≡ group_view reference (take first history) group)
    next k entry at holds =
        let within = slice_get_within history k entry at in
        let from : first ≤ k = omega (arith, length-take k history, length-take first history, within, holds.0) in (
          omega (arith, length-append (take k history) (entry ∷ []), holds.0),
          view-elsewhere reference (take k history) entry group (legal.each k entry at) (quiet k entry from at) ∙ holds.1,
        )
