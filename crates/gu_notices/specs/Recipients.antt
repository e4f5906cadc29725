-- Machinery: the firms that an entry may notify, now and after later entries.
use Rattle.std.specs.Prelude.{◌≡◌, ℕ, ◌≤◌, ◌++◌, ⊤, true, List, [], ◌∷◌, length, Some, IfSome}
use Rattle.std.specs.List.{AllByRecursion}
use Rattle.gu_terms.specs.declared.entry.Entry.{Entry}
use Rattle.gu_terms.specs.declared.firm.FirmId.{FirmId}
use Rattle.gu_terms.specs.declared.id.Id.{Id}
use Rattle.gu_terms.specs.declared.offer.Offer.{Offer}
use Rattle.gu_terms.specs.declared.report.Report.{Report}
use Rattle.gu_trades.specs.Reports.{with_match}
use Rattle.gu_rules.specs.Notices.{Register, Told, told_by}
use Rattle.gu_notices.specs.Filters.{may_hold}
use Rattle.gu_notices.specs.Registers.{carrier_in}
use Rattle.gu_notices.specs.declared.firm_filter.FirmFilter.{FirmFilter}

-- a set may hold each firm that these notices are sent to
abbrev pub Holds : FirmFilter → List Told → Type 0
Holds firms told = AllByRecursion (λ (t : Told). may_hold firms t.firm ≡ true) told

-- later entries keep the data that notices are made from, and only add to it; no match id has more than two reports
pub record Grows (register later : Register) : Type 0 where
  pub reference : later.reference ≡ register.reference
  pub reports : (more : List Report) × (later.reports ≡ register.reports ++ more)
  pub sides : (id : Id) → length (with_match id later.reports) ≤ 2
  pub offers : (n : ℕ) (o : Offer) → register.offer n ≡ Some o → later.offer n ≡ Some o

-- a set may hold every firm that these notices are sent to, now and later
abbrev pub CoversEach : Register → FirmFilter → (Register → List Told) → Type 0
CoversEach register firms tell = (later : Register) → Grows register later → Holds firms (tell later)

-- it may hold the firm that carries an offer's account
abbrev pub CoversCarrier : Register → Offer → FirmFilter → Type 0
CoversCarrier register o firms = IfSome (carrier_in register.reference o) (λ (firm : FirmId). may_hold firms firm ≡ true)

-- it may hold every firm that an entry notifies
abbrev pub Covers : Register → Entry → FirmFilter → Type 0
Covers register entry firms = (number : ℕ) → CoversEach register firms (λ later. told_by later number entry)

-- the first entries each have a set that may hold every firm that it notifies; the rest have none yet
abbrev pub AreRecipients : Register → List Entry → List FirmFilter → Type 0
AreRecipients register history [] = ⊤
AreRecipients register [] (firms ∷ recipients) = ⊥
AreRecipients register (entry ∷ history) (firms ∷ recipients) = Covers register entry firms × AreRecipients register history recipients
