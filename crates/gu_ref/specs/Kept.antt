-- Machinery: how agreements are stored, by name and by executing firm and account, and how guarantors are stored.
use Rattle.std.specs.Prelude.{◌≡◌, map}
use Rattle.indexmap.specs.IndexMap.{keys, values}
use Rattle.gu_ref.specs.declared.agreements.Agreement.{Agreement}
use Rattle.gu_ref.specs.declared.agreements.Agreements.TheInside.{Inside}
use Rattle.gu_ref.specs.declared.agreements.Pair.{Pair}
use Rattle.gu_ref.specs.declared.guarantors.Guarantors.TheInside.{Inside as GuarantorsInside}
use Rattle.gu_ref.specs.Listed.{has_firm, is_guarantor_in}
use Rattle.gu_terms.specs.declared.firm.FirmId.{FirmId}

-- the executing firm and the account of an agreement
abbrev pub pair_of : Agreement → Pair
pair_of a = record { executing = a.executing; account = a.account }

-- each agreement is stored under its name and under its pair, in the same order
pub record IsKept (kept : Inside) : Type 0 where
  pub named : keys kept.rows ≡ map (λ a. a.id) (values kept.rows)
  pub paired : keys kept.pairs ≡ map pair_of (values kept.pairs)
  pub alike : values kept.pairs ≡ values kept.rows

-- each row is stored under the firm that it guarantees, and the guarantors are those in the rows
pub record IsGuaranteed (kept : GuarantorsInside) : Type 0 where
  pub named : keys kept.rows ≡ map (λ g. g.firm) (values kept.rows)
  pub alike : (firm : FirmId) → has_firm kept.guarantors.keys firm ≡ is_guarantor_in (values kept.rows) firm
