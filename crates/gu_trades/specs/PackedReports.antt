-- Machinery: reports as stored. The texts of all are in one list of bytes, and each report says where its own are.
use Rattle.std.specs.Prelude.{ℕ, ◌+◌, ◌≤◌, ◌++◌, List, length}
use Rattle.gu_terms.specs.PackedEntries.{text_at}
use Rattle.gu_terms.specs.Names.{IsId, IsName}
use Rattle.gu_terms.specs.declared.report.Report.{Report}
use Rattle.gu_trades.specs.declared.packed.Packed.{Packed}

-- the texts of a report, joined in order: its two ids, and the names of its firm, symbol and account
abbrev pub texts_of : Report → List ℕ
texts_of r = r.id ++ (r.match_id ++ (r.firm.name ++ (r.symbol.name ++ r.account.name)))

-- a report's texts are valid ids and names
pub record HasIdsAndNames (r : Report) : Type 0 where
  pub own : IsId r.id
  pub matched : IsId r.match_id
  pub firm : IsName r.firm.name
  pub symbol : IsName r.symbol.name
  pub account : IsName r.account.name

-- the stored form of a report whose texts start at this position
abbrev pub kept_at : ℕ → Report → Packed
kept_at at r =
    record {
      at = at;
      own = length r.id;
      matched = length r.match_id;
      firm = length r.firm.name;
      symbol = length r.symbol.name;
      account = length r.account.name;
      side = r.side;
      day = r.day;
      lots = r.lots;
      price = r.price;
    }

-- the report stored as this, with its texts taken from all texts
abbrev pub report_of_kept : List ℕ → Packed → Report
report_of_kept texts kept =
    record {
      firm = record { name = text_at texts (kept.at + kept.own + kept.matched) kept.firm };
      id = text_at texts kept.at kept.own;
      match_id = text_at texts (kept.at + kept.own) kept.matched;
      symbol = record { name = text_at texts (kept.at + kept.own + kept.matched + kept.firm) kept.symbol };
      lots = kept.lots;
      price = kept.price;
      day = kept.day;
      side = kept.side;
      account = record { name = text_at texts (kept.at + kept.own + kept.matched + kept.firm + kept.symbol) kept.account };
    }

-- its texts lie within all texts, and are valid ids and names
pub record IsWithin (texts : List ℕ) (kept : Packed) : Type 0 where
  pub within : kept.at + kept.own + kept.matched + kept.firm + kept.symbol + kept.account ≤ length texts
  pub sound : HasIdsAndNames (report_of_kept texts kept)
