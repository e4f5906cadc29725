-- Machinery: a desk's one history, which exists only in the proofs, and prefixes of it.
use Rattle.std.specs.Prelude.{◌≡◌, ℕ, List, [], ◌++◌, true, false}
use mathlib.Core.Option.{some}
use mathlib.Core.List.{IsPrefix}
use lib.ListN.{get_elem?}
use Rattle.atomic_table.specs.Table.{State, Me}
use Rattle.atomic_table.specs.Seated.{TableId}
use Rattle.gu_terms.specs.declared.entry.Entry.{Entry}
use Rattle.gu_desk.specs.declared.annals.Known.{Known}

-- a placeholder name, used by the kit's brand before a desk's own history is picked
abbrev pub no_history : TableId
no_history = record { words = 0; slots = 0; views_name = 0; atom = 0; block = 0; offset = 0; slot_names = [] }

-- a history not yet opened by a desk: its name, and its entries so far
pub record Unopened : Type 0 where
  pub name : TableId
  pub entries : List Entry

-- the keeper's knowledge: the whole history
abbrev pub keeper : List Entry → Known
keeper log = record { keeps = true; log = log; front = [] }

-- a front's knowledge: a prefix of the history
abbrev pub beginning : List Entry → Known
beginning front = record { keeps = false; log = []; front = front }

-- the keeper's knowledge after it takes in another's, to compare with the history
abbrev pub beside : Known → Known → Known
beside v w = record { keeps = v.keeps; log = v.log; front = w.front }

-- one party's knowledge fits the history: only the keeper may know all of it, and the front that a party knows is a prefix of it
abbrev pub Fits : ℕ → List Entry → ℕ → Known → Type 0
Fits seat log by v = (v.keeps ≡ true → (by ≡ seat) × (v.log ≡ log)) × IsPrefix v.front log

-- there is one history, and each party's knowledge fits it
abbrev pub Kept : {S : Type 0} → State S Known → Type 0
Kept s = (seat : ℕ) × (log : List Entry) × ((by : ℕ) (v : Known) → get_elem? s.views by ≡ some v → Fits seat log by v)

-- the keeper adds entries
abbrev pub Added : {S : Type 0} → List Entry → Me S Known → ℕ → Me S Known → Type 0
Added entries v found w = w ≡ (record { keeps = v.0.keeps; log = v.0.log ++ entries; front = v.0.front }, v.1)

-- the keeper compares the prefix that it has taken in
abbrev pub Compared : {S : Type 0} → Me S Known → ℕ → Me S Known → Type 0
Compared v found w = (w ≡ v) × (v.0.keeps ≡ true → IsPrefix v.0.front v.0.log)
