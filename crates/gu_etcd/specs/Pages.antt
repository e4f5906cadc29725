-- A page of a log, as etcd answers it: pairs whose keys are those of numbers that follow each other.
use Rattle.std.specs.Prelude.{◌≡◌, ◌↔◌, ◌+◌, ℕ, List, [], ◌∷◌, codes, Option, Some, None, true, IsTrue, option_and_then}
use Rattle.serde_json.specs.Data.{Data, Items, no_items, item}
use Rattle.serde_json.specs.Find.{get, as_array, as_bool, as_str}
use Rattle.gu_etcd.specs.declared.page.Page.{Page}
use Rattle.gu_etcd.specs.Answers.{HasValue, pairs_in}
use Rattle.gu_etcd.specs.InMemory.{log_of}
use Rattle.gu_etcd.specs.Keys.{batch_key}
use Rattle.gu_etcd.specs.Requests.{coded}

-- a pair has this key
abbrev pub HasKey : Data → List ℕ → Type 0
HasKey pair key = option_and_then as_str (get (codes "key") pair) ≡ Some (coded key)

-- the pairs have these entries, at the numbers from this one on
abbrev pub AreEntries : List ℕ → ℕ → Items → List (List ℕ) → Type 0
AreEntries name number no_items [] = Unit {0}
AreEntries name number (item pair pairs) (entry ∷ entries) = HasKey pair (batch_key name number) × HasValue pair entry × AreEntries name (number + 1) pairs entries
AreEntries name number no_items (entry ∷ entries) = ⊥
AreEntries name number (item pair pairs) [] = ⊥

-- the same of the pairs that are listed; where no list is, there are none
abbrev pub Lists : List ℕ → ℕ → Option Data → List (List ℕ) → Type 0
Lists name number None entries = entries ≡ []
Lists name number (Some pairs) entries = (listed : Items) × (as_array pairs ≡ Some listed) × AreEntries name number listed entries

-- the answer says that more entries come
abbrev pub HasMore : Data → Type 0
HasMore answer = option_and_then as_bool (get (codes "more") answer) ≡ Some true

-- what the answer to a request for a page says
pub record SaysPage (name : List ℕ) (number : ℕ) (answer : Data) (page : Page) : Type 0 where
  pub entries : Lists name number (pairs_in answer) (log_of page.entries.items)
  pub more : IsTrue page.has_more ↔ HasMore answer
