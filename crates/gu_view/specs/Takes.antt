-- Lots of a view's offers, and lots taken from them.
use Rattle.std.specs.Prelude.{◌≡◌, ℕ, ◌<◌, ◌≤◌, if◌then◌else◌, List, All, AllPairs, sum_by}
use Rattle.gu_terms.specs.declared.limit_key.LimitKey.{LimitKey}
use Rattle.gu_terms.specs.LimitKeys.{has_key}
use Rattle.gu_view.specs.declared.view.ViewOffer.{ViewOffer}
use Rattle.gu_view.specs.View.{GroupView}

-- the lots taken from the offers with a key on their path; `lots` gives those taken from the offer with a number
abbrev pub lots_under : List ViewOffer → LimitKey → (ℕ → ℕ) → ℕ
lots_under offers k lots = sum_by (λ o. if has_key o.path k then lots o.number else 0) offers

-- the total lots of the offers with a key on their path
abbrev pub lots_with : List ViewOffer → LimitKey → ℕ
lots_with offers k = sum_by (λ o. if has_key o.path k then o.lots else 0) offers

-- the total lots taken
abbrev pub total : List ViewOffer → (ℕ → ℕ) → ℕ
total offers lots = sum_by (λ o. lots o.number) offers

-- no more is taken from an offer than it has, and no more under a key than its room
pub record IsAdmissible (view : GroupView) (lots : ℕ → ℕ) : Type 0 where
  pub offers : All (λ o. lots o.number ≤ o.lots) view.offers
  pub rooms : All (λ r. lots_under view.offers r.key lots ≤ r.lots) view.rooms

-- admissible, and no admissible takes have more lots in total
pub record IsGreatest (view : GroupView) (lots : ℕ → ℕ) : Type 0 where
  pub admissible : IsAdmissible view lots
  pub greatest : (others : ℕ → ℕ) → IsAdmissible view others → total view.offers others ≤ total view.offers lots

-- of two offers under one agreement, the later takes lots only if the earlier takes all of its own
abbrev pub IsOldestFirst : GroupView → (ℕ → ℕ) → Type 0
IsOldestFirst view lots =
    AllPairs (λ earlier later. earlier.agreement ≡ later.agreement → 0 < lots later.number → lots earlier.number ≡ earlier.lots) view.offers

-- both give the same lots to each offer older than this one
abbrev pub AgreeOnOlder : List ViewOffer → ViewOffer → (ℕ → ℕ) → (ℕ → ℕ) → Type 0
AgreeOnOlder offers o others lots = All (λ older. older.number < o.number → others older.number ≡ lots older.number) offers

-- greatest, and oldest first over the group: among the greatest takes that give each older offer the same, none gives an offer more
pub record IsOldestGreatest (view : GroupView) (lots : ℕ → ℕ) : Type 0 where
  pub greatest : IsGreatest view lots
  pub oldest : (others : ℕ → ℕ) → IsGreatest view others
      → All (λ o. AgreeOnOlder view.offers o others lots → others o.number ≤ lots o.number) view.offers
