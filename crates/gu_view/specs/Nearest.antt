-- The nearest cut of a view: of the cuts with the least room, the one that holds each offer back earliest on its path.
use Rattle.std.specs.Prelude.{◌≡◌, ℕ, suc, ◌<◌, ◌≤◌, ◌==◌, ◌&&◌, ◌||◌, not, Bool, IsTrue, Some, All, filter, slice_get}
use Rattle.std.specs.List.{Any, position_or_len}
use Rattle.gu_terms.specs.Cuts.{CutLists, has_number}
use Rattle.gu_terms.specs.LimitKeys.{has_key, key_eq}
use Rattle.gu_terms.specs.declared.limit_key.LimitKey.{LimitKey}
use Rattle.gu_terms.specs.declared.limit_key.LimitKey.TheVariants.{Agr}
use Rattle.gu_view.specs.Cut.{Covers, IsLeastCut}
use Rattle.gu_view.specs.Takes.{lots_with}
use Rattle.gu_view.specs.View.{GroupView}
use Rattle.gu_view.specs.declared.view.ViewOffer.{ViewOffer}

-- a cut holds an offer back at a key of the offer's path if it has the key, or if the key is that of the offer's agreement and the cut has
-- the offer itself
abbrev pub holds : CutLists → ViewOffer → LimitKey → Bool
holds cut o k = has_key cut.keys k || (key_eq k (Agr o.agreement) && has_number cut.offers o.number)

-- the number of keys on an offer's path before the first at which it is held back
abbrev pub held_at : CutLists → ViewOffer → ℕ
held_at cut o = position_or_len (holds cut o) o.path

-- an offer is first held back at this key
abbrev pub IsHeldBy : CutLists → ViewOffer → LimitKey → Type 0
IsHeldBy cut o k = slice_get o.path (held_at cut o) ≡ Some k

-- no offer gets round the cut: if two paths go on with the same key, or both end, after the key at which one offer is held back, the
-- other is held back there or earlier
abbrev pub IsTight : GroupView → CutLists → Type 0
IsTight view cut =
    All (λ o. All (λ other.
    slice_get other.path (suc (held_at cut o)) ≡ slice_get o.path (suc (held_at cut o)) → held_at cut other ≤ held_at cut o) view.offers) view.offers

-- a cut names nothing idle: each of its keys is the first to hold some offer back, and each of its offers is first held back at its
-- agreement; and it has a key only if the offers with the key have at least as many lots as its room, and an offer only if all offers of
-- its agreement have fewer lots than the agreement's room
pub record IsConcise (view : GroupView) (cut : CutLists) : Type 0 where
  pub keys : All (λ k. Any (λ o. IsHeldBy cut o k) view.offers) cut.keys
  pub offers : All (λ n. Any (λ o. (o.number ≡ n) × IsHeldBy cut o (Agr o.agreement)) view.offers) cut.offers
  pub by_key : All (λ r. IsTrue (has_key cut.keys r.key) → r.lots ≤ lots_with view.offers r.key) view.rooms
  pub by_offers : All (λ r. All (λ o.
      r.key ≡ Agr o.agreement → IsTrue (has_number cut.offers o.number) → lots_with view.offers r.key < r.lots) view.offers) view.rooms

-- the nearest cut: it has the least room, no offer gets round it, and no other such cut holds any offer back earlier; it names nothing idle
pub record IsNearestCut (view : GroupView) (cut : CutLists) : Type 0 where
  pub least : IsLeastCut view cut
  pub tight : IsTight view cut
  pub earliest : (others : CutLists) → IsLeastCut view others → IsTight view others → All (λ o. held_at cut o ≤ held_at others o) view.offers
  pub concise : IsConcise view cut

-- two cuts have the same keys and the same offers
pub record AreSame (cut others : CutLists) : Type 0 where
  pub keys : (k : LimitKey) → has_key cut.keys k ≡ has_key others.keys k
  pub offers : (n : ℕ) → has_number cut.offers n ≡ has_number others.offers n

-- a cut without one of its keys, and without one of its offers
abbrev pub without_key : CutLists → LimitKey → CutLists
without_key cut k = record { keys = filter (λ j. not (key_eq j k)) cut.keys; offers = cut.offers }

abbrev pub without_offer : CutLists → ℕ → CutLists
without_offer cut n = record { keys = cut.keys; offers = filter (λ m. not (m == n)) cut.offers }

-- without any one of its members the cut doesn't cover
pub record NeedsEach (view : GroupView) (cut : CutLists) : Type 0 where
  pub keys : All (λ k. ¬ Covers view (without_key cut k)) cut.keys
  pub offers : All (λ n. ¬ Covers view (without_offer cut n)) cut.offers
