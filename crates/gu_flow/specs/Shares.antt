-- Machinery: the shares of an agreement's offers in the flow through its arc, the oldest first.
use Rattle.std.specs.Prelude.{◌≡◌, ℕ, ◌-◌, ◌<◌, ◌==◌, nat_lt, min, if◌then◌else◌, List, filter, length, take, slice_index, slice_index_or, sum_by}
use Rattle.gu_terms.specs.declared.limit_key.LimitKey.TheVariants.{Agr}
use Rattle.gu_terms.specs.declared.takes.Take.{Take}
use Rattle.gu_view.specs.View.{GroupView, place_of}
use Rattle.gu_view.specs.declared.view.ViewOffer.{ViewOffer}
use Rattle.gu_view.specs.declared.view.Room.{Room}
use Rattle.gu_flow.specs.Networks.{offer_at}

-- the index of the room of an offer's agreement
abbrev pub agreement_place : List Room → ViewOffer → ℕ
agreement_place rooms o = place_of rooms (Agr o.agreement)

-- the total lots of the offers under the agreement with the room at an index
abbrev pub agreement_lots : List Room → List ViewOffer → ℕ → ℕ
agreement_lots rooms offers place = sum_by (λ o. if agreement_place rooms o == place then o.lots else 0) offers

-- an offer's share: what the older ones under its agreement leave of the flow, but no more than it has
abbrev pub share_of : List ℕ → List Room → List ViewOffer → ViewOffer → ℕ
share_of flow rooms older o =
    min o.lots (slice_index flow (agreement_place rooms o) - agreement_lots rooms older (agreement_place rooms o))

-- the take at an index
abbrev pub no_take : Take
no_take = record { offer = 0; lots = 0 }

abbrev pub take_at : List Take → ℕ → Take
take_at takes i = slice_index_or takes i no_take

-- the offers before an index take their shares
pub record AreSharesBefore (view : GroupView) (flow : List ℕ) (takes : List Take) (before : ℕ) : Type 0 where
  pub all : length takes ≡ before
  pub each : (i : ℕ) → i < before
      → take_at takes i ≡ record {
        offer = (offer_at view.offers i).number;
        lots = share_of flow view.rooms (take i view.offers) (offer_at view.offers i);
      }

-- each offer takes its share
abbrev pub AreAllShares : GroupView → List ℕ → List Take → Type 0
AreAllShares view flow takes = AreSharesBefore view flow takes (length view.offers)

-- the takes with more than 0 lots
abbrev pub above_zero : List Take → List Take
above_zero takes = filter (λ t. nat_lt 0 t.lots) takes

-- each offer takes its share, and is named if that is more than 0
pub record AreShares (view : GroupView) (flow : List ℕ) (takes : List Take) : Type 0 where
  pub shares : List Take
  pub all : AreAllShares view flow shares
  pub named : takes ≡ above_zero shares
