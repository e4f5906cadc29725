-- The view of a group after a history: its open offers, and the room of each key that applies to them.
use Rattle.std.specs.Prelude.{List, map, Option, ℕ}
use Rattle.std.specs.List.{filter_map}
use Rattle.std.specs.Option.{option_map, option_and_then}
use Rattle.gu_terms.specs.declared.entry.Entry.{Entry}
use Rattle.gu_terms.specs.declared.group.Group.{Group}
use Rattle.gu_ref.specs.Reference.{agreement_between}
use Rattle.gu_ref.specs.Tables.{Tables}
use Rattle.gu_offers.specs.Rows.{Row, open_offer_at, open_offers}
use Rattle.gu_offers.specs.declared.open_offer.OpenOffer.{OpenOffer}
use Rattle.gu_view.specs.View.{GroupView, keys_of}
use Rattle.gu_view.specs.declared.view.ViewOffer.{ViewOffer}
use Rattle.gu_rules.specs.Limits.{path_after, room_of}
use Rattle.gu_rules.specs.Offers.{standing_of}
use Rattle.gu_rules.specs.Versions.{version_of}

-- an open offer as a view shows it: the lots left of it, its agreement and its path
abbrev pub shown : Tables → OpenOffer → Option ViewOffer
shown reference o =
    option_map
    (λ agreement. record { number = o.number; lots = o.left; agreement = agreement; path = path_after reference o.offer })
    (agreement_between reference o.offer.firm o.offer.account)

-- the open offers of a group, in the order of their numbers (each has an agreement, by the law that each offer gives up a trade under one)
abbrev pub offers_shown : Tables → List Entry → Group → List ViewOffer
offers_shown reference history group = filter_map (shown reference) (open_offers (standing_of history) group)

-- the view of a group
abbrev pub group_view : Tables → List Entry → Group → GroupView
group_view reference history group =
    record {
      group = group;
      version = version_of history group;
      offers = offers_shown reference history group;
      rooms = map (λ key. record { key = key; lots = room_of reference history group key }) (keys_of (offers_shown reference history group));
    }

-- the offer with a number, as a view shows it
abbrev pub shown_at : Tables → List Row → ℕ → Option ViewOffer
shown_at reference rows number = option_and_then (shown reference) (open_offer_at rows number)

-- a group's open offers, as a view shows them
abbrev pub offers_in : Tables → List Row → Group → List ViewOffer
offers_in reference rows group = filter_map (shown reference) (open_offers rows group)
