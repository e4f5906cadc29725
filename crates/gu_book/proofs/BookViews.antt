-- The view made from the totals is the view of the history.
use Rattle.gu_book.proofs.Words.{◌≡◌, ◌-◌, List, map, Entry, Group, Tables, keys_of, group_view, offers_in, IsBeside, AreVersions, view_in, Totals, Versions}

pub view-is : (reference : Tables) (history : List Entry) (totals : Totals) (versions : Versions) (group : Group) → IsBeside reference history totals → AreVersions history versions
    → view_in reference totals versions group ≡ group_view reference history group
view-is reference history totals versions group beside counted =
    λ i. record {
      group = group;
      version = counted.each group i;
      offers = offers_in reference (beside.offers i) group;
      rooms = map (λ key. record { key = key; lots = beside.limits group key i - beside.uses group key i }) (keys_of (offers_in reference (beside.offers i) group));
    }
