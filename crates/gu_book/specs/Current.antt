-- Machinery: whether a view is its group's, from the totals.
use Rattle.std.specs.Prelude.{◌≡◌, List, All}
use Rattle.std.specs.List.{filter_map}
use Rattle.gu_ref.specs.Tables.{Tables}
use Rattle.gu_limits.specs.Limits.{GroupLimit, room_in}
use Rattle.gu_offers.specs.Rows.{open_numbers}
use Rattle.gu_terms.specs.declared.group.Group.{Group}
use Rattle.gu_view.specs.View.{GroupView}
use Rattle.gu_view.specs.declared.view.Room.{Room}
use Rattle.gu_rules.specs.Views.{shown_at}
use Rattle.gu_book.specs.declared.totals.Totals.{Totals}

-- each room is the room of its key in the group
abbrev pub HasRooms : List GroupLimit → Group → List Room → Type 0
HasRooms limits group rooms = All (λ r. r.lots ≡ room_in limits group r.key) rooms

-- a view shows the open offers of its group, and each room as it is now
pub record ShowsAll (reference : Tables) (totals : Totals) (view : GroupView) : Type 0 where
  pub offers : view.offers ≡ filter_map (shown_at reference totals.offers) (open_numbers totals.offers view.group)
  pub rooms : HasRooms totals.limits view.group view.rooms
