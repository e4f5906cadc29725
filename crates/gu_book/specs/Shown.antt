-- Machinery: views, made from the totals.
use Rattle.std.specs.Prelude.{◌≡◌, List, Some, map}
use Rattle.gu_terms.specs.declared.group.Group.{Group}
use Rattle.gu_terms.specs.declared.limit_key.LimitKey.{LimitKey}
use Rattle.gu_ref.specs.Reference.{agreement_between}
use Rattle.gu_ref.specs.Tables.{Tables}
use Rattle.gu_limits.specs.Limits.{GroupLimit, room_in}
use Rattle.gu_limits.specs.Paths.{path_of}
use Rattle.gu_view.specs.View.{GroupView, keys_of}
use Rattle.gu_view.specs.declared.view.Room.{Room}
use Rattle.gu_rules.specs.Views.{offers_in}
use Rattle.gu_book.specs.Counted.{version_in}
use Rattle.gu_book.specs.declared.showing.Way.{Way}
use Rattle.gu_book.specs.declared.totals.Totals.{Totals}
use Rattle.gu_book.specs.declared.versions.Versions.{Versions}

-- an agreement is between its firm and its account, and has this path
pub record IsWay (reference : Tables) (way : Way) : Type 0 where
  pub between : agreement_between reference way.firm way.account ≡ Some way.agreement
  pub path : path_of reference way.agreement ≡ Some way.path

-- the rooms of these keys in a group
abbrev pub rooms_in : List GroupLimit → Group → List LimitKey → List Room
rooms_in limits group keys = map (λ key. record { key = key; lots = room_in limits group key }) keys

-- the view of a group, made from the totals and versions
abbrev pub view_in : Tables → Totals → Versions → Group → GroupView
view_in reference totals versions group =
    record {
      group = group;
      version = version_in versions group;
      offers = offers_in reference totals.offers group;
      rooms = rooms_in totals.limits group (keys_of (offers_in reference totals.offers group));
    }
