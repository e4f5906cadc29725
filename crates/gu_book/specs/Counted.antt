-- Machinery: versions as stored: the number of days opened, and the number of other entries that touched each group.
use Rattle.std.specs.Prelude.{◌≡◌, ℕ, ◌+◌, ◌≤◌, Bool, true, false, List, length, slice_get, Some, unwrap_or}
use Rattle.indexmap.specs.IndexMap.{get, values}
use Rattle.gu_terms.specs.Same.{same_group}
use Rattle.gu_terms.specs.declared.entry.Entry.{Entry}
use Rattle.gu_terms.specs.declared.group.Group.{Group}
use Rattle.gu_rules.specs.Versions.{version_of}
use Rattle.gu_book.specs.declared.versions.Touched.{Touched}
use Rattle.gu_book.specs.declared.versions.Touched.TheVariants.{Nothing, Only, Every}
use Rattle.gu_book.specs.declared.versions.Versions.{Versions}

-- the number of entries that touched a group, apart from openings
abbrev pub own_in : Versions → Group → ℕ
own_in versions group = unwrap_or (get same_group versions.own group) 0

-- the version of a group: that number plus the number of days opened
abbrev pub version_in : Versions → Group → ℕ
version_in versions group = versions.days + own_in versions group

-- a group has a count, and it is at this index
pub record IsCountAt (versions : Versions) (place : ℕ) (group : Group) : Type 0 where
  pub count : ℕ
  pub here : slice_get versions.own.entries place ≡ Some (group, count)
  pub own : get same_group versions.own group ≡ Some count
  pub written : slice_get (values versions.own) place ≡ Some count

-- the counts give the versions after a history
pub record AreVersions (history : List Entry) (versions : Versions) : Type 0 where
  pub each : (group : Group) → version_in versions group ≡ version_of history group
  pub days : versions.days ≤ length history

-- a group is among those that are touched
abbrev pub is_touched : Touched → Group → Bool
is_touched Nothing group = false
is_touched (Only at) group = same_group at group
is_touched Every group = true

-- a group that alone is touched has a count at this index
abbrev pub HasCounts : Versions → ℕ → Touched → Type 0
HasCounts versions place Nothing = Unit {0}
HasCounts versions place (Only group) = IsCountAt versions place group
HasCounts versions place Every = Unit {0}
