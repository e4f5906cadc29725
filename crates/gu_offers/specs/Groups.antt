-- Machinery: the open offers of product groups, as stored.
use Rattle.std.specs.Prelude.{ℕ, List, []}
use Rattle.std.specs.Option.{option_map_or}
use Rattle.indexmap.specs.IndexMap.{get}
use Rattle.gu_terms.specs.declared.group.Group.{Group}
use Rattle.gu_terms.specs.Same.{same_group}
use Rattle.gu_offers.specs.declared.groups.Groups.{Groups}

-- the numbers of a group; none if it has no list
abbrev pub numbers_in : Groups → Group → List ℕ
numbers_in groups group = option_map_or (λ v. v.items) (get same_group groups.numbers group) []
