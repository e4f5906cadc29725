use Rattle.gu_world.proofs.Words.{drop, take, take-append-drop, equal_views}
use Rattle.gu_world.proofs.laws.equal_versions_are_equal_views.Goals as goal

pub returns : goal.returns
returns c reference history first group legal within same = equal_views reference (take first history) history group (drop first history, take-append-drop first history) legal same
