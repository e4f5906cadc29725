use Rattle.gu_rules.proofs.Ascending.{least_given, tests_ascend}
use Rattle.gu_rules.proofs.laws.the_least_refusal_is_given.Goals as goal

pub returns : goal.returns
returns c = record { ascend = tests_ascend; least = least_given }
