use Rattle.std.proofs.Common.{ap, ◌∙◌}
use Rattle.indexmap.specs.IndexSet.{insert_key}
use Rattle.gu_terms.proofs.CutLemmas.{insert_next}
use Rattle.gu_terms.specs.contracts.limit_key.LimitKeyEq.TheImpl.Laws as laws
use Rattle.gu_terms.specs.contracts.limit_key.LimitKeyPartialEq.TheImpl as test
use Rattle.gu_terms.proofs.cut.set_of_keys.Goals as goal

pub loop-key-preserved : goal.loop-key-preserved
loop-key-preserved c =
    c.in_ok-insert_full.ensures.keys
    ∙ ap (λ keys. insert_key test.eq-value.it keys c.key-item.result) c.loop-key.invariant
    ∙ insert_next laws.laws-law c.args.keys.now c.loop-key.key-index c.key-item.result c.loop-key-test.true c.key-item.is c.requires
