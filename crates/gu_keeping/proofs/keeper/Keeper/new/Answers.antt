use Rattle.gu_keeping.proofs.Words.{◌++◌, ◌∙◌, List, sym, ap, subst, append-nil, Entry, IsChainOf, kept_entries}
use Rattle.gu_keeping.proofs.Keepers.{kept_all}
use Rattle.gu_keeping.proofs.keeper.Keeper.new.Goals as goal

pub invariant_of-result : goal.invariant_of-result
invariant_of-result g c =
    let all = kept_all c.args.chain c.args.front c.requires.chain in
    record {
      parts = sym all ∙ sym (append-nil (kept_entries c.args.chain c.args.front)) ∙ ap (λ (l : List Entry). kept_entries c.args.chain c.args.front ++ l) (sym c.new.ensures.items);
      chained = subst (λ (l : List Entry). IsChainOf c.args.chain l) (sym all) c.requires.chain;
      few = c.requires.few;
    }

pub returns-clause-kept : goal.returns-clause-kept
returns-clause-kept g c = kept_all c.args.chain c.args.front c.requires.chain
