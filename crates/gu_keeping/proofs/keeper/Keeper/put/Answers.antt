use Rattle.gu_keeping.proofs.Words.{◌++◌, ◌∙◌, List, ap, sym, subst, take, Entry, IsChainOf, chain_after, kept_entries, Chain}
use Rattle.gu_keeping.proofs.Keepers.{chained_on, kept_on, parts_on}
use Rattle.gu_keeping.proofs.keeper.Keeper.put.Goals as goal

pub invariant_of-result : goal.invariant_of-result
invariant_of-result g c =
    let self = c.args.self in
    let count = c.args.count in
    record {
      parts =
          parts_on self.chain self.front self.waiting.items count self.parts self.chained
          ∙ ap (λ (l : List Entry). kept_entries (chain_after self.chain (take count self.waiting.items)) self.front ++ l) (sym c.drop_first.ensures)
          ∙ ap (λ (chain : Chain). kept_entries chain self.front ++ c.drop_first.new.entries.items) (sym c.requires.chain);
      chained =
          subst (λ (chain : Chain). IsChainOf chain (kept_entries chain self.front)) (sym c.requires.chain)
          (chained_on self.chain self.front self.waiting.items count self.parts self.chained);
      few = self.few;
    }

pub returns-in-Ok-clause-entries : goal.returns-in-Ok-clause-entries
returns-in-Ok-clause-entries g c =
    let self = c.args.self in
    ap (λ (chain : Chain). kept_entries chain self.front) c.requires.chain ∙ kept_on self.chain self.front self.waiting.items c.args.count self.parts self.chained
