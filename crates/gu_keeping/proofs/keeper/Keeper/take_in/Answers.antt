use Rattle.gu_keeping.proofs.Words.{◌++◌, ◌∙◌, List, ap, sym, subst, Entry, IsChainOf, kept_entries}
use Rattle.gu_keeping.proofs.Keepers.{kept_stays, parts_more}
use Rattle.gu_keeping.proofs.keeper.Keeper.take_in.Goals as goal

pub invariant_of-self : goal.invariant_of-self
invariant_of-self g c =
    let self = c.args.self.now in
    let grown = c.entries_from.ensures.grown in
    let more = grown.0 in
    record {
      parts =
          grown.1
          ∙ parts_more self.chain self.front self.waiting.items more self.parts self.chained
          ∙ ap (λ (l : List Entry). kept_entries self.chain l ++ (self.waiting.items ++ more)) (sym grown.1)
          ∙ ap (λ (l : List Entry). kept_entries self.chain c.entries_from.new.front ++ l) (sym grown.2);
      chained =
          subst (λ (l : List Entry). IsChainOf self.chain l)
          (sym (kept_stays self.chain self.front self.waiting.items more self.parts self.chained) ∙ ap (λ (l : List Entry). kept_entries self.chain l) (sym grown.1))
          self.chained;
      few = c.entries_from.ensures.within;
    }

pub returns-clause-kept : goal.returns-clause-kept
returns-clause-kept g c =
    let self = c.args.self.now in
    let grown = c.entries_from.ensures.grown in
    ap (λ (l : List Entry). kept_entries self.chain l) grown.1 ∙ kept_stays self.chain self.front self.waiting.items grown.0 self.parts self.chained
