use Rattle.gu_ref.proofs.Words.{ap, option_map, Agreement, Guarantor, same_account, same_firm, by_name, by_names, found_by_own_name}
use Rattle.gu_ref.specs.declared.accounts.Account.{Account}
use Rattle.gu_ref.specs.Rules.{same_pair}
use Rattle.gu_ref.proofs.reference.Reference.rules.Goals as goal

pub returns : goal.returns
returns c =
    let sound = rw c.self.view_is at c.self.invariant in
    record {
      sound = sound;
      carrier = λ row there.
          found_by_own_name (λ a b. same_account a.account b.account) (λ a. (by_name (λ (k : Account). k.account.name)).refl a) c.args.self.now.accounts row sound.once.accounts there;
      partner = λ row there.
          ap (option_map (λ a. a.id)) (found_by_own_name same_pair (λ a. (by_names (λ (k : Agreement). k.executing.name) (λ k. k.account.name)).refl a) c.args.self.now.agreements row sound.once.pairs there);
      guarantor = λ row there.
          ap (option_map (λ g. g.guarantor)) (found_by_own_name (λ a b. same_firm a.firm b.firm) (λ a. (by_name (λ (k : Guarantor). k.firm.name)).refl a) c.args.self.now.guarantors row sound.once.guaranteed there);
    }
