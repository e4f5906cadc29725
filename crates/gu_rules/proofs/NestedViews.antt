-- Views of the book are nested: an account is carried by one firm, and a firm has at most one guarantor.
use Rattle.gu_rules.proofs.Words.{◌≡◌, ◌||◌, Bool, true, false, List, Option, Some, None, refl, sym, ap, ◌∙◌, All, AllByRecursion, option_map, All-from_recursion, key_eq-refl, along, same_account-true, same_firm-true, has_key, same_account, same_firm, AccountId, AgreementId, FirmId, LimitKey, account_row, guarantor_of, Tables, Account, GoOnAlike, GroupView, IsNested, IsPath, next_key, ViewOffer}
use Rattle.gu_terms.specs.Paths.{path_through}
use Rattle.gu_terms.specs.declared.limit_key.LimitKey.TheVariants.{Acct, Carry, Guar}
use Rattle.gu_rules.proofs.AgreementPaths.{GoesThrough, goes_through}
use Rattle.gu_rules.proofs.ViewLemmas.{HasPath}

last : (b : Bool) → (b || false) ≡ true → b ≡ true
last true e = refl
last false e = cc

-- the account of a path, and the firm that carries it
own_account : (executing : FirmId) (id : AgreementId) (own : AccountId) (carrying : FirmId) (guarantor : Option FirmId) (account : AccountId)
    → has_key (path_through executing id own carrying guarantor) (Acct account) ≡ true → own ≡ account
own_account executing id own carrying None account h = same_account-true own account (last (same_account own account) h)
own_account executing id own carrying (Some firm) account h = same_account-true own account (last (same_account own account) h)

next_account : (executing : FirmId) (id : AgreementId) (own : AccountId) (carrying : FirmId) (guarantor : Option FirmId)
    → next_key (path_through executing id own carrying guarantor) (Acct own) ≡ Some (Carry carrying)
next_account executing id own carrying guarantor = rw (key_eq-refl (Acct own)) refl

-- the carrying firm of a path, and its guarantor
own_carrying : (executing : FirmId) (id : AgreementId) (own : AccountId) (carrying : FirmId) (guarantor : Option FirmId) (firm : FirmId)
    → has_key (path_through executing id own carrying guarantor) (Carry firm) ≡ true → carrying ≡ firm
own_carrying executing id own carrying None firm h = same_firm-true carrying firm (last (same_firm carrying firm) h)
own_carrying executing id own carrying (Some other) firm h = same_firm-true carrying firm (last (same_firm carrying firm) h)

next_carrying : (executing : FirmId) (id : AgreementId) (own : AccountId) (carrying : FirmId) (guarantor : Option FirmId)
    → next_key (path_through executing id own carrying guarantor) (Carry carrying) ≡ option_map (λ firm. Guar firm) guarantor
next_carrying executing id own carrying None = rw (key_eq-refl (Carry carrying)) refl
next_carrying executing id own carrying (Some firm) = rw (key_eq-refl (Carry carrying)) refl

-- an account is followed by the firm in its row
behind_account : (reference : Tables) (id : AgreementId) (path : List LimitKey) → GoesThrough reference id path → (account : AccountId) → has_key path (Acct account) ≡ true
    → (carried : Account) × (account_row reference account ≡ Some carried) × (next_key path (Acct account) ≡ Some (Carry carried.firm))
behind_account reference id path goes account h =
    let guarantor = guarantor_of reference goes.carried.firm in
    let same = own_account goes.executing id goes.account goes.carried.firm guarantor account (ap (λ (p : List LimitKey). has_key p (Acct account)) (sym goes.is) ∙ h) in (
      goes.carried,
      ap (account_row reference) (sym same) ∙ goes.there,
      (λ i. next_key (goes.is i) (Acct (sym same i))) ∙ next_account goes.executing id goes.account goes.carried.firm guarantor,
    )

-- a carrying firm is followed by its guarantor, or nothing
behind_carrying : (reference : Tables) (id : AgreementId) (path : List LimitKey) → GoesThrough reference id path → (firm : FirmId) → has_key path (Carry firm) ≡ true
    → next_key path (Carry firm) ≡ option_map (λ g. Guar g) (guarantor_of reference firm)
behind_carrying reference id path goes firm h =
    let guarantor = guarantor_of reference goes.carried.firm in
    let same = own_carrying goes.executing id goes.account goes.carried.firm guarantor firm (ap (λ (p : List LimitKey). has_key p (Carry firm)) (sym goes.is) ∙ h) in
    (λ i. next_key (goes.is i) (Carry (sym same i))) ∙ next_carrying goes.executing id goes.account goes.carried.firm guarantor
    ∙ ap (λ (f : FirmId). option_map (λ g. Guar g) (guarantor_of reference f)) same

-- two paths continue alike
accounts_alike : (reference : Tables) (a b : ViewOffer) → HasPath reference a → HasPath reference b → (account : AccountId) → GoOnAlike (Acct account) a.path b.path
accounts_alike reference a b mine theirs account in_a in_b =
    let one = behind_account reference a.agreement a.path (goes_through reference a.agreement a.path mine) account in_a in
    let other = behind_account reference b.agreement b.path (goes_through reference b.agreement b.path theirs) account in_b in
    let rows : Some one.0 ≡ Some other.0 = sym one.1 ∙ other.1 in
    let same : one.0 ≡ other.0 = cc in
    one.2 ∙ ap (λ (c : Account). Some (Carry c.firm)) same ∙ sym other.2

carriers_alike : (reference : Tables) (a b : ViewOffer) → HasPath reference a → HasPath reference b → (firm : FirmId) → GoOnAlike (Carry firm) a.path b.path
carriers_alike reference a b mine theirs firm in_a in_b =
    behind_carrying reference a.agreement a.path (goes_through reference a.agreement a.path mine) firm in_a
    ∙ sym (behind_carrying reference b.agreement b.path (goes_through reference b.agreement b.path theirs) firm in_b)

whole : (reference : Tables) (o : ViewOffer) → HasPath reference o → IsPath o
whole reference o mine =
    let goes = goes_through reference o.agreement o.path mine in
    (goes.executing, goes.account, goes.carried.firm, guarantor_of reference goes.carried.firm, goes.is)

-- a view of offers with the paths of their agreements
pub is_nested : (reference : Tables) (view : GroupView) → AllByRecursion (HasPath reference) view.offers → IsNested view
is_nested reference view have = record {
  paths = All-from_recursion IsPath view.offers (along (HasPath reference) IsPath view.offers (whole reference) have);
  carriers = All-from_recursion (λ a. All (λ b. (account : AccountId) → GoOnAlike (Acct account) a.path b.path) view.offers) view.offers
      (along (HasPath reference) (λ a. All (λ b. (account : AccountId) → GoOnAlike (Acct account) a.path b.path) view.offers) view.offers
      (λ a mine. All-from_recursion (λ b. (account : AccountId) → GoOnAlike (Acct account) a.path b.path) view.offers
      (along (HasPath reference) (λ b. (account : AccountId) → GoOnAlike (Acct account) a.path b.path) view.offers (λ b theirs. accounts_alike reference a b mine theirs) have)) have);
  guarantors = All-from_recursion (λ a. All (λ b. (carrying : FirmId) → GoOnAlike (Carry carrying) a.path b.path) view.offers) view.offers
      (along (HasPath reference) (λ a. All (λ b. (carrying : FirmId) → GoOnAlike (Carry carrying) a.path b.path) view.offers) view.offers
      (λ a mine. All-from_recursion (λ b. (carrying : FirmId) → GoOnAlike (Carry carrying) a.path b.path) view.offers
      (along (HasPath reference) (λ b. (carrying : FirmId) → GoOnAlike (Carry carrying) a.path b.path) view.offers (λ b theirs. carriers_alike reference a b mine theirs) have)) have);
}
