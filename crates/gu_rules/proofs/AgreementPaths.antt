-- The path of each agreement of a reference, and the keys on it.
use Rattle.gu_rules.proofs.Words.{◌≡◌, ◌&&◌, Bool, true, false, not, is_none, List, [], ◌∷◌, Option, Some, None, is_some, unwrap_or, subst, refl, sym, ap, ◌∙◌, inl, inr, AllByRecursion, IsDistinct, find, option_and_then, option_map, cases_Bool, recursion_from_All, along, both, key_eq, same_agreement, AccountId, AgreementId, FirmId, LimitKey, Line, Offer as GivenUp, path_of, agreement_for, account_row, agreement_between, agreement_row, guarantor_of, is_firm, IsSound, Tables, Account, has_unknown_account, lacks_agreement, path_after}
use Rattle.std.proofs.lemmas.Cmp.{nat_list_eq_equiv}
use Rattle.gu_terms.specs.Paths.{path_through}
use Rattle.gu_limits.proofs.PathKeys.{kinds_differ}
use Rattle.gu_limits.proofs.RowsBetween.{carried_between}
use Rattle.gu_ref.specs.declared.agreements.Agreement.{Agreement}
use Rattle.gu_rules.proofs.Facts.{some-is}
use Rattle.gu_rules.proofs.KnownOnes.{all-found}

-- the accounts of all agreements are in the reference
accounts_there : (reference : Tables) → IsSound reference → AllByRecursion (λ (a : Agreement). is_some (account_row reference a.account) ≡ true) reference.agreements
accounts_there reference sound =
    let known : Agreement → Bool = λ a. is_firm reference a.executing && is_some (account_row reference a.account) in
    along (λ (a : Agreement). known a ≡ true) (λ (a : Agreement). is_some (account_row reference a.account) ≡ true) reference.agreements
    (λ a h. (both (is_firm reference a.executing) (is_some (account_row reference a.account)) h).1)
    (recursion_from_All (λ (a : Agreement). known a ≡ true) reference.agreements sound.parties)

-- the name of an agreement that is found finds one
named : (agreements : List Agreement) (wanted : Agreement → Bool) (a : Agreement) → find wanted agreements ≡ Some a → is_some (find (λ (b : Agreement). same_agreement b.id a.id) agreements) ≡ true
named [] wanted a found = cc
named (first ∷ agreements) wanted a found =
    elim (cases_Bool (same_agreement first.id a.id)) [
      | inl hit ↦ rw hit refl
      | inr miss ↦ elim (cases_Bool (wanted first)) [
        | inl here ↦
            let at : Some first ≡ Some a = sym (rw here refl) ∙ found in
            let one : first ≡ a = cc in
            let own : same_agreement first.id a.id ≡ true = ap (λ (b : Agreement). same_agreement b.id a.id) one ∙ nat_list_eq_equiv.refl a.id.name in cc
        | inr other ↦
            let later : find wanted agreements ≡ Some a = sym (rw other refl) ∙ found in
            rw miss (named agreements wanted a later)
      ]
    ]

path_made : (reference : Tables) (id : AgreementId) (a : Agreement) (c : Account) → agreement_row reference id ≡ Some a → account_row reference a.account ≡ Some c
    → path_of reference id ≡ Some (path_through a.executing id a.account c.firm (guarantor_of reference c.firm))
path_made reference id a c found there = rw (found, there) refl

-- each agreement between a firm and an account has a path
pub path-there : (reference : Tables) → IsSound reference → (firm : FirmId) (account : AccountId) (id : AgreementId) → agreement_between reference firm account ≡ Some id
    → (path : List LimitKey) × (path_of reference id ≡ Some path)
path-there reference sound firm account id between = by (agreement_for reference.agreements firm account) refl between
  where
    by : (found : Option Agreement) → agreement_for reference.agreements firm account ≡ found → option_map (λ (a : Agreement). a.id) found ≡ Some id → (path : List LimitKey) × (path_of reference id ≡ Some path)
    by None e h = cc
    by (Some a) e h =
        let same : a.id ≡ id = cc in
        let there : is_some (agreement_row reference id) ≡ true =
        ap (λ (name : AgreementId). is_some (agreement_row reference name)) (sym same) ∙ named reference.agreements _ a e in
        let row = some-is (agreement_row reference id) there in
        let carried = some-is (account_row reference row.0.account) (all-found (λ (b : Agreement). is_some (account_row reference b.account) ≡ true) (λ (b : Agreement). same_agreement b.id id) reference.agreements row.0 (accounts_there reference sound) row.1) in
        (path_through row.0.executing id row.0.account carried.0.firm (guarantor_of reference carried.0.firm), path_made reference id row.0 carried.0 row.1 carried.1)

-- the keys on a path: an account is carried by one firm, and a firm has at most one guarantor
pub record GoesThrough (reference : Tables) (id : AgreementId) (path : List LimitKey) : Type 0 where
  pub executing : FirmId
  pub account : AccountId
  pub carried : Account
  pub there : account_row reference account ≡ Some carried
  pub is : path ≡ path_through executing id account carried.firm (guarantor_of reference carried.firm)

pub goes_through : (reference : Tables) (id : AgreementId) (path : List LimitKey) → path_of reference id ≡ Some path → GoesThrough reference id path
goes_through reference id path at = by (agreement_row reference id) refl at
  where
    by : (found : Option Agreement) → agreement_row reference id ≡ found
        → option_and_then {U = List LimitKey} (λ a. option_map {U = List LimitKey} (λ c. path_through a.executing id a.account c.firm (guarantor_of reference c.firm)) (account_row reference a.account)) found ≡ Some path → GoesThrough reference id path
    by None e h = cc
    by (Some a) e h = of (account_row reference a.account) refl h
      where
        of : (carried : Option Account) → account_row reference a.account ≡ carried
            → option_map {U = List LimitKey} (λ c. path_through a.executing id a.account c.firm (guarantor_of reference c.firm)) carried ≡ Some path → GoesThrough reference id path
        of None e h = cc
        of (Some c) e h = let same : path_through a.executing id a.account c.firm (guarantor_of reference c.firm) ≡ path = cc in record { executing = a.executing; account = a.account; carried = c; there = e; is = sym same }

-- it names each key once
no_keys : IsDistinct key_eq []
unfolding IsDistinct
no_keys = tt

pub path_after-once : (reference : Tables) (offer : GivenUp) → IsDistinct key_eq (path_after reference offer)
path_after-once reference offer = by (agreement_between reference offer.firm offer.account)
  where
    by : (between : Option AgreementId) → IsDistinct key_eq (unwrap_or (option_and_then (path_of reference) between) [])
    by None = no_keys
    by (Some id) = of (path_of reference id) refl
      where
        of : (found : Option (List LimitKey)) → path_of reference id ≡ found → IsDistinct key_eq (unwrap_or found [])
        of None e = no_keys
        of (Some path) e =
            let goes = goes_through reference id path e in
            subst (IsDistinct key_eq) (sym goes.is) (kinds_differ goes.executing id goes.account goes.carried.firm (guarantor_of reference goes.carried.firm))

-- if a firm has an agreement for each line, the account of each is in the reference
pub accounts-known : (reference : Tables) → IsSound reference → (firm : FirmId) (lines : List Line) → lacks_agreement reference firm lines ≡ false → has_unknown_account reference lines ≡ false
accounts-known reference sound firm [] none = refl
accounts-known reference sound firm (line ∷ lines) none = by (agreement_between reference firm line.account) refl (accounts-known reference sound firm lines)
  where
    by : (id : Option AgreementId) → agreement_between reference firm line.account ≡ id → (lacks_agreement reference firm lines ≡ false → has_unknown_account reference lines ≡ false)
        → has_unknown_account reference (line ∷ lines) ≡ false
    by None e others = let never : true ≡ false = rw e at none in cc
    by (Some id) e others =
        let there : is_some (account_row reference line.account) ≡ true = carried_between reference sound firm line.account id e in
        let rest : lacks_agreement reference firm lines ≡ false = rw e at none in
        let known : is_none (account_row reference line.account) ≡ false = ap not there in
        rw known (others rest)
