-- The agreement between a firm and an account is the one found by its name, and its path goes through the firm that carries the account.
use Rattle.gu_limits.proofs.Words.{◌≡◌, ◌∙◌, sym, refl, ap, subst, is_some, Bool, true, false, cond, List, [], ◌∷◌, Option, None, Some, AllByRecursion, IsDistinct, find, option_and_then, option_map, same_account-true, same_firm-true, same_account, same_agreement, same_firm, AgreementId}
use Rattle.std.proofs.lemmas.Cmp.{nat_list_eq_equiv}
use Rattle.gu_terms.proofs.SameValues.{both}
use Rattle.gu_terms.specs.declared.account.AccountId.{AccountId}
use Rattle.gu_terms.specs.declared.firm.FirmId.{FirmId}
use Rattle.gu_terms.specs.Paths.{path_through}
use Rattle.gu_ref.specs.Listed.{agreement_for, is_between}
use Rattle.gu_ref.specs.Reference.{account_row, agreement_between, agreement_row, guarantor_of, partner_between}
use Rattle.gu_ref.specs.Rules.{IsSound}
use Rattle.gu_ref.specs.Tables.{Tables}
use Rattle.gu_ref.specs.declared.accounts.Account.{Account}
use Rattle.gu_ref.specs.declared.agreements.Agreement.{Agreement}
use Rattle.gu_ref.specs.declared.partner.Partner.{Partner}
use Rattle.gu_limits.specs.Paths.{path_of}
use Rattle.gu_limits.proofs.CarriedAccounts.{account_is_there}

-- what is found passes the test of the search
found_passes : {X : Type 0} (wanted : X → Bool) (rows : List X) (row : X) → find wanted rows ≡ Some row → wanted row ≡ true
found_passes wanted [] row found = cc
found_passes wanted (first ∷ rows) row found = by (wanted first) refl (found_passes wanted rows row) found
  where
    by : (is : Bool) → wanted first ≡ is → (find wanted rows ≡ Some row → wanted row ≡ true) → cond is (Some first) (find wanted rows) ≡ Some row → wanted row ≡ true
    by true e later h = let same : first ≡ row = cc in ap wanted (sym same) ∙ e
    by false e later h = later h

-- and has every property of all rows
found_is : {X : Type 0} (P : X → Type 0) (wanted : X → Bool) (rows : List X) (row : X) → AllByRecursion P rows → find wanted rows ≡ Some row → P row
found_is P wanted [] row all found = cc
found_is P wanted (first ∷ rows) row all found = by (wanted first) (found_is P wanted rows row all.1) found
  where
    by : (is : Bool) → (find wanted rows ≡ Some row → P row) → cond is (Some first) (find wanted rows) ≡ Some row → P row
    by true later h = let same : first ≡ row = cc in subst P same all.0
    by false later h = later h

-- if no two rows have the same name, a row that is found is found by its name too
found_by_name : {X : Type 0} (same : X → X → Bool) → ((x : X) → same x x ≡ true) → (wanted : X → Bool) (rows : List X) (row : X) → IsDistinct same rows → find wanted rows ≡ Some row
    → find (λ x. same x row) rows ≡ Some row
unfolding IsDistinct
found_by_name same own wanted [] row apart found = cc
found_by_name {X} same own wanted (first ∷ rows) row apart found =
    by (wanted first) (λ h. rw (found_is (λ x. same first x ≡ false) wanted rows row apart.0 h) (found_by_name same own wanted rows row apart.1 h)) found
  where
    by : (is : Bool) → (find wanted rows ≡ Some row → find (λ x. same x row) (first ∷ rows) ≡ Some row) → cond is (Some first) (find wanted rows) ≡ Some row
        → find (λ x. same x row) (first ∷ rows) ≡ Some row
    by true later h = let one : first ≡ row = cc in rw (one, own row) refl
    by false later h = later h

-- the row of the agreement between a firm and an account
pub row_between : (reference : Tables) → IsSound reference → (executing : FirmId) (account : AccountId) (id : AgreementId) → agreement_between reference executing account ≡ Some id
    → agreement_row reference id ≡ Some (record { id = id; executing = executing; account = account })
row_between reference sound executing account id between = by (agreement_for reference.agreements executing account) refl between
  where
    by : (found : Option Agreement) → agreement_for reference.agreements executing account ≡ found → option_map (λ (a : Agreement). a.id) found ≡ Some id
        → agreement_row reference id ≡ Some (record { id = id; executing = executing; account = account })
    by None e h = cc
    by (Some a) e h =
        let name : a.id ≡ id = cc in
        let parties = both (same_firm a.executing executing) (same_account a.account account) (found_passes (is_between executing account) reference.agreements a e) in
        let own = found_by_name (λ (x y : Agreement). same_agreement x.id y.id) (λ x. nat_list_eq_equiv.refl x.id.name) (is_between executing account) reference.agreements a sound.once.agreements e in
        let firm = same_firm-true a.executing executing parties.0 in
        let its = same_account-true a.account account parties.1 in
        ap (agreement_row reference) (sym name) ∙ own ∙ (λ i. Some (let it : Agreement = record { id = name i; executing = firm i; account = its i } in it))

abbrev partner : AgreementId → FirmId → Partner
partner agreement carrying = record { agreement = agreement; carrying = carrying }

-- if a firm has an agreement for an account, the account is in the reference
pub carried_between : (reference : Tables) → IsSound reference → (executing : FirmId) (account : AccountId) (id : AgreementId) → agreement_between reference executing account ≡ Some id
    → is_some (account_row reference account) ≡ true
carried_between reference sound executing account id between = account_is_there reference sound id _ (row_between reference sound executing account id between)

-- the agreement comes with the firm that carries the account
pub partner-none : (reference : Tables) → IsSound reference → (executing : FirmId) (account : AccountId) → partner_between reference executing account ≡ None
    → agreement_between reference executing account ≡ None
partner-none reference sound executing account none = by (agreement_between reference executing account) refl (account_row reference account) refl none
  where
    by : (id : Option AgreementId) → agreement_between reference executing account ≡ id → (row : Option Account) → account_row reference account ≡ row
        → option_and_then (λ agreement. option_map (λ (row : Account). partner agreement row.firm) row) id ≡ None → agreement_between reference executing account ≡ None
    by None e row f h = e
    by (Some id) e None f h = let never : true ≡ false = sym (carried_between reference sound executing account id e) ∙ ap is_some f in cc
    by (Some id) e (Some row) f h = cc

-- it is that agreement, and its path goes through that firm
pub partner-path : (reference : Tables) → IsSound reference → (executing : FirmId) (account : AccountId) (p : Partner) → partner_between reference executing account ≡ Some p
    → (agreement_between reference executing account ≡ Some p.agreement)
    × (path_of reference p.agreement ≡ Some (path_through executing p.agreement account p.carrying (guarantor_of reference p.carrying)))
partner-path reference sound executing account p is = by (agreement_between reference executing account) refl (account_row reference account) refl is
  where
    by : (id : Option AgreementId) → agreement_between reference executing account ≡ id → (row : Option Account) → account_row reference account ≡ row
        → option_and_then (λ agreement. option_map (λ (row : Account). partner agreement row.firm) row) id ≡ Some p
        → (agreement_between reference executing account ≡ Some p.agreement)
        × (path_of reference p.agreement ≡ Some (path_through executing p.agreement account p.carrying (guarantor_of reference p.carrying)))
    by None e row f h = cc
    by (Some id) e None f h = cc
    by (Some id) e (Some row) f h =
        let one : partner id row.firm ≡ p = cc in
        subst (λ (p : Partner). (agreement_between reference executing account ≡ Some p.agreement)
        × (path_of reference p.agreement ≡ Some (path_through executing p.agreement account p.carrying (guarantor_of reference p.carrying))))
        one
        (e, rw (row_between reference sound executing account id e, f) refl)
