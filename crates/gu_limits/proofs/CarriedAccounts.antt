-- The account of each agreement is in the reference.
use Rattle.gu_limits.proofs.Words.{◌≡◌, ◌∙◌, sym, refl, ap, Bool, true, false, cond, ◌&&◌, is_some, List, [], ◌∷◌, Option, None, Some, find, list_all, option_map, AgreementId, same_agreement}
use Rattle.std.proofs.lemmas.List.Sums.{list_all-from_AllPass}
use Rattle.gu_ref.specs.declared.agreements.Agreement.{Agreement}
use Rattle.gu_ref.specs.Reference.{is_firm, account_row, agreement_row}
use Rattle.gu_ref.specs.Rules.{IsSound}
use Rattle.gu_ref.specs.Tables.{Tables}

-- if two tests pass, each passes
left_passes : (a b : Bool) → (a && b) ≡ true → a ≡ true
left_passes true b h = refl
left_passes false b h = h

right_passes : (a b : Bool) → (a && b) ≡ true → b ≡ true
right_passes true b h = h
right_passes false b h = cc

-- an item that is found passes a test that all items pass
found_passes : {X : Type 0} (test wanted : X → Bool) (items : List X) (item : X) → list_all test items ≡ true → find wanted items ≡ Some item → test item ≡ true
found_passes test wanted [] item all found = cc
found_passes test wanted (first ∷ items) item all found =
    let here : first ≡ item → test item ≡ true = λ same. ap test (sym same) ∙ left_passes (test first) (list_all test items) all in
    let later : find wanted items ≡ Some item → test item ≡ true = found_passes test wanted items item (right_passes (test first) (list_all test items) all) in
    elim (wanted first) as (λ is. cond is (Some first) (find wanted items) ≡ Some item → test item ≡ true) [ true ↦ λ e. here cc | false ↦ later ] found

-- the account of an agreement is in the reference
pub account_is_there : (reference : Tables) → IsSound reference → (id : AgreementId) (agreement : Agreement) → agreement_row reference id ≡ Some agreement → is_some (account_row reference agreement.account) ≡ true
account_is_there reference sound id agreement found =
    let known : Agreement → Bool = λ a. is_firm reference a.executing && is_some (account_row reference a.account) in
    right_passes (is_firm reference agreement.executing) (is_some (account_row reference agreement.account))
    (found_passes known (λ a. same_agreement a.id id) reference.agreements agreement (list_all-from_AllPass known reference.agreements sound.parties) found)

-- the image of a row that exists exists
pub is_some-option_map : {X Y : Type 0} (f : X → Y) (row : Option X) → is_some row ≡ true → is_some (option_map f row) ≡ true
is_some-option_map f None there = cc
is_some-option_map f (Some x) there = refl
