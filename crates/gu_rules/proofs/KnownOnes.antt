-- Elements found in a list with a property of each, and accounts in the reference.
use Rattle.gu_rules.proofs.Words.{◌≡◌, true, is_some, Bool, List, [], ◌∷◌, Some, refl, sym, ◌∙◌, subst, inl, inr, false, filter, if◌then◌else◌, Option, None, is_none, cases_Bool, AllByRecursion, find, AccountId, account_row, Tables}

-- an account is in the reference
abbrev pub is_there : Tables → AccountId → Type 0
is_there reference account = is_some (account_row reference account) ≡ true

-- a property of each element is one of the element found
pub all-found : {X : Type 0} (P : X → Type 0) (test : X → Bool) (xs : List X) (x : X) → AllByRecursion P xs → find test xs ≡ Some x → P x
all-found P test [] x all is = cc
all-found {X} P test (first ∷ xs) x all is =
    elim (cases_Bool (test first)) [
      | inl hit ↦
          let here : Some first ≡ Some x = sym (rw hit refl) ∙ is in
          let same : first ≡ x = cc in
          subst P same all.0
      | inr miss ↦
          let there : find test xs ≡ Some x = sym (rw miss refl) ∙ is in
          all-found P test xs x all.1 there
    ]

-- and of the elements that pass a test
pub all-passing : {X : Type 0} (P : X → Type 0) (test : X → Bool) (xs : List X) → AllByRecursion P xs → AllByRecursion P (filter test xs)
all-passing P test [] all = tt
all-passing {X} P test (x ∷ xs) all = by (test x) (all-passing P test xs all.1)
  where
    by : (b : Bool) → AllByRecursion P (filter test xs) → AllByRecursion P (if b then x ∷ filter test xs else filter test xs)
    by true rest = (all.0, rest)
    by false rest = rest

pub some-not-none : {X : Type 0} (found : Option X) → is_none found ≡ false → is_some found ≡ true
some-not-none None e = cc
some-not-none (Some x) e = refl
