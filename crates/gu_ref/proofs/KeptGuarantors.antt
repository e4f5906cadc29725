-- A guarantor is added under the firm that it guarantees and among the guarantors, or nothing is.
use Rattle.gu_ref.proofs.Words.{◌≡◌, ◌∙◌, sym, refl, ap, Bool, true, false, ◌||◌, List, [], ◌∷◌, ◌++◌, map, None, Result, Ok, Err, OnOk, OnErr, if◌then◌else◌, list_any, keys_of, values_of, is_ok, values, insert_entry, FirmId, Guarantor, IsGuaranteed, has_firm, guarantor_for, is_guarantor_in, same_firm, by_name}
use Rattle.std.proofs.lemmas.List.Folds.{list_any-append}
use Rattle.indexmap.specs.IndexSet.{insert_key}
use Rattle.gu_ref.specs.declared.guarantors.Guarantors.TheInside.{Inside}
use Rattle.gu_ref.proofs.Lookups.{pushed}

or-false : (b : Bool) → (b || false) ≡ b
or-false true = refl
or-false false = refl

or-true : (b : Bool) → (b || true) ≡ true
or-true true = refl
or-true false = refl

-- membership in a list with one more element
any-last : {X : Type 0} (test : X → Bool) (xs : List X) (x : X) → list_any test (xs ++ x ∷ []) ≡ (list_any test xs || test x)
any-last test xs x = list_any-append test xs (x ∷ []) ∙ ap (λ b. list_any test xs || b) (or-false (test x))

-- membership in a set with one more element
inserted_has : (kept : List FirmId) (new firm : FirmId) → has_firm (insert_key same_firm kept new) firm ≡ (has_firm kept firm || same_firm new firm)
inserted_has kept new firm = by (list_any (same_firm new) kept) refl
  where
    old : (c : Bool) → list_any (same_firm new) kept ≡ true → same_firm new firm ≡ c → has_firm kept firm ≡ (has_firm kept firm || c)
    old false e same = sym (or-false (has_firm kept firm))
    old true e same =
        let laws = by_name (λ (f : FirmId). f.name) in
        let has : has_firm kept firm ≡ true = (λ i. list_any (λ f. laws.symm f firm i) kept) ∙ sym (λ i. list_any (λ f. laws.congr new firm f same i) kept) ∙ e in
        has ∙ sym (or-true (has_firm kept firm))

    by : (b : Bool) → list_any (same_firm new) kept ≡ b → has_firm (if b then kept else kept ++ new ∷ []) firm ≡ (has_firm kept firm || same_firm new firm)
    by true e = old (same_firm new firm) e refl
    by false e = any-last (λ f. same_firm f firm) kept new

pub add-keeps : {T E : Type 0} (old new : Inside) (rows : List Guarantor) (g : Guarantor) (result : Result T E)
    → values old.rows ≡ rows → IsGuaranteed old → guarantor_for rows g.firm ≡ None
    → OnOk result (new.rows.entries ≡ insert_entry same_firm old.rows.entries g.firm g)
    → OnOk result (new.guarantors.keys ≡ insert_key same_firm old.guarantors.keys g.guarantor)
    → OnErr result ((new.rows.entries ≡ old.rows.entries) × (new.guarantors.keys ≡ old.guarantors.keys))
    → IsGuaranteed new × (values new.rows ≡ (if is_ok result then rows ++ g ∷ [] else rows))
add-keeps old new rows g (Ok x) view kept none named guarding err =
    let one = pushed same_firm (by_name (λ k. k.name)) (λ (r : Guarantor). r.firm) old.rows rows g new.rows.entries view kept.named none named in (
      record {
        named = one.0;
        alike = λ firm.
            ap (λ keys. has_firm keys firm) guarding
            ∙ inserted_has old.guarantors.keys g.guarantor firm
            ∙ ap (λ b. b || same_firm g.guarantor firm) (kept.alike firm ∙ ap (λ rs. is_guarantor_in rs firm) view)
            ∙ sym (any-last (λ r. same_firm r.guarantor firm) rows g)
            ∙ sym (ap (λ rs. is_guarantor_in rs firm) one.1);
      },
      one.1,
    )
add-keeps old new rows g (Err e) view kept none named guarding err =
    let same : values new.rows ≡ values old.rows = ap values_of err.0 in (
      record {
        named = ap keys_of err.0 ∙ kept.named ∙ sym (ap (map (λ (r : Guarantor). r.firm)) same);
        alike = λ firm. ap (λ keys. has_firm keys firm) err.1 ∙ kept.alike firm ∙ sym (ap (λ rs. is_guarantor_in rs firm) same);
      },
      same ∙ view,
    )
