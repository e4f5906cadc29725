-- An agreement is added under its name and its pair, or nothing is.
use Rattle.gu_ref.proofs.Words.{◌≡◌, ◌∙◌, sym, ap, ◌&&◌, List, [], ◌∷◌, ◌++◌, map, None, Result, Ok, Err, OnOk, OnErr, Bool, if◌then◌else◌, is_ok, values, insert_entry, keys_of, values_of, Agreement, IsKept, pair_of, agreement_in, agreement_for, same_agreement, same_firm, same_account, by_name, by_names}
use Rattle.gu_ref.specs.declared.agreements.Agreements.TheInside.{Inside}
use Rattle.gu_ref.specs.declared.agreements.Pair.{Pair}
use Rattle.gu_ref.proofs.Lookups.{pushed}

-- the same pair
abbrev pub same_pair : Pair → Pair → Bool
same_pair a b = same_firm a.executing b.executing && same_account a.account b.account

pub add-keeps : {T E : Type 0} (old new : Inside) (rows : List Agreement) (a : Agreement) (result : Result T E)
    → values old.rows ≡ rows → IsKept old → agreement_in rows a.id ≡ None → agreement_for rows a.executing a.account ≡ None
    → OnOk result (new.rows.entries ≡ insert_entry same_agreement old.rows.entries a.id a)
    → OnOk result (new.pairs.entries ≡ insert_entry same_pair old.pairs.entries (pair_of a) a)
    → OnErr result ((new.rows.entries ≡ old.rows.entries) × (new.pairs.entries ≡ old.pairs.entries))
    → IsKept new × (values new.rows ≡ (if is_ok result then rows ++ a ∷ [] else rows))
add-keeps old new rows a (Ok x) view kept name pair named paired err =
    let one = pushed same_agreement (by_name (λ k. k.name)) (λ (r : Agreement). r.id) old.rows rows a new.rows.entries view kept.named name named in
    let two = pushed same_pair (by_names (λ p. p.executing.name) (λ p. p.account.name)) pair_of old.pairs rows a new.pairs.entries (kept.alike ∙ view) kept.paired pair paired in
    (record { named = one.0; paired = two.0; alike = two.1 ∙ sym one.1 }, one.1)
add-keeps old new rows a (Err e) view kept name pair named paired err =
    let one : values new.rows ≡ values old.rows = ap values_of err.0 in
    let two : values new.pairs ≡ values old.pairs = ap values_of err.1 in (
      record {
        named = ap keys_of err.0 ∙ kept.named ∙ sym (ap (map (λ (r : Agreement). r.id)) one);
        paired = ap keys_of err.1 ∙ kept.paired ∙ sym (ap (map pair_of) two);
        alike = two ∙ kept.alike ∙ sym one;
      },
      one ∙ view,
    )
