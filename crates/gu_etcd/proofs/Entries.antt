-- The desk and the batch of an entry.
use Rattle.std.proofs.Common.{◌≡◌, List, [], ◌∷◌, ◌++◌, ◌+◌, ◌≤◌, ℕ, length, refl, sym, ◌∙◌, ap, subst, arith, append_assoc, codes}
use Rattle.std.proofs.lemmas.List.{length-append}
use Rattle.gu_journal.specs.declared.sink.TheConstants.{MAX_BATCH}
use Rattle.gu_etcd.specs.declared.name.TheConstants.{MAX_NAME}
use Rattle.gu_etcd.specs.declared.node.TheConstants.{MAX_ENTRY}
use Rattle.gu_etcd.specs.Keys.{IsName}
use Rattle.gu_etcd.specs.Log.{IsOf, desk_line, entry_of}
use Rattle.gu_etcd.specs.Splitting.{Lacks}
use Rattle.gu_etcd.proofs.Splits.{has_it, name_lacks, one_split}

-- what follows the head of an entry
pub after_head : (desk batch : List ℕ) → (desk ++ 10 ∷ []) ++ batch ≡ desk ++ 10 ∷ batch
after_head desk batch = append_assoc desk (10 ∷ []) batch

-- a batch under the name of a desk is short enough for an entry
pub short_entry : (desk batch : List ℕ) → IsName desk → length batch ≤ MAX_BATCH → length (entry_of desk batch) ≤ MAX_ENTRY
short_entry desk batch named short =
    let head : length (codes "# desk ") ≡ 7 = refl in
    let name : MAX_NAME ≡ 64 = refl in
    let most : MAX_ENTRY ≡ MAX_BATCH + 128 = refl in
    omega (arith, head, name, most, named.short, short, length-append (desk_line desk) batch, length-append (codes "# desk ") (desk ++ 10 ∷ []), length-append desk (10 ∷ []))

-- what was made with a name is the entry of the desk with the name
pub entry_is : (text made name desk batch : List ℕ) → text ≡ made → made ≡ entry_of name batch → name ≡ desk → text ≡ entry_of desk batch
entry_is text made name desk batch same is named = same ∙ is ∙ ap (λ (d : List ℕ). entry_of d batch) named

-- it is one of the desk that leads under the name
pub own_entry : (name desk batch entry : List ℕ) → name ≡ desk → entry ≡ entry_of name batch → IsOf desk entry
own_entry name desk batch entry same is = record { batch = batch; is = is ∙ ap (λ (d : List ℕ). entry_of d batch) same }

-- an entry is of one desk
pub one_desk : (a b x y : List ℕ) → IsName a → IsName b → entry_of a x ≡ entry_of b y → (a ≡ b) × (x ≡ y)
one_desk a b x y named_a named_b same =
    let rest : (a ++ 10 ∷ []) ++ x ≡ (b ++ 10 ∷ []) ++ y = cc in
    one_split 10 a b x y (name_lacks a named_a.each) (name_lacks b named_b.each) (sym (after_head a x) ∙ rest ∙ after_head b y)

-- a text is an entry from its parts on
pub entry_from : (text rest desk batch : List ℕ) → text ≡ codes "# desk " ++ rest → rest ≡ desk ++ 10 ∷ batch → text ≡ entry_of desk batch
entry_from text rest desk batch head parts = head ∙ ap (λ (r : List ℕ). codes "# desk " ++ r) (parts ∙ sym (after_head desk batch))

-- and its parts are from an entry on
pub rest_of : (text rest desk batch : List ℕ) → text ≡ codes "# desk " ++ rest → text ≡ entry_of desk batch → rest ≡ desk ++ 10 ∷ batch
rest_of text rest desk batch head is =
    let same : rest ≡ (desk ++ 10 ∷ []) ++ batch = cc in
    same ∙ after_head desk batch

-- no entry has no end of a line after its head
pub no_entry : (text rest desk batch : List ℕ) → text ≡ codes "# desk " ++ rest → Lacks 10 rest → text ≡ entry_of desk batch → ⊥
no_entry text rest desk batch head lacks is =
    has_it 10 desk batch (subst (λ (r : List ℕ). Lacks 10 r) (rest_of text rest desk batch head is) lacks)

-- nor is its desk's name another than the one before the first end of a line
pub name_before : (text rest first last desk batch : List ℕ) → text ≡ codes "# desk " ++ rest → rest ≡ first ++ 10 ∷ last → Lacks 10 first → IsName desk
    → text ≡ entry_of desk batch → IsName first
name_before text rest first last desk batch head parts lacks named is =
    subst (λ (d : List ℕ). IsName d)
    (sym (one_split 10 first desk last batch lacks (name_lacks desk named.each) (sym parts ∙ rest_of text rest desk batch head is)).0) named
