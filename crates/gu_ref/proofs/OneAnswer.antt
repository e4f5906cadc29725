-- A text has only one list of records, so it is accepted or refused in only one way.
use Rattle.gu_ref.proofs.Words.{◌≡◌, ◌∙◌, sym, refl, ap, ◌⊎◌, inl, inr, ℕ, zero, suc, ◌<◌, ◌≤◌, List, [], ◌∷◌, ◌++◌, length, take, slice_get, None, Some, arith, length-append, AreRecords, Reached, default_config, strip_bom, IsFirstFault, IsReadFrom, fault_at, reference_of, Tables}
use Rattle.std.proofs.lemmas.Bool.{cases_order}
use Rattle.csv.specs.Machine.{next_record}
use Rattle.csv.specs.declared.parser.Config.{Config}
use Rattle.csv.specs.declared.parser.State.{State}
use Rattle.csv.specs.declared.parser.State.TheVariants as st
use Rattle.gu_ref.specs.declared.error.RefFault.{RefFault}
use Rattle.gu_ref.proofs.FileLemmas.{fault_at-last, fault_at-more}

module _ (cfg : Config) where
  -- two readings of a text have the same records as far as both go
  alike : (s : State) (xs : List ℕ) (a b : List (List (List ℕ))) (s1 s2 : State) (y1 y2 : List ℕ) (place : ℕ)
      → Reached cfg s xs a s1 y1 → Reached cfg s xs b s2 y2 → place ≤ length a → place ≤ length b → take place a ≡ take place b
  unfolding Reached
  alike s xs a b s1 s2 y1 y2 zero p q l m = refl
  alike s xs [] b s1 s2 y1 y2 (suc place) p q l m = absurd (omega arith)
  alike s xs (x ∷ a) [] s1 s2 y1 y2 (suc place) p q l m = absurd (omega arith)
  alike s xs (x ∷ a) (y ∷ b) s1 s2 y1 y2 (suc place) p q l m =
      let same : p.0 ≡ q.0 = cc in
      let first : x ≡ y = p.2 ∙ ap (λ r. r.0) same ∙ sym q.2 in
      let rest : Reached cfg p.0.1 p.0.2 b s2 y2 = rw same q.3 in
      rw (first, alike p.0.1 p.0.2 a b s1 s2 y1 y2 place p.3 rest (omega arith) (omega arith)) refl

  -- no reading is longer than the whole text
  longest : (s : State) (xs : List ℕ) (all b : List (List (List ℕ))) (s1 s2 : State) (y1 y2 : List ℕ)
      → Reached cfg s xs all s1 y1 → next_record cfg s1 [] [] y1 ≡ None → Reached cfg s xs b s2 y2 → length b ≤ length all
  unfolding Reached
  longest s xs all [] s1 s2 y1 y2 p e q = omega arith
  longest s xs [] (y ∷ b) s1 s2 y1 y2 p e q = let none : next_record cfg s [] [] xs ≡ None = rw (p.0, p.1) e in cc
  longest s xs (x ∷ all) (y ∷ b) s1 s2 y1 y2 p e q =
      let same : p.0 ≡ q.0 = cc in
      let rest : Reached cfg p.0.1 p.0.2 b s2 y2 = rw same q.3 in
      let shorter : length b ≤ length all = longest p.0.1 p.0.2 all b s1 s2 y1 y2 p.3 e rest in
      omega arith

take_all : {X : Type 0} (xs : List X) → take (length xs) xs ≡ xs
take_all [] = refl
take_all (x ∷ xs) = ap (λ l. x ∷ l) (take_all xs)

-- a text determines its records
one_list : (text : List ℕ) (a b : List (List (List ℕ))) → AreRecords default_config st.StartRecord text a → AreRecords default_config st.StartRecord text b → a ≡ b
one_list text a b p q =
    let la = longest default_config st.StartRecord text b a _ _ _ _ q.2 q.3 p.2 in
    let lb = longest default_config st.StartRecord text a b _ _ _ _ p.2 p.3 q.2 in
    let same : length a ≡ length b = omega arith in
    let upto = alike default_config st.StartRecord text a b _ _ _ _ (length a) p.2 q.2 (omega arith) (omega arith) in
    sym (take_all a) ∙ upto ∙ ap (λ n. take n b) same ∙ take_all b

-- a text determines its reference
pub one_reference : (text : List ℕ) (a b : Tables) → IsReadFrom (Some text) a → IsReadFrom (Some text) b → a ≡ b
one_reference text a b p q =
    p.made ∙ ap reference_of (one_list (strip_bom text) p.records q.records (p.whole text refl) (q.whole text refl)) ∙ sym q.made

get-take : {X : Type 0} (xs : List X) (place : ℕ) → slice_get (take (suc place) xs) place ≡ slice_get xs place
get-take [] place = refl
get-take (x ∷ xs) zero = refl
get-take (x ∷ xs) (suc place) = get-take xs place

take-before : {X : Type 0} (xs : List X) (place : ℕ) → take place (take (suc place) xs) ≡ take place xs
take-before xs zero = refl
take-before [] (suc place) = refl
take-before (x ∷ xs) (suc place) = ap (λ l. x ∷ l) (take-before xs place)

-- the fault at an index depends only on the records up to it
fault-upto : (records : List (List (List ℕ))) (place : ℕ) → fault_at (take (suc place) records) place ≡ fault_at records place
fault-upto records place = rw (get-take records place, take-before records place) refl

-- two readings have the same faults as far as both go
same-fault : (text : List ℕ) (a b : List (List (List ℕ))) (s1 s2 : State) (y1 y2 : List ℕ) (place : ℕ)
    → Reached default_config st.StartRecord text a s1 y1 → Reached default_config st.StartRecord text b s2 y2 → place < length a → place < length b
    → fault_at a place ≡ fault_at b place
same-fault text a b s1 s2 y1 y2 place p q l m =
    let upto = alike default_config st.StartRecord text a b s1 s2 y1 y2 (suc place) p q (omega arith) (omega arith) in
    sym (fault-upto a place) ∙ ap (λ r. fault_at r place) upto ∙ fault-upto b place

-- an accepted text has no fault
pub accepted_or_refused : (text : List ℕ) (reference : Tables) (fault : RefFault) → IsReadFrom (Some text) reference → IsFirstFault (Some text) fault → ⊥
accepted_or_refused text reference fault p q =
    let all = p.whole text refl in
    let some = q.begins text refl in
    let place = length q.before in
    let inside : place < length (q.before ++ q.next ∷ []) = omega (arith, length-append q.before (q.next ∷ [])) in
    let far = longest default_config st.StartRecord (strip_bom text) p.records (q.before ++ q.next ∷ []) _ _ _ _ all.2 all.3 some.2 in
    let same = same-fault (strip_bom text) p.records (q.before ++ q.next ∷ []) _ _ _ _ place all.2 some.2 (omega arith) inside in
    let none : Some fault ≡ None = sym (same ∙ fault_at-last q.before q.next ∙ q.stands) ∙ p.accepted place in
    cc

-- a first fault comes before no other
earlier : (text : List ℕ) (f g : RefFault) (p : IsFirstFault (Some text) f) (q : IsFirstFault (Some text) g) → length p.before < length q.before → ⊥
earlier text f g p q lt =
    let one = p.begins text refl in
    let two = q.begins text refl in
    let place = length p.before in
    let inside : place < length (p.before ++ p.next ∷ []) = omega (arith, length-append p.before (p.next ∷ [])) in
    let further : place < length (q.before ++ q.next ∷ []) = omega (arith, length-append q.before (q.next ∷ [])) in
    let same = same-fault (strip_bom text) (p.before ++ p.next ∷ []) (q.before ++ q.next ∷ []) _ _ _ _ place one.2 two.2 inside further in
    let none : Some f ≡ None = sym p.stands ∙ sym (fault_at-last p.before p.next) ∙ same ∙ fault_at-more q.before q.next place lt ∙ q.accepted place in
    cc

-- a text has only one first fault
pub one_fault : (text : List ℕ) (f g : RefFault) → IsFirstFault (Some text) f → IsFirstFault (Some text) g → f ≡ g
one_fault text f g p q = by (cases_order (length p.before) (length q.before))
  where
    by : (length p.before ≡ length q.before) ⊎ ((length p.before < length q.before) ⊎ (length q.before < length p.before)) → f ≡ g
    by (inl e) =
        let one = p.begins text refl in
        let two = q.begins text refl in
        let place = length p.before in
        let inside : place < length (p.before ++ p.next ∷ []) = omega (arith, length-append p.before (p.next ∷ [])) in
        let further : place < length (q.before ++ q.next ∷ []) = omega (arith, length-append q.before (q.next ∷ [])) in
        let same = same-fault (strip_bom text) (p.before ++ p.next ∷ []) (q.before ++ q.next ∷ []) _ _ _ _ place one.2 two.2 inside further in
        let equal : Some f ≡ Some g =
        sym p.stands ∙ sym (fault_at-last p.before p.next) ∙ same ∙ ap (fault_at (q.before ++ q.next ∷ [])) e ∙ fault_at-last q.before q.next ∙ q.stands in
        cc
    by (inr (inl lt)) = absurd (earlier text f g p q lt)
    by (inr (inr gt)) = absurd (earlier text g f q p gt)
