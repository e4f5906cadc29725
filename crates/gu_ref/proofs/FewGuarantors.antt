-- Guaranteed firms are declared firms, each once: so there are no more guarantors than firms.
use Rattle.gu_ref.proofs.Words.{◌≡◌, ◌∙◌, refl, Bool, true, false, ◌&&◌, ◌||◌, suc, ◌≤◌, List, [], ◌∷◌, map, length, arith, AllByRecursion, AllPass, IsDistinct, list_any, length-map, FirmId, Guarantor, is_known, has_firm, Tables, same_firm, by_name}
use Rattle.std.proofs.lemmas.Map.Made.{length-le_from_is_member}
use Rattle.gu_ref.specs.declared.row.Row.TheVariants as row

-- rows with distinct names give a list of distinct names
distinct-map : {X K : Type 0} (same : K → K → Bool) (name : X → K) (rows : List X) → IsDistinct (λ a b. same (name a) (name b)) rows → IsDistinct same (map name rows)
unfolding IsDistinct
distinct-map same name [] d = tt
distinct-map same name (x ∷ rows) d = (apart rows d.0, distinct-map same name rows d.1)
  where
    apart : (rest : List _) → AllByRecursion (λ b. same (name x) (name b) ≡ false) rest → AllByRecursion (λ k. same (name x) k ≡ false) (map name rest)
    apart [] a = tt
    apart (y ∷ rest) a = (a.0, apart rest a.1)

right : (a b : Bool) → (a && b) ≡ true → b ≡ true
right true b h = h
right false b h = cc

-- a firm equal to one in the list is in the list
there : (firms : List FirmId) (firm q : FirmId) → has_firm firms firm ≡ true → same_firm q firm ≡ true → list_any (same_firm q) firms ≡ true
there firms firm q has same =
    let laws = by_name (λ (f : FirmId). f.name) in
    (λ i. list_any (λ f. laws.congr q firm f same i) firms) ∙ (λ i. list_any (λ f. laws.symm firm f i) firms) ∙ has

-- each guaranteed firm is in the list
members : (t : Tables) (rows : List Guarantor) → AllPass (λ g. is_known t (row.Guarantor g)) rows
    → (q : FirmId) → list_any (same_firm q) (map (λ g. g.firm) rows) ≡ true → list_any (same_firm q) t.firms ≡ true
members t [] all q h = cc
members t (g ∷ rows) all q h = by (same_firm q g.firm) refl h (members t rows (λ k d m. all (suc k) d (omega arith)) q)
  where
    by : (b : Bool) → same_firm q g.firm ≡ b → (b || list_any (same_firm q) (map (λ x. x.firm) rows)) ≡ true
        → (list_any (same_firm q) (map (λ x. x.firm) rows) ≡ true → list_any (same_firm q) t.firms ≡ true) → list_any (same_firm q) t.firms ≡ true
    by true same e rest = there t.firms g.firm q (right (has_firm t.firms g.guarantor) (has_firm t.firms g.firm) (all 0 g (omega arith))) same
    by false same e rest = rest e

pub few_guarantors : (t : Tables) → IsDistinct (λ a b. same_firm a.firm b.firm) t.guarantors → AllPass (λ g. is_known t (row.Guarantor g)) t.guarantors
    → length t.firms ≤ 1000 → length t.guarantors ≤ 1000
few_guarantors t once known firms =
    let guaranteed = map (λ g. g.firm) t.guarantors in
    let fewer = length-le_from_is_member (by_name (λ (f : FirmId). f.name)) guaranteed t.firms (distinct-map same_firm (λ (g : Guarantor). g.firm) t.guarantors once) (members t t.guarantors known) in
    omega (arith, fewer, firms, length-map t.guarantors (λ (g : Guarantor). g.firm))
