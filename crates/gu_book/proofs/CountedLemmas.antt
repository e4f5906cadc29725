-- Versions as stored: what one entry adds to the counts.
use Rattle.gu_book.proofs.Words.{◌≡◌, ℕ, suc, zero, ◌+◌, ◌<◌, ◌≤◌, ◌^◌, Bool, true, false, cond, List, [], ◌∷◌, ◌++◌, length, Option, Some, None, unwrap_or, inl, inr, refl, sym, ap, ◌∙◌, arith, length-append, if◌then◌else◌, slice_get, option_map, option_map_or, cases_Bool, same_group-own, same_group-true, same_group, Command, OpenDay, Entry, Asked, Group, Offer, Refusal, Accepted, Denied, Tables, Row, row_at, offers_of, standing_from, standing_of, is_of_group, touches, AreVersions, IsCountAt, is_touched, own_in, version_in, Claims, Deed, GivesUp, IsDeedOf, Opens, Refuses, Reports, Reverses, SetsLimit, done_by, touched_by, Totals, Versions}
use Rattle.std.proofs.lemmas.Cmp.{nat_list_eq_equiv}
use Rattle.std.specs.Cmp.{IsEquivalence}
use Rattle.std.specs.Map.{lookup_key, values_of}
use Rattle.indexmap.proofs.CallerLemmas.{updates-with_value_at}
use Rattle.indexmap.specs.IndexMap.{get, get_key_by, IsUnique, Updates, values, with_value_at}
use Rattle.gu_rules.proofs.VersionLemmas.{version-le, version_of-push}
use Rattle.gu_book.specs.declared.versions.Touched.{Touched}

-- a new group was touched by no entry
pub version_in-new : (old new : Versions) (group : Group) → new.days ≡ old.days → Updates same_group old.own new.own group (Some 0) → get same_group old.own group ≡ None
    → (other : Group) → version_in new other ≡ version_in old other
version_in-new old new group days updated none other = (λ i. days i + unwrap_or (updated.0 other i) 0) ∙ by (same_group group other) refl
  where
    by : (b : Bool) → same_group group other ≡ b → old.days + unwrap_or (cond b (Some 0) (get same_group old.own other)) 0 ≡ version_in old other
    by true e = ap (λ n. old.days + n) (sym (ap (λ o. unwrap_or o 0) none) ∙ (λ i. own_in old (same_group-true group other e i)))
    by false e = refl

-- a stored group that is found is the one that was looked for
stored : (group : Group) (entries : List (Group × ℕ)) (k : Group) → Some k ≡ lookup_key (same_group group) entries → k ≡ group
stored group [] k found = cc
stored group (e ∷ entries) k found =
    elim (cases_Bool (same_group group e.0)) [
      | inl hit ↦ let own : Some k ≡ Some e.0 = rw hit at found in let one : k ≡ e.0 = cc in one ∙ sym (same_group-true group e.0 hit)
      | inr miss ↦ stored group entries k (rw miss at found)
    ]

-- the value at the index of an entry
value-at : (entries : List (Group × ℕ)) (place : ℕ) (e : Group × ℕ) → slice_get entries place ≡ Some e → slice_get (values_of entries) place ≡ Some e.1
value-at [] place e h = cc
value-at (first ∷ entries) zero e h = ap (option_map (λ (e : Group × ℕ). e.1)) h
value-at (first ∷ entries) (suc place) e h = value-at entries place e h

-- so its count is where it was found
pub counted-at : (versions : Versions) (place : ℕ) (group k : Group) (n : ℕ) → slice_get versions.own.entries place ≡ Some (k, n)
    → Some k ≡ get_key_by (same_group group) versions.own → Some n ≡ get same_group versions.own group → IsCountAt versions place group
counted-at versions place group k n here key value = record {
  count = n;
  here = here ∙ (λ i. Some (stored group versions.own.entries k key i, n));
  own = sym value;
  written = value-at versions.own.entries place (k, n) here;
}

-- a count written at its index is that of one group
pub version_in-touched : (old : Versions) (place : ℕ) (group : Group) (n : ℕ) → IsCountAt old place group → Some n ≡ slice_get (values old.own) place → IsUnique same_group old.own
    → (other : Group) → version_in (record old { own = with_value_at old.own place (n + 1) }) other ≡ (if same_group group other then version_in old other + 1 else version_in old other)
version_in-touched old place group n at found unique other =
    ap (λ o. old.days + unwrap_or o 0) ((updates-with_value_at old.own place (n + 1) same_group-laws unique group at.count at.here).0 other)
    ∙ by (same_group group other) refl
  where
    same_group-laws : IsEquivalence same_group
    same_group-laws = record {
      refl = same_group-own;
      symm = λ a b. nat_list_eq_equiv.symm a.name b.name;
      congr = λ a b c. nat_list_eq_equiv.congr a.name b.name c.name;
    }

    same : at.count ≡ n
    same = let one : Some n ≡ Some at.count = found ∙ at.written in cc

    by : (b : Bool) → same_group group other ≡ b → old.days + unwrap_or (cond b (Some (n + 1)) (get same_group old.own other)) 0 ≡ (if b then version_in old other + 1 else version_in old other)
    by true e =
        let own : own_in old other ≡ at.count = ap (own_in old) (sym (same_group-true group other e)) ∙ ap (λ o. unwrap_or o 0) at.own in
        omega (arith, own, same)
    by false e = refl

-- ---- which groups an entry touches

-- the offer with a number is in the group of its row
of-row : (history : List Entry) (group : Group) (n : ℕ)
    → option_map_or (λ (at : Group). same_group at group) (option_map (λ (row : Row). row.offer.group) (row_at (standing_of history) n)) false ≡ is_of_group history group n
of-row history group zero = refl
of-row history group (suc place) = go 1 (offers_of history) place
  where
    go : (m : ℕ) (offers : List Offer) (at : ℕ)
        → option_map_or (λ (at : Group). same_group at group) (option_map (λ (row : Row). row.offer.group) (slice_get (standing_from history m offers) at)) false
        ≡ option_map_or (λ (o : Offer). same_group o.group group) (slice_get offers at) false
    go m [] at = refl
    go m (offer ∷ offers) zero = refl
    go m (offer ∷ offers) (suc at) = go (m + 1) offers at

-- so an offer with a known group is in it
of-group : (history : List Entry) (totals : Totals) (group at : Group) (n : ℕ) → totals.offers ≡ standing_of history → Some at ≡ option_map (λ (row : Row). row.offer.group) (row_at totals.offers n)
    → same_group at group ≡ is_of_group history group n
of-group history totals group at n offers here =
    ap (λ (o : Option Group). option_map_or (λ (at : Group). same_group at group) o false) (here ∙ ap (λ (rs : List Row). option_map (λ (row : Row). row.offer.group) (row_at rs n)) offers)
    ∙ of-row history group n

-- the group of an offer that is found
pub group-found : (found : Option Row) (offer : Offer) → Some offer ≡ option_map (λ (row : Row). row.offer) found → Some offer.group ≡ option_map (λ (row : Row). row.offer.group) found
group-found None offer e = cc
group-found (Some row) offer e = ap (λ (o : Option Offer). option_map (λ (o : Offer). o.group) o) e

-- and of one that is known
of-offer : (history : List Entry) (totals : Totals) (group : Group) (offer : Offer) (n : ℕ) → totals.offers ≡ standing_of history → Some offer ≡ option_map (λ (row : Row). row.offer) (row_at totals.offers n)
    → same_group offer.group group ≡ is_of_group history group n
of-offer history totals group offer n offers shown = of-group history totals group offer.group n offers (group-found (row_at totals.offers n) offer shown)

-- an effect touches the groups that its entry touches
pub accepted-touches : (reference : Tables) (history : List Entry) (totals : Totals) (command : Command) (deed : Deed) (group : Group) → totals.offers ≡ standing_of history → IsDeedOf reference totals command deed
    → is_touched (touched_by deed) group ≡ touches history group (Asked command (Accepted (done_by deed)))
accepted-touches reference history totals command (Opens opening) group offers is = rw is refl
accepted-touches reference history totals command (SetsLimit limit) group offers is = rw is refl
accepted-touches reference history totals command (Reports report today waiting) group offers is = rw is.is refl
accepted-touches reference history totals command (GivesUp give_up at first report) group offers is = rw is.is refl
accepted-touches reference history totals command (Claims claimed) group offers is = rw (is.is, is.found.group_is) (of-offer history totals group is.found.offer claimed.number offers is.found.seen.shown)
accepted-touches reference history totals command (Refuses number at lots) group offers is = rw is.is (of-group history totals group at number offers is.group_is)
accepted-touches reference history totals command (Reverses reversed) group offers is = rw (is.is, is.found.group_is) (of-offer history totals group is.found.offer reversed.number offers is.found.seen.shown)

-- a refused command touches none
pub denied-touches : (history : List Entry) (command : Command) (why : Refusal) (group : Group) → false ≡ touches history group (Asked command (Denied why))
denied-touches history (OpenDay it) why group = refl
denied-touches history command why group = refl

-- ---- the counts after one more entry

-- if nothing was entered, they are unchanged
pub versions-same : (history : List Entry) (old new : Versions) → AreVersions history old → new.days ≡ old.days → ((group : Group) → version_in new group ≡ version_in old group) → AreVersions history new
versions-same history old new are days same = record { each = λ group. same group ∙ are.each group; days = omega (arith, days, are.days) }

-- an entry adds one for each group that it touches
pub versions-push : (history : List Entry) (entry : Entry) (old new : Versions) (touched : Touched) → AreVersions history old
    → ((group : Group) → is_touched touched group ≡ touches history group entry)
    → ((group : Group) → version_in new group ≡ (if is_touched touched group then version_in old group + 1 else version_in old group)) → new.days ≤ old.days + 1
    → AreVersions (history ++ entry ∷ []) new
versions-push history entry old new touched are is adds days = record {
  each = λ group. adds group ∙ (λ i. if is group i then are.each group i + 1 else are.each group i) ∙ sym (version_of-push history entry group);
  days = omega (arith, days, are.days, length-append history (entry ∷ []));
}

-- the counts of a history with room for an entry are far below their bound
pub versions-fit : (history : List Entry) (versions : Versions) → AreVersions history versions → length history ≤ 1000000 → (group : Group) → version_in versions group + 1 < 2 ^ 64
versions-fit history versions are few group =
    let e : version_in versions group ≤ 1000000 = omega (arith, are.each group, version-le history group, few) in
    omega (arith, e)

pub days-fit : (history : List Entry) (versions : Versions) → AreVersions history versions → length history ≤ 1000000 → versions.days + 1 < 2 ^ 64
days-fit history versions are few = let e : versions.days ≤ 1000000 = omega (arith, are.days, few) in omega (arith, e)
