-- Whole paths: each key is at its step, so none is there twice, and each has an index of its own among the rooms.
use Rattle.gu_view.proofs.Words.{◌≡◌, ◌≢◌, ℕ, zero, suc, ◌<◌, List, Option, None, Some, length, map, get_or, slice_get, sym, ap, ◌∙◌, arith, AllPairs, get_or-map, length-map, slice_get-get_or, path_through, ArePathKeys, AccountId, AgreementId, FirmId, LimitKey, Exec, Agr, Acct, Carry, Guar, step_of, IsPath, place_of, Room, ViewOffer}
use Rattle.gu_view.proofs.TakesLemmas.{key_at_place}

-- each key is at its step
pub step_is : (e : FirmId) (a : AgreementId) (c : AccountId) (d : FirmId) (g : Option FirmId) (i : ℕ) (k : LimitKey) → slice_get (path_through e a c d g) i ≡ Some k → step_of k ≡ i
step_is e a c d g zero k at = let same : Exec e ≡ k = cc in ap step_of (sym same)
step_is e a c d g (suc zero) k at = let same : Agr a ≡ k = cc in ap step_of (sym same)
step_is e a c d g (suc (suc zero)) k at = let same : Acct c ≡ k = cc in ap step_of (sym same)
step_is e a c d g (suc (suc (suc zero))) k at = let same : Carry d ≡ k = cc in ap step_of (sym same)
step_is e a c d (Some g) (suc (suc (suc (suc zero)))) k at = let same : Guar g ≡ k = cc in ap step_of (sym same)
step_is e a c d None (suc (suc (suc (suc zero)))) k at = cc
step_is e a c d (Some g) (suc (suc (suc (suc (suc i))))) k at = cc
step_is e a c d None (suc (suc (suc (suc (suc i))))) k at = cc

-- the path of an offer, if its second key is the offer's own agreement
pub whole_path : (o : ViewOffer) (keys : List LimitKey) → keys ≡ o.path → slice_get o.path 1 ≡ Some (Agr o.agreement) → ArePathKeys keys → IsPath o
whole_path o keys same own (e, a, c, d, g, are) =
    let path : o.path ≡ path_through e a c d g = sym same ∙ are in
    let second : Some (Agr a) ≡ Some (Agr o.agreement) = sym (ap (λ path. slice_get path 1) path) ∙ own in
    let mine : a ≡ o.agreement = cc in
    (e, c, d, g, path ∙ ap (λ x. path_through e x c d g) mine)

-- the indexes of a path's keys among rooms that have them are distinct
pub places_apart : (rooms : List Room) (o : ViewOffer) → IsPath o → ((k : LimitKey) (i : ℕ) → slice_get o.path i ≡ Some k → place_of rooms k < length rooms) → AllPairs (λ a b. a ≢ b) (map (place_of rooms) o.path)
places_apart rooms o (e, c, d, g, is) roomed a b default before within same =
    let path = o.path in
    let own : LimitKey = Agr o.agreement in
    let long = length-map path (place_of rooms) in
    let b_in : b < length path = omega arith in
    let a_in : a < length path = omega arith in
    let j = get_or path a own in
    let k = get_or path b own in
    let at_a : slice_get path a ≡ Some j = slice_get-get_or path a own a_in in
    let at_b : slice_get path b ≡ Some k = slice_get-get_or path b own b_in in
    let one : place_of rooms j ≡ place_of rooms k =
    sym (get_or-map (place_of rooms) path a own default a_in) ∙ same ∙ get_or-map (place_of rooms) path b own default b_in in
    let none : Room = record { key = own; lots = 0 } in
    let keys : j ≡ k = sym (key_at_place rooms j none (roomed j a at_a)) ∙ ap (λ p. (get_or rooms p none).key) one ∙ key_at_place rooms k none (roomed k b at_b) in
    let first : step_of j ≡ a = step_is e o.agreement c d g a j (ap (λ path. slice_get path a) (sym is) ∙ at_a) in
    let second : step_of k ≡ b = step_is e o.agreement c d g b k (ap (λ path. slice_get path b) (sym is) ∙ at_b) in
    absurd (omega (arith, first, second, ap step_of keys))
