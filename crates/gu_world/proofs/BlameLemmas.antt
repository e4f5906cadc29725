-- Seeking the entry to blame.
use Rattle.gu_world.proofs.Words.{◌≡◌, ◌⊎◌, ℕ, zero, suc, ◌+◌, ◌<◌, ◌≤◌, Bool, true, false, nat_lt, List, [], ◌∷◌, ◌++◌, length, map, take, drop, replicate, get_or, Some, None, refl, sym, ap, ◌∙◌, arith, inl, inr, append-nil, if◌then◌else◌, slice_get, slice_index_or, find, option_map_or, option_to_list, nat_tests, drop_more, length-take-le, map-append, take_all, take_more, Entry, Asked, Group, is_of_group, touches, touching, touching_after, own_of, first_touch_above, touching_after-append}
use Rattle.gu_terms.specs.Same.{same_group}
use Rattle.gu_terms.specs.declared.command.Command.TheVariants.{GiveUp}
use Rattle.gu_terms.specs.declared.command.GiveUp.{GiveUp as GiveUpOf}
use Rattle.gu_terms.specs.declared.lines.Line.{Line}
use Rattle.gu_terms.specs.declared.offer.Offer.{Offer}
use Rattle.gu_terms.specs.declared.reply.Done.TheVariants.{Offered}
use Rattle.gu_terms.specs.declared.reply.Reply.TheVariants.{Accepted}
use Rattle.gu_rules.specs.Offers.{lines_by, offers_of}
use Rattle.gu_rules.proofs.StandingLemmas.{offers_of-push}
use Rattle.gu_world.proofs.Touches.{found_after, touching_at}

-- it is known whether the offer with a number is in the group
own-at : (group : Group) (offers : List Offer) (place : ℕ)
    → slice_index_or (map (λ (o : Offer). same_group o.group group) offers) place false ≡ option_map_or (λ (o : Offer). same_group o.group group) (slice_get offers place) false
own-at group [] place = refl
own-at group (o ∷ offers) zero = refl
own-at group (o ∷ offers) (suc place) = own-at group offers place

pub own-is : (before : List Entry) (group : Group) (own : List Bool) (place number : ℕ) (found : Bool) → own ≡ own_of before group → number ≡ suc place → found ≡ slice_index_or own place false
    → found ≡ is_of_group before group number
own-is before group own place number found known is at =
    at ∙ ap (λ (bs : List Bool). slice_index_or bs place false) known ∙ own-at group (offers_of before) place ∙ ap (is_of_group before group) (sym is)

-- ---- the first touch

module _ (group : Group) (seen : ℕ) (entries : List Entry) (place : ℕ) (entry : Entry) (inside : place < length entries) (is : entry ≡ get_or entries place entry)
    (none : find (nat_lt seen) (touching (take place entries) group) ≡ None) where
  count : length (take place entries) ≡ place
  count = length-take-le place entries (omega arith)

  -- if there was none in the entries so far, the first is this one
  pub touched-here : (number : ℕ) → number ≡ place + 1 → seen < number → touches (take place entries) group entry ≡ true → Some number ≡ first_touch_above entries group seen
  touched-here number number_is above touched =
      sym (
      ap (find (nat_lt seen)) (touching_at entries place group)
      ∙ found_after seen (touching (take place entries) group) (touching_after (take place entries) group (drop place entries)) none
      ∙ ap (λ (rest : List Entry). find (nat_lt seen) (touching_after (take place entries) group rest)) (drop_more entries place entry inside ∙ ap (λ (e : Entry). e ∷ drop (place + 1) entries) (sym is))
      ∙ first)
    where
      passes : nat_lt seen (length (take place entries) + 1) ≡ true
      passes = let high : seen < length (take place entries) + 1 = omega (arith, count, number_is, above) in grind (arith, nat_tests)

      first : find (nat_lt seen) (touching_after (take place entries) group (entry ∷ drop (place + 1) entries)) ≡ Some number
      first = rw (touched, passes) (ap Some (omega (arith, count, number_is)))

  -- and if this isn't one, there is none up to it
  pub untouched-here : (number : ℕ) → number ≡ place + 1 → (number ≤ seen) ⊎ (touches (take place entries) group entry ≡ false) → find (nat_lt seen) (touching (take (place + 1) entries) group) ≡ None
  untouched-here number number_is why =
      ap (λ (es : List Entry). find (nat_lt seen) (touching es group)) (take_more entries place entry inside ∙ ap (λ (e : Entry). take place entries ++ e ∷ []) (sym is))
      ∙ ap (find (nat_lt seen)) (touching_after-append [] (take place entries) (entry ∷ []) group)
      ∙ found_after seen (touching (take place entries) group) (touching_after (take place entries) group (entry ∷ [])) none
      ∙ by why
    where
      low : number ≤ seen → (b : Bool) → find (nat_lt seen) (option_to_list (if b then Some (length (take place entries) + 1) else None) ++ []) ≡ None
      low h true =
          let fails : nat_lt seen (length (take place entries) + 1) ≡ false = (let small : length (take place entries) + 1 ≤ seen = omega (arith, count, number_is, h) in grind (arith, nat_tests)) in
          rw fails refl
      low h false = refl

      by : (number ≤ seen) ⊎ (touches (take place entries) group entry ≡ false) → find (nat_lt seen) (touching_after (take place entries) group (entry ∷ [])) ≡ None
      by (inl h) = low h (touches (take place entries) group entry)
      by (inr h) = rw h refl

-- there is none in all of them
pub never-touched : (group : Group) (seen : ℕ) (entries : List Entry) (place : ℕ) → length entries ≤ place → find (nat_lt seen) (touching (take place entries) group) ≡ None → None ≡ first_touch_above entries group seen
never-touched group seen entries place all none = sym none ∙ ap (λ (es : List Entry). find (nat_lt seen) (touching es group)) (take_all place entries all)

-- ---- the known offers

pub own-more : (before : List Entry) (group : Group) (entry : Entry) → own_of (before ++ entry ∷ []) group ≡ own_of before group ++ map (λ (o : Offer). same_group o.group group) (lines_by entry)
own-more before group entry =
    ap (map (λ (o : Offer). same_group o.group group)) (offers_of-push before entry) ∙ map-append (λ (o : Offer). same_group o.group group) (offers_of before) (lines_by entry)

-- an entry that makes no offer adds none
pub own-kept : (before : List Entry) (group : Group) (entry : Entry) → lines_by entry ≡ [] → own_of (before ++ entry ∷ []) group ≡ own_of before group
own-kept before group entry nothing =
    own-more before group entry ∙ ap (λ (os : List Offer). own_of before group ++ map (λ (o : Offer). same_group o.group group) os) nothing ∙ append-nil (own_of before group)

-- a give-up adds as many in its group as it has lines
pub own-lines : (before : List Entry) (group at : Group) (it : GiveUpOf) (first number : ℕ)
    → own_of (before ++ Asked (GiveUp it) (Accepted (Offered at first number)) ∷ []) group ≡ own_of before group ++ replicate (length it.lines) (same_group at group)
own-lines before group at it first number =
    own-more before group (Asked (GiveUp it) (Accepted (Offered at first number))) ∙ ap (λ (bs : List Bool). own_of before group ++ bs) (each it.lines)
  where
    each : (lines : List Line)
        → map (λ (o : Offer). same_group o.group group) (map {B = Offer} (λ (l : Line). record { firm = it.firm; report = it.report; group = at; account = l.account; lots = l.lots }) lines) ≡ replicate (length lines) (same_group at group)
    each [] = refl
    each (line ∷ lines) = ap (λ (bs : List Bool). same_group at group ∷ bs) (each lines)
