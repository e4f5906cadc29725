-- Workers' slots.
use Rattle.gu_world.proofs.Words.{◌≡◌, ◌⊎◌, ℕ, zero, suc, true, List, [], ◌∷◌, length, map, replicate, take, Option, Some, None, refl, sym, ap, ◌∙◌, arith, subst, inl, inr, length-append, slice_index_or, slice_set, option_map, length-set, map-set, take-append-le, take_all, Entry, Group, is_group, Tables, GroupView, IsNested, BookState, group_view, AreTrue, Grows, IsTrueLook, look_in, looks_in, state_in, view_in, Look, look_of, looked, Held, Looking, Seen}

-- ---- slots of a list

-- in a list of empty slots nothing is read, and writing nothing changes nothing
pub index-nothing : {X : Type 0} (n place : ℕ) → slice_index_or (replicate {A = Option X} n None) place None ≡ None
index-nothing zero place = refl
index-nothing (suc n) zero = refl
index-nothing (suc n) (suc place) = index-nothing n place

-- writing what is already in a slot changes nothing
pub set-own : {X : Type 0} (xs : List (Option X)) (place : ℕ) (x : Option X) → slice_index_or xs place None ≡ x → slice_set xs place x ≡ xs
set-own [] place x is = refl
set-own (first ∷ xs) zero x is = ap (λ f. f ∷ xs) (sym is)
set-own (first ∷ xs) (suc place) x is = ap (λ more. first ∷ more) (set-own xs place x is)

-- the last write counts
pub set-twice : {X : Type 0} (xs : List X) (place : ℕ) (x y : X) → slice_set (slice_set xs place x) place y ≡ slice_set xs place y
set-twice [] place x y = refl
set-twice (first ∷ xs) zero x y = refl
set-twice (first ∷ xs) (suc place) x y = ap (λ more. first ∷ more) (set-twice xs place x y)

-- ---- looks

looks_in-full : (slots : List (Option Held)) → length slots ≡ 64 → looks_in slots ≡ map (option_map look_in) slots
looks_in-full [] made = absurd (omega (arith, made))
looks_in-full (slot ∷ slots) made = refl

-- a worker's look is that of its work in hand
pub look_of-held : (book : BookState) (slots : List (Option Held)) (worker : ℕ) → look_of (state_in book slots) worker ≡ option_map look_in (slice_index_or slots worker None)
look_of-held book [] worker = index-nothing 64 worker
look_of-held book (slot ∷ slots) worker = along (slot ∷ slots) worker
  where
    along : (slots : List (Option Held)) (place : ℕ) → slice_index_or (map (option_map look_in) slots) place None ≡ option_map look_in (slice_index_or slots place None)
    along [] place = refl
    along (slot ∷ slots) zero = refl
    along (slot ∷ slots) (suc place) = along slots place

-- a worker that is given work has its look
pub looks_in-put : (slots : List (Option Held)) (worker : ℕ) (held : Held) → length slots ≡ 64 → looks_in (slice_set slots worker (Some held)) ≡ slice_set (looks_in slots) worker (Some (look_in held))
looks_in-put slots worker held made =
    looks_in-full (slice_set slots worker (Some held)) (length-set slots worker (Some held) ∙ made)
    ∙ map-set (option_map look_in) slots worker (Some held)
    ∙ ap (λ (looks : List (Option Look)). slice_set looks worker (Some (look_in held))) (sym (looks_in-full slots made))

-- a worker whose work is taken has no look
pub looks_in-taken : (slots : List (Option Held)) (worker : ℕ) → length (slice_set slots worker None) ≡ 64 → looks_in (slice_set slots worker None) ≡ slice_set (looks_in slots) worker None
looks_in-taken slots worker made =
    let full : length slots ≡ 64 = sym (length-set slots worker None) ∙ made in
    looks_in-full (slice_set slots worker None) made
    ∙ map-set (option_map look_in) slots worker None
    ∙ ap (λ (looks : List (Option Look)). slice_set looks worker None) (sym (looks_in-full slots full))

-- slots are allocated, and no look changes
abbrev pub IsMadeOf : List (Option Held) → List (Option Held) → Type 0
IsMadeOf old new = (new ≡ old) ⊎ ((old ≡ []) × (new ≡ replicate 64 None))

pub looks_in-made : (old new : List (Option Held)) → IsMadeOf old new → looks_in new ≡ looks_in old
looks_in-made old new (inl same) = ap looks_in same
looks_in-made old new (inr made) = ap looks_in made.1 ∙ sym (ap looks_in made.0)

-- ---- true looks

pub true-made : (book : BookState) (old new : List (Option Held)) → IsMadeOf old new → AreTrue book old → AreTrue book new
true-made book old new (inl same) trues worker held at = trues worker held (ap (λ (slots : List (Option Held)). slice_index_or slots worker None) (sym same) ∙ at)
true-made book old new (inr made) trues worker held at =
    let none : slice_index_or new worker None ≡ None = ap (λ (slots : List (Option Held)). slice_index_or slots worker None) made.1 ∙ index-nothing 64 worker in
    cc

pub true-put : (book : BookState) (slots : List (Option Held)) (place : ℕ) (held : Held) → AreTrue book slots → IsTrueLook book held → AreTrue book (slice_set slots place (Some held))
true-put book [] place held trues one worker other at = trues worker other at
true-put book (slot ∷ slots) zero held trues one zero other at = let same : held ≡ other = cc in subst (IsTrueLook book) same one
true-put book (slot ∷ slots) zero held trues one (suc worker) other at = trues (suc worker) other at
true-put book (slot ∷ slots) (suc place) held trues one zero other at = trues zero other at
true-put book (slot ∷ slots) (suc place) held trues one (suc worker) other at = true-put book slots place held (λ w h is. trues (suc w) h is) one worker other at

pub true-taken : (book : BookState) (slots : List (Option Held)) (place : ℕ) → AreTrue book slots → AreTrue book (slice_set slots place None)
true-taken book [] place trues worker other at = trues worker other at
true-taken book (slot ∷ slots) zero trues zero other at = cc
true-taken book (slot ∷ slots) zero trues (suc worker) other at = trues (suc worker) other at
true-taken book (slot ∷ slots) (suc place) trues zero other at = trues zero other at
true-taken book (slot ∷ slots) (suc place) trues (suc worker) other at = true-taken book slots place (λ w h is. trues (suc w) h is) worker other at

-- what was seen stays true as the book grows
pub true-grown : (old new : BookState) (slots : List (Option Held)) → Grows old new → AreTrue old slots → AreTrue new slots
true-grown old new slots grows trues worker held at =
    let one = trues worker held at in
    let seen : take held.seen new.history ≡ take held.seen old.history = ap (take held.seen) grows.history ∙ take-append-le held.seen old.history grows.later one.seen in
    record {
      known = ap (λ (r : Tables). is_group r (view_in held.work).group) grows.reference ∙ one.known;
      seen = omega (arith, one.seen, ap {A = List Entry} length grows.history, length-append old.history grows.later);
      view = one.view ∙ (λ i. group_view (sym grows.reference i) (sym seen i) (view_in held.work).group);
      nested = one.nested;
    }

-- ---- a look

module _ (book : BookState) (group : Group) (worker : ℕ) (view : GroupView) (seen : ℕ) (old made new : List (Option Held)) where
  -- the work of a worker that has just looked
  abbrev held : Held
  held = record { seen = seen; work = Looking view }

  module _ (known : is_group book.reference group ≡ true) (view_is : view ≡ group_view book.reference book.history group) (seen_is : seen ≡ length book.history) (is_made : IsMadeOf old made)
      (put : new ≡ slice_set made worker (Some held)) where
    pub seen-looked : (version : ℕ) → version ≡ view.version → length made ≡ 64 → (Seen version, state_in book new) ≡ looked (state_in book old) worker group
    seen-looked version version_is full =
        rw known (λ i. (Seen ((version_is ∙ ap (λ (v : GroupView). v.version) view_is) i), record { book = book; looks = looks i }))
      where
        look : look_in held ≡ record { group = group; seen = length book.history; proposal = None }
        look = λ i. record { group = (view_is i).group; seen = seen_is i; proposal = None }

        looks : looks_in new ≡ slice_set (looks_in old) worker (Some (record { group = group; seen = length book.history; proposal = None }))
        looks = ap looks_in put ∙ looks_in-put made worker held full ∙ (λ i. slice_set (looks_in-made old made is_made i) worker (Some (look i)))

    pub seen-true : IsNested view → AreTrue book old → AreTrue book new
    seen-true nested trues =
        subst (AreTrue book) (sym put) (true-put book made worker held (true-made book old made is_made trues) one)
      where
        all : take seen book.history ≡ book.history
        all = take_all seen book.history (omega (arith, seen_is))

        one : IsTrueLook book held
        one = record {
          known = ap (λ (v : GroupView). is_group book.reference v.group) view_is ∙ known;
          seen = omega (arith, seen_is);
          view = view_is ∙ (λ i. group_view book.reference (sym all i) (sym view_is i).group);
          nested = nested;
        }
