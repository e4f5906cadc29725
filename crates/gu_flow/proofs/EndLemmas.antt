-- The two ends of an arc.
use Rattle.gu_flow.proofs.Words.{◌≡◌, ℕ, ◌+◌, ◌-◌, ◌*◌, ◌/◌, ◌%◌, ◌<◌, Bool, true, false, not, cond, List, length, get_or, refl, arith, inl, inr, cases_Bool, eqb-true, eqb-false, eq-eqb, ne_eqb, Arc, no_arc, JoinsNodes, arc_at, is_tail, near, far, other_end, residual_in, residual_out}

-- an end is a tail or a head
tail_is : (e : ℕ) → is_tail e ≡ true → e % 2 ≡ 0
tail_is e tail = eqb-true (e % 2) 0 tail

head_is : (e : ℕ) → is_tail e ≡ false → e % 2 ≡ 1
head_is e head = let odd : (e % 2 ≡ 0 → ⊥) = eqb-false (e % 2) 0 head in omega arith

-- the other end belongs to the same arc
pub other_end-arc : (e : ℕ) → other_end e / 2 ≡ e / 2
other_end-arc e = elim (cases_Bool (is_tail e)) [
  | inl tail ↦ rw tail (let even : e % 2 ≡ 0 = tail_is e tail in omega arith)
  | inr head ↦ rw head (let odd : e % 2 ≡ 1 = head_is e head in omega arith)
]

pub other_end-tail : (e : ℕ) → is_tail (other_end e) ≡ not (is_tail e)
other_end-tail e = elim (cases_Bool (is_tail e)) [
  | inl tail ↦ rw tail (let even : e % 2 ≡ 0 = tail_is e tail in ne_eqb ((e + 1) % 2) 0 (omega arith))
  | inr head ↦ rw head (let odd : e % 2 ≡ 1 = head_is e head in eq-eqb ((e - 1) % 2) 0 (omega arith))
]

pub other_end-in : (e m : ℕ) → e < 2 * m → other_end e < 2 * m
other_end-in e m e_in = let same = other_end-arc e in omega arith

pub other_end-twice : (e : ℕ) → other_end (other_end e) ≡ e
other_end-twice e = elim (cases_Bool (is_tail e)) [
  | inl tail ↦ rw (other_end-tail e, tail) (let even : e % 2 ≡ 0 = tail_is e tail in omega arith)
  | inr head ↦ rw (other_end-tail e, head) (let odd : e % 2 ≡ 1 = head_is e head in omega arith)
]

turned : {X : Type 0} (b : Bool) (x y : X) → cond (not b) x y ≡ cond b y x
turned true x y = refl
turned false x y = refl

-- the node at the other end
pub near-other_end : (arcs : List Arc) (e : ℕ) → near arcs (other_end e) ≡ far arcs e
near-other_end arcs e = rw (other_end-tail e, other_end-arc e) (turned (is_tail e) (arc_at arcs (e / 2)).from (arc_at arcs (e / 2)).to)

pub far-other_end : (arcs : List Arc) (e : ℕ) → far arcs (other_end e) ≡ near arcs e
far-other_end arcs e = rw (other_end-tail e, other_end-arc e) (turned (is_tail e) (arc_at arcs (e / 2)).to (arc_at arcs (e / 2)).from)

pub residual_in-other_end : (arcs : List Arc) (flow : List ℕ) (e : ℕ) → residual_in arcs flow (other_end e) ≡ residual_out arcs flow e
residual_in-other_end arcs flow e = rw (other_end-tail e, other_end-arc e) (turned (is_tail e) (get_or flow (e / 2) 0) ((arc_at arcs (e / 2)).capacity - get_or flow (e / 2) 0))

pub residual_out-other_end : (arcs : List Arc) (flow : List ℕ) (e : ℕ) → residual_out arcs flow (other_end e) ≡ residual_in arcs flow e
residual_out-other_end arcs flow e = rw (other_end-tail e, other_end-arc e) (turned (is_tail e) ((arc_at arcs (e / 2)).capacity - get_or flow (e / 2) 0) (get_or flow (e / 2) 0))

-- an end is at a node
pub near_in : (arcs : List Arc) (e nodes : ℕ) → JoinsNodes arcs nodes → e < 2 * length arcs → near arcs e < nodes
near_in arcs e nodes joins e_in = elim (cases_Bool (is_tail e)) [
  | inl tail ↦ rw tail (joins (e / 2) no_arc (omega arith)).0
  | inr head ↦ rw head (joins (e / 2) no_arc (omega arith)).1
]
