-- The ends at a node, linked from the last to the first.
use Rattle.gu_flow.proofs.Words.{◌≡◌, ◌≢◌, ℕ, zero, suc, ◌+◌, ◌-◌, ◌*◌, ◌<◌, ◌≤◌, ◌==◌, List, length, sym, ◌∙◌, ap, arith, inl, inr, refl, get_or, get_or-set_other, get_or-set_same, add-one, length-set, cases_eq, cases_lt, cond_both, eqb-true, eqb-false, eq-eqb, ne_eqb, get_or_past, Arc, near, far, last_before, no_link, link_at, IsCurrent, IsIndex}
use Rattle.std.proofs.Math.ListN.{set}
use Rattle.gu_flow.specs.declared.network.EndLink.{EndLink}

module _ (arcs : List Arc) where
  pub last_is_before : (e n : ℕ) → last_before arcs e n ≤ e
  unfolding last_before
  last_is_before zero n = omega arith
  last_is_before (suc e) n = cond_both (near arcs e == n) (suc e) (last_before arcs e n) (λ x. x ≤ suc e) (λ _. omega arith) (λ _. omega (arith, last_is_before e n))

  pub last_is_at : (e n : ℕ) → 0 < last_before arcs e n → near arcs (last_before arcs e n - 1) ≡ n
  unfolding last_before
  last_is_at zero n = λ some. absurd (omega arith)
  last_is_at (suc e) n =
      cond_both (near arcs e == n) (suc e) (last_before arcs e n) (λ x. 0 < x → near arcs (x - 1) ≡ n) (λ here some. ap (near arcs) (omega arith) ∙ eqb-true (near arcs e) n here) (λ _. last_is_at e n)

  -- the ends after it are at other nodes
  pub none_after : (e n d : ℕ) → last_before arcs e n ≤ d → d < e → near arcs d ≢ n
  unfolding last_before
  none_after zero n d = λ from below. absurd (omega arith)
  none_after (suc e) n d =
      cond_both (near arcs e == n) (suc e) (last_before arcs e n) (λ x. x ≤ d → d < suc e → near arcs d ≢ n) (λ _ from below. absurd (omega arith)) (λ other from below at. elim (cases_eq d e) [
        | inl last ↦ eqb-false (near arcs e) n other (ap (near arcs) (sym last) ∙ at)
        | inr before ↦ none_after e n d from (omega arith) at
      ])

-- one more end is linked
pub link_one : (arcs : List Arc) (first : List ℕ) (links : List EndLink) (count : ℕ) (one : EndLink) → IsIndex arcs first links count → count < length links → near arcs count < length first
    → one.far ≡ far arcs count → one.next ≡ get_or first (near arcs count) 0 → IsIndex arcs (set first (near arcs count) (count + 1)) (set links count one) (count + 1)
unfolding last_before
link_one arcs first links count one index more node_in leads next =
    let node = near arcs count in
    let here : link_at (set links count one) count ≡ one = get_or-set_same links count one no_link more in
    let there : (e : ℕ) → e ≢ count → link_at (set links count one) e ≡ link_at links e = λ e other. get_or-set_other links count e one no_link other in
    rw add-one (record {
      last = λ n n_in. elim (cases_eq n node) [
        | inl same ↦ rw (same, eq-eqb node node refl) (get_or-set_same first node (suc count) 0 node_in)
        | inr other ↦ rw (ne_eqb node n (λ e. other (sym e))) (get_or-set_other first node n (suc count) 0 other ∙ index.last n (omega (arith, length-set first node (suc count))))
      ];
      before = λ e e_in. elim (cases_eq e count) [
        | inl last ↦ rw last (ap (λ (l : EndLink). l.next) here ∙ next ∙ index.last node node_in)
        | inr earlier ↦ ap (λ (l : EndLink). l.next) (there e earlier) ∙ index.before e (omega arith)
      ];
      leads = λ e e_in. elim (cases_eq e count) [
        | inl last ↦ rw last (ap (λ (l : EndLink). l.far) here ∙ leads)
        | inr earlier ↦ ap (λ (l : EndLink). l.far) (there e earlier) ∙ index.leads e (omega arith)
      ];
    })

-- at each node a search begins at the last end
pub begins_last : (arcs : List Arc) (first : List ℕ) (links : List EndLink) → IsIndex arcs first links (2 * length arcs) → IsCurrent arcs first
begins_last arcs first links index = record {
  ends = λ n. elim (cases_lt n (length first)) [ inl n_in ↦ omega (arith, index.last n n_in, last_is_before arcs (2 * length arcs) n) | inr past ↦ omega (arith, get_or_past first n 0 past) ];
  here = λ n some. elim (cases_lt n (length first)) [
    | inl n_in ↦ rw (index.last n n_in) (last_is_at arcs (2 * length arcs) n (omega (arith, index.last n n_in)))
    | inr past ↦ absurd (omega (arith, get_or_past first n 0 past))
  ];
}
