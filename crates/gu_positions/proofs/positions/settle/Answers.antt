use Rattle.gu_positions.proofs.Words.{◌≡◌, ◌+◌, ◌-◌, ℕ, Some, ap, arith, slice_get, subst, sym, unwrap_or, IndexMap, IsUnique, Updates, get, values, with_value_at, updates-with_value_at, Symbol, same_symbol, StandsAt, same_symbol-true, lookup-standing}
use Rattle.gu_terms.proofs.Found.{by_name}
use Rattle.gu_positions.proofs.RowNumbers.{stands-set_value_at}
use Rattle.gu_positions.proofs.positions.settle.Goals as goal

-- the value at an instrument's index is the one that a look-up finds
found : {S : Type 0} (interests : IndexMap Symbol ℕ S) (place : ℕ) → IsUnique same_symbol interests → (interest : ℕ) → slice_get (values interests) place ≡ Some interest
    → (symbol : Symbol) → StandsAt interests.entries symbol place → unwrap_or (get same_symbol interests symbol) 0 ≡ interest
found interests place unique interest is symbol stands =
    ap (λ o. unwrap_or o 0) (lookup-standing same_symbol (by_name (λ (s : Symbol). s.name)) same_symbol-true interests.entries symbol place stands unique interest (sym is))

pub overflow_sub-interest : goal.overflow_sub-interest
overflow_sub-interest c =
    omega (arith, c.requires.2, found c.args.interests.now c.args.place c.len.ensures.unique c.index_mut-interest.result.now c.index_mut-interest.ensures.value c.requires.0 c.requires.1)

pub overflow_add-interest : goal.overflow_add-interest
overflow_add-interest c =
    omega (arith, c.requires.3, found c.args.interests.now c.args.place c.len.ensures.unique c.index_mut-interest.result.now c.index_mut-interest.ensures.value c.requires.0 c.requires.1)

pub returns-clause-updates : goal.returns-clause-updates
returns-clause-updates c = λ symbol stands.
    let value = c.index_mut-interest.result.now - c.args.before + c.args.after in
    subst (λ n. Updates same_symbol c.args.interests.now (with_value_at c.args.interests.now c.args.place value) symbol (Some (n - c.args.before + c.args.after)))
    (sym (found c.args.interests.now c.args.place c.len.ensures.unique c.index_mut-interest.result.now c.index_mut-interest.ensures.value symbol stands))
    (updates-with_value_at c.args.interests.now c.args.place value (by_name (λ (s : Symbol). s.name)) c.len.ensures.unique symbol stands.value stands.here)

pub returns-clause-stay : goal.returns-clause-stay
returns-clause-stay c = stands-set_value_at c.args.interests.now.entries c.args.place (c.index_mut-interest.result.now - c.args.before + c.args.after)
