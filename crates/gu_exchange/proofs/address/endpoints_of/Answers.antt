use Rattle.std.proofs.Common.{◌≡◌, List, [], ◌∷◌, ◌++◌, ℕ, sym, ◌∙◌, ap, subst, append_assoc}
use Rattle.std.specs.List.{AllByRecursion}
use Rattle.std.proofs.lemmas.Result.{err_from_is_err_and}
use Rattle.std.specs.declared.vec.Vec.{Vec}
use Rattle.std.specs.declared.alloc.Global.{Global}
use Rattle.gu_etcd.specs.InMemory.{log_of}
use Rattle.gu_exchange.specs.declared.error.AddressError.{AddressError}
use Rattle.gu_exchange.specs.declared.error.AddressError.TheVariants.{NotAnAddress}
use Rattle.gu_exchange.specs.Addresses.{between_commas}
use Rattle.gu_exchange.specs.Endpoints.{IsEndpoint}
use Rattle.gu_exchange.proofs.Commas.{all_middle, all_push, first_text, one_text, same_error}
use Rattle.gu_exchange.proofs.address.endpoints_of.Goals as goal

pub returns-in_err-add_endpoint-clause-refused : goal.returns-in_err-add_endpoint-clause-refused
returns-in_err-add_endpoint-clause-refused c =
    let p = err_from_is_err_and c.from_residual.result c.from_residual.ensures.1 in
    let so_far = log_of c.loop-first.endpoints.items in
    let parts = c.in-Some.ensures in
    let first = c.in-Some.first.now in
    let others = c.in-Some.others.now in
    rw (p.1, p.2) (λ of all.
    c.in_err-add_endpoint.ensures.refused (same_error (Vec (Vec ℕ Global) Global) (Unit {0}) AddressError c.in_err-add_endpoint.field-0.0 NotAnAddress of)
    (all_middle IsEndpoint so_far (between_commas others) first
    (subst (λ (l : List (List ℕ)). AllByRecursion IsEndpoint l)
    (c.loop-first.invariant.listed ∙ ap (λ (l : List ℕ). so_far ++ between_commas l) parts.parts ∙ ap (λ (l : List (List ℕ)). so_far ++ l) (first_text first others parts.first)) all)))

pub loop-first-preserved : goal.loop-first-preserved
loop-first-preserved c =
    let so_far = log_of c.loop-first.endpoints.items in
    let parts = c.in-Some.ensures in
    let first = c.in-Some.first.now in
    let others = c.in-Some.others.now in
    let added = c.in_ok-add_endpoint.ensures.added in
    record {
      listed = c.loop-first.invariant.listed ∙ ap (λ (l : List ℕ). so_far ++ between_commas l) parts.parts
          ∙ ap (λ (l : List (List ℕ)). so_far ++ l) (first_text first others parts.first) ∙ sym (append_assoc so_far (first ∷ []) (between_commas others))
          ∙ sym (ap (λ (l : List (List ℕ)). l ++ between_commas others) added);
      each = subst (λ (l : List (List ℕ)). AllByRecursion IsEndpoint l) (sym added)
          (all_push IsEndpoint so_far first c.loop-first.invariant.each c.in_ok-add_endpoint.ensures.is_one);
    }

pub returns-in_err-add_endpoint-2-clause-refused : goal.returns-in_err-add_endpoint-2-clause-refused
returns-in_err-add_endpoint-2-clause-refused c =
    let p = err_from_is_err_and c.from_residual-in_err-add_endpoint-2.result c.from_residual-in_err-add_endpoint-2.ensures.1 in
    let so_far = log_of c.loop-first.endpoints.items in
    let rest = c.loop-first.rest.now in
    rw (p.1, p.2) (λ of all.
    c.in_err-add_endpoint-2.ensures.refused (same_error (Vec (Vec ℕ Global) Global) (Unit {0}) AddressError c.in_err-add_endpoint-2.field-0.0 NotAnAddress of)
    (all_middle IsEndpoint so_far [] rest
    (subst (λ (l : List (List ℕ)). AllByRecursion IsEndpoint l)
    (c.loop-first.invariant.listed ∙ ap (λ (l : List (List ℕ)). so_far ++ l) (one_text rest c.in_default.ensures.none)) all)))

pub returns-clause-listed : goal.returns-clause-listed
returns-clause-listed c =
    let so_far = log_of c.loop-first.endpoints.items in
    c.in_ok-add_endpoint-2.ensures.added
    ∙ sym (c.loop-first.invariant.listed ∙ ap (λ (l : List (List ℕ)). so_far ++ l) (one_text c.loop-first.rest.now c.in_default.ensures.none))
