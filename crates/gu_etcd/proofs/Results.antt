-- From one fact of a result to another.
use Rattle.std.proofs.Common.{◌≡◌, Result, Ok, Err, IfErr, IfOk, OnOk, Option, None, Some, IfNone, IsErrOf, sym, ◌∙◌}

pub on_ok_implies : {T E : Type 0} (P Q : Type 0) (result : Result T E) → OnOk result P → (P → Q) → OnOk result Q
on_ok_implies P Q (Ok x) is implies = implies is
on_ok_implies P Q (Err e) is implies = is

-- what the only error says
pub err_says : {T E : Type 0} (P : Type 0) (one other : E) (result : Result T E) → IfErr result (λ error. (error ≡ one) × P) → IsErrOf result other → P
err_says P one other (Ok x) is of = absurd (cc)
err_says P one other (Err e) is of = is.1

-- the only error is the one that came
pub err_is : {T E : Type 0} (P : Type 0) (one other : E) (result : Result T E) → IfErr result (λ error. (error ≡ one) × P) → IsErrOf result other → one ≡ other
err_is P one other (Ok x) is of = absurd (cc)
err_is P one other (Err e) is of = let same : e ≡ other = cc in sym is.0 ∙ same

-- an error is no other one
pub no_err : {T E : Type 0} (one other : E) → (one ≡ other → ⊥) → IsErrOf {T = T} (Err one) other → ⊥
no_err one other differs of = differs (cc)

pub if_ok_implies : {T E : Type 0} {P Q : T → Type 0} (result : Result T E) → IfOk result P → ((x : T) → P x → Q x) → IfOk result Q
if_ok_implies (Ok x) is implies = implies x is
if_ok_implies (Err e) is implies = is

pub if_none : {T : Type 0} {P : Type 0} (option : Option T) → P → IfNone option P
if_none None is = is
if_none (Some x) is = tt
