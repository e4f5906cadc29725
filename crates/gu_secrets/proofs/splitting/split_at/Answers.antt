use Rattle.std.proofs.Common.{◌≡◌, ◌∷◌, ◌∙◌, ◌==◌, ℕ, Bool, List, take, sym, subst}
use Rattle.std.specs.List.{slice_split}
use Rattle.gu_secrets.proofs.Splits.{one_part, parts_at, to_the_end}
use Rattle.gu_secrets.proofs.splitting.split_at.Goals as goal

pub returns-clause-parts : goal.returns-clause-parts
returns-clause-parts c =
    let bytes = c.args.bytes.now in
    let place = c.in_ok-place.place in
    let p : ℕ → Bool = λ b. b == c.args.separator in
    subst (λ (rest : List ℕ). slice_split p bytes ≡ take place bytes ∷ slice_split p rest) (sym (to_the_end bytes place))
    (parts_at p bytes place (sym c.place_of.ensures ∙ c.in_ok-place.was))

pub returns-in_err-place-clause-parts : goal.returns-in_err-place-clause-parts
returns-in_err-place-clause-parts c =
    rw c.from_residual.ensures (one_part (λ b. b == c.args.separator) c.args.bytes.now (sym c.place_of.ensures ∙ c.in_err-place.was))
