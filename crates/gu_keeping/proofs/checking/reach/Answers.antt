use Rattle.gu_keeping.proofs.Words.{◌≡◌, ◌<◌, ◌^◌, ◌∙◌, ℕ, true, false, length, take, sym, ap, arith, chain_to, digest_line, Chain}
use Rattle.gu_keeping.proofs.ChainLemmas.{long_of}
use Rattle.gu_keeping.proofs.DigestLemmas.{no_number}
use Rattle.gu_keeping.proofs.checking.reach.Goals as goal
use Rattle.gu_keeping.proofs.checking.reach.Goals.{then-number-count-via-then-number-count, then-number-count-via-else-number-count+then-number-entries}

pub returns-then-number-count-clause-none : goal.returns-then-number-count-clause-none
returns-then-number-count-clause-none c = λ none n later within is.
    let history = c.args.history.now in
    let chain = c.args.chain.now in
    let few : length history < 2 ^ 64 = omega (arith, c.len-entries.ensures, c.len-entries.type_inv) in
    let long = long_of chain (take chain.count history) c.requires.at in
    let same = no_number history chain c.args.line.now c.number_in-number.result n long few c.number_in-number.ensures later within is in
    elim c.then-number-count.branch [
      | then-number-count-via-then-number-count w ↦ absurd (omega (arith, same, later, w.if-number-count.true, c.count.ensures))
      | then-number-count-via-else-number-count+then-number-entries w ↦ absurd (omega (arith, same, within, w.if-number-entries.true, c.len-entries.ensures))
    ]

pub returns-then-not-branch-clause-none : goal.returns-then-not-branch-clause-none
returns-then-not-branch-clause-none c = λ none n later within is.
    let history = c.args.history.now in
    let chain = c.args.chain.now in
    let few : length history < 2 ^ 64 = omega (arith, c.len-entries.ensures, c.len-entries.type_inv) in
    let long = long_of chain (take chain.count history) c.requires.at in
    let number = c.number_in-number.result in
    let same : number ≡ n = no_number history chain c.args.line.now number n long few c.number_in-number.ensures later within is in
    let fits = is ∙ ap (λ (k : ℕ). digest_line (chain_to history chain k)) (sym same) ∙ ap (λ (ch : Chain). digest_line ch) (sym c.in_ok-next.ensures) in
    let both : true ≡ false = sym (c.in_ok-is_digest_of.ensures.1 fits) ∙ c.if-not-branch.true in
    absurd (cc)
