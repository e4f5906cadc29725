use Rattle.gu_book.proofs.Words.{◌≡◌, ◌==◌, ℕ, Bool, subst, ap, ◌∙◌, refl, IsDistinct, IsAscending, LimitKey}
use Rattle.gu_terms.proofs.KeyLemmas.{eq, eq_is}
use Rattle.gu_terms.specs.Cuts.{CutLists}
use Rattle.gu_terms.specs.contracts.offer_no.OfferNoPartialEq.TheImpl as number
use Rattle.gu_book.proofs.sweeping.asks_for_a_sweep.Goals as goal

-- the `==` of numbers
abbrev number_eq : ℕ → ℕ → Bool
number_eq = number.eq-value.it

number_is : (m n : ℕ) → number_eq m n ≡ (m == n)
number_is m n = refl

pub returns : goal.returns
returns c =
    let sound = c.lots.ensures.sound in record {
      ascending = subst IsAscending c.takes-takes.ensures.takes c.as_slice.ensures.ascending;
      keys = subst (λ (same : LimitKey → LimitKey → Bool). IsDistinct same c.args.proposal.now.cut.keys) (λ i a b. eq_is a b i)
          (subst (IsDistinct eq) (c.keys.ensures.keys ∙ ap (λ (cut : CutLists). cut.keys) c.cut-cut.ensures.cut) c.keys.ensures.once);
      offers = subst (λ (same : ℕ → ℕ → Bool). IsDistinct same c.args.proposal.now.cut.offers) (λ i m n. number_is m n i)
          (subst (IsDistinct number_eq) (c.offers.ensures.offers ∙ ap (λ (cut : CutLists). cut.offers) c.cut-cut.ensures.cut) c.offers.ensures.once);
      right = sound.right;
      oldest = sound.oldest;
      nearest = sound.nearest;
    }
