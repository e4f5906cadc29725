-- What a crash leaves of one step on a device whose bytes are all on the disk.
use Rattle.std.proofs.Common.{inl, inr, ℕ, zero, suc, ◌+◌, ◌≤◌, List, [], ◌∷◌, ◌++◌, length, replicate, take, refl, sym, ◌∙◌, ap, subst, arith, append-nil}
use Rattle.std.proofs.lemmas.List.{take_all, take_min, length-take}
use Rattle.gu_journal.specs.Crashes.{Elapses, LeavesOnly, Only}
use Rattle.gu_journal.specs.Device.{Cuts, Follows, IsMix, Lengthens, Mixes, over, written}
use Rattle.gu_journal.proofs.Moments.{started, goes_on}

mix_over : (bytes olds : List ℕ) → length bytes ≤ length olds → IsMix olds (over bytes olds) olds
mix_over [] [] fits = tt
mix_over [] (old ∷ olds) fits = (inl refl, mix_over [] olds (omega arith))
mix_over (byte ∷ bytes) [] fits = absurd (omega arith)
mix_over (byte ∷ bytes) (old ∷ olds) fits = (inl refl, mix_over bytes olds (omega arith))

-- nothing of a write
pub mixes_none : (at : ℕ) (bytes olds : List ℕ) → at + length bytes ≤ length olds → Mixes at bytes olds olds
mixes_none zero bytes olds fits = mix_over bytes olds (omega arith)
mixes_none (suc at) bytes [] fits = absurd (omega arith)
mixes_none (suc at) bytes (old ∷ olds) fits = (inl refl, mixes_none at bytes olds (omega arith))

-- none of the zeros
pub lengthens_none : (more : ℕ) (olds : List ℕ) → Lengthens more olds olds
lengthens_none more olds = record { zeros = 0; no_more = omega arith; is = sym (append-nil olds) }

-- nothing of a cut
pub cuts_none : (len : ℕ) (olds : List ℕ) → Cuts len olds olds
cuts_none len olds = record { no_shorter = omega arith; is = sym (take_all (length olds) olds (omega arith)) }

over_mix : (bytes olds : List ℕ) → length bytes ≤ length olds → IsMix olds (over bytes olds) (over bytes olds)
over_mix [] [] fits = tt
over_mix [] (old ∷ olds) fits = (inl refl, over_mix [] olds (omega arith))
over_mix (byte ∷ bytes) [] fits = absurd (omega arith)
over_mix (byte ∷ bytes) (old ∷ olds) fits = (inr refl, over_mix bytes olds (omega arith))

-- all of a write
pub mixes_all : (at : ℕ) (bytes olds : List ℕ) → at + length bytes ≤ length olds → Mixes at bytes olds (written at bytes olds)
mixes_all zero bytes olds fits = over_mix bytes olds (omega arith)
mixes_all (suc at) bytes [] fits = absurd (omega arith)
mixes_all (suc at) bytes (old ∷ olds) fits = (inl refl, mixes_all at bytes olds (omega arith))

-- all of the zeros
pub lengthens_all : (more : ℕ) (olds : List ℕ) → Lengthens more olds (olds ++ replicate more 0)
lengthens_all more olds = record { zeros = more; no_more = omega arith; is = refl }

-- all of a cut
pub cuts_all : (len : ℕ) (olds : List ℕ) → Cuts len olds (take len olds)
cuts_all len olds = record {
  no_shorter = omega (arith, length-take len olds);
  is = sym (take_min len olds) ∙ ap (λ (n : ℕ). take n olds) (sym (length-take len olds));
}

module _ {D : Type 0} (moment : D → ℕ) (left_since : D → ℕ → List ℕ → Type 0) (may_leave : D → List ℕ → Type 0) where
  pub stepped : (old mid : D) (bytes : List ℕ) (Step : List ℕ → List ℕ → Type 0) → Only bytes (may_leave old) → ((c : List ℕ) → left_since old (moment old) c → may_leave old c)
      → Step bytes bytes → Elapses moment left_since old mid (may_leave mid) → Follows Step (may_leave old) (may_leave mid) → LeavesOnly moment left_since old mid (Step bytes)
  stepped old mid bytes Step only only_now none time follows =
      goes_on moment left_since old old mid (Step bytes) (may_leave mid)
      (started moment left_since old (Step bytes) (λ c left. subst (λ (l : List ℕ). Step bytes l) (sym (only c (only_now c left))) none)) time
      (λ c now. let from = follows c now in subst (λ (l : List ℕ). Step l c) (only from.0 from.1) from.2)

  pub stepped_synced : (old mid new : D) (bytes : List ℕ) (Step : List ℕ → List ℕ → Type 0) → Only bytes (may_leave old) → ((c : List ℕ) → left_since old (moment old) c → may_leave old c)
      → Step bytes bytes → Elapses moment left_since old mid (may_leave mid) → Follows Step (may_leave old) (may_leave mid)
      → Elapses moment left_since mid new (may_leave new) → ((c : List ℕ) → may_leave new c → may_leave mid c) → LeavesOnly moment left_since old new (Step bytes)
  stepped_synced old mid new bytes Step only only_now none time follows synced_time no_more =
      goes_on moment left_since old mid new (Step bytes) (may_leave new) (stepped old mid bytes Step only only_now none time follows) synced_time
      (λ c now. let from = follows c (no_more c now) in subst (λ (l : List ℕ). Step l c) (only from.0 from.1) from.2)
