use Rattle.std.proofs.Common.{◌≡◌, ℕ, ◌+◌, ◌-◌, ◌≤◌, List, length, drop, ap, ◌∙◌, sym, arith}
use Rattle.std.proofs.lemmas.List.{drop-replicate}
use Rattle.std.proofs.Math.Seq.{drop-drop}
use Rattle.std.specs.Prelude.{replicate}
use Rattle.gu_terms.specs.Padded.{IsPadded, length-text}
use Rattle.gu_terms.proofs.padded.Padded.with.Goals as goal
use borrow.Rule.Slice.PartMut.{drop_put, put_mid, same_len_mid, mid_of}

-- appending to a text leaves zeros after both
more_after : (size : ℕ) (kept more : List ℕ) (len n : ℕ) → IsPadded size kept len → len + n ≤ size → length more ≡ n
    → length more ≡ length (mid_of len (len + n - len) kept)
    → IsPadded size (put_mid len (len + n - len) kept more) (len + n)
more_after size kept more len n h fits many same = record {
  size_is = same_len_mid len (len + n - len) kept more same ∙ h.size_is;
  within = fits;
  zeros =
      let left : size - len - n ≡ size - (len + n) = omega arith in
      drop_put len (len + n) kept more (omega arith) (omega (arith, h.size_is)) (omega arith)
      ∙ sym (drop-drop n len kept)
      ∙ ap (drop n) h.zeros
      ∙ drop-replicate {X = ℕ} n (size - len) 0
      ∙ ap (λ (m : ℕ). replicate m 0) left;
}

pub invariant_of-result : goal.invariant_of-result
invariant_of-result g c =
    let text : length c.args.self.now ≡ c.self.inside.len =
    ap {A = List ℕ} length (sym c.self.view_is) ∙ length-text g.row.N c.self.inside.bytes c.self.inside.len c.self.invariant in
    more_after g.row.N c.self.inside.bytes c.copy_from_slice.new.self c.self.inside.len (length c.args.more.now) c.self.invariant
    (omega (arith, text, c.requires.fits)) (ap {A = List ℕ} length c.copy_from_slice.ensures.after) c.copy_from_slice.ensures.len
