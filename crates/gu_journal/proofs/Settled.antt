-- Devices with a log.
use Rattle.std.proofs.Common.{◌≡◌, ℕ, ◌+◌, ◌-◌, ◌≤◌, List, [], ◌++◌, length, replicate, take, refl, sym, ◌∙◌, ap, subst, arith, append_assoc, length-append, Some}
use Rattle.std.proofs.lemmas.List.{length-replicate}
use Rattle.gu_journal.specs.Crashes.{Only}
use Rattle.gu_journal.specs.Device.{Cuts, Lengthens, Mixes, written}
use Rattle.gu_journal.specs.Log.{Finds, IsSettled}
use Rattle.gu_journal.specs.Sink.{HasBegun}
use Rattle.gu_journal.specs.Text.{HasNoZero, IsWholeLines, found, text_of, used_length}
use Rattle.gu_journal.specs.declared.sink.TheConstants.{MAX_BATCH}
use Rattle.gu_journal.proofs.Texts.{found_unused, no_zero-append, take_past, text_no_zero, text_of_unused, text_whole, unused-append, unused-take, unused_zeros, used-zeros, whole_lines-append}
use Rattle.gu_journal.proofs.Batches.{begun, length-over, overwritten, written_after}

-- a text and zeros
pub settle : (text rest file : List ℕ) (outcomes : List ℕ → Type 0) (at len : ℕ) → HasNoZero text → IsWholeLines text → used_length rest ≡ 0 → file ≡ text ++ rest
    → length text ≡ at → length rest ≡ len - at → Only file outcomes → IsSettled file outcomes at len
settle text rest file outcomes at len none whole unused file_is at_is len_is only =
    let text_is : text_of file ≡ text = ap text_of file_is ∙ text_of_unused text rest none whole unused in
    record {
      ends = ap length text_is ∙ at_is;
      is = file_is ∙ ap (λ (l : List ℕ). l ++ rest) (sym text_is) ∙ ap (λ (l : List ℕ). text_of file ++ l) (unused_zeros rest unused ∙ ap (λ (n : ℕ). replicate n 0) len_is);
      finds = ap found file_is ∙ found_unused text rest none whole unused ∙ ap (λ (l : List ℕ). Some l) (sym text_is);
      durable = only;
    }

-- zeros alone contain no text
pub finds_zeros : (c : List ℕ) (more : ℕ) → Lengthens more [] c → Finds [] c
finds_zeros c more longer = ap found longer.is ∙ found_unused [] (replicate longer.zeros 0) tt refl (used-zeros longer.zeros)

pub zeros_settled : (n : ℕ) (file : List ℕ) (outcomes : List ℕ → Type 0) → file ≡ replicate n 0 → Only file outcomes → IsSettled file outcomes 0 n
zeros_settled n file outcomes is only = settle [] (replicate n 0) file outcomes 0 n tt refl (used-zeros n) is refl (omega (arith, length-replicate {A = ℕ} n 0)) only

module _ (file : List ℕ) (outcomes : List ℕ → Type 0) (at len : ℕ) (settled : IsSettled file outcomes at len) where
  abbrev text : List ℕ
  text = text_of file

  abbrev blank : List ℕ
  blank = replicate (len - at) 0

  pub finds_cut : (c : List ℕ) → Cuts at file c → Finds text c
  finds_cut c cut =
      let rest = take (length c - length text) blank in
      let is : c ≡ text ++ rest = cut.is ∙ ap (λ (l : List ℕ). take (length c) l) settled.is ∙ take_past text blank (length c) (length c - length text) (omega (arith, cut.no_shorter, settled.ends, ap length settled.is, length-append text blank)) in
      ap found is ∙ found_unused text rest (text_no_zero file) (text_whole file) (unused-take (length c - length text) (len - at))

  pub finds_longer : (more : ℕ) (c : List ℕ) → Lengthens more file c → Finds text c
  finds_longer more c longer =
      let rest = blank ++ replicate longer.zeros 0 in
      let is : c ≡ text ++ rest = longer.is ∙ ap (λ (l : List ℕ). l ++ replicate longer.zeros 0) settled.is ∙ append_assoc text blank (replicate longer.zeros 0) in
      ap found is ∙ found_unused text rest (text_no_zero file) (text_whole file) (unused-append (len - at) (replicate longer.zeros 0) (used-zeros longer.zeros))

  -- with more zeros
  pub longer_kept : (file' : List ℕ) (more : ℕ) → file' ≡ file ++ replicate more 0 → text_of file' ≡ text
  longer_kept file' more is =
      let rest = blank ++ replicate more 0 in
      let whole : file' ≡ text ++ rest = is ∙ ap (λ (l : List ℕ). l ++ replicate more 0) settled.is ∙ append_assoc text blank (replicate more 0) in
      ap text_of whole ∙ text_of_unused text rest (text_no_zero file) (text_whole file) (unused-append (len - at) (replicate more 0) (used-zeros more))

  pub longer_settled : (file' : List ℕ) (outcomes' : List ℕ → Type 0) (more len' : ℕ) → at ≤ len → len' ≡ len + more → file' ≡ file ++ replicate more 0 → Only file' outcomes' → IsSettled file' outcomes' at len'
  longer_settled file' outcomes' more len' within len_is is only =
      let rest = blank ++ replicate more 0 in
      let whole : file' ≡ text ++ rest = is ∙ ap (λ (l : List ℕ). l ++ replicate more 0) settled.is ∙ append_assoc text blank (replicate more 0) in
      settle text rest file' outcomes' at len' (text_no_zero file) (text_whole file) (unused-append (len - at) (replicate more 0) (used-zeros more)) whole settled.ends
      (omega (arith, within, len_is, length-append blank (replicate more 0), length-replicate {A = ℕ} (len - at) 0, length-replicate {A = ℕ} more 0)) only

  -- with a batch
  module _ (batch : List ℕ) (none : HasNoZero batch) (whole : IsWholeLines batch) (room : at + length batch ≤ len) where
    both_no_zero : HasNoZero (text ++ batch)
    both_no_zero = no_zero-append text batch (text_no_zero file) none

    both_whole : IsWholeLines (text ++ batch)
    both_whole = whole_lines-append text batch (text_whole file) ∙ ap (λ (l : List ℕ). text ++ l) whole

    fits : length batch ≤ length blank
    fits = omega (arith, room, length-replicate {A = ℕ} (len - at) 0)

    rest_after : List ℕ
    rest_after = (overwritten batch blank (used-zeros (len - at)) fits).rest

    unused_after : used_length rest_after ≡ 0
    unfolding rest_after
    unused_after = (overwritten batch blank (used-zeros (len - at)) fits).unused

    file_after : (file' : List ℕ) → file' ≡ written at batch file → file' ≡ (text ++ batch) ++ rest_after
    unfolding rest_after
    file_after file' is =
        is ∙ ap (λ (l : List ℕ). written at batch l) settled.is ∙ written_after text blank batch at settled.ends
        ∙ ap (λ (l : List ℕ). text ++ l) (overwritten batch blank (used-zeros (len - at)) fits).file_is ∙ sym (append_assoc text batch rest_after)

    pub put_kept : (file' : List ℕ) → file' ≡ written at batch file → text_of file' ≡ text ++ batch
    put_kept file' is = ap text_of (file_after file' is) ∙ text_of_unused (text ++ batch) rest_after both_no_zero both_whole unused_after

    length_after : length batch + length rest_after ≡ len - at
    unfolding rest_after
    length_after =
        let parts = (overwritten batch blank (used-zeros (len - at)) fits).file_is in
        omega (arith, ap length parts, length-over batch blank fits, length-append batch rest_after, length-replicate {A = ℕ} (len - at) 0)

    pub put_settled : (file' : List ℕ) (outcomes' : List ℕ → Type 0) → file' ≡ written at batch file → Only file' outcomes' → IsSettled file' outcomes' (at + length batch) len
    put_settled file' outcomes' is only =
        settle (text ++ batch) rest_after file' outcomes' (at + length batch) len both_no_zero both_whole unused_after (file_after file' is)
        (omega (arith, length-append text batch, settled.ends)) (omega (arith, length_after)) only

    -- what is found after a crash
    pub finds_begun : length batch ≤ MAX_BATCH → (c : List ℕ) → Mixes at batch file c → HasBegun text batch (found c)
    finds_begun short c mix =
        begun text blank batch at c (text_no_zero file) (text_whole file) (used-zeros (len - at)) settled.ends short
        (subst (λ (f : List ℕ). Mixes at batch f c) settled.is mix)
