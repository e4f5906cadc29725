use Rattle.gu_days.proofs.Words.{◌≡◌, ◌++◌, List, ℕ, take, subst, lines, beginning, IsTextOfLines}
use Rattle.gu_days.proofs.Again.{legal_taken}
use Rattle.gu_days.proofs.laws.what_a_crash_leaves_plays_to_what_was_kept.Goals as goal

pub returns : goal.returns
returns c = λ reference kept batch text found answers course legal says h.
    let is : found ≡ text ++ says.lines_more = let e = says.found in cc in
    let played = subst (λ (t : List ℕ). IsTextOfLines (beginning reference) (lines t) answers course) is h in
    record {
      count = says.count;
      within = says.within;
      again = c.what_says_a_day_plays_to_it.ensures reference (kept ++ take says.count batch) (lines (text ++ says.lines_more)) answers course (legal_taken reference kept batch says.count legal) says.says.says played;
    }
