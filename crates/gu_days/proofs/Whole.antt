-- What was played of a text that was read whole.
use Rattle.gu_days.proofs.Words.{◌≡◌, ℕ, List, ◌++◌, Option, None, Some, sym, ap, ◌∙◌, subst, inl, inr, append-nil, lines, Course, IsTextOfLines}
use Rattle.std.specs.Io.KnownBytes.{Consumes, IsAtEnd}
use Rattle.gu_script.specs.ScriptRuns.{EndsAtBadLine, EndsThere, HasBadLine, IsPlayed}

-- what was read of a text up to its end is the text
read_whole : (text read : List ℕ) (left : Option (List ℕ)) → Consumes (Some text) left read → IsAtEnd left → read ≡ text
read_whole text read None consumed at_end = absurd consumed
read_whole text read (Some rest) consumed at_end = sym (consumed ∙ ap (λ (r : List ℕ). read ++ r) at_end ∙ append-nil read)

pub whole_lines : (old new : Course) (answers text : List ℕ) (input_old input_new : Option (List ℕ)) → IsPlayed old answers new input_old input_new → input_old ≡ Some text
    → IsTextOfLines old (lines text) answers new
whole_lines old new answers text input_old input_new played is =
    let consumed = subst (λ (o : Option (List ℕ)). Consumes o input_new played.read) is played.consumed in
    subst (λ (t : List ℕ). IsTextOfLines old (lines t) answers new) (read_whole text played.read input_new consumed played.at_end) played.of_lines

-- a text of which a part ends at a bad line, whatever follows, ends there
ends_there : (old : Course) (answers text read : List ℕ) (number : ℕ) (left : Option (List ℕ)) → Consumes (Some text) left read → EndsThere old read left answers number → EndsAtBadLine old text answers number
ends_there old answers text read number None consumed ends = absurd consumed
ends_there old answers text read number (Some rest) consumed (inl however) = subst (λ (t : List ℕ). EndsAtBadLine old t answers number) (sym consumed) (however rest)
ends_there old answers text read number (Some rest) consumed (inr end) =
    subst (λ (t : List ℕ). EndsAtBadLine old t answers number) (read_whole text read (Some rest) consumed end.0) end.1

pub whole_bad : (old : Course) (answers text : List ℕ) (number : ℕ) (input_old input_new : Option (List ℕ)) → HasBadLine old answers number input_old input_new → input_old ≡ Some text
    → EndsAtBadLine old text answers number
whole_bad old answers text number input_old input_new bad is =
    ends_there old answers text bad.read number input_new (subst (λ (o : Option (List ℕ)). Consumes o input_new bad.read) is bad.consumed) bad.ends
