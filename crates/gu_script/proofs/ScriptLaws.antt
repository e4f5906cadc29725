-- A script is one run of the steps of its lines.
use Rattle.gu_script.proofs.Words.{◌≡◌, ◌∙◌, ℕ, List, [], ◌∷◌, ◌++◌, ap, sym, append_assoc, append-nil, flat_map, Course, IsRun, Outcome, Line, HasText, steps_of}
use Rattle.gu_world.proofs.RunLemmas.{IsRun-append}

-- the steps of lines that are answered so are a run, and the outcomes are those of this run
pub steps_are_a_run : (old new : Course) (said : List Line) (text : List ℕ) → HasText old said text new
    → (outcomes : List Outcome) × IsRun old.state (flat_map steps_of said) outcomes new.state × (new.outcomes ≡ old.outcomes ++ outcomes)
steps_are_a_run old new [] text h = ([], ap (λ (c : Course). c.state) h.1, ap (λ (c : Course). c.outcomes) h.1 ∙ sym (append-nil old.outcomes))
steps_are_a_run old new (one ∷ others) text h =
    let later = steps_are_a_run h.2 new others h.1 h.5 in (
      h.3.outcomes ++ later.0,
      IsRun-append old.state h.2.state new.state (steps_of one) (flat_map steps_of others) h.3.outcomes later.0 h.3.run later.1,
      later.2 ∙ ap (λ (os : List Outcome). os ++ later.0) h.3.outcomes_are ∙ append_assoc old.outcomes h.3.outcomes later.0,
    )
