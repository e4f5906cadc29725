use Rattle.gu_script.proofs.Words.{◌≡◌, ◌∙◌, ◌++◌, ◌∷◌, [], ℕ, List, ap, subst, strip_carriage_return, Course, Place, whole_line, AnswersLines, AnswersSaid}
use Rattle.gu_script.proofs.ReplaySteps.{said_answered}
use Rattle.gu_script.proofs.script.Script.end_line.Goals as goal

pub invariant_of-self-2 : goal.invariant_of-self-2
invariant_of-self-2 g c =
    c.in_ok-extend_begun.ensures.none c.self.invariant c.requires.none

pub returns-clause-answered : goal.returns-clause-answered
returns-clause-answered g c =
    let line : c.without_return-line.result.now ≡ strip_carriage_return (c.args.self.now.rest ++ c.args.part.now) =
    c.without_return-line.ensures ∙ ap strip_carriage_return (c.whole_line.ensures ∙ ap (λ (r : List ℕ). whole_line r c.args.part.now) c.deref.ensures.value ∙ c.in_ok-extend_begun.ensures.whole ∙ ap (λ (p : Place). p.rest ++ c.args.part.now) c.self.view_is) in
    subst (λ (t : List ℕ). AnswersLines c.args.self.now.course (t ∷ []) c.args.output.now.items c.answer.new.self.course c.answer.new.output.items) line
    (said_answered c.args.self.now.course c.answer.new.self.course c.without_return-line.result.now c.read_over.new.said c.args.output.now.items c.answer.new.output.items
    c.in_ok-read_over.ensures.said
    (subst (λ (s : Course). AnswersSaid s c.read_over.new.said c.args.output.now.items c.answer.new.self.course c.answer.new.output.items) (ap (λ (p : Place). p.course) c.self.view_is) c.in_ok-answer.ensures.answered))
