use Rattle.std.proofs.Common.{◌≡◌, ◌∙◌, ◌<◌, ◌||◌, ℕ, Bool, List, ◌∷◌, codes, true, false, sym, ap, map, drop, length, suc, get_or, add-one, drop-cons}
use Rattle.std.specs.Str.{bytes_eq}
use Rattle.clap.specs.Words.{Text}
use Rattle.gu_words.specs.CommandLine.{has_until_closed}
use Rattle.gu_words.proofs.words.has_until_closed.Goals as goal

-- what is left begins with one word
first_left : {S : Type 0} (text : S → Text) (words : List S) (i : ℕ) (word : S) (is : Bool) → i < length words → word ≡ get_or words i word → bytes_eq (text word) (codes "--until-closed") ≡ is
    → has_until_closed (map text (drop i words)) ≡ (is || has_until_closed (map text (drop (suc i) words)))
first_left text words i word is below at same =
    ap (λ left. has_until_closed (map text left)) (drop-cons words i word below ∙ ap (λ x. x ∷ drop (suc i) words) (sym at))
    ∙ ap (λ b. b || has_until_closed (map text (drop (suc i) words))) same

pub returns-then-eq : goal.returns-then-eq
returns-then-eq g c =
    let same = ap (λ t. bytes_eq t (codes "--until-closed")) (sym c.as_str.ensures) ∙ sym c.eq.ensures ∙ c.if-eq.true in
    sym (first_left g.S.AsStr.text c.args.words.now c.loop-word.word-index c.word-item.result true c.loop-word-test.true c.word-item.is same) ∙ c.loop-word.invariant

pub loop-word-preserved : goal.loop-word-preserved
loop-word-preserved g c =
    let same = ap (λ t. bytes_eq t (codes "--until-closed")) (sym c.as_str.ensures) ∙ sym c.eq.ensures ∙ c.if-eq.false in
    ap (λ k. has_until_closed (map g.S.AsStr.text (drop k c.args.words.now))) (add-one c.loop-word.word-index)
    ∙ sym (first_left g.S.AsStr.text c.args.words.now c.loop-word.word-index c.word-item.result false c.loop-word-test.true c.word-item.is same) ∙ c.loop-word.invariant
