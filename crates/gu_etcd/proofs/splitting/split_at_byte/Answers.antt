use Rattle.std.proofs.Common.{◌≡◌, ◌∷◌, ◌++◌, ◌+◌, ◌-◌, List, ℕ, length, take, drop, subst, sym, ◌∙◌, arith}
use Rattle.std.proofs.lemmas.Grind.{common_steps}
use Rattle.std.proofs.lemmas.List.{take_all}
use Rattle.gu_etcd.specs.Splitting.{Lacks}
use Rattle.gu_etcd.proofs.Splits.{has_it, lacks_front, one_split}
use Rattle.gu_etcd.proofs.splitting.split_at_byte.Goals as goal

pub returns-then-other-byte-clause-first : goal.returns-then-other-byte-clause-first
returns-then-other-byte-clause-first c = lacks_front c.args.byte c.args.text.now c.loop-i.i c.loop-i.invariant

pub returns-clause-none : goal.returns-clause-none
returns-clause-none c =
    subst (λ (l : List ℕ). Lacks c.args.byte l) (take_all c.loop-i.i c.args.text.now c.loop-i-test.false)
    (lacks_front c.args.byte c.args.text.now c.loop-i.i c.loop-i.invariant)

pub returns-then-other-byte-clause-only : goal.returns-then-other-byte-clause-only
returns-then-other-byte-clause-only c = λ first rest lacks is.
    let text = c.args.text.now in
    let byte = c.args.byte in
    let i = c.loop-i.i in
    let parts : text ≡ take i text ++ byte ∷ take (length text - (i + 1)) (drop (i + 1) text) = grind (arith, common_steps) in
    one_split byte (take i text) first (take (length text - (i + 1)) (drop (i + 1) text)) rest (lacks_front byte text i c.loop-i.invariant) lacks (sym parts ∙ is)

pub returns-clause-only : goal.returns-clause-only
returns-clause-only c = λ first rest lacks is.
    let none : Lacks c.args.byte c.args.text.now = subst (λ (l : List ℕ). Lacks c.args.byte l) (take_all c.loop-i.i c.args.text.now c.loop-i-test.false)
    (lacks_front c.args.byte c.args.text.now c.loop-i.i c.loop-i.invariant) in
    absurd (has_it c.args.byte first rest (subst (λ (l : List ℕ). Lacks c.args.byte l) is none))
