use Rattle.std.proofs.Common.{◌≡◌, ◌+◌, ◌++◌, ◌∷◌, [], ◌∙◌, ℕ, List, take, ap, sym}
use Rattle.std.specs.Fmt.{decimal}
use Rattle.std.specs.List.{flat_map}
use Rattle.std.proofs.lemmas.List.{take_more}
use Rattle.gu_terms.specs.declared.lines.Line.{Line}
use Rattle.gu_text.specs.Texts.{word}
use Rattle.gu_text.specs.WrittenCommands.{pair_words}
use Rattle.gu_text.proofs.WrittenCommandLemmas.{pairs_more}
use Rattle.gu_text.proofs.command_lines.append_pairs.Goals as goal

pub loop-line-preserved : goal.loop-line-preserved
loop-line-preserved c =
    let lines = c.args.lines.now in
    let i = c.loop-line.line-index in
    let l = c.line-item.result in
    let old = c.args.output.now.items in
    let next : take (i + 1) lines ≡ take i lines ++ l ∷ [] = take_more lines i l c.loop-line-test.true ∙ ap (λ (x : Line). take i lines ++ x ∷ []) (sym c.line-item.is) in
    c.in_ok-append_number.ensures.ok
    ∙ ap (λ (t : List ℕ). t ++ word (decimal c.get-in-loop-line.result)) c.in_ok-append_word.ensures.ok
    ∙ ap (λ (t : List ℕ). (c.loop-line.output.items ++ word t) ++ word (decimal c.get-in-loop-line.result)) c.get.ensures.bytes
    ∙ ap (λ n. (c.loop-line.output.items ++ word l.account.name) ++ word (decimal n)) c.get-in-loop-line.ensures.number
    ∙ ap (λ (t : List ℕ). (t ++ word l.account.name) ++ word (decimal l.lots)) c.loop-line.invariant
    ∙ pairs_more old (take i lines) l
    ∙ ap (λ (ls : List Line). old ++ flat_map word (pair_words ls)) (sym next)
