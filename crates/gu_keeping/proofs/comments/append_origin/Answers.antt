use Rattle.gu_keeping.proofs.Words.{◌≡◌, ◌++◌, ◌∷◌, [], ◌∙◌, ℕ, List, None, Some, sym, ap, subst, append_assoc, codes, decimal, last_word, line_of, word, Origin, IsOriginRow, message_words}
use Rattle.gu_msgs.specs.MomentTexts.{WritesMoment}
use Rattle.gu_desk.specs.declared.origin.FirmMessage.{FirmMessage}
use Rattle.gu_keeping.proofs.Results.{on_ok}
use Rattle.gu_keeping.proofs.comments.append_origin.Goals as goal

-- a message's row, and that of none
message_row : (old first second new stamp : List ℕ) (origin : Origin) (message : FirmMessage) → WritesMoment origin.moment stamp → origin.message ≡ Some message
    → first ≡ old ++ word (codes "#") → second ≡ first ++ word stamp
    → new ≡ second ++ line_of (message.firm.name ∷ decimal message.connection ∷ decimal message.number ∷ [])
    → (row : List (List ℕ)) × IsOriginRow origin row × (new ≡ old ++ line_of row)
message_row old first second new stamp origin message writes is a b d =
    let words = message.firm.name ∷ decimal message.connection ∷ decimal message.number ∷ [] in (
      codes "#" ∷ stamp ∷ words,
      record { stamp = stamp; writes = writes; row_is = ap (λ m. codes "#" ∷ stamp ∷ message_words m) (sym is) },
      d
          ∙ ap (λ (t : List ℕ). t ++ line_of words) (b ∙ ap (λ (t : List ℕ). t ++ word stamp) a)
          ∙ append_assoc (old ++ word (codes "#")) (word stamp) (line_of words)
          ∙ append_assoc old (word (codes "#")) (word stamp ++ line_of words),
    )

moment_row : (old first new stamp : List ℕ) (origin : Origin) → WritesMoment origin.moment stamp → origin.message ≡ None
    → first ≡ old ++ word (codes "#") → new ≡ first ++ last_word stamp
    → (row : List (List ℕ)) × IsOriginRow origin row × (new ≡ old ++ line_of row)
moment_row old first new stamp origin writes is a b = (
  codes "#" ∷ stamp ∷ [],
  record { stamp = stamp; writes = writes; row_is = ap (λ m. codes "#" ∷ stamp ∷ message_words m) (sym is) },
  b ∙ ap (λ (t : List ℕ). t ++ last_word stamp) a ∙ append_assoc old (word (codes "#")) (last_word stamp),
)

pub returns-in_ok-append_word-in-Some : goal.returns-in_ok-append_word-in-Some
returns-in_ok-append_word-in-Some c =
    let stamp = c.moment_text-stamp.result in
    let second = subst (λ (t : List ℕ). c.append_word-in-Some.new.output.items ≡ c.append_word.new.output.items ++ word t) c.as_slice.ensures c.in_ok-append_word-in-Some.ensures.ok in
    on_ok c.append_message.result c.append_message.ensures (λ ended.
    message_row c.args.output.now.items c.append_word.new.output.items c.append_word-in-Some.new.output.items c.append_message.new.output.items stamp c.args.origin.now c.in-Some.message
    c.moment_text-stamp.ensures c.in-Some.is c.in_ok-append_word.ensures.ok second ended)

pub returns-in-None : goal.returns-in-None
returns-in-None c =
    let stamp = c.moment_text-stamp.result in
    on_ok c.append_last_word.result c.append_last_word.ensures.ok (λ ended.
    moment_row c.args.output.now.items c.append_word.new.output.items c.append_last_word.new.output.items stamp c.args.origin.now
    c.moment_text-stamp.ensures c.in-None.is c.in_ok-append_word.ensures.ok (ended ∙ ap (λ (t : List ℕ). c.append_word.new.output.items ++ last_word t) c.as_slice-in-None.ensures))
