-- A text of which the first part is written.
use Rattle.gu_engine.proofs.Words.{◌≡◌, ◌++◌, ℕ, List, Option, take, drop, sym, ap, ◌∙◌, append_assoc, take-append-drop, WrotePart}

-- a prefix of the first part of a text is a prefix of the text
pub wrote_first : (count : ℕ) (text : List ℕ) (a b : Option (List ℕ)) → WrotePart (take count text) a b → WrotePart text a b
wrote_first count text a b part = record {
  written = part.written;
  appended = part.appended;
  prefix = record {
    rest = part.prefix.rest ++ drop count text;
    parts = sym (take-append-drop count text) ∙ ap (λ (t : List ℕ). t ++ drop count text) part.prefix.parts ∙ append_assoc part.written part.prefix.rest (drop count text);
  };
}
