-- Texts of lines: those of some lines, followed by those of others.
use Rattle.gu_script.proofs.Words.{◌∙◌, ℕ, List, [], ◌∷◌, ◌++◌, IsTrue, refl, sym, ap, subst, append_assoc, append-nil, inl, inr, Course, is_silent, Says, Line, HasLineText, HasText, IsTextOfLines, SayAll}

-- lines say something, and others say more
pub SayAll-append : (texts more : List (List ℕ)) (said others : List Line) → SayAll texts said → SayAll more others → SayAll (texts ++ more) (said ++ others)
SayAll-append [] more [] others first second = second
SayAll-append [] more (one ∷ said) others first second = absurd first
SayAll-append (text ∷ texts) more [] [] first second = (first.0, SayAll-append texts more [] [] first.1 second)
SayAll-append (text ∷ texts) more [] (one ∷ others) first second = inl (first.0, SayAll-append texts more [] (one ∷ others) first.1 second)
SayAll-append (text ∷ texts) more (one ∷ said) others (inl silent) second = inl (silent.0, SayAll-append texts more (one ∷ said) others silent.1 second)
SayAll-append (text ∷ texts) more (one ∷ said) others (inr says) second = inr (says.0, SayAll-append texts more said others says.1 second)

-- what they say is carried out one after another
pub HasText-append : (old mid new : Course) (said others : List Line) (text more : List ℕ) → HasText old said text mid → HasText mid others more new → HasText old (said ++ others) (text ++ more) new
HasText-append old mid new [] others text more first second =
    subst (λ (t : List ℕ). HasText old others (t ++ more) new) (sym first.0) (subst (λ (s : Course). HasText s others more new) first.1 second)
HasText-append old mid new (one ∷ said) others text more (front, rest, next, line, parts, later) second =
    (front, rest ++ more, next, line, ap (λ (t : List ℕ). t ++ more) parts ∙ append_assoc front rest more, HasText-append next mid new said others rest more later second)

-- so their texts are joined
pub lines_then : (old mid new : Course) (texts others : List (List ℕ)) (text more : List ℕ) → IsTextOfLines old texts text mid → IsTextOfLines mid others more new → IsTextOfLines old (texts ++ others) (text ++ more) new
lines_then old mid new texts others text more first second = record {
  said = first.said ++ second.said;
  all = SayAll-append texts others first.said second.said first.all second.all;
  has_text = HasText-append old mid new first.said second.said text more first.has_text second.has_text;
}

-- no lines have the empty text
pub lines_none : (old : Course) → IsTextOfLines old [] [] old
lines_none old = record { said = []; all = tt; has_text = (refl, refl) }

-- so has a silent line
pub line_silent : (old : Course) (text : List ℕ) → IsTrue (is_silent text) → IsTextOfLines old (text ∷ []) [] old
line_silent old text silent = record { said = []; all = (silent, tt); has_text = (refl, refl) }

-- a line that says something has its text
pub line_said : (old new : Course) (text answer : List ℕ) (said : Line) → Says text said → HasLineText old said answer new → IsTextOfLines old (text ∷ []) answer new
line_said old new text answer said says has = record {
  said = said ∷ [];
  all = inr (says, tt);
  has_text = (answer, [], new, has, sym (append-nil answer), (refl, refl));
}
