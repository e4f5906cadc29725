-- Reading a script line.
use Rattle.std.proofs.Common.{◌≡◌, ◌≢◌, ◌∷◌, [], ◌∙◌, ◌<◌, ◌≤◌, ℕ, true, false, List, Option, None, Some, length, MatchOption, IsErrOf, IsTrue, OnErr, Result, Ok, Err, refl, sym, ap, subst, arith}
use Rattle.gu_terms.specs.declared.command.Command.TheVariants.{OpenDay, SetLimit, ReportSide, GiveUp, Claim, Refuse, Reverse}
use Rattle.gu_world.specs.declared.step.Step.TheVariants.{Enter, See, Propose, Commit}
use Rattle.gu_text.specs.Lines.{is_silent, longest_line}
use Rattle.gu_text.specs.ScriptForms.{IsBegun, ReadsOver, ReadsWords, WriteNone, form_begun, form_of, form_word}
use Rattle.gu_text.specs.Scripts.{IsBad, Says, Writes}
use Rattle.gu_text.specs.Words.{is_ragged, words_of}
use Rattle.gu_text.specs.declared.error.TextError.{TextError}
use Rattle.gu_text.specs.declared.error.TextError.TheVariants.{BadLine, Memory}
use Rattle.gu_text.specs.declared.script_forms.Form.{Form}
use Rattle.gu_text.specs.declared.script_forms.Form.TheVariants as form
use Rattle.gu_text.specs.declared.script_line.Line.{Line}
use Rattle.gu_text.specs.declared.script_line.Line.TheVariants as line

-- what is written begins with the first word of its form
pub begins : (words : List (List ℕ)) (said : Line) → Writes words said → (rest : List (List ℕ)) × (words ≡ form_word (form_of said) ∷ rest)
begins words (line.Step (Enter (ReportSide it))) h = (_, h.2)
begins words (line.Step (Enter (Refuse it))) h = (_, h.2)
begins words (line.Step step) h = (_, h.1)
begins words (line.Sweep group) h = (_, h.0)
begins words (line.Position account symbol) h = (_, h.0)
begins words (line.Interest symbol) h = (_, h.0)
begins words (line.Limits group) h = (_, h.0)

-- each form is found by its word
pub form_begun-word : (f : Form) → form_begun (form_word f) ≡ Some f
form_begun-word form.Day = refl
form_begun-word form.Limit = refl
form_begun-word form.Report = refl
form_begun-word form.GiveUp = refl
form_begun-word form.Claim = refl
form_begun-word form.Refuse = refl
form_begun-word form.Reverse = refl
form_begun-word form.See = refl
form_begun-word form.Propose = refl
form_begun-word form.Commit = refl
form_begun-word form.Sweep = refl
form_begun-word form.Position = refl
form_begun-word form.Interest = refl
form_begun-word form.Limits = refl

-- words that are no line of their form aren't a line
none_written : (words : List (List ℕ)) (said : Line) → WriteNone (form_of said) words → ¬ Writes words said
none_written words (line.Step (Enter (OpenDay it))) none h = none it h
none_written words (line.Step (Enter (SetLimit it))) none h = none it h
none_written words (line.Step (Enter (ReportSide it))) none h = none it h
none_written words (line.Step (Enter (GiveUp it))) none h = none it h
none_written words (line.Step (Enter (Claim it))) none h = none it h
none_written words (line.Step (Enter (Refuse it))) none h = none it h
none_written words (line.Step (Enter (Reverse it))) none h = none it h
none_written words (line.Step (See worker group)) none h = none worker group h
none_written words (line.Step (Propose worker)) none h = none worker h
none_written words (line.Step (Commit worker)) none h = none worker h
none_written words (line.Sweep group) none h = none group h
none_written words (line.Position account symbol) none h = none account symbol h
none_written words (line.Interest symbol) none h = none symbol h
none_written words (line.Limits group) none h = none group h

-- the line that words are has the form of the first word
form_written : (kind : List ℕ) (words : List (List ℕ)) (said : Line) → Writes (kind ∷ words) said → form_begun kind ≡ Some (form_of said)
form_written kind words said h =
    let b = begins (kind ∷ words) said h in
    let first : kind ≡ form_word (form_of said) = let whole = b.1 in cc in
    ap form_begun first ∙ form_begun-word (form_of said)

-- if the first word is that of no form, the words are no line
unbegun : (kind : List ℕ) (words : List (List ℕ)) → ((f : Form) → kind ≢ form_word f) → ReadsWords (kind ∷ words) None
unbegun kind words none said h = let b = begins (kind ∷ words) said h in let whole = b.1 in none (form_of said) cc

-- so a line whose first word is that of no form is bad
pub unbegun_bad : (text kind : List ℕ) (words : List (List ℕ)) → is_silent text ≡ false → words_of text ≡ kind ∷ words → ((f : Form) → kind ≢ form_word f) → IsBad text
unbegun_bad text kind words speaks words_are none = record {
  speaks = speaks;
  nothing = λ said says. unbegun kind words none said (subst (λ (ws : List (List ℕ)). Writes ws said) words_are says.writes);
}

-- a line is begun by the form of its first word
pub is_begun : (text kind : List ℕ) (f : Form) (words : List (List ℕ)) → is_silent text ≡ false → length text ≤ longest_line → is_ragged text ≡ false → words_of text ≡ kind ∷ words → kind ≡ form_word f → IsBegun text f words
is_begun text kind f words speaks short even words_are is = record {
  speaks = speaks;
  short = short;
  even = even;
  words_are = words_are ∙ ap (λ (k : List ℕ). k ∷ words) is;
}

-- if words are no line of the form, they are no line
begun : (words : List (List ℕ)) (f : Form) → WriteNone f (form_word f ∷ words) → ReadsWords (form_word f ∷ words) None
begun words f none = λ said h.
    let same : f ≡ form_of said = let e = sym (form_begun-word f) ∙ form_written (form_word f) words said h in cc in
    none_written (form_word f ∷ words) said (subst (λ g. WriteNone g (form_word f ∷ words)) same none) h

-- no words write nothing
pub wordless : (said : Line) → ¬ Writes [] said
wordless said h = let b = begins [] said h in let e = b.1 in cc

-- a line that is too long is bad, and so is one with a space at an end
pub long_bad : (text : List ℕ) → is_silent text ≡ false → longest_line < length text → IsBad text
long_bad text speaks long = record { speaks = speaks; nothing = λ said says. absurd (omega (arith, long, says.short)) }

pub ragged_bad : (text : List ℕ) → is_silent text ≡ false → is_ragged text ≡ true → IsBad text
ragged_bad text speaks ragged = record { speaks = speaks; nothing = λ said says. let e : true ≡ false = sym ragged ∙ says.even in cc }

-- any other line has the content of its words
pub words_said : (text : List ℕ) (read : Option Line) → is_silent text ≡ false → length text ≤ longest_line → is_ragged text ≡ false → ReadsWords (words_of text) read → MatchOption read (IsBad text) (Says text)
words_said text (Some said) speaks short even reads = record { speaks = speaks; short = short; even = even; writes = reads }
words_said text None speaks short even reads = record { speaks = speaks; nothing = λ said says. reads said says.writes }

-- so a line that begins with the word of a form has the content read from the words after it, or is bad
pub begun_said : (text : List ℕ) (f : Form) (words : List (List ℕ)) (number : ℕ) (old new : Option Line) → IsBegun text f words → ReadsOver f words number (Ok tt) old new
    → MatchOption new (IsTrue (is_silent text)) (Says text)
begun_said text f words number old None is read = absurd read
begun_said text f words number old (Some said) is read =
    words_said text (Some said) is.speaks is.short is.even (subst (λ (ws : List (List ℕ)). ReadsWords ws (Some said)) (sym is.words_are) read)

pub begun_bad : (text : List ℕ) (f : Form) (words : List (List ℕ)) (number : ℕ) (result : Result (Unit {0}) TextError) (old new : Option Line) → IsBegun text f words
    → ReadsOver f words number result old new → (n : ℕ) → IsErrOf result (BadLine n) → (n ≡ number) × IsBad text
begun_bad text f words number result old new is read n bad =
    let failed = subst (λ (r : Result (Unit {0}) TextError). ReadsOver f words number r old new) bad read in
    (failed.0.0, words_said text None is.speaks is.short is.even (subst (λ (ws : List (List ℕ)). ReadsWords ws None) (sym is.words_are) (begun words f failed.0.1)))

-- after an error the content is unchanged
pub read_refused : (f : Form) (words : List (List ℕ)) (number : ℕ) (result : Result (Unit {0}) TextError) (old new : Option Line) → ReadsOver f words number result old new → OnErr result (new ≡ old)
read_refused f words number (Ok done) old new read = tt
read_refused f words number (Err (BadLine n)) old new read = read.1
read_refused f words number (Err Memory) old new read = read
