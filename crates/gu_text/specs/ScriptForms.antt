-- Machinery: the forms of script lines, while one is read. (No other crate names this file.)
use Rattle.std.specs.Prelude.{◌≡◌, ◌≤◌, ℕ, false, List, [], ◌∷◌, codes, length, IsTrue, MatchOption, Option, Some, None, Result, Ok, Err, nat_le, if◌then◌else◌}
use Rattle.std.specs.List.{find}
use Rattle.std.specs.Option.{option_and_then}
use Rattle.std.specs.Str.{bytes_eq}
use Rattle.gu_terms.specs.AllocRejects.{reject_number}
use Rattle.gu_terms.specs.Lines.{AreLines}
use Rattle.gu_terms.specs.Names.{is_name}
use Rattle.gu_terms.specs.NumberText.{MeansLots}
use Rattle.gu_terms.specs.declared.account.AccountId.{AccountId}
use Rattle.gu_terms.specs.declared.alloc_reject.AllocReject.{AllocReject}
use Rattle.gu_terms.specs.declared.command.Command.TheVariants.{OpenDay, SetLimit, ReportSide, GiveUp, Claim, Refuse, Reverse}
use Rattle.gu_terms.specs.declared.command.Reverse.{Reverse as ReverseOf}
use Rattle.gu_terms.specs.declared.command.Refuse.{Refuse as RefuseOf}
use Rattle.gu_terms.specs.declared.command.Claim.{Claim as ClaimOf}
use Rattle.gu_terms.specs.declared.command.GiveUp.{GiveUp as GiveUpOf}
use Rattle.gu_terms.specs.declared.command.ReportSide.{ReportSide as ReportSideOf}
use Rattle.gu_terms.specs.declared.command.SetLimit.{SetLimit as SetLimitOf}
use Rattle.gu_terms.specs.declared.command.OpenDay.{OpenDay as OpenDayOf}
use Rattle.gu_terms.specs.declared.group.Group.{Group}
use Rattle.gu_terms.specs.declared.lines.Line.{Line as GiveUpLine}
use Rattle.gu_terms.specs.declared.symbol.Symbol.{Symbol}
use Rattle.gu_world.specs.declared.step.Step.TheVariants.{Enter, See, Propose, Commit}
use Rattle.gu_text.specs.Lines.{is_silent, longest_line}
use Rattle.gu_text.specs.Scripts.{WriteLines, Writes}
use Rattle.gu_text.specs.SheetLines.{number_of}
use Rattle.gu_text.specs.Words.{is_ragged, words_of}
use Rattle.gu_text.specs.declared.error.TextError.{TextError}
use Rattle.gu_text.specs.declared.error.TextError.TheVariants.{Memory, BadLine}
use Rattle.gu_text.specs.declared.script_forms.Form.{Form}
use Rattle.gu_text.specs.declared.script_forms.Form.TheVariants as form
use Rattle.gu_text.specs.declared.script_line.Line.{Line}
use Rattle.gu_text.specs.declared.script_line.Line.TheVariants as line

-- the worker in a word, among those that scripts can name
abbrev pub worker_said : List ℕ → Option ℕ
worker_said word = option_and_then (λ n. if nat_le n 62 then Some n else None) (number_of word)

-- a word is the number of a reason
abbrev pub WritesReject : List ℕ → AllocReject → Type 0
WritesReject word reject = number_of word ≡ Some (reject_number reject)

-- the first word of a form's lines
abbrev pub form_word : Form → List ℕ
form_word form.Day = codes "DAY"
form_word form.Limit = codes "LIMIT"
form_word form.Report = codes "REPORT"
form_word form.GiveUp = codes "GIVEUP"
form_word form.Claim = codes "CLAIM"
form_word form.Refuse = codes "REFUSE"
form_word form.Reverse = codes "REVERSE"
form_word form.See = codes "SEE"
form_word form.Propose = codes "PROPOSE"
form_word form.Commit = codes "COMMIT"
form_word form.Sweep = codes "SWEEP"
form_word form.Position = codes "POSITION"
form_word form.Interest = codes "INTEREST"
form_word form.Limits = codes "LIMITS"

-- the forms
abbrev pub forms : List Form
forms =
    form.Day ∷ form.Limit ∷ form.Report ∷ form.GiveUp ∷ form.Claim ∷ form.Refuse ∷ form.Reverse ∷ form.See ∷ form.Propose ∷ form.Commit
    ∷ form.Sweep ∷ form.Position ∷ form.Interest ∷ form.Limits ∷ []

-- the form with this first word
abbrev pub form_begun : List ℕ → Option Form
form_begun word = find (λ f. bytes_eq (form_word f) word) forms

-- the form of a line with this content
abbrev pub form_of : Line → Form
form_of (line.Step (Enter (OpenDay opening))) = form.Day
form_of (line.Step (Enter (SetLimit limit))) = form.Limit
form_of (line.Step (Enter (ReportSide report))) = form.Report
form_of (line.Step (Enter (GiveUp give_up))) = form.GiveUp
form_of (line.Step (Enter (Claim claim))) = form.Claim
form_of (line.Step (Enter (Refuse refusal))) = form.Refuse
form_of (line.Step (Enter (Reverse reversal))) = form.Reverse
form_of (line.Step (See worker group)) = form.See
form_of (line.Step (Propose worker)) = form.Propose
form_of (line.Step (Commit worker)) = form.Commit
form_of (line.Sweep group) = form.Sweep
form_of (line.Position account symbol) = form.Position
form_of (line.Interest symbol) = form.Interest
form_of (line.Limits group) = form.Limits

-- these words are no line of this form
abbrev pub WriteNone : Form → List (List ℕ) → Type 0
WriteNone form.Day words = (opening : OpenDayOf) → ¬ Writes words (line.Step (Enter (OpenDay opening)))
WriteNone form.Limit words = (limit : SetLimitOf) → ¬ Writes words (line.Step (Enter (SetLimit limit)))
WriteNone form.Report words = (report : ReportSideOf) → ¬ Writes words (line.Step (Enter (ReportSide report)))
WriteNone form.GiveUp words = (give_up : GiveUpOf) → ¬ Writes words (line.Step (Enter (GiveUp give_up)))
WriteNone form.Claim words = (claim : ClaimOf) → ¬ Writes words (line.Step (Enter (Claim claim)))
WriteNone form.Refuse words = (refusal : RefuseOf) → ¬ Writes words (line.Step (Enter (Refuse refusal)))
WriteNone form.Reverse words = (reversal : ReverseOf) → ¬ Writes words (line.Step (Enter (Reverse reversal)))
WriteNone form.See words = (worker : ℕ) (group : Group) → ¬ Writes words (line.Step (See worker group))
WriteNone form.Propose words = (worker : ℕ) → ¬ Writes words (line.Step (Propose worker))
WriteNone form.Commit words = (worker : ℕ) → ¬ Writes words (line.Step (Commit worker))
WriteNone form.Sweep words = (group : Group) → ¬ Writes words (line.Sweep group)
WriteNone form.Position words = (account : AccountId) (symbol : Symbol) → ¬ Writes words (line.Position account symbol)
WriteNone form.Interest words = (symbol : Symbol) → ¬ Writes words (line.Interest symbol)
WriteNone form.Limits words = (group : Group) → ¬ Writes words (line.Limits group)

-- the line read from the words after a form's first word, or none if they are no line of it
abbrev pub Reads : Form → List (List ℕ) → Option Line → Type 0
Reads form words read = MatchOption read (WriteNone form (form_word form ∷ words)) (Writes (form_word form ∷ words))

-- the result of reading the words after a form's first word, in the line with this number, over what was read before: their line; or, if
-- they are no line or an allocation failed, what was read before is unchanged
abbrev pub ReadsOver : Form → List (List ℕ) → ℕ → Result (Unit {0}) TextError → Option Line → Option Line → Type 0
ReadsOver form words number (Ok done) old new = MatchOption new ⊥ (Writes (form_word form ∷ words))
ReadsOver form words number (Err (BadLine n)) old new = ((n ≡ number) × WriteNone form (form_word form ∷ words)) × (new ≡ old)
ReadsOver form words number (Err Memory) old new = new ≡ old

-- the line read from words, or none if they are none
abbrev pub ReadsWords : List (List ℕ) → Option Line → Type 0
ReadsWords words read = MatchOption read ((said : Line) → ¬ Writes words said) (Writes words)

-- the lines of a give-up read from words, or none if they aren't one to sixteen lines
abbrev pub ReadsLines : List (List ℕ) → Option (List GiveUpLine) → Type 0
ReadsLines words read =
    MatchOption read ((lines : List GiveUpLine) → AreLines lines → ¬ WriteLines words lines)
    (λ lines. AreLines lines × WriteLines words lines)

-- words begin with an account and its lots, followed by these
pub record WritesLine (words : List (List ℕ)) (first : GiveUpLine) (behind : List (List ℕ)) : Type 0 where
  pub lots_text : List ℕ
  pub words_are : words ≡ first.account.name ∷ lots_text ∷ behind
  pub name : IsTrue (is_name first.account.name)
  pub lots : MeansLots lots_text first.lots

-- words don't begin with a line of a give-up
abbrev pub WritesNoLine : List (List ℕ) → Type 0
WritesNoLine words = (first : GiveUpLine) (others : List GiveUpLine) → ¬ WriteLines words (first ∷ others)

-- a line isn't silent, has at most 1,024 bytes and no space at either end, and consists of a form's first word and these words
pub record IsBegun (text : List ℕ) (form : Form) (words : List (List ℕ)) : Type 0 where
  pub speaks : is_silent text ≡ false
  pub short : length text ≤ longest_line
  pub even : is_ragged text ≡ false
  pub words_are : words_of text ≡ form_word form ∷ words
