-- The content of a script line: a step, a whole sweep, or a question.
use Rattle.std.specs.Prelude.{◌≡◌, ℕ, ◌≤◌, ◌&&◌, false, List, [], ◌∷◌, codes, length, Some, None, IsTrue}
use Rattle.gu_terms.specs.AllocRejects.{reject_number}
use Rattle.gu_terms.specs.Days.{WritesDay}
use Rattle.gu_terms.specs.LimitKeys.{kind_of, name_of_key}
use Rattle.gu_terms.specs.Lines.{AreLines}
use Rattle.gu_terms.specs.Names.{IsId, is_name}
use Rattle.gu_terms.specs.NumberText.{MeansLots, MeansPrice}
use Rattle.gu_terms.specs.declared.command.Command.{Command}
use Rattle.gu_terms.specs.declared.command.Command.TheVariants.{OpenDay, SetLimit, ReportSide, GiveUp, Claim, Refuse, Reverse}
use Rattle.gu_terms.specs.declared.lines.Line.{Line as GiveUpLine}
use Rattle.gu_terms.specs.declared.side.Side.{Side}
use Rattle.gu_terms.specs.declared.side.Side.TheVariants.{Buy, Sell}
use Rattle.gu_world.specs.declared.step.Step.{Step}
use Rattle.gu_world.specs.declared.step.Step.TheVariants.{Enter, See, Propose, Commit}
use Rattle.gu_text.specs.Lines.{is_silent, longest_line}
use Rattle.gu_text.specs.SheetLines.{number_of, offer_no_of}
use Rattle.gu_text.specs.Words.{is_ragged, words_of}
use Rattle.gu_text.specs.declared.script_line.Line.{Line}
use Rattle.gu_text.specs.declared.script_line.Line.TheVariants as line

-- a word is the number of a worker that scripts can name: 0 to 62
abbrev pub WritesWorker : List ℕ → ℕ → Type 0
WritesWorker text worker = (number_of text ≡ Some worker) × (worker ≤ 62)

-- the letter of a side
abbrev pub side_word : Side → List ℕ
side_word Buy = codes "B"
side_word Sell = codes "S"

-- pairs of words are the lines of a give-up: an account and its lots
abbrev pub WriteLines : List (List ℕ) → List GiveUpLine → Type 0
WriteLines [] [] = Unit {0}
WriteLines (account ∷ lots ∷ words) (first ∷ others) =
    (account ≡ first.account.name) × IsTrue (is_name account) × MeansLots lots first.lots × WriteLines words others
WriteLines words lines = ⊥

-- words are a command: its first word, followed by names, ids and numbers; a report is for the open day
abbrev pub WritesCommand : List (List ℕ) → Command → Type 0
WritesCommand words (OpenDay opening) =
    (text : List ℕ) × (words ≡ codes "DAY" ∷ text ∷ []) × WritesDay text opening.day.year opening.day.month opening.day.day
WritesCommand words (SetLimit limit) =
    (text : List ℕ)
    × (words ≡ codes "LIMIT" ∷ limit.group.name ∷ kind_of limit.key ∷ name_of_key limit.key ∷ text ∷ [])
    × IsTrue (is_name limit.group.name && is_name (name_of_key limit.key)) × (number_of text ≡ Some limit.lots)
WritesCommand words (ReportSide report) =
    (lots_text : List ℕ) × (price_text : List ℕ)
    × (words
    ≡ codes "REPORT" ∷ report.firm.name ∷ report.id ∷ report.match_id ∷ side_word report.side ∷ report.symbol.name ∷ lots_text ∷ price_text ∷ report.account.name ∷ [])
    × IsTrue (is_name report.firm.name && is_name report.symbol.name && is_name report.account.name)
    × IsId report.id × IsId report.match_id × MeansLots lots_text report.lots × MeansPrice price_text report.price × (report.day ≡ None)
WritesCommand words (GiveUp give_up) =
    (pairs : List (List ℕ))
    × (words ≡ codes "GIVEUP" ∷ give_up.firm.name ∷ give_up.id ∷ give_up.report ∷ pairs)
    × IsTrue (is_name give_up.firm.name) × IsId give_up.id × IsId give_up.report × WriteLines pairs give_up.lines × AreLines give_up.lines
WritesCommand words (Claim claim) =
    (text : List ℕ) × (words ≡ codes "CLAIM" ∷ claim.firm.name ∷ text ∷ []) × IsTrue (is_name claim.firm.name) × (offer_no_of text ≡ Some claim.offer)
WritesCommand words (Refuse refusal) =
    (text : List ℕ) × (why_text : List ℕ)
    × (words ≡ codes "REFUSE" ∷ refusal.firm.name ∷ text ∷ why_text ∷ [])
    × IsTrue (is_name refusal.firm.name) × (offer_no_of text ≡ Some refusal.offer) × (number_of why_text ≡ Some (reject_number refusal.why))
WritesCommand words (Reverse reversal) =
    (text : List ℕ) × (words ≡ codes "REVERSE" ∷ reversal.firm.name ∷ text ∷ []) × IsTrue (is_name reversal.firm.name) × (offer_no_of text ≡ Some reversal.offer)

-- words are a step
abbrev pub WritesStep : List (List ℕ) → Step → Type 0
WritesStep words (Enter command) = WritesCommand words command
WritesStep words (See worker group) =
    (text : List ℕ) × (words ≡ codes "SEE" ∷ text ∷ group.name ∷ []) × WritesWorker text worker × IsTrue (is_name group.name)
WritesStep words (Propose worker) = (text : List ℕ) × (words ≡ codes "PROPOSE" ∷ text ∷ []) × WritesWorker text worker
WritesStep words (Commit worker) = (text : List ℕ) × (words ≡ codes "COMMIT" ∷ text ∷ []) × WritesWorker text worker

-- words are a line: a step, a whole sweep, or a question
abbrev pub Writes : List (List ℕ) → Line → Type 0
Writes words (line.Step step) = WritesStep words step
Writes words (line.Sweep group) = (words ≡ codes "SWEEP" ∷ group.name ∷ []) × IsTrue (is_name group.name)
Writes words (line.Position account symbol) =
    (words ≡ codes "POSITION" ∷ account.name ∷ symbol.name ∷ []) × IsTrue (is_name account.name && is_name symbol.name)
Writes words (line.Interest symbol) = (words ≡ codes "INTEREST" ∷ symbol.name ∷ []) × IsTrue (is_name symbol.name)
Writes words (line.Limits group) = (words ≡ codes "LIMITS" ∷ group.name ∷ []) × IsTrue (is_name group.name)

-- a line has this content: it isn't silent, has at most 1,024 bytes and no space at either end, and its words are that
pub record Says (text : List ℕ) (said : Line) : Type 0 where
  pub speaks : is_silent text ≡ false
  pub short : length text ≤ longest_line
  pub even : is_ragged text ≡ false
  pub writes : Writes (words_of text) said

-- a line is bad: it isn't silent, and has no content
pub record IsBad (text : List ℕ) : Type 0 where
  pub speaks : is_silent text ≡ false
  pub nothing : (said : Line) → ¬ Says text said
