-- Requests: what a line of an operator asks for, and who may ask for it.
use Rattle.std.specs.Prelude.{◌≡◌, ℕ, ◌<◌, ◌≤◌, ◌⊎◌, ◌++◌, Bool, true, false, List, Option, Some, None, codes, length, IsTrue, MatchOption, if◌then◌else◌}
use Rattle.std.specs.Str.Parse.{AllDigits, digits_value}
use Rattle.gu_world.specs.declared.step.Step.TheVariants.{Enter}
use Rattle.gu_text.specs.Lines.{is_silent}
use Rattle.gu_text.specs.Scripts.{Says}
use Rattle.gu_text.specs.declared.script_line.Line.{Line}
use Rattle.gu_text.specs.declared.script_line.Line.TheVariants as line
use Rattle.gu_console.specs.declared.request.BookQuestion.TheVariants.{Position, Interest, Limits}
use Rattle.gu_console.specs.declared.request.Request.{Request}
use Rattle.gu_console.specs.declared.request.Request.TheVariants as request

-- what a line of a script asks a desk for: a command, a whole sweep or a question; the steps of a worker are a script's alone
abbrev pub request_of : Line → Option Request
request_of (line.Step (Enter command)) = Some (request.Enter command)
request_of (line.Step step) = None
request_of (line.Sweep group) = Some (request.Sweep group)
request_of (line.Position account symbol) = Some (request.Ask (Position account symbol))
request_of (line.Interest symbol) = Some (request.Ask (Interest symbol))
request_of (line.Limits group) = Some (request.Ask (Limits group))

-- one to twelve digits write this number
pub record WritesNumber (digits : List ℕ) (number : ℕ) : Type 0 where
  pub some : 0 < length digits
  pub few : length digits ≤ 12
  pub are_digits : AllDigits 10 digits
  pub number_is : number ≡ digits_value 10 digits
  pub small : number ≤ 999999999999

-- `CUT number`
pub record IsCut (text : List ℕ) (number : ℕ) : Type 0 where
  pub digits : List ℕ
  pub text_is : text ≡ codes "CUT " ++ digits
  pub writes : WritesNumber digits number

-- a line is one word of the console, which asks for this
abbrev pub IsPlainWord : List ℕ → Request → Type 0
IsPlainWord text request.Status = text ≡ codes "STATUS"
IsPlainWord text request.Journal = text ≡ codes "JOURNAL"
IsPlainWord text request.Close = text ≡ codes "CLOSE"
IsPlainWord text request.Lead = text ≡ codes "LEAD"
IsPlainWord text asked = ⊥

-- a line is one of the console's own, which asks for this
abbrev pub IsWord : List ℕ → Request → Type 0
IsWord text (request.Cut number) = IsCut text number
IsWord text asked = IsPlainWord text asked

-- a line asks for this as a line of a script: it is silent, or says it
abbrev pub IsScriptLine : List ℕ → Request → Type 0
IsScriptLine text request.Nothing = IsTrue (is_silent text)
IsScriptLine text asked = (said : Line) × Says text said × (request_of said ≡ Some asked)

-- what a line asks for as a line of a script, or none where it asks a desk for nothing so
abbrev pub IsAskedByScript : List ℕ → Option Request → Type 0
IsAskedByScript text asked = MatchOption asked ((other : Request) → ¬ IsScriptLine text other) (IsScriptLine text)

-- a line asks for this: as a word of the console, or where it is none, as a line of a script
abbrev pub Means : List ℕ → Request → Type 0
Means text asked = IsWord text asked ⊎ (((word : Request) → ¬ IsWord text word) × IsScriptLine text asked)

-- who only watches asks for what changes nothing; an operator asks for anything
abbrev pub may_ask : Bool → Request → Bool
may_ask false asked = true
may_ask true request.Nothing = true
may_ask true (request.Ask question) = true
may_ask true request.Status = true
may_ask true request.Journal = true
may_ask true asked = false

-- what a line asks for, or none where it asks for nothing
abbrev pub IsMeant : List ℕ → Option Request → Type 0
IsMeant text meant = MatchOption meant ((other : Request) → ¬ Means text other) (Means text)

-- what is asked for, if it may be asked
abbrev pub allowed : Bool → Option Request → Option Request
allowed is_watch None = None
allowed is_watch (Some asked) = if may_ask is_watch asked then Some asked else None

-- what a line asks for, if it may be asked; where there is none, the line is bad
pub record IsAsked (is_watch : Bool) (text : List ℕ) (asked : Option Request) : Type 0 where
  pub meant : Option Request
  pub is_meant : IsMeant text meant
  pub asked_is : asked ≡ allowed is_watch meant
