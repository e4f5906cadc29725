-- Notices that a house adds to its answer to a command.
use Rattle.std.proofs.Common.{◌≡◌, ℕ, Option, Some, None, Result, Ok, Err, IfOk, IfSome, refl, sym, subst}
use Rattle.std.specs.Result.{result_ok}
use Rattle.gu_terms.specs.declared.command.Command.{Command}
use Rattle.gu_terms.specs.declared.firm.FirmId.{FirmId}
use Rattle.gu_terms.specs.declared.notice.Stretch.{Stretch}
use Rattle.gu_msgs.specs.declared.asking.Request.{Request}
use Rattle.gu_msgs.specs.declared.asking.Request.TheVariants.{Enter}
use Rattle.gu_engine.specs.Houses.{AnswersAsk, HouseRules, TellsAny}
use Rattle.gu_engine.specs.declared.house.Answered.{Answered}
use Rattle.gu_engine.specs.declared.house.Ask.{Ask}

-- a property of a result holds of its value if its error is dropped
pub some_of_ok : {T E : Type 0} (P : T → Type 0) (r : Result T E) (o : Option T) → o ≡ result_ok r → IfOk r P → IfSome o P
some_of_ok P (Ok x) o is h = subst (λ (k : Option _). IfSome k P) (sym is) h
some_of_ok P (Err e) o is h = subst (λ (k : Option _). IfSome k P) (sym is) tt

-- the consequence of a property of a value that is there
pub if_some : {T : Type 0} {P Q : T → Type 0} (o : Option T) → ((x : T) → P x → Q x) → IfSome o P → IfSome o Q
if_some None f h = tt
if_some (Some x) f h = f x h

module _ {H : Type 0} (rules : HouseRules H) where
  -- an unchanged house gives a batch, if there is one
  tells_any : (house : H) (firm : FirmId) (from : ℕ) (stretch : Option Stretch)
      → IfSome stretch (λ s. rules.tells house firm from s house) → TellsAny rules house firm from stretch house
  tells_any house firm from None told = refl
  tells_any house firm from (Some stretch) told = told

  -- a command is answered, and the house adds notices that it then has
  pub answers_command : (old new : H) (ask : Ask) (from : ℕ) (command : Command) (answered : Answered) → ask.request ≡ Enter command
      → rules.answers old (Enter command) answered.outcome new → IfSome answered.stretch (λ s. rules.tells new ask.firm from s new)
      → AnswersAsk rules old ask from answered new
  answers_command old new ask from command answered is answers told = record {
    mid = new;
    answers = subst (λ (request : Request). rules.answers old request answered.outcome new) (sym is) answers;
    tells = tells_any new ask.firm from answered.stretch told;
  }
