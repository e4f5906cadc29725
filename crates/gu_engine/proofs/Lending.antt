-- A borrowed house answers as the house itself.
use Rattle.std.proofs.Common.{ℕ, Option, None, Some, MutBor, ap}
use Rattle.gu_terms.specs.declared.firm.FirmId.{FirmId}
use Rattle.gu_terms.specs.declared.notice.Stretch.{Stretch}
use Rattle.gu_engine.specs.Houses.{AnswersAsk, HouseRules, TellsAny, lent}
use Rattle.gu_engine.specs.declared.house.Answered.{Answered}
use Rattle.gu_engine.specs.declared.house.Ask.{Ask}

-- so do the notices that it adds
lent_tells : {H : Type 0} (rules : HouseRules H) (old : MutBor H) (mid new : H) (firm : FirmId) (from : ℕ) (stretch : Option Stretch)
    → TellsAny rules mid firm from stretch new → TellsAny (lent rules) (record old { now = mid }) firm from stretch (record old { now = new })
lent_tells {H} rules old mid new firm from None tells = ap (λ (house : H). record old { now = house }) tells
lent_tells rules old mid new firm from (Some stretch) tells = tells

pub lent_answers : {H : Type 0} (rules : HouseRules H) (old : MutBor H) (new : H) (ask : Ask) (from : ℕ) (answered : Answered)
    → AnswersAsk rules old.now ask from answered new → AnswersAsk (lent rules) old ask from answered (record old { now = new })
lent_answers rules old new ask from answered is = record {
  mid = record old { now = is.mid };
  answers = is.answers;
  tells = lent_tells rules old is.mid new ask.firm from answered.stretch is.tells;
}
