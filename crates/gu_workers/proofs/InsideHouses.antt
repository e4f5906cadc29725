-- A house that admits firms answers as the house in it.
use Rattle.std.proofs.Common.{ℕ, Option, None, Some, ap}
use Rattle.gu_terms.specs.declared.firm.FirmId.{FirmId}
use Rattle.gu_terms.specs.declared.notice.Stretch.{Stretch}
use Rattle.gu_engine.specs.Houses.{AnswersAsk, HouseRules, TellsAny}
use Rattle.gu_engine.specs.declared.house.Answered.{Answered}
use Rattle.gu_engine.specs.declared.house.Ask.{Ask}
use Rattle.gu_workers.specs.Admitting.{inside}
use Rattle.gu_workers.specs.declared.admitting_house.AdmittingHouse.{AdmittingHouse}

-- so do the notices that it adds
inside_tells : {H A : Type 0} (rules : HouseRules H) (old : AdmittingHouse H A) (mid new : H) (firm : FirmId) (from : ℕ) (stretch : Option Stretch)
    → TellsAny rules mid firm from stretch new → TellsAny (inside rules) (record old { house = mid }) firm from stretch (record old { house = new })
inside_tells {H} rules old mid new firm from None tells = ap (λ (house : H). record old { house = house }) tells
inside_tells rules old mid new firm from (Some stretch) tells = tells

pub inside_answers : {H A : Type 0} (rules : HouseRules H) (old : AdmittingHouse H A) (new : H) (ask : Ask) (from : ℕ) (answered : Answered)
    → AnswersAsk rules old.house ask from answered new → AnswersAsk (inside rules) old ask from answered (record old { house = new })
inside_answers rules old new ask from answered is = record {
  mid = record old { house = is.mid };
  answers = is.answers;
  tells = inside_tells rules old is.mid new ask.firm from answered.stretch is.tells;
}
