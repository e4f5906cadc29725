-- A house that admits firms, by the rules of the house in it.
use Rattle.gu_engine.specs.Houses.{HouseRules}
use Rattle.gu_workers.specs.declared.admitting_house.AdmittingHouse.{AdmittingHouse}

-- it answers as the house in it does, and gives the notices that it gives
abbrev pub inside : {H A : Type 0} → HouseRules H → HouseRules (AdmittingHouse H A)
inside rules = record {
  answers = λ old request outcome new. rules.answers old.house request outcome new.house;
  tells = λ old firm from stretch new. rules.tells old.house firm from stretch new.house;
}
