-- Everything sent so far, and the part that an intake keeps.
use Rattle.std.proofs.Common.{◌≡◌, List, ℕ, [], ◌∷◌, ◌++◌, Option, None, IfNone, IfSome, MatchOption, Some, subst, inl}
use Rattle.gu_fix.specs.Stream.{AreFrames, HasNoFrameYet, IsFirstFrame, LeadsOn}
use Rattle.gu_fix.proofs.StreamLaws.{frames_exist, leads_on_then}
use Rattle.gu_secrets.specs.declared.row.SecretRow.{SecretRow}
use Rattle.gu_terms.specs.declared.firm.FirmId.{FirmId}
use Rattle.gu_knocks.specs.Hearing.{AdmitsFirst, AnswersFirst, EntersAs, IsTurnedAway}
use Rattle.gu_knocks.specs.Knocks.{Judges, JudgesFirst}
use Rattle.gu_knocks.specs.declared.guard.Judged.TheVariants as judged
use Rattle.gu_knocks.specs.declared.heard.Glance.{Glance}

-- what an intake that had this took
pub kept_so : {A : Type 0} (next : Option A) (P : Type 0) → next ≡ None → IfNone next P → P
kept_so None P is holds = holds
kept_so (Some a) P is holds = absurd (subst (λ o. MatchOption o ⊥ (λ _. Unit {0})) is tt)

pub found_so : {A : Type 0} (next : Option A) (found : A) (P : A → Type 0) → next ≡ Some found → IfSome next P → P found
found_so None found P is holds = absurd (subst (λ o. MatchOption o (Unit {0}) (λ _. ⊥)) is tt)
found_so (Some a) found P is holds = subst (λ n. IfSome n P) is holds

-- with a piece more there is no frame yet
pub none_yet : (said kept piece taken : List ℕ) → LeadsOn said [] kept → taken ≡ kept ++ piece → AreFrames taken [] → HasNoFrameYet (said ++ piece)
none_yet said kept piece taken leads is none = leads piece [] (subst (λ (s : List ℕ). AreFrames s []) is none)

-- and the kept bytes then lead on from everything sent
pub goes_on : (said kept piece taken next : List ℕ) → LeadsOn said [] kept → taken ≡ kept ++ piece → LeadsOn taken [] next → LeadsOn (said ++ piece) [] next
goes_on said kept piece taken next leads is more =
    leads_on_then said kept piece next [] [] leads (subst (λ (s : List ℕ). LeadsOn s [] next) is more)

-- the first frame of the kept bytes with one more piece is the first of everything sent up to it
pub judged_first : (rows : List SecretRow) (firms : List FirmId) (said kept piece taken message rest : List ℕ) (answer : Option FirmId)
    → LeadsOn said [] kept → taken ≡ kept ++ piece → IsFirstFrame taken message rest → Judges rows firms message answer → JudgesFirst rows firms (said ++ piece) answer
judged_first rows firms said kept piece taken message rest answer leads is first judged =
    let later = frames_exist rest in
    let begun : IsFirstFrame (kept ++ piece) message rest = subst (λ (s : List ℕ). IsFirstFrame s message rest) is first in
    let are : AreFrames (said ++ piece) (message ∷ later.0) = leads piece (message ∷ later.0) (rest, begun, later.1) in
    record { message = message; rest = are.0; first = are.1; judged = judged }

-- a firm that is let in by the first frame is let in by everything sent
pub enters : (rows : Option (List SecretRow)) (firms : List FirmId) (said kept piece taken message rest : List ℕ) (firm : Option FirmId)
    → LeadsOn said [] kept → taken ≡ kept ++ piece → IsFirstFrame taken message rest → AdmitsFirst rows firms message firm → EntersAs rows firms (said ++ piece) firm
enters (Some rows) firms said kept piece taken message rest (Some firm) leads is first admits =
    judged_first rows firms said kept piece taken message rest (Some firm) leads is first admits
enters (Some rows) firms said kept piece taken message rest None leads is first admits = absurd admits
enters None firms said kept piece taken message rest (Some firm) leads is first admits = absurd admits
enters None firms said kept piece taken message rest None leads is first admits = tt

-- and the same for a connection that is turned away
pub turned_away : (rows : Option (List SecretRow)) (firms : List FirmId) (said kept piece taken message rest : List ℕ) (glance : Glance)
    → LeadsOn said [] kept → taken ≡ kept ++ piece → IsFirstFrame taken message rest → AnswersFirst rows firms message (judged.Refuses glance)
    → IsTurnedAway rows firms (said ++ piece)
turned_away (Some rows) firms said kept piece taken message rest glance leads is first answers =
    inl (judged_first rows firms said kept piece taken message rest None leads is first answers)
turned_away None firms said kept piece taken message rest glance leads is first answers = absurd answers
