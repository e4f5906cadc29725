-- The frames in bytes, taken one after another.
use Rattle.gu_engine.proofs.Words.{◌≡◌, ℕ, List, [], ◌∷◌, ◌++◌, sym, subst, append_assoc, AreFrames, IsFirstFrame, LeadsOn, TakesPiece, frames_exist, leads_on_start, none_at_start, one_list}
use Rattle.gu_fix.proofs.NextFrames.{leads_on_first, takes_exist}

-- a list without its first element
same_rest : (x y : List ℕ) (xs ys : List (List ℕ)) → x ∷ xs ≡ y ∷ ys → (x ≡ y) × (xs ≡ ys)
same_rest x y xs ys same = (cc, cc)

-- no bytes have no frames
pub takes_nothing : TakesPiece [] [] [] []
takes_nothing = record { given_are = none_at_start; leads_on = leads_on_start [] }

-- the first of the frames in bytes is taken
pub takes_first : (bytes rest kept frame : List ℕ) (frames : List (List ℕ)) → TakesPiece [] bytes frames kept → IsFirstFrame bytes frame rest
    → (later : List (List ℕ)) × (frames ≡ frame ∷ later) × TakesPiece [] rest later kept
takes_first bytes rest kept frame frames takes first =
    let others = frames_exist rest in
    let same : frames ≡ frame ∷ others.0 = one_list frames (frame ∷ others.0) bytes takes.given_are (rest, first, others.1) in (
      others.0,
      same,
      record {
        given_are = others.1;
        leads_on = λ more later are.
            (let then = frames_exist (rest ++ more) in
            let all : frame ∷ then.0 ≡ frame ∷ (others.0 ++ later) =
            one_list (frame ∷ then.0) (frame ∷ (others.0 ++ later)) (bytes ++ more) (leads_on_first bytes frame rest first more then.0 then.1)
            (subst (λ (fs : List (List ℕ)). AreFrames (bytes ++ more) (fs ++ later)) same (takes.leads_on more later are)) in
            subst (AreFrames (rest ++ more)) (same_rest frame frame then.0 (others.0 ++ later) all).1 then.1);
      },
    )

-- bytes without a frame, and those that lead on from them
pub takes_none : (bytes rest kept : List ℕ) (frames : List (List ℕ)) → TakesPiece [] bytes frames kept → AreFrames bytes [] → AreFrames rest [] → LeadsOn bytes [] rest
    → (frames ≡ []) × TakesPiece [] rest [] kept
takes_none bytes rest kept frames takes none are leads =
    let nothing : frames ≡ [] = one_list frames [] bytes takes.given_are none in (
      nothing,
      record {
        given_are = are;
        leads_on = λ more later h.
            (let then = frames_exist (rest ++ more) in
            let all : then.0 ≡ later =
            one_list then.0 later (bytes ++ more) (leads more then.0 then.1) (subst (λ (fs : List (List ℕ)). AreFrames (bytes ++ more) (fs ++ later)) nothing (takes.leads_on more later h)) in
            subst (AreFrames (rest ++ more)) all then.1);
      },
    )

-- a piece after bytes without a frame is a piece after what is kept of them
pub takes_after : (bytes kept piece next : List ℕ) (frames : List (List ℕ)) → TakesPiece [] bytes [] kept → TakesPiece [] (bytes ++ piece) frames next → TakesPiece kept piece frames next
takes_after bytes kept piece next frames before takes =
    let given = frames_exist (kept ++ piece) in
    let same : given.0 ≡ frames = one_list given.0 frames (bytes ++ piece) (before.leads_on piece given.0 given.1) takes.given_are in
    record {
      given_are = subst (AreFrames (kept ++ piece)) same given.1;
      leads_on = λ more later h.
          (let then = frames_exist ((kept ++ piece) ++ more) in
          let long : AreFrames (bytes ++ (piece ++ more)) then.0 = before.leads_on (piece ++ more) then.0 (subst (λ (t : List ℕ). AreFrames t then.0) (append_assoc kept piece more) then.1) in
          let all : then.0 ≡ frames ++ later =
          one_list then.0 (frames ++ later) ((bytes ++ piece) ++ more) (subst (λ (t : List ℕ). AreFrames t then.0) (sym (append_assoc bytes piece more)) long) (takes.leads_on more later h) in
          subst (AreFrames ((kept ++ piece) ++ more)) all then.1);
    }

-- a piece after bytes brings some frames
pub brings_some : (bytes : List ℕ) → (frames : List (List ℕ)) × (kept : List ℕ) × TakesPiece [] bytes frames kept
brings_some bytes = takes_exist bytes
