-- The events that turns leave in the stored bytes, taken one after another.
use Rattle.gu_engine.proofs.Words.{◌≡◌, ◌<◌, ◌≤◌, ℕ, List, [], ◌∷◌, ◌++◌, length, take, map, Option, None, Some, refl, sym, ap, subst, ◌∙◌, arith, AreFrames, IsFirstFrame, IsOpen, LeadsOn, TakesPiece, none_yet, Took, Waited, CountedReads, FindsEvents, steps_left, Brings, IsLeft, Reads, Backlog, Left, Event}
use Rattle.gu_fix.proofs.NextFrames.{rest_is_shorter}
use Rattle.gu_engine.specs.declared.backlog.Left.TheVariants as left
use Rattle.gu_engine.specs.declared.event.Event.TheVariants.{Frame, Silence, Over}
use Rattle.gu_engine.proofs.Frames.{brings_some, takes_after, takes_first, takes_none}

-- equal options have equal values
some_is : {X : Type 0} (x y : X) → Some x ≡ Some y → x ≡ y
some_is x y same = cc

-- a frame is the first event left
pub frame_left : (at : Left) (bytes rest kept frame : List ℕ) (events : List Event) → at ≡ left.Frames → IsFirstFrame bytes frame rest → IsLeft at bytes kept (Some events)
    → (others : List Event) × (events ≡ Frame frame ∷ others) × IsLeft at rest kept (Some others)
frame_left at bytes rest kept frame events frames first is =
    let (fs, all, takes) = subst (λ (l : Left). IsLeft l bytes kept (Some events)) frames is in
    let (later, split, takes_later) = takes_first bytes rest kept frame fs takes first in (
      map Frame later ++ Over ∷ [],
      some_is events (map Frame fs ++ Over ∷ []) all ∙ ap (λ (gs : List (List ℕ)). map Frame gs ++ Over ∷ []) split,
      subst (λ (l : Left). IsLeft l rest kept (Some (map Frame later ++ Over ∷ []))) (sym frames) (later, refl, takes_later),
    )

-- no frame was left, so the turn is over
pub over_left : (at : Left) (bytes rest kept : List ℕ) (events : List Event) → at ≡ left.Frames → AreFrames bytes [] → IsOpen rest → LeadsOn bytes [] rest → IsLeft at bytes kept (Some events)
    → (others : List Event) × (events ≡ Over ∷ others) × IsLeft left.Due rest kept (Some others)
over_left at bytes rest kept events frames none is_open leads is =
    let (fs, all, takes) = subst (λ (l : Left). IsLeft l bytes kept (Some events)) frames is in
    let (nothing, takes_rest) = takes_none bytes rest kept fs takes none (none_yet rest is_open) leads in
    ([], some_is events (map Frame fs ++ Over ∷ []) all ∙ ap (λ (gs : List (List ℕ)). map Frame gs ++ Over ∷ []) nothing, (refl, takes_rest))

-- with a frame fewer events are left
pub fewer_frames : (at : Left) (bytes rest frame : List ℕ) → at ≡ left.Frames → IsFirstFrame bytes frame rest → steps_left at rest < steps_left at bytes
fewer_frames at bytes rest frame frames first =
    let fewer : length rest < length bytes = rest_is_shorter bytes frame rest first in
    subst (λ (l : Left). steps_left l rest < steps_left l bytes) (sym frames) (omega (arith, fewer))

-- if it left nothing, there are none
pub left_none : (at : Left) (bytes kept : List ℕ) (events : Option (List Event)) → at ≡ left.Nothing → IsLeft at bytes kept events → (events ≡ None) × TakesPiece [] bytes [] kept
left_none at bytes kept events nothing is = subst (λ (l : Left). IsLeft l bytes kept events) nothing is

module _ {R : Type 0} (remaining : R → Option (List ℕ)) where
  -- one read gave some bytes
  pub reads_bytes : (old new : CountedReads R) (buffer bytes : List ℕ) (count : ℕ) → Took remaining old new buffer count → bytes ≡ take count buffer → 0 < length bytes → Reads remaining old new (Some bytes)
  reads_bytes old new buffer [] count took is some = absurd (omega arith)
  reads_bytes old new buffer (byte ∷ bytes) count took is some = (buffer, count, took, is)

  -- silence is found
  pub finds_silence : {O : Type 0} (old new : CountedReads R) (before after : Backlog O) (kept : List ℕ) (events : Option (List Event)) → before.left ≡ left.Nothing → IsLeft before.left before.intake kept events
      → Waited remaining old new → after.left ≡ left.Silence → after.intake ≡ before.intake → (finds : FindsEvents remaining old new kept events after) × (finds.read ≡ Some [])
  finds_silence old new before after kept events nothing is waited silence same =
      let (none, takes) = left_none before.left before.intake kept events nothing is in (
        record {
          read = Some [];
          reads = waited;
          brought = Silence ∷ Over ∷ [];
          next = kept;
          has = (none, omega arith, (refl, refl));
          new_is =
              subst (λ (l : Left). IsLeft l after.intake kept (Some (Silence ∷ Over ∷ []))) (sym silence)
              (refl, subst (λ (t : List ℕ). TakesPiece [] t [] kept) (sym same) takes);
        },
        refl,
      )

  -- bytes bring frames
  brings_bytes : (kept bytes next : List ℕ) (frames : List (List ℕ)) → 0 < length bytes → TakesPiece kept bytes frames next → Brings kept bytes (map Frame frames ++ Over ∷ []) next
  brings_bytes kept [] next frames some takes = absurd (omega arith)
  brings_bytes kept (byte ∷ bytes) next frames some takes = (frames, takes, refl)

  -- bytes are found
  pub finds_bytes : {O : Type 0} (old new : CountedReads R) (before after : Backlog O) (kept bytes : List ℕ) (events : Option (List Event)) → before.left ≡ left.Nothing
      → IsLeft before.left before.intake kept events → Reads remaining old new (Some bytes) → 0 < length bytes → length bytes ≤ 4096 → after.left ≡ left.Frames → after.intake ≡ before.intake ++ bytes
      → FindsEvents remaining old new kept events after
  finds_bytes old new before after kept bytes events nothing is reads some most frames same =
      let (none, takes) = left_none before.left before.intake kept events nothing is in
      let (fs, next, piece) = brings_some (before.intake ++ bytes) in
      record {
        read = Some bytes;
        reads = reads;
        brought = map Frame fs ++ Over ∷ [];
        next = next;
        has = (none, most, brings_bytes kept bytes next fs some (takes_after before.intake kept bytes next fs takes piece));
        new_is =
            subst (λ (l : Left). IsLeft l after.intake next (Some (map Frame fs ++ Over ∷ []))) (sym frames)
            (fs, refl, subst (λ (t : List ℕ). TakesPiece [] t fs next) (sym same) piece);
      }
