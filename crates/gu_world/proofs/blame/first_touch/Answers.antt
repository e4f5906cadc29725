use Rattle.gu_world.proofs.Words.{◌≡◌, ◌⊎◌, ◌+◌, ◌≤◌, ◌++◌, ◌∷◌, [], ◌<◌, ℕ, false, List, Some, length, get_or, take, refl, sym, ap, ◌∙◌, inl, inr, slice_get, take_more, get_or_from_slice_get, slice_get_within, Entry, touches, own_of}
use Rattle.gu_world.proofs.BlameLemmas.{touched-here, untouched-here}
use Rattle.gu_world.proofs.blame.first_touch.Goals as goal
use Rattle.gu_world.proofs.blame.first_touch.Goals.{else-number-seen-via-then-number-seen+else-is_touching, else-number-seen-via-else-number-seen}

inside : (entries : List Entry) (place : ℕ) (entry : Entry) → slice_get entries place ≡ Some entry → place < length entries
inside entries place entry is = slice_get_within entries place entry is

there : (entries : List Entry) (place : ℕ) (entry : Entry) → slice_get entries place ≡ Some entry → entry ≡ get_or entries place entry
there entries place entry is = sym (get_or_from_slice_get entries place entry entry is)

pub returns-then-is_touching : goal.returns-then-is_touching
returns-then-is_touching c =
    let entries = c.args.history.now in
    let place = c.loop-place.place in
    let front = take place entries in
    let touched = sym (c.is_touching.ensures front (c.deref.ensures.value ∙ c.loop-place.invariant.own)) ∙ c.if-is_touching.true in
    touched-here c.args.group.now c.args.seen entries place c.in_ok-entry.entry (inside c.args.history.now c.loop-place.place c.in_ok-entry.entry c.in_ok-entry.ensures) (there c.args.history.now c.loop-place.place c.in_ok-entry.entry c.in_ok-entry.ensures) c.loop-place.invariant.none (place + 1) refl c.if-number-seen.true touched

pub loop-place-preserved : goal.loop-place-preserved
loop-place-preserved c =
    let entries = c.args.history.now in
    let place = c.loop-place.place in
    let front = take place entries in
    let entry = c.in_ok-entry.entry in
    let within = inside entries place entry c.in_ok-entry.ensures in
    let is = there entries place entry c.in_ok-entry.ensures in
    let next = take_more entries place entry within ∙ ap (λ (e : Entry). front ++ e ∷ []) (sym is) in
    let why : (place + 1 ≤ c.args.seen) ⊎ (touches front c.args.group.now entry ≡ false) =
    elim c.else-number-seen.branch [
      | else-number-seen-via-then-number-seen+else-is_touching w ↦ inr (sym (w.is_touching.ensures front (w.deref.ensures.value ∙ c.loop-place.invariant.own)) ∙ w.if-is_touching.false)
      | else-number-seen-via-else-number-seen w ↦ inl w.if-number-seen.false
    ] in
    record {
      own = c.in_ok-know.ensures front c.loop-place.invariant.own ∙ ap (λ (es : List Entry). own_of es c.args.group.now) (sym next);
      none = untouched-here c.args.group.now c.args.seen entries place entry within is c.loop-place.invariant.none (place + 1) refl why;
    }
