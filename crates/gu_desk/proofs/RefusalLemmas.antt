-- Refusals, as a seat then sees the book.
use Rattle.gu_desk.proofs.Words.{◌≡◌, ◌⊎◌, ◌∙◌, ℕ, ◌+◌, ◌<◌, ◌≤◌, List, [], false, length, inl, inr, refl, sym, ap, subst, arith, append-nil, Entry, Receipt, GroupView, group_view, Refuses, SweepError, Enters, Looks, Sees, SeatState, IsSweepRefused}
use mathlib.Core.List.{IsPrefix}
use Rattle.gu_terms.specs.declared.group.Group.{Group}
use Rattle.gu_ref.specs.Reference.{is_group}
use Rattle.gu_ref.specs.Tables.{Tables}
use Rattle.gu_rules.specs.Versions.{version_of}
use Rattle.gu_book.specs.Refusals.{commit_error_of}
use Rattle.gu_book.specs.declared.error.AskError.{AskError}
use Rattle.gu_book.specs.declared.error.AskError.TheVariants as first
use Rattle.gu_book.specs.declared.error.SeenError.{SeenError}
use Rattle.gu_book.specs.declared.error.SeenError.TheVariants as second
use Rattle.gu_desk.specs.declared.error.SweepError.TheVariants as sweep
use Rattle.gu_desk.specs.Refusals.{refusal_of_first_hold, refusal_of_second_hold}
use Rattle.gu_desk.proofs.Fronts.{begins_through, enters_after}

-- a refused commit, after which the seat sees the whole history
pub commit_refused : (reference : Tables) (old new : SeatState) (history : List Entry) (view : GroupView) (why : SeenError)
    → Refuses (record { reference = reference; history = history }) view (commit_error_of why) → view ≡ group_view reference old.front view.group
    → Sees reference old new → new.front ≡ history → IsSweepRefused reference old view.group (refusal_of_second_hold why) new
commit_refused reference old new history view second.Memory is seen sees whole = inr sees
commit_refused reference old new history view second.Full is seen sees whole = (sees, subst (λ (h : List Entry). 1000000 ≤ length h) (sym whole) is)
commit_refused reference old new history view (second.Stale then now) is seen sees whole = record {
  sees = sees;
  before = old.front;
  begins = ([], append-nil old.front);
  goes_on = sees.begins;
  seen_is = is.of_view ∙ ap (λ (v : GroupView). v.version) seen;
  now_is = is.of_group ∙ ap (λ (h : List Entry). version_of h view.group) (sym whole);
  differs = is.touched;
}

-- a refused look
pub look_refused : (reference : Tables) (old new : SeatState) (group : Group) (why : AskError) → (why ≡ first.UnknownGroup → is_group reference group ≡ false) → new ≡ old
    → IsSweepRefused reference old group (refusal_of_first_hold why) new
look_refused reference old new group first.Memory unknown same = inl same
look_refused reference old new group first.UnknownGroup unknown same = (unknown refl, inl same)

module _ (reference : Tables) (old mid new : SeatState) where
  -- a seat sees more, and then more again
  pub sees_through : Sees reference old mid → Sees reference mid new → Sees reference old new
  sees_through first then = record {
    begins = begins_through old.front mid.front new.front first.begins then.begins;
    legal = then.legal;
    entries_is = then.entries_is ∙ first.entries_is;
    swept_is = then.swept_is ∙ first.swept_is;
  }

  sees_after : Looks reference old mid → Sees reference mid new → Sees reference old new
  sees_after (inl same) then = subst (λ (s : SeatState). Sees reference s new) same then
  sees_after (inr first) then = sees_through first then

  looks_after : Looks reference old mid → Looks reference mid new → Looks reference old new
  looks_after (inl same) (inl again) = inl (again ∙ same)
  looks_after (inr first) (inl again) = inr (subst (λ (s : SeatState). Sees reference old s) (sym again) first)
  looks_after looks (inr then) = inr (sees_after looks then)

  begins_after : Looks reference old mid → IsPrefix mid.front new.front → IsPrefix old.front new.front
  begins_after (inl same) then = subst (λ (s : SeatState). IsPrefix s.front new.front) same then
  begins_after (inr first) then = begins_through old.front mid.front new.front first.begins then

  -- what is entered after a seat has looked is entered from it
  pub enters_after_look : (receipt : Receipt) → Looks reference old mid → Enters reference mid receipt new → Enters reference old receipt new
  enters_after_look receipt (inl same) enters = subst (λ (s : SeatState). Enters reference s receipt new) same enters
  enters_after_look receipt (inr first) enters = enters_after reference old mid new receipt first enters

-- a look makes no entry
pub looks_same : (reference : Tables) (old mid : SeatState) → Looks reference old mid → mid.entries ≡ old.entries
looks_same reference old mid (inl same) = ap (λ (s : SeatState). s.entries) same
looks_same reference old mid (inr sees) = sees.entries_is

-- a sweep refused after the seat has looked is refused to it
pub refused_after : (reference : Tables) (old mid new : SeatState) (group : Group) (why : SweepError) → Looks reference old mid
    → IsSweepRefused reference mid group why new → IsSweepRefused reference old group why new
refused_after reference old mid new group sweep.Memory looks is = looks_after reference old mid new looks is
refused_after reference old mid new group sweep.UnknownGroup looks is = (is.0, looks_after reference old mid new looks is.1)
refused_after reference old mid new group sweep.Full looks is = (sees_after reference old mid new looks is.0, is.1)
refused_after reference old mid new group (sweep.Stale seen now) looks is = record {
  sees = sees_after reference old mid new looks is.sees;
  before = is.before;
  begins = begins_after reference old mid (record { entries = old.entries; swept = old.swept; front = is.before }) looks is.begins;
  goes_on = is.goes_on;
  seen_is = is.seen_is;
  now_is = is.now_is;
  differs = is.differs;
}
