-- What a book's answer to a commit means for the look that it is for.
use Rattle.gu_world.proofs.Words.{◌≡◌, ◌≢◌, ℕ, ◌+◌, ◌<◌, true, false, List, [], ◌∷◌, ◌++◌, drop, length, take, take-append-drop, Option, is_some, sym, ap, ◌∙◌, arith, inl, inr, nat_le, cases_Bool, nat_tests, Entry, Swept as SweptEntry, Group, Receipt, GroupView, BookState, IsLegal, version_of, group_view, equal_views, IsCurrent, IsForeign, IsStale, sweep_of, IsTrueLook, look_by, Look, committed_for, first_touch_above, Ready, Stale}
use Rattle.gu_flow.specs.Proposals.{ProposedSweep}
use Rattle.gu_world.specs.declared.outcome.Outcome.TheVariants.{Swept}
use Rattle.gu_world.proofs.Touches.{versions_and_touches}

-- a book with less than 1,000,000 entries isn't full
roomy : (n : ℕ) → n < 1000000 → nat_le 1000000 n ≡ false
roomy n room = grind (arith, nat_tests)

module _ (book new : BookState) (seen : ℕ) (looks : List (Option Look)) (proposal : ProposedSweep) (one : IsTrueLook book (record { seen = seen; work = Ready proposal })) where
  abbrev group : Group
  group = proposal.view.group

  -- the version seen is the view's
  version_seen : version_of (take seen book.history) proposal.view.group ≡ proposal.view.version
  version_seen = ap (λ (v : GroupView). v.version) (sym one.view)

  -- if it is the version now, no entry came between
  untouched : proposal.view.version ≡ version_of book.history proposal.view.group → is_some (first_touch_above book.history proposal.view.group seen) ≡ false
  untouched same = (versions_and_touches book.history seen proposal.view.group one.seen).0 (version_seen ∙ same)

  -- if it isn't, one did
  overtaken : proposal.view.version ≢ version_of book.history proposal.view.group → is_some (first_touch_above book.history proposal.view.group seen) ≡ true
  overtaken differ =
      elim (cases_Bool (is_some (first_touch_above book.history proposal.view.group seen))) [
        | inl hit ↦ hit
        | inr miss ↦ absurd (differ (sym version_seen ∙ (versions_and_touches book.history seen proposal.view.group one.seen).1 miss))
      ]

  -- a sweep entered
  pub committed-swept : (receipt : Receipt) → IsCurrent book proposal.view → new.reference ≡ book.reference → new.history ≡ book.history ++ receipt.entry ∷ [] → receipt.number ≡ length book.history + 1
      → receipt.entry ≡ SweptEntry (sweep_of proposal)
      → (Swept receipt, record { book = new; looks = looks }) ≡ committed_for (record { book = book; looks = looks }) (look_by seen (Ready proposal)) (sweep_of proposal)
  committed-swept receipt current reference entered number entry =
      let full = roomy (length book.history) current.room in
      let none = untouched (ap (λ (v : GroupView). v.version) current.same) in
      let history : new.history ≡ book.history ++ SweptEntry (sweep_of proposal) ∷ [] = entered ∙ ap (λ (e : Entry). book.history ++ e ∷ []) entry in
      rw (full, none) (λ i. (Swept (record { number = number i; entry = entry i }), record { book = record { reference = reference i; history = history i }; looks = looks }))

  -- a view that was overtaken
  pub committed-stale : (then now : ℕ) → IsStale book proposal.view then now → new.reference ≡ book.reference → new.history ≡ book.history
      → (Stale then now, record { book = new; looks = looks }) ≡ committed_for (record { book = book; looks = looks }) (look_by seen (Ready proposal)) (sweep_of proposal)
  committed-stale then now stale reference history =
      let full = roomy (length book.history) stale.room in
      let some = overtaken (λ same. stale.touched (stale.of_view ∙ same ∙ sym stale.of_group)) in
      let first : then ≡ version_of (take seen book.history) proposal.view.group = stale.of_view ∙ sym version_seen in
      rw (full, some) (λ i. (Stale (first i) (stale.of_group i), record { book = record { reference = reference i; history = history i }; looks = looks }))

  -- as long as its version is the version now, so is its view
  pub still_true : IsLegal book.reference book.history → proposal.view.version ≡ version_of book.history proposal.view.group → proposal.view ≡ group_view book.reference book.history proposal.view.group
  still_true legal same = one.view ∙ equal_views book.reference (take seen book.history) book.history proposal.view.group (drop seen book.history, take-append-drop seen book.history) legal (version_seen ∙ same)

  -- no look is foreign
  pub never_foreign : IsLegal book.reference book.history → IsForeign book proposal.view → ⊥
  never_foreign legal foreign = foreign.other (record { room = foreign.room; known = one.known; same = still_true legal foreign.untouched })
