-- Commits: the sweep of a proposal, and why it may be refused.
use Rattle.std.specs.Prelude.{◌≡◌, ◌≢◌, ℕ, ◌<◌, ◌≤◌, true, length}
use Rattle.gu_terms.specs.declared.entry.SweepEntry.{SweepEntry}
use Rattle.gu_ref.specs.Reference.{is_group}
use Rattle.gu_view.specs.View.{GroupView}
use Rattle.gu_flow.specs.Proposals.{ProposedSweep}
use Rattle.gu_rules.specs.BookState.{BookState}
use Rattle.gu_rules.specs.Versions.{version_of}
use Rattle.gu_rules.specs.Views.{group_view}
use Rattle.gu_book.specs.declared.error.CommitError.{CommitError}
use Rattle.gu_book.specs.declared.error.CommitError.TheVariants.{Memory, Full, Stale, Foreign}

-- a proposal's sweep: its view's group, with its takes, its cut and its lots
abbrev pub sweep_of : ProposedSweep → SweepEntry
sweep_of proposal = record { group = proposal.view.group; takes = proposal.takes; cut = proposal.cut; lots = proposal.lots }

-- the book has room for an entry, and the view is its group's as the book is now
pub record IsCurrent (book : BookState) (view : GroupView) : Type 0 where
  pub room : length book.history < 1000000
  pub known : is_group book.reference view.group ≡ true
  pub same : view ≡ group_view book.reference book.history view.group

-- the book has room for an entry, and the view's version differs from its group's version now
pub record IsStale (book : BookState) (view : GroupView) (seen now : ℕ) : Type 0 where
  pub room : length book.history < 1000000
  pub of_view : seen ≡ view.version
  pub of_group : now ≡ version_of book.history view.group
  pub touched : seen ≢ now

-- the book has room for an entry and the versions are equal, but the view isn't current
pub record IsForeign (book : BookState) (view : GroupView) : Type 0 where
  pub room : length book.history < 1000000
  pub untouched : view.version ≡ version_of book.history view.group
  pub other : ¬ IsCurrent book view

-- what each refusal means; exactly one holds of a full book, a stale view, a foreign view and a current one
abbrev pub Refuses : BookState → GroupView → CommitError → Type 0
Refuses book view Memory = IsCurrent book view
Refuses book view Full = 1000000 ≤ length book.history
Refuses book view (Stale seen now) = IsStale book view seen now
Refuses book view Foreign = IsForeign book view
