-- Machinery: refusals of a sweep of a seen view, among all refusals of a commit.
use Rattle.gu_book.specs.declared.error.CommitError.{CommitError}
use Rattle.gu_book.specs.declared.error.CommitError.TheVariants as commit
use Rattle.gu_book.specs.declared.error.SeenError.{SeenError}
use Rattle.gu_book.specs.declared.error.SeenError.TheVariants as seen

-- the same refusal, as one of a commit
abbrev pub commit_error_of : SeenError → CommitError
commit_error_of seen.Memory = commit.Memory
commit_error_of seen.Full = commit.Full
commit_error_of (seen.Stale then now) = commit.Stale then now
