use Rattle.gu_session.proofs.Words.{◌≡◌, take, numbered, sent_in, extended}
use Rattle.std.specs.List.{filter_map}
use Rattle.gu_session.proofs.carrying.keep.Given as goal

-- the messages so far that are to be kept are kept
abbrev pub invariant-loop-place : goal.invariant-loop-place
invariant-loop-place l =
    l.kept ≡ extended l.initial.kept (filter_map sent_in (take l.place (numbered l.plan.after.firm l.now l.first l.plan.messages)))
