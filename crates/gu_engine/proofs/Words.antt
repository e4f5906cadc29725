-- The words of the proofs: from the library, the crates below, and this crate's definitions.
pub use Rattle.std.proofs.Common.{Bool, Err, List, None, Option, Some, [], ap, append_assoc, arith, drop, false, if◌then◌else◌, inl, inr, is_some, length, map, not, refl, rules, subst, sym, take, true, ℕ, ◌&&◌, ◌++◌, ◌+◌, ◌-◌, ◌<◌, ◌^◌, ◌∙◌, ◌∷◌, ◌≡◌, ◌≤◌, ◌⊎◌}
pub use Rattle.std.proofs.lemmas.List.{append-nil, length-append, length-drop, length-take, map-append, take-append-drop, take_rest}
pub use Rattle.gu_engine.specs.Backlogs.{AnswersLeft, AnswersPartOfIt, AnswersWhatIsLeft, FindsEvents, TakesEvent, TakesIn, TakesLast, steps_left}
pub use Rattle.gu_engine.specs.Exchange.{SendsNotice, firm_of, is_due}
pub use Rattle.gu_engine.specs.Running.{Answers, AnswersEach, AnswersPart, AnswersPiece, AnswersPieces, AnswersSome, Brings, Engine, HasRead, HaveBytes, Piece, Served, ServedInPart, ServedSoFar, brought_in, is_more, turns_of, wait_of, waits_in}
pub use Rattle.gu_engine.specs.Sends.{Gives, GivesAnswers, GivesPart, GivesSome, IsReady}
pub use Rattle.gu_engine.specs.Turned.{Ends, Gave, IsTurned, Rests, Stops, Turns, TurnsInPart, TurnsToPart, Work, is_last, work_of}
pub use Rattle.gu_engine.specs.Turns.{AnswersInShares, AnswersShare, AnswersTurn, AnswersTurnPart, Call, IsEmpty, IsLeft, IsPause, Leaves, Pause, Reads, ReadsNoMore, Share, between_of, later_calls}
pub use Rattle.gu_engine.specs.declared.backlog.Backlog.{Backlog}
pub use Rattle.gu_engine.specs.declared.backlog.Left.{Left}
pub use Rattle.gu_engine.specs.declared.event.Event.{Event}
pub use Rattle.gu_fix.proofs.StreamLaws.{frames_exist, leads_on_start, none_at_start, none_yet, one_list}
pub use Rattle.gu_fix.specs.Stream.{AreFrames, IsFirstFrame, IsOpen, LeadsOn, TakesPiece}
pub use Rattle.gu_streams.proofs.Writing.{error_passed, keeps_from_zero, on_err_from, on_ok_both, on_ok_then, sent_more, sent_part, wrote_all, wrote_none, wrote_then}
pub use Rattle.gu_streams.specs.Reads.{Stopped, Took, Waited, bytes_left, reads_left, waits_left}
pub use Rattle.gu_streams.specs.Written.{WrotePart}
pub use Rattle.gu_streams.specs.declared.counted_reads.CountedReads.{CountedReads}
