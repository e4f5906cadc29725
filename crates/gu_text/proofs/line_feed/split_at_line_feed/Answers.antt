use Rattle.std.proofs.Common.{◌+◌, ◌-◌, ◌∙◌, length, drop, sym, subst, arith, take, List, ℕ}
use Rattle.std.proofs.lemmas.List.{take_all, length-drop}
use Rattle.gu_text.specs.LineFeeds.{IsParted}
use Rattle.gu_text.proofs.LineFeedLaws.{parted_at, no_feed_at}
use Rattle.gu_text.proofs.line_feed.split_at_line_feed.Goals as goal

pub returns-in-Some : goal.returns-in-Some
returns-in-Some c =
    let bytes = c.args.bytes.now in
    let place = c.in-Some.place in
    let behind = take_all (length bytes - (place + 1)) (drop (place + 1) bytes) (omega (arith, length-drop (place + 1) bytes)) in
    subst (λ (t : List ℕ). IsParted bytes (take place bytes) t) (sym behind) (parted_at bytes place (sym c.end_of_line.ensures ∙ c.in-Some.is))

pub returns-in-None : goal.returns-in-None
returns-in-None c = no_feed_at c.args.bytes.now (sym c.end_of_line.ensures ∙ c.in-None.is)
