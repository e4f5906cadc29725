use Rattle.gu_notices.proofs.Words.{subst, take, flat_map, told_of_take, Holds}
use Rattle.gu_terms.specs.declared.notice.OfferEvent.TheVariants.{Claimed as IsClaimed}
use Rattle.gu_notices.proofs.NoticeLemmas.{flat_map-next}
use Rattle.gu_notices.proofs.RecipientLemmas.{holds-append, holds-more, take-held}
use Rattle.gu_notices.proofs.firm_filter.FirmFilter.add_takes.Goals as goal

pub loop-take-preserved : goal.loop-take-preserved
loop-take-preserved c =
    let takes = c.args.takes.now in
    let i = c.loop-take.take-index in
    let item = c.take-item.result in
    record {
      added = λ later grows.
          let tell = told_of_take later in
          let before = flat_map tell (take i takes) in
          subst (Holds c.add_event.new.self) (flat_map-next tell takes i c.loop-take-test.true c.take-item.is)
          (holds-append c.add_event.new.self before (tell item)
          (holds-more c.loop-take.self c.add_event.new.self c.add_event.ensures.kept before (c.loop-take.invariant.added later grows))
          (take-held later item c.add_event.new.self (c.add_event.ensures.added IsClaimed item.lots later grows)));
      kept = λ firm held. c.add_event.ensures.kept firm (c.loop-take.invariant.kept firm held);
    }
