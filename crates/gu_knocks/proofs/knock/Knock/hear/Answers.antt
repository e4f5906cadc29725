use Rattle.std.proofs.Common.{◌≡◌, List, ℕ, [], ◌++◌, subst, sym, ap, ◌∙◌, arith}
use Rattle.std.specs.Option.{option_map}
use Rattle.gu_fix.specs.Stream.{HasNoFrameYet, LeadsOn}
use Rattle.gu_knocks.specs.Hearing.{AnswersFirst, IsHeard}
use Rattle.gu_knocks.proofs.Saying.{enters, found_so, goes_on, kept_so, none_yet, turned_away}
use Rattle.gu_knocks.proofs.knock.Knock.hear.Goals as goal

pub invariant_of-result : goal.invariant_of-result
invariant_of-result c =
    let more = kept_so _ _ c.in-Ok-None.field-0-is c.in-Ok-None.ensures.leads_on in
    let items : c.extend_from_slice.new.self.items ≡ c.self.inside.said.items ++ c.args.piece.now = c.in_ok-extend_from_slice.ensures.items in
    subst (λ (s : List ℕ). LeadsOn s [] c.next_frame.new.self) (sym items)
    (goes_on c.self.inside.said.items c.self.inside.intake c.args.piece.now _ c.next_frame.new.self c.self.invariant c.in-Ok.ensures.taken more)

pub returns-in-LetsIn : goal.returns-in-LetsIn
returns-in-LetsIn c =
    let first = found_so _ _ _ c.in-Ok-Some.field-0-is c.in-Ok-Some.ensures.first in
    let rows = option_map (λ secrets. secrets.now) c.args.guard.secrets in
    let answers = subst (AnswersFirst rows c.args.guard.firms.now c.in-Ok-Some.frame) c.in-LetsIn.is c.in_ok-glance-in-Ok-Some.ensures in
    let leads : LeadsOn c.args.self [] c.self.inside.intake = subst (λ (s : List ℕ). LeadsOn s [] c.self.inside.intake) c.self.view_is c.self.invariant in
    let items : c.extend_from_slice.new.self.items ≡ c.self.inside.said.items ++ c.args.piece.now = c.in_ok-extend_from_slice.ensures.items in (
      enters rows c.args.guard.firms.now c.args.self c.self.inside.intake c.args.piece.now _ _ _ c.in-LetsIn.glance.firm leads c.in-Ok.ensures.taken first answers,
      items ∙ ap (λ (s : List ℕ). s ++ c.args.piece.now) c.self.view_is,
    )

pub returns-in-Refuses : goal.returns-in-Refuses
returns-in-Refuses c =
    let first = found_so _ _ _ c.in-Ok-Some.field-0-is c.in-Ok-Some.ensures.first in
    let rows = option_map (λ secrets. secrets.now) c.args.guard.secrets in
    let answers = subst (AnswersFirst rows c.args.guard.firms.now c.in-Ok-Some.frame) c.in-Refuses.is c.in_ok-glance-in-Ok-Some.ensures in
    let leads : LeadsOn c.args.self [] c.self.inside.intake = subst (λ (s : List ℕ). LeadsOn s [] c.self.inside.intake) c.self.view_is c.self.invariant in
    turned_away rows c.args.guard.firms.now c.args.self c.self.inside.intake c.args.piece.now _ _ _ c.in-Refuses.glance leads c.in-Ok.ensures.taken first answers

pub returns-in-Ok-None : goal.returns-in-Ok-None
returns-in-Ok-None c =
    let none = kept_so _ _ c.in-Ok-None.field-0-is c.in-Ok-None.ensures.none in
    let leads : LeadsOn c.args.self [] c.self.inside.intake = subst (λ (s : List ℕ). LeadsOn s [] c.self.inside.intake) c.self.view_is c.self.invariant in
    let items : c.extend_from_slice.new.self.items ≡ c.self.inside.said.items ++ c.args.piece.now = c.in_ok-extend_from_slice.ensures.items in
    (none_yet c.args.self _ c.args.piece.now _ leads c.in-Ok.ensures.taken none, items ∙ ap (λ (s : List ℕ). s ++ c.args.piece.now) c.self.view_is)

pub returns-in-Ok-None-2 : goal.returns-in-Ok-None-2
returns-in-Ok-None-2 c =
    let none = kept_so _ _ c.in-Ok-None-2.field-0-is c.in-Ok-None.ensures.none in
    let leads : LeadsOn c.args.self [] c.self.inside.intake = subst (λ (s : List ℕ). LeadsOn s [] c.self.inside.intake) c.self.view_is c.self.invariant in
    let items : c.extend_from_slice.new.self.items ≡ c.self.inside.said.items ++ c.args.piece.now = c.in_ok-extend_from_slice.ensures.items in
    let said : c.extend_from_slice.new.self.items ≡ c.args.self ++ c.args.piece.now = items ∙ ap (λ (s : List ℕ). s ++ c.args.piece.now) c.self.view_is in
    let rows = option_map (λ secrets. secrets.now) c.args.guard.secrets in
    subst (λ (s : List ℕ). IsHeard rows c.args.guard.firms.now s c.after_too_much.result) said
    (c.after_too_much.ensures (subst HasNoFrameYet (sym said) (none_yet c.args.self _ c.args.piece.now _ leads c.in-Ok.ensures.taken none)) (omega (arith, c.if-len-le-MOST_SAID.false, c.len.ensures)))
