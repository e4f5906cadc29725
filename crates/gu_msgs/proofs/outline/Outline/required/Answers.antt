use Rattle.gu_msgs.proofs.Words.{◌∙◌, arith, tag_value}
use Rattle.gu_msgs.proofs.OutlineLemmas.{few, numbered_value, some_number}
use Rattle.gu_msgs.proofs.outline.Outline.required.Goals as goal

pub offset_bounds-self-inside-place : goal.offset_bounds-self-inside-place
offset_bounds-self-inside-place c = record { fits = omega (arith, few c.args.self.now.kind c.args.place c.requires.within) }

pub bounds-self-inside-place : goal.bounds-self-inside-place
bounds-self-inside-place c = few c.args.self.now.kind c.args.place c.requires.within

pub overflow_sub-self-inside : goal.overflow_sub-self-inside
overflow_sub-self-inside c =
    let within = rw (← c.self.view_is) at c.requires.within in
    some_number c.self.inside.msg_type c.self.inside.fields c.args.place _ c.self.invariant.shape within (rw (← c.self.view_is) at c.requires.required)
    (c.self.invariant.standings c.args.place within)

pub get-requires : goal.get-requires
get-requires c =
    let within = rw (← c.self.view_is) at c.requires.within in
    let is = c.self.invariant.standings c.args.place within in
    let some = some_number c.self.inside.msg_type c.self.inside.fields c.args.place _ c.self.invariant.shape within (rw (← c.self.view_is) at c.requires.required) is in
    omega (arith, some, is.within)

pub returns : goal.returns
returns c =
    let within = rw (← c.self.view_is) at c.requires.within in
    let is = c.self.invariant.standings c.args.place within in
    let some = some_number c.self.inside.msg_type c.self.inside.fields c.args.place _ c.self.invariant.shape within (rw (← c.self.view_is) at c.requires.required) is in
    rw (← c.self.view_is) (is.first ∙ numbered_value c.self.inside.fields _ (tag_value c.get.result.tag c.get.result.value.now) some c.get.ensures)
