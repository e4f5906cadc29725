use Rattle.std.proofs.Common.{◌≡◌, ◌∙◌, sym, ap, refl, ℕ, ◌<◌, ◌%◌, length, arith}
use Rattle.std.specs.Prelude.{slice_index}
use Rattle.std.proofs.lemmas.List.{length-map}
use Rattle.gu_trades.specs.Numbered.{Numbered, has_number, last_before}
use Rattle.gu_trades.specs.HashIndex.{numbers_of}
use Rattle.gu_trades.specs.declared.hash_index.Link.{Link}
use Rattle.gu_trades.specs.declared.hash_index.HashIndex.TheInside.{Inside}
use Rattle.gu_trades.proofs.Rows.{found-along, link-start, number-read, start-row, start-within}
use Rattle.gu_trades.proofs.hash_index.HashIndex.before.Goals as goal

-- a position that has a hash has a link
linked_place : (inside : Inside) (numbered : Numbered) (place : ℕ) → numbers_of inside.links.items ≡ numbered.numbers → place < length numbered.numbers → place < length inside.links.items
linked_place inside numbered place is there =
    omega (arith, length-map inside.links.items (λ (link : Link). link.number), ap length is)

pub along-requires-clause-within : goal.along-requires-clause-within
along-requires-clause-within c =
    let links = c.self.inside.links.items in
    let within = linked_place c.self.inside c.args.self.now c.args.place (ap (λ (n : Numbered). n.numbers) c.self.view_is) c.requires in
    rw c.deref.ensures.value
    (start-within (numbers_of links) (length c.self.inside.last.items) (c.index-link.result.now.number % length c.self.inside.last.items) c.args.place c.index-link.result.now.before
    (link-start links (length c.self.inside.last.items) c.args.place c.index-link.result.now c.self.invariant.linked within c.index-link.ensures) (length links) (omega arith))

pub along-requires-clause-row : goal.along-requires-clause-row
along-requires-clause-row c =
    let links = c.self.inside.links.items in
    let within = linked_place c.self.inside c.args.self.now c.args.place (ap (λ (n : Numbered). n.numbers) c.self.view_is) c.requires in
    rw (c.deref.ensures.value, c.len.ensures, c.self.inside.last.ok.0)
    (start-row (numbers_of links) (length c.self.inside.last.items) (c.index-link.result.now.number % length c.self.inside.last.items) c.args.place c.index-link.result.now.before
    (link-start links (length c.self.inside.last.items) c.args.place c.index-link.result.now c.self.invariant.linked within c.index-link.ensures))

pub returns : goal.returns
returns c =
    let links = c.self.inside.links.items in
    let within = linked_place c.self.inside c.args.self.now c.args.place (ap (λ (n : Numbered). n.numbers) c.self.view_is) c.requires in
    found-along (numbers_of links) (length c.self.inside.last.items) (c.index-link.result.now.number % length c.self.inside.last.items) c.args.place c.index-link.result.now.before
    (link-start links (length c.self.inside.last.items) c.args.place c.index-link.result.now c.self.invariant.linked within c.index-link.ensures)
    c.index-link.result.now.number c.along.result refl
    (c.along.ensures ∙ ap (λ ls. last_before (has_number (numbers_of ls) c.index-link.result.now.number) c.index-link.result.now.before) c.deref.ensures.value)
    ∙ ap (λ number. last_before (has_number (numbers_of links) number) c.args.place) (sym (number-read links (length c.self.inside.last.items) c.args.place c.index-link.result.now c.self.invariant.linked within c.index-link.ensures))
    ∙ ap (λ (n : Numbered). last_before (has_number n.numbers (slice_index n.numbers c.args.place)) c.args.place) c.self.view_is
