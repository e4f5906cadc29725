use Rattle.std.proofs.Common.{◌≡◌, ◌∙◌, sym, ap, refl, ℕ, ◌<◌, ◌%◌, ◌==◌, false, length, get_or, arith}
use Rattle.std.proofs.lemmas.Bool.{eqb-false}
use Rattle.std.proofs.lemmas.List.{length-map}
use Rattle.gu_trades.specs.Numbered.{Numbered, has_number, last_before}
use Rattle.gu_trades.specs.HashIndex.{IsHashIndex, is_in_row, numbers_of}
use Rattle.gu_trades.specs.declared.hash_index.Link.{Link}
use Rattle.gu_trades.specs.declared.hash_index.HashIndex.TheInside.{Inside}
use Rattle.gu_trades.proofs.Rows.{end-start, found-along, start-row, start-within}
use Rattle.gu_trades.proofs.hash_index.HashIndex.last.Goals as goal

-- the row of a hash ends at the position read
start : (inside : Inside) (number row from : ℕ) → IsHashIndex inside → (length inside.last.items == 0) ≡ false → row ≡ number % length inside.last.items → from ≡ get_or inside.last.items row from
    → from ≡ last_before (is_in_row (numbers_of inside.links.items) (length inside.last.items) (number % length inside.last.items)) (length inside.links.items)
start inside number row from places some is read =
    let nonempty = eqb-false (length inside.last.items) 0 some in
    let within : number % length inside.last.items < length inside.last.items = omega arith in
    end-start inside.links.items inside.last.items (number % length inside.last.items) from places.ends within (read ∙ ap (λ n. get_or inside.last.items n from) is)

pub along-requires-clause-within : goal.along-requires-clause-within
along-requires-clause-within c =
    let some = ap (λ n. n == 0) (sym c.self.inside.last.ok.0) ∙ sym c.is_empty.ensures ∙ c.if-is_empty.false in
    let begun = start c.self.inside c.args.number c.row_of.result c.index-from.result.now c.self.invariant some (c.row_of.ensures ∙ ap (λ rows. c.args.number % rows) (c.len-rows.ensures ∙ c.self.inside.last.ok.0)) c.index-from.ensures in
    rw c.deref.ensures.value
    (start-within (numbers_of c.self.inside.links.items) (length c.self.inside.last.items) (c.args.number % length c.self.inside.last.items) (length c.self.inside.links.items) c.index-from.result.now
    begun (length c.self.inside.links.items) (omega arith))

pub along-requires-clause-row : goal.along-requires-clause-row
along-requires-clause-row c =
    let some = ap (λ n. n == 0) (sym c.self.inside.last.ok.0) ∙ sym c.is_empty.ensures ∙ c.if-is_empty.false in
    let begun = start c.self.inside c.args.number c.row_of.result c.index-from.result.now c.self.invariant some (c.row_of.ensures ∙ ap (λ rows. c.args.number % rows) (c.len-rows.ensures ∙ c.self.inside.last.ok.0)) c.index-from.ensures in
    rw (c.deref.ensures.value, c.len-rows.ensures, c.self.inside.last.ok.0)
    (start-row (numbers_of c.self.inside.links.items) (length c.self.inside.last.items) (c.args.number % length c.self.inside.last.items) (length c.self.inside.links.items) c.index-from.result.now begun)

pub returns : goal.returns
returns c =
    let links = c.self.inside.links.items in
    let some = ap (λ n. n == 0) (sym c.self.inside.last.ok.0) ∙ sym c.is_empty.ensures ∙ c.if-is_empty.false in
    let begun = start c.self.inside c.args.number c.row_of.result c.index-from.result.now c.self.invariant some (c.row_of.ensures ∙ ap (λ rows. c.args.number % rows) (c.len-rows.ensures ∙ c.self.inside.last.ok.0)) c.index-from.ensures in
    found-along (numbers_of links) (length c.self.inside.last.items) (c.args.number % length c.self.inside.last.items) (length links) c.index-from.result.now begun c.args.number c.along.result refl
    (c.along.ensures ∙ ap (λ ls. last_before (has_number (numbers_of ls) c.args.number) c.index-from.result.now) c.deref.ensures.value)
    ∙ ap (λ n. last_before (has_number (numbers_of links) c.args.number) n) (sym (length-map links (λ (link : Link). link.number)))
    ∙ ap (λ (n : Numbered). last_before (has_number n.numbers c.args.number) (length n.numbers)) c.self.view_is
