use Rattle.gu_book.proofs.Words.{◌≡◌, List, refl, sym, ap, ◌++◌, ◌∙◌, append_assoc, subst, take, take_all, filter_map, option_to_list, row_in}
use Rattle.std.proofs.lemmas.Fn.{says_at}
use Rattle.gu_terms.specs.declared.limit_row.LimitRow.{LimitRow}
use Rattle.gu_book.proofs.LimitLemmas.{filter_map_next}
use Rattle.gu_book.proofs.limits.append_rows.Goals as goal

pub loop-item-preserved : goal.loop-item-preserved
loop-item-preserved g c key returns_key =
    let row_of = row_in c.args.limits.now c.args.group.now in
    let given = λ (item : g.row.T.Denot). row_of (key item) in
    let before = c.args.rows.now.items in
    let so_far = filter_map given (take c.loop-item.item-index c.args.items.now) in
    c.in_ok-append_row.ensures
    ∙ ap (λ (rows : List LimitRow). rows ++ option_to_list c.row.result) (c.loop-item.invariant key returns_key)
    ∙ append_assoc before so_far (option_to_list c.row.result)
    ∙ ap (λ (row : List LimitRow). before ++ (so_far ++ row)) (ap option_to_list (c.row.ensures ∙ ap row_of (returns_key c.item-item.result c.key_of.result (says_at g.F.Fn c.key_of.ensures refl))))
    ∙ ap (λ (rows : List LimitRow). before ++ rows) (sym (filter_map_next given c.args.items.now c.loop-item.item-index c.item-item.result c.loop-item-test.true c.item-item.is))

pub returns : goal.returns
returns g c key returns_key =
    subst (λ (items : List g.row.T.Denot). c.loop-item.rows.items ≡ c.args.rows.now.items ++ filter_map (λ item. row_in c.args.limits.now c.args.group.now (key item)) items)
    (take_all c.loop-item.item-index c.args.items.now c.loop-item-test.false) (c.loop-item.invariant key returns_key)
