use Rattle.gu_book.proofs.Words.{◌∙◌, ◌++◌, [], List, ap, append-nil, map, rules, sym, filter_map, on_ok_weaker, FirmId, row_in}
use Rattle.gu_terms.specs.declared.limit_key.LimitKey.TheVariants.{Exec, Agr, Acct, Carry, Guar}
use Rattle.gu_ref.specs.declared.accounts.Account.{Account}
use Rattle.gu_ref.specs.declared.agreements.Agreement.{Agreement}
use Rattle.gu_book.proofs.LimitLemmas.{keys_after}
use Rattle.gu_book.proofs.limits.append_in_order.Goals as goal

pub returns : goal.returns
returns c =
    let given = row_in c.args.limits.now c.args.group.now in
    let reference = c.args.reference.now in
    let rows = c.args.rows.now.items in
    let exec = λ (f : FirmId). Exec f in
    let agr = λ (a : Agreement). Agr a.id in
    let acct = λ (a : Account). Acct a.account in
    let carry = λ (f : FirmId). Carry f in
    let guar = λ (f : FirmId). Guar f in
    let executing = map exec reference.firms in
    let agreements = map agr reference.agreements in
    let accounts = map acct reference.accounts in
    let carrying = map carry reference.firms in
    let one =
    keys_after given exec rows rows c.append_rows.new.rows.items [] reference.firms (sym (append-nil rows))
    (c.in_ok-append_rows.ensures exec (λ item k ran. search rules) ∙ ap (λ (firms : List FirmId). rows ++ filter_map (λ f. given (exec f)) firms) c.firms-firms.ensures) in
    let two =
    keys_after given agr rows c.append_rows.new.rows.items c.append_rows-2.new.rows.items executing reference.agreements one
    (c.in_ok-append_rows-2.ensures agr (λ item k ran. search rules) ∙ ap (λ (all : List Agreement). c.append_rows.new.rows.items ++ filter_map (λ a. given (agr a)) all) c.agreements-agreements.ensures) in
    let three =
    keys_after given acct rows c.append_rows-2.new.rows.items c.append_rows-3.new.rows.items (executing ++ agreements) reference.accounts two
    (c.in_ok-append_rows-3.ensures acct (λ item k ran. search rules) ∙ ap (λ (all : List Account). c.append_rows-2.new.rows.items ++ filter_map (λ a. given (acct a)) all) c.accounts-accounts.ensures) in
    let four =
    keys_after given carry rows c.append_rows-3.new.rows.items c.append_rows-4.new.rows.items (executing ++ agreements ++ accounts) reference.firms three
    (c.in_ok-append_rows-4.ensures carry (λ item k ran. search rules) ∙ ap (λ (firms : List FirmId). c.append_rows-3.new.rows.items ++ filter_map (λ f. given (carry f)) firms) c.firms-firms.ensures) in
    on_ok_weaker c.append_rows-5.result
    (λ five.
    keys_after given guar rows c.append_rows-4.new.rows.items c.append_rows-5.new.rows.items (executing ++ agreements ++ accounts ++ carrying) reference.firms four
    (five ∙ ap (λ (firms : List FirmId). c.append_rows-4.new.rows.items ++ filter_map (λ f. given (guar f)) firms) c.firms-firms.ensures))
    (c.append_rows-5.ensures guar (λ item k ran. search rules))
