use Rattle.std.proofs.Common.{◌≡◌, ◌+◌, List, [], ℕ, drop, sym, subst, append-nil}
use Rattle.std.proofs.lemmas.List.{drop_all}
use Rattle.serde_json.specs.declared.value.Value.{Value}
use Rattle.serde_json.specs.View.{items_view}
use Rattle.gu_etcd.specs.InMemory.{log_of}
use Rattle.gu_etcd.specs.Pages.{AreEntries}
use Rattle.gu_etcd.proofs.page.entries_of.Goals as goal

pub returns : goal.returns
returns c =
    let name = c.args.name.now in
    let number = c.args.number in
    let pairs = c.args.pairs.now in
    let texts = log_of c.loop-i.entries.items in
    let none : drop c.loop-i.i pairs ≡ [] = drop_all c.loop-i.i pairs c.loop-i-test.false in
    subst (λ (l : List (List ℕ)). AreEntries name number (items_view pairs) l) (append-nil texts)
    (c.loop-i.invariant [] (subst (λ (ps : List Value). AreEntries name (number + c.loop-i.i) (items_view ps) []) (sym none) tt))
