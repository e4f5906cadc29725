use Rattle.std.proofs.Common.{◌≡◌, ◌+◌, ◌-◌, ◌%◌, List, ℕ, length, take, drop, sum, ap, sym, ◌∙◌, arith}
use Rattle.std.proofs.lemmas.List.{length-drop, drop-drop}
use Rattle.gu_fix.specs.Sums.{sum_after}
use Rattle.gu_fix.proofs.SumLemmas.{difference, length-running}
use Rattle.gu_fix.proofs.window.Window.checksum.Goals as goal

pub sum_before-before-requires : goal.sum_before-before-requires
sum_before-before-requires c =
    let w = c.self.inside in
    let summed = c.self.invariant.summed c.if-not-self.false in
    omega (arith, c.requires, ap length summed, length-running 0 w.bytes.items, ap length c.self.view_is, length-drop w.start w.bytes.items, ap length c.deref-2.ensures.value)

pub sum_before-behind-requires : goal.sum_before-behind-requires
sum_before-behind-requires c =
    let w = c.self.inside in
    let summed = c.self.invariant.summed c.if-not-self.false in
    omega (arith, c.requires, ap length summed, length-running 0 w.bytes.items, ap length c.self.view_is, length-drop w.start w.bytes.items, ap length c.deref-3.ensures.value)

pub returns : goal.returns
returns c =
    let w = c.self.inside in
    let bytes = w.bytes.items in
    let from = w.start + c.args.place in
    let summed = c.self.invariant.summed c.if-not-self.false in
    let before : c.sum_before-before.result ≡ sum_after 0 (take from bytes) = c.sum_before-before.ensures bytes (c.deref-2.ensures.value ∙ summed) in
    let behind : c.sum_before-behind.result ≡ sum_after 0 (take (from + c.args.len) bytes) = c.sum_before-behind.ensures bytes (c.deref-3.ensures.value ∙ summed) in
    let there : drop from bytes ≡ drop c.args.place c.args.self.now = sym (drop-drop c.args.place w.start bytes) ∙ ap (drop c.args.place) c.self.view_is in
    ap (λ n. (n + (256 - c.sum_before-before.result)) % 256) behind ∙ ap (λ n. (sum_after 0 (take (from + c.args.len) bytes) + (256 - n)) % 256) before
    ∙ difference 0 from c.args.len bytes (omega arith) ∙ ap (λ (t : List ℕ). sum (take c.args.len t) % 256) there
