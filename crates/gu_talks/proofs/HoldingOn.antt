-- Turns that send nothing.
use Rattle.std.proofs.Common.{◌≡◌, ◌≤◌, ◌++◌, ℕ, zero, suc, List, [], length, Option, Some, Result, Ok, Err, IfOk, sym, ap, ◌∙◌, append_assoc, arith, length-append}
use Rattle.gu_engine.specs.Running.{Engine}
use Rattle.gu_engine.specs.Sends.{GivesSome}
use Rattle.gu_engine.specs.declared.backlog.Backlog.{Backlog}
use Rattle.gu_engine.specs.declared.turned.Turned.{Turned}
use Rattle.gu_engine.specs.declared.turned.Turned.TheVariants as turned
use Rattle.gu_talks.specs.Turns.{HoldsOn, Spot, TurnsOn}

-- what follows from two facts of a success
pub if_both : {T E : Type 0} (result : Result T E) (P Q F : T → Type 0) → ((x : T) → P x → Q x → F x) → IfOk result P → IfOk result Q → IfOk result F
if_both (Ok x) P Q F follows p q = follows x p q
if_both (Err e) P Q F follows p q = tt

-- if the writer holds nothing before and after, nothing was sent
pub holds_what_is_given : {O : Type 0} (old new : Backlog O) → GivesSome old.held.bytes.items new.held.bytes.items (Some []) (Some []) → HoldsOn old new
holds_what_is_given old new gives =
    let none : gives.gave.sent ≡ [] = sym gives.gave.appended in
    record { text = gives.text; held = sym (gives.gave.parts ∙ ap (λ (t : List ℕ). t ++ new.held.bytes.items) none) }

-- the same for two in a row
holds_then : {O : Type 0} (old mid new : Backlog O) → HoldsOn old mid → HoldsOn mid new → HoldsOn old new
holds_then old mid new first second = record {
  text = first.text ++ second.text;
  held = second.held ∙ ap (λ (t : List ℕ). t ++ second.text) first.held ∙ append_assoc old.held.bytes.items first.text second.text;
}

-- the same for any number of turns in a row
pub all_hold_on : {S R O : Type 0} (engine : Engine S) (remaining : R → Option (List ℕ)) (more : ℕ) (old : Spot S R O) (became : Turned) (new : Spot S R O) → TurnsOn engine remaining more old became new
    → HoldsOn old.kept new.kept
all_hold_on engine remaining zero old became new turns = turns.holds
all_hold_on engine remaining (suc more) old became new (mid, before, last) = holds_then old.kept mid.kept new.kept (all_hold_on engine remaining more old turned.Again mid before) last.holds

-- there are still no more marks than bytes, if there were no more before
pub marks_fit : {O : Type 0} (old new : Backlog O) (marks : List ℕ) → length marks ≤ length old.held.bytes.items → HoldsOn old new → length marks ≤ length new.held.bytes.items
marks_fit old new marks fit holds = omega (arith, ap length holds.held, length-append old.held.bytes.items holds.text)
