-- What is found of a log at the moments of an append.
use Rattle.std.proofs.Common.{◌≡◌, inl, inr, ⊎_elim, ℕ, ◌≤◌, List, length, Option, Some, sym, ◌∙◌, ap, subst}
use Rattle.gu_journal.specs.Crashes.{LeavesOnly}
use Rattle.gu_journal.specs.Sink.{HasBegun as HasBegunText}
use Rattle.gu_journal.specs.Text.{IsWholeLines}
use Rattle.gu_etcd.specs.declared.log_sink.Led.{Led}
use Rattle.gu_etcd.specs.declared.node.Node.{Ghosts}
use Rattle.gu_etcd.specs.Keys.{IsName}
use Rattle.gu_etcd.specs.Log.{HasBegun, entry_of}
use Rattle.gu_etcd.specs.Sinks.{found_since, node_in, start_in, text_in}
use Rattle.gu_etcd.specs.Texts.{own_part, text_of_log}
use Rattle.gu_etcd.proofs.OwnParts.{begun_text}

module _ {N : Type 0} {g : Ghosts N} where
  -- a crash at any moment from the old state to the new one leaves something with property P
  abbrev pub LeavesText : Led N g → Led N g → (Option (List ℕ) → Type 0) → Type 0
  LeavesText old new P = LeavesOnly (λ (led : Led N g). g.moment (node_in led)) (λ (led : Led N g). found_since led) old new P

  -- what the log might have had is what might have been found
  pub found_moments : (old new : Led N g) (known : List (List ℕ)) (name batch entry : List ℕ) → IsName name → IsWholeLines batch → name ≡ g.leader (node_in old)
      → entry ≡ entry_of name batch → start_in old ≤ length known → own_part (start_in old) (g.leader (node_in old)) known ≡ known
      → start_in new ≡ start_in old → g.leader (node_in new) ≡ g.leader (node_in old)
      → LeavesOnly g.moment g.held_since (node_in old) (node_in new) (HasBegun known (g.leader (node_in old)) entry)
      → LeavesText old new (HasBegunText (text_of_log known) batch)
  found_moments old new known name batch entry named whole leads entry_is fits all start leader run =
      let desk = g.leader (node_in old) in
      let is : entry ≡ entry_of desk batch = entry_is ∙ ap (λ (d : List ℕ). entry_of d batch) leads in
      let same : (log : List (List ℕ)) → text_in new log ≡ text_in old log = λ (log : List (List ℕ)).
      ap (λ (s : ℕ). text_of_log (own_part s (g.leader (node_in new)) log)) start ∙ ap (λ (l : List ℕ). text_of_log (own_part (start_in old) l log)) leader in
      let found : (log : List (List ℕ)) (outcome : Option (List ℕ)) → outcome ≡ Some (text_in new log) → HasBegun known desk entry log
      → HasBegunText (text_of_log known) batch outcome =
      λ (log : List (List ℕ)) (outcome : Option (List ℕ)) (told : outcome ≡ Some (text_in new log)) (begun : HasBegun known desk entry log).
      subst (λ (o : Option (List ℕ)). HasBegunText (text_of_log known) batch o) (sym (told ∙ ap (λ (text : List ℕ). Some text) (same log)))
      (begun_text (start_in old) known desk batch (subst (λ (d : List ℕ). IsName d) leads named) whole fits all log
      (subst (λ (e : List ℕ). HasBegun known desk e log) is begun)) in
      record {
        later = run.later;
        each = λ outcome left. found left.0 outcome left.2 (run.each left.0 left.1);
        before = λ t outcome le left.
            ⊎_elim (λ held. inl (left.0, held, left.2 ∙ ap (λ (text : List ℕ). Some text) (same left.0))) (λ begun. inr (found left.0 outcome left.2 begun))
            (run.before t left.0 le left.1);
      }

  -- the same for a place that an equation gives
  pub at_place : (old new place : Led N g) (P : Option (List ℕ) → Type 0) → place ≡ new → (g.is_honest (node_in new) → LeavesText old new P)
      → g.is_honest (node_in place) → LeavesText old place P
  at_place old new place P is run = subst (λ (led : Led N g). g.is_honest (node_in led) → LeavesText old led P) (sym is) run
