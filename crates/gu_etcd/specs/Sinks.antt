-- What a sink over a log keeps, and what of it is found.
use Rattle.std.specs.Prelude.{◌≡◌, ℕ, List, Option, Some}
use Rattle.std.proofs.Common.{◌∙◌, ap}
use Rattle.gu_etcd.specs.declared.node.Node.{Ghosts}
use Rattle.gu_etcd.specs.declared.appender.AppendError.{AppendError}
use Rattle.gu_etcd.specs.declared.appender.AppendError.TheVariants.{Failed, Fenced, Full, Memory}
use Rattle.gu_etcd.specs.declared.appender.Appender.{Appender}
use Rattle.gu_etcd.specs.declared.log_sink.Led.{Led}
use Rattle.gu_etcd.specs.declared.log_sink.Led.TheVariants.{Ended, Going}
use Rattle.gu_etcd.specs.declared.log_sink.LogSink.{LogSink}
use Rattle.gu_etcd.specs.Kept.{kept_by}
use Rattle.gu_etcd.specs.Texts.{own_part, text_of_log}

-- an appender that stops with `Full` has no number left
abbrev pub shortage_of : AppendError → ℕ
shortage_of Memory = 0
shortage_of Failed = 0
shortage_of Fenced = 0
shortage_of Full = 1

module _ {N : Type 0} {g : Ghosts N} where
  -- the etcd with the log
  abbrev pub node_in : Led N g → N
  node_in (Going start appender) = appender.node
  node_in (Ended start stopped) = stopped.place

  -- the number of entries that were there at the start
  abbrev pub start_in : Led N g → ℕ
  start_in (Going start appender) = start
  start_in (Ended start stopped) = start

  -- how often no number was left
  abbrev pub shortages_in : Led N g → ℕ
  shortages_in (Going start appender) = 0
  shortages_in (Ended start stopped) = shortage_of stopped.error

  -- the text of a log, as far as the desk answers for it
  abbrev pub text_in : Led N g → List (List ℕ) → List ℕ
  text_in led log = text_of_log (own_part (start_in led) (g.leader (node_in led)) log)

  -- the text that might have been found at some moment since that one
  abbrev pub found_since : Led N g → ℕ → Option (List ℕ) → Type 0
  found_since led t outcome = (log : List (List ℕ)) × g.held_since (node_in led) t log × (outcome ≡ Some (text_in led log))

  -- the appender of a sink
  abbrev pub appender_of : LogSink N g → Appender N g
  appender_of sink = sink.appender

  -- the log that it writes to
  abbrev pub led_by : LogSink N g → Led N g
  led_by sink = Going sink.start sink.appender

  -- the text that it kept: that of the entries that its appender kept
  abbrev pub kept_in : LogSink N g → List ℕ
  kept_in sink = text_of_log (kept_by sink.appender)

  -- what it kept is found
  pub kept_is_found : ((node : N) (log : List (List ℕ)) → g.held_since node (g.moment node) log → g.may_hold node log) → (sink : LogSink N g) (outcome : Option (List ℕ))
      → g.is_honest (node_in (led_by sink)) → found_since (led_by sink) (g.moment (node_in (led_by sink))) outcome → outcome ≡ Some (kept_in sink)
  kept_is_found only_now sink outcome honest found =
      found.2 ∙ ap (λ (log : List (List ℕ)). Some (text_of_log log)) (sink.found honest found.0 (only_now sink.appender.node found.0 found.1))
