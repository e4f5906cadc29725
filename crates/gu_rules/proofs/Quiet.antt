-- Entries that open no day, report nothing, give nothing up and set no limit.
use Rattle.gu_rules.proofs.Words.{◌≡◌, ◌||◌, false, List, [], ◌∷◌, ◌++◌, Option, Some, None, refl, ap, ◌∙◌, list_any-append, Command, OpenDay, Day, Entry, Asked, FirmId, Group, Id, LimitKey, Refusal, Denied, limit_set, limit_set_by, gave_up, has_give_up, lines_by, open_day, opened_day, report_on}
use Rattle.gu_rules.proofs.Growing.{last-kept}
use Rattle.gu_rules.proofs.StandingLemmas.{either-false}

-- what one more entry leaves unchanged, if it doesn't affect it
pub open_day-kept : (history : List Entry) (entry : Entry) → opened_day entry ≡ None → open_day (history ++ entry ∷ []) ≡ open_day history
open_day-kept history entry none = last-kept opened_day history entry none

pub limit_set-kept : (history : List Entry) (entry : Entry) (group : Group) (key : LimitKey) → limit_set_by group key entry ≡ None → limit_set (history ++ entry ∷ []) group key ≡ limit_set history group key
limit_set-kept history entry group key none = last-kept (limit_set_by group key) history entry none

-- a give-up by one more entry
pub has_give_up-push : (history : List Entry) (entry : Entry) (firm : FirmId) (id : Id) → has_give_up (history ++ entry ∷ []) firm id ≡ (has_give_up history firm id || gave_up firm id entry)
has_give_up-push history entry firm id =
    list_any-append (gave_up firm id) history (entry ∷ []) ∙ ap (λ b. has_give_up history firm id || b) (either-false (gave_up firm id entry))

pub has_give_up-kept : (history : List Entry) (entry : Entry) (firm : FirmId) (id : Id) → gave_up firm id entry ≡ false → has_give_up (history ++ entry ∷ []) firm id ≡ has_give_up history firm id
has_give_up-kept history entry firm id none = has_give_up-push history entry firm id ∙ ap (λ b. has_give_up history firm id || b) none ∙ either-false (has_give_up history firm id)

-- an entry that opens no day, reports nothing, gives nothing up and sets no limit
pub record IsQuiet (history : List Entry) (entry : Entry) : Type 0 where
  pub opens : opened_day entry ≡ None
  pub reports : report_on (open_day history) entry ≡ None
  pub gives_up : (firm : FirmId) (id : Id) → gave_up firm id entry ≡ false
  pub sets : (group : Group) (key : LimitKey) → limit_set_by group key entry ≡ None

-- reports are accepted while a day is open
pub unreported : (entry : Entry) → ((day : Day) → report_on (Some day) entry ≡ None) → (today : Option Day) → report_on today entry ≡ None
unreported entry none None = refl
unreported entry none (Some day) = none day

-- a refused command is such an entry
pub denied-quiet : (history : List Entry) (command : Command) (why : Refusal) → IsQuiet history (Asked command (Denied why))
denied-quiet history (OpenDay it) why = record { opens = refl; reports = unreported (Asked (OpenDay it) (Denied why)) (λ d. refl) (open_day history); gives_up = λ f i. refl; sets = λ g k. refl }
denied-quiet history command why = record { opens = refl; reports = unreported (Asked command (Denied why)) (λ d. refl) (open_day history); gives_up = λ f i. refl; sets = λ g k. refl }

-- it makes no offers
pub denied-lines : (command : Command) (why : Refusal) → lines_by (Asked command (Denied why)) ≡ []
denied-lines (OpenDay it) why = refl
denied-lines command why = refl
