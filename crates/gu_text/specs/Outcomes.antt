-- Outcomes of steps as lines.
use Rattle.std.specs.Prelude.{ℕ, List, [], ◌∷◌, ◌++◌, codes, Option}
use Rattle.std.specs.Fmt.{decimal}
use Rattle.std.specs.Option.{option_map_or}
use Rattle.gu_terms.specs.declared.entry.Entry.{Entry}
use Rattle.gu_terms.specs.declared.entry.Entry.TheVariants.{Asked as AskedEntry, Swept as SweptEntry}
use Rattle.gu_terms.specs.declared.entry.SweepEntry.{SweepEntry}
use Rattle.gu_terms.specs.declared.group.Group.{Group}
use Rattle.gu_view.specs.View.{GroupView}
use Rattle.gu_world.specs.declared.outcome.Outcome.{Outcome}
use Rattle.gu_world.specs.declared.outcome.Outcome.TheVariants.{Asked, Full, Seen, NoGroup, Proposed, Swept, Stale, Foreign, Nothing}
use Rattle.gu_text.specs.Replies.{reply_text}
use Rattle.gu_text.specs.SheetText.{sheet_text}
use Rattle.gu_text.specs.Texts.{line_of}

-- `number SWEPT group lots`, followed by the sheet if the group's view just before is known
abbrev pub swept_text : Option GroupView → ℕ → SweepEntry → List ℕ
swept_text before number sweep =
    line_of (decimal number ∷ codes "SWEPT" ∷ sweep.group.name ∷ decimal sweep.lots ∷ [])
    ++ option_map_or (λ view. sheet_text view sweep.takes sweep.cut) before []

-- an entry and its number
abbrev pub entry_text : Option GroupView → ℕ → Entry → List ℕ
entry_text before number (AskedEntry command reply) = reply_text number reply
entry_text before number (SweptEntry sweep) = swept_text before number sweep

-- the name of the group that was looked at, if there is one
abbrev pub group_words : Option Group → List (List ℕ)
group_words looked = option_map_or (λ group. group.name ∷ []) looked []

-- the outcome of a step: for a look with the group, and for a sweep with its sheet if the group's view just before it is known
abbrev pub outcome_text : Option GroupView → Option Group → Outcome → List ℕ
outcome_text before looked (Asked receipt) = entry_text before receipt.number receipt.entry
outcome_text before looked Full = line_of (codes "FULL" ∷ [])
outcome_text before looked (Seen version) = line_of (codes "SEEN" ∷ group_words looked ++ decimal version ∷ [])
outcome_text before looked NoGroup = line_of (codes "UNKNOWN" ∷ codes "GROUP" ∷ [])
outcome_text before looked (Proposed lots) = line_of (codes "PROPOSED" ∷ decimal lots ∷ [])
outcome_text before looked (Swept receipt) = entry_text before receipt.number receipt.entry
outcome_text before looked (Stale seen now) = line_of (codes "STALE" ∷ decimal seen ∷ decimal now ∷ [])
outcome_text before looked Foreign = line_of (codes "FOREIGN" ∷ [])
outcome_text before looked Nothing = line_of (codes "NOTHING" ∷ [])
