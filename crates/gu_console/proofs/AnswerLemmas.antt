-- Answers, and what a seat has seen after them.
use Rattle.std.proofs.Common.{◌≡◌, ◌⊎◌, ◌∙◌, ℕ, List, [], ◌∷◌, ◌++◌, Some, None, Result, Ok, Err, IfOk, codes, inl, inr, refl, sym, ap, subst, arith, append-nil, append_assoc}
use Rattle.std.specs.Prelude.{OnOk}
use Rattle.std.specs.Fmt.{decimal}
use mathlib.Core.List.{IsPrefix}
use Rattle.gu_terms.specs.Histories.{entry_at}
use Rattle.gu_terms.specs.declared.entry.Entry.{Entry}
use Rattle.gu_terms.specs.declared.entry.Entry.TheVariants.{Swept}
use Rattle.gu_terms.specs.declared.entry.SweepEntry.{SweepEntry}
use Rattle.gu_terms.specs.declared.group.Group.{Group}
use Rattle.gu_terms.specs.declared.receipt.Receipt.{Receipt}
use Rattle.gu_ref.specs.Tables.{Tables}
use Rattle.gu_view.specs.View.{GroupView}
use Rattle.gu_text.specs.SheetText.{sheet_text}
use Rattle.gu_text.specs.Texts.{line_of}
use Rattle.gu_desk.specs.Holds.{Enters, Sees}
use Rattle.gu_desk.specs.Seats.{SeatState}
use Rattle.gu_console.specs.Answers.{AnswersLine, GoesOnFrom, IsSweptText, OperatorState, after_answer, bad_text}
use Rattle.gu_console.specs.Requests.{IsAsked}
use Rattle.gu_console.specs.declared.said.Said.{Said}

-- a seat that stays as it was
pub stays : (old new : SeatState) → new ≡ old → GoesOnFrom old new
stays old new same = subst (λ (s : SeatState). GoesOnFrom old s) (sym same) (record { begins = ([], append-nil old.front); entries = (omega arith, omega arith) })

-- a seat that has seen more
pub sees_on : (reference : Tables) (old new : SeatState) → Sees reference old new → GoesOnFrom old new
sees_on reference old new sees = let same = sees.entries_is in record { begins = sees.begins; entries = (omega arith, omega arith) }

-- what a seat had seen is a beginning of what it sees after an entry
seen_before : (reference : Tables) (old new : SeatState) (r : Receipt) → Enters reference old r new → IsPrefix old.front new.front
seen_before reference old new r enters =
    let begins = enters.begins in
    (begins.0 ++ r.entry ∷ [], sym (append_assoc old.front begins.0 (r.entry ∷ [])) ∙ ap (λ (l : List Entry). l ++ r.entry ∷ []) begins.1 ∙ sym enters.front_is)

-- a seat that an entry was made from
pub enters_on : (reference : Tables) (old new : SeatState) (receipt : Receipt) → Enters reference old receipt new → GoesOnFrom old new
enters_on reference old new receipt enters =
    let more = enters.entries_is in
    record { begins = seen_before reference old new receipt enters; entries = (omega arith, omega arith) }

-- the line of a sweep, with its sheet or without
pub swept_said : (view : GroupView) (number : ℕ) (sweep shown : SweepEntry) (group : Group) (lots : ℕ) (line text : List ℕ)
    → line ≡ line_of (decimal number ∷ codes "SWEPT" ∷ group.name ∷ decimal lots ∷ []) → sweep.group ≡ group → sweep.lots ≡ lots → shown ≡ sweep
    → (text ≡ line ++ sheet_text view shown.takes shown.cut) ⊎ (text ≡ line) → IsSweptText view number sweep text
swept_said view number sweep shown group lots line text is of_group of_lots same (inl whole) =
    inl (whole ∙ ap (λ (s : SweepEntry). line ++ sheet_text view s.takes s.cut) same
    ∙ ap (λ (l : List ℕ). l ++ sheet_text view sweep.takes sweep.cut) (is
    ∙ ap (λ (g : Group). line_of (decimal number ∷ codes "SWEPT" ∷ g.name ∷ decimal lots ∷ [])) (sym of_group)
    ∙ ap (λ (n : ℕ). line_of (decimal number ∷ codes "SWEPT" ∷ sweep.group.name ∷ decimal n ∷ [])) (sym of_lots)))
swept_said view number sweep shown group lots line text is of_group of_lots same (inr short) =
    inr (short ∙ is
    ∙ ap (λ (g : Group). line_of (decimal number ∷ codes "SWEPT" ∷ g.name ∷ decimal lots ∷ [])) (sym of_group)
    ∙ ap (λ (n : ℕ). line_of (decimal number ∷ codes "SWEPT" ∷ sweep.group.name ∷ decimal n ∷ [])) (sym of_lots)
    ∙ sym (append-nil (line_of (decimal number ∷ codes "SWEPT" ∷ sweep.group.name ∷ decimal sweep.lots ∷ []))))

-- the entry of a number is one
pub one_sweep : (history : List Entry) (number : ℕ) (sweep shown : SweepEntry) → entry_at history number ≡ Some (Swept sweep) → entry_at history number ≡ Some (Swept shown) → shown ≡ sweep
one_sweep history number sweep shown a b = cc

-- a bad line
pub bad_answered : {E : Type 0} (reference : Tables) (state : OperatorState) (line text : List ℕ) (done : Result (Unit {0}) E) (said : Result Said E) → said ≡ after_answer done
    → OnOk done (text ≡ bad_text) → IsAsked state.is_watch line None → IfOk said (λ s. AnswersLine reference state line text s state)
bad_answered {E} reference state line text (Ok d) said is is_bad asked =
    subst (λ (r : Result Said E). IfOk r (λ s. AnswersLine reference state line text s state)) (sym is)
    (inl (None, asked, record { answers = (is_bad, refl); closes = λ no. let never : ⊥ = cc in absurd never }))
bad_answered {E} reference state line text (Err e) said is is_bad asked =
    subst (λ (r : Result Said E). IfOk r (λ s. AnswersLine reference state line text s state)) (sym is) tt
