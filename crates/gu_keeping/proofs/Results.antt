-- What holds if a call succeeded, or if a sink stopped.
use Rattle.gu_keeping.proofs.Words.{Result, Ok, Err, OnOk, Option, Some, None, ◌≡◌, refl, MatchOption, IfStopped}
use Rattle.gu_journal.specs.declared.sink.SinkError.{SinkError}
use Rattle.gu_journal.specs.declared.stopped.Stopped.{Stopped}
use Rattle.gu_keeping.specs.declared.error.Unkept.{Unkept}
use Rattle.gu_keeping.specs.declared.error.Unkept.TheVariants.{Memory, Missing, TooLong, Failed}

pub on_ok : {A E P Q : Type 0} (result : Result A E) → OnOk result P → (P → Q) → OnOk result Q
on_ok (Ok x) p implies = implies p
on_ok (Err e) p implies = p

pub if_stopped : {T P : Type 0} (unkept : Unkept T P) (A B : Stopped P SinkError → Type 0) → IfStopped unkept A → ((stopped : Stopped P SinkError) → A stopped → B stopped) → IfStopped unkept B
if_stopped (Memory back) A B a implies = tt
if_stopped (Missing back) A B a implies = tt
if_stopped (TooLong back) A B a implies = tt
if_stopped (Failed stopped) A B a implies = implies stopped a

pub both_stopped : {T P : Type 0} (unkept : Unkept T P) (A B C : Stopped P SinkError → Type 0) → IfStopped unkept A → IfStopped unkept B
    → ((stopped : Stopped P SinkError) → A stopped → B stopped → C stopped) → IfStopped unkept C
both_stopped (Memory back) A B C a b implies = tt
both_stopped (Missing back) A B C a b implies = tt
both_stopped (TooLong back) A B C a b implies = tt
both_stopped (Failed stopped) A B C a b implies = implies stopped a b

-- if there is nothing
pub if_none : {X : Type 0} (option : Option X) (A : Type 0) (B : X → Type 0) → MatchOption option A B → ((x : X) → option ≡ Some x → ⊥) → A
if_none None A B a none = a
if_none (Some x) A B b none = absurd (none x refl)
