-- The part of a log that one desk answers for, and its text.
use Rattle.std.proofs.Common.{◌≡◌, ◌⊎◌, ◌≢◌, ◌||◌, ◌==◌, if◌then◌else◌, ⊎_elim, inl, inr, ℕ, ◌≤◌, List, [], ◌∷◌, ◌++◌, length, take, drop, Bool, true, false, Some, refl, sym, ◌∙◌, ap, subst, arith, append_assoc, append-nil}
use Rattle.std.proofs.lemmas.Bool.Decides.{Decides-eqb, eqb_tells}
use Rattle.std.proofs.lemmas.List.{drop-append-le, drop_all, length-append, take-append-drop, take-append-le, take_all}
use Rattle.std.proofs.lemmas.List.Elements.{All-head, All-tail}
use Rattle.std.proofs.lemmas.Slice.Eq.{starts_is}
use Rattle.gu_journal.specs.Text.{IsWholeLines}
use Rattle.gu_journal.specs.Sink.{HasBegun as HasBegunText}
use Rattle.gu_etcd.specs.Keys.{IsName}
use Rattle.gu_etcd.specs.Log.{HasBegun, IsOf, IsOthers, IsPutNext, IsSettled, desk_line, entry_of}
use Rattle.gu_etcd.specs.Splitting.{Lacks}
use Rattle.gu_etcd.specs.Texts.{batch_of, has_own, is_own, own_part, text_of_log, up_to_last}
use Rattle.gu_etcd.proofs.Entries.{after_head}
use Rattle.gu_etcd.proofs.Splits.{name_lacks}

not_true : (b : Bool) → (b ≡ true → ⊥) → b ≡ false
not_true true differs = absurd (differs refl)
not_true false differs = refl

or_true : (b : Bool) → (b || true) ≡ true
or_true true = refl
or_true false = refl

module _ (desk : List ℕ) where
  -- the first line of an entry says whether it is the desk's
  own_of : (entry : List ℕ) → IsOf desk entry → is_own desk entry ≡ true
  own_of entry own = (starts_is Decides-eqb entry (desk_line desk) (is_own desk entry) refl).1 own.batch own.is

  none_of : (entry : List ℕ) → (IsOf desk entry → ⊥) → is_own desk entry ≡ false
  none_of entry other = not_true (is_own desk entry) (λ is. other (record {
    batch = drop (length (desk_line desk)) entry;
    is = (starts_is Decides-eqb entry (desk_line desk) (is_own desk entry) refl).0 is;
  }))

  -- entries of others have none of the desk
  has_none : (others : List (List ℕ)) → IsOthers desk others → has_own desk others ≡ false
  has_none [] are = refl
  has_none (entry ∷ others) are =
      ap (λ (b : Bool). b || has_own desk others) (none_of entry (All-head (λ e. ¬ IsOf desk e) entry others are))
      ∙ has_none others (All-tail (λ e. ¬ IsOf desk e) entry others are)

  has_front : (first others : List (List ℕ)) → IsOthers desk others → has_own desk (first ++ others) ≡ has_own desk first
  has_front [] others are = has_none others are
  has_front (entry ∷ first) others are = ap (λ (b : Bool). is_own desk entry || b) (has_front first others are)

  has_it : (first others : List (List ℕ)) (entry : List ℕ) → IsOf desk entry → has_own desk (first ++ entry ∷ others) ≡ true
  has_it [] others entry own = ap (λ (b : Bool). b || has_own desk others) (own_of entry own)
  has_it (other ∷ first) others entry own = ap (λ (b : Bool). is_own desk other || b) (has_it first others entry own) ∙ or_true (is_own desk other)

  -- what follows the last entry of the desk is left out
  up_none : (others : List (List ℕ)) → IsOthers desk others → up_to_last desk others ≡ []
  up_none [] are = refl
  up_none (entry ∷ others) are = ap (λ (b : Bool). if b then entry ∷ up_to_last desk others else []) (has_none (entry ∷ others) are)

  up_front : (first others : List (List ℕ)) → IsOthers desk others → up_to_last desk (first ++ others) ≡ up_to_last desk first
  up_front [] others are = up_none others are
  up_front (entry ∷ first) others are =
      ap (λ (b : Bool). if b then entry ∷ up_to_last desk (first ++ others) else []) (has_front (entry ∷ first) others are)
      ∙ ap (λ (l : List (List ℕ)). if has_own desk (entry ∷ first) then entry ∷ l else []) (up_front first others are)

  up_it : (first others : List (List ℕ)) (entry : List ℕ) → IsOf desk entry → IsOthers desk others → up_to_last desk (first ++ entry ∷ others) ≡ first ++ entry ∷ []
  up_it [] others entry own are =
      ap (λ (b : Bool). if b then entry ∷ up_to_last desk others else []) (has_it [] others entry own)
      ∙ ap (λ (l : List (List ℕ)). entry ∷ l) (up_none others are)
  up_it (other ∷ first) others entry own are =
      ap (λ (b : Bool). if b then other ∷ up_to_last desk (first ++ entry ∷ others) else []) (has_it (other ∷ first) others entry own)
      ∙ ap (λ (l : List (List ℕ)). other ∷ l) (up_it first others entry own are)

  module _ (start : ℕ) (known : List (List ℕ)) (fits : start ≤ length known) where
    parted : (more : List (List ℕ)) → own_part start desk (known ++ more) ≡ take start known ++ up_to_last desk (drop start known ++ more)
    parted more =
        ap (λ (l : List (List ℕ)). l ++ up_to_last desk (drop start (known ++ more))) (take-append-le start known more fits)
        ∙ ap (λ (l : List (List ℕ)). take start known ++ up_to_last desk l) (drop-append-le start known more fits)

    -- of a settled log, the desk's part is what is known
    pub own_settled : own_part start desk known ≡ known → (log : List (List ℕ)) → IsSettled known desk log → own_part start desk log ≡ known
    own_settled all log settled =
        let others = drop (length known) log in
        let log_is : log ≡ known ++ others = sym (take-append-drop (length known) log) ∙ ap (λ (l : List (List ℕ)). l ++ drop (length known) log) settled.kept_is in
        ap (λ (l : List (List ℕ)). own_part start desk l) log_is ∙ parted others
        ∙ ap (λ (l : List (List ℕ)). take start known ++ l) (up_front (drop start known) others settled.are_others) ∙ all

    -- with its entry next, that entry too
    pub own_put : (entry : List ℕ) → IsOf desk entry → (log : List (List ℕ)) → IsPutNext known desk entry log → own_part start desk log ≡ known ++ entry ∷ []
    own_put entry own log put =
        ap (λ (l : List (List ℕ)). own_part start desk l) put.log_is ∙ parted (entry ∷ put.others)
        ∙ ap (λ (l : List (List ℕ)). take start known ++ l) (up_it (drop start known) put.others entry own put.are_others)
        ∙ sym (append_assoc (take start known) (drop start known) (entry ∷ []))
        ∙ ap (λ (l : List (List ℕ)). l ++ entry ∷ []) (take-append-drop start known)

    pub own_kept : (entry : List ℕ) → IsOf desk entry → own_part start desk (known ++ entry ∷ []) ≡ known ++ entry ∷ []
    own_kept entry own = own_put entry own (known ++ entry ∷ []) (record { others = []; log_is = refl; are_others = λ k e within own. omega (arith, within) })

-- at its start the desk answers for all that is there
pub own_all : (start : ℕ) (desk : List ℕ) (known : List (List ℕ)) → start ≡ length known → own_part start desk known ≡ known
own_all start desk known is =
    let whole : take start known ≡ known = take_all start known (omega (arith, is)) in
    let rest : drop start known ≡ [] = drop_all start known (omega (arith, is)) in
    ap (λ (l : List (List ℕ)). l ++ up_to_last desk (drop start known)) whole ∙ ap (λ (l : List (List ℕ)). known ++ up_to_last desk l) rest ∙ append-nil known

-- after one entry more of the desk, it answers for all that is known
pub own_after : (start : ℕ) (desk other : List ℕ) (known next : List (List ℕ)) (entry : List ℕ) → other ≡ desk → next ≡ known ++ entry ∷ [] → start ≤ length known → IsOf desk entry
    → own_part start other next ≡ next
own_after start desk other known next entry same is fits own =
    subst (λ (d : List ℕ). own_part start d next ≡ next) (sym same)
    (subst (λ (k : List (List ℕ)). own_part start desk k ≡ k) (sym is) (own_kept desk start known fits entry own))

-- and there are no fewer than at its start
pub fits_after : (start : ℕ) (known next : List (List ℕ)) (entry : List ℕ) → next ≡ known ++ entry ∷ [] → start ≤ length known → start ≤ length next
fits_after start known next entry is fits = omega (arith, ap (λ (l : List (List ℕ)). length l) is, length-append known (entry ∷ []), fits)

-- the text of two parts of a log
text_append : (first rest : List (List ℕ)) → text_of_log (first ++ rest) ≡ text_of_log first ++ text_of_log rest
text_append [] rest = refl
text_append (entry ∷ first) rest =
    ap (λ (l : List ℕ). batch_of entry ++ l) (text_append first rest) ∙ sym (append_assoc (batch_of entry) (text_of_log first) (text_of_log rest))

-- what follows the first end of a line
after_line : (line batch : List ℕ) → Lacks 10 line → batch_of (line ++ 10 ∷ batch) ≡ batch
after_line [] batch lacks = refl
after_line (byte ∷ line) batch lacks =
    ap (λ (b : Bool). if b then line ++ 10 ∷ batch else batch_of (line ++ 10 ∷ batch))
    (⊎_elim (λ (is : ((byte == 10) ≡ true) × (byte ≡ 10)). absurd (lacks.0 is.1)) (λ (is : ((byte == 10) ≡ false) × (byte ≢ 10)). is.0) (eqb_tells byte 10))
    ∙ after_line line batch lacks.1

-- an entry's batch
pub batch_is : (desk batch : List ℕ) → IsName desk → batch_of (entry_of desk batch) ≡ batch
batch_is desk batch named = ap batch_of (after_head desk batch) ∙ after_line desk batch (name_lacks desk named.each)

-- one entry more is one batch more
pub text_next : (known : List (List ℕ)) (desk batch : List ℕ) → IsName desk → text_of_log (known ++ entry_of desk batch ∷ []) ≡ text_of_log known ++ batch
text_next known desk batch named =
    text_append known (entry_of desk batch ∷ [])
    ∙ ap (λ (l : List ℕ). text_of_log known ++ l) (append-nil (batch_of (entry_of desk batch)) ∙ batch_is desk batch named)

-- what the desk finds of a log that has begun with an entry: its batch as a whole, or nothing of it
pub whole_or_not : (start : ℕ) (known : List (List ℕ)) (desk batch : List ℕ) → IsName desk → start ≤ length known → own_part start desk known ≡ known
    → (log : List (List ℕ)) → HasBegun known desk (entry_of desk batch) log
    → (text_of_log (own_part start desk log) ≡ text_of_log known) ⊎ (text_of_log (own_part start desk log) ≡ text_of_log known ++ batch)
whole_or_not start known desk batch named fits all log begun =
    let own : IsOf desk (entry_of desk batch) = record { batch = batch; is = refl } in
    ⊎_elim
    (λ (settled : IsSettled known desk log). inl (ap (λ (l : List (List ℕ)). text_of_log l) (own_settled desk start known fits all log settled)))
    (λ (put : IsPutNext known desk (entry_of desk batch) log).
    inr (ap (λ (l : List (List ℕ)). text_of_log l) (own_put desk start known fits (entry_of desk batch) own log put) ∙ text_next known desk batch named))
    begun

-- so what is found is what was kept, and a beginning of the batch in whole lines
pub begun_text : (start : ℕ) (known : List (List ℕ)) (desk batch : List ℕ) → IsName desk → IsWholeLines batch → start ≤ length known → own_part start desk known ≡ known
    → (log : List (List ℕ)) → HasBegun known desk (entry_of desk batch) log → HasBegunText (text_of_log known) batch (Some (text_of_log (own_part start desk log)))
begun_text start known desk batch named whole fits all log begun =
    ⊎_elim
    (λ (none : text_of_log (own_part start desk log) ≡ text_of_log known). record {
      lines = [];
      rest = batch;
      batch_is = refl;
      whole = refl;
      outcome_is = ap (λ (l : List ℕ). Some l) (none ∙ sym (append-nil (text_of_log known)));
    })
    (λ (is : text_of_log (own_part start desk log) ≡ text_of_log known ++ batch). record {
      lines = batch;
      rest = [];
      batch_is = sym (append-nil batch);
      whole = whole;
      outcome_is = ap (λ (l : List ℕ). Some l) is;
    })
    (whole_or_not start known desk batch named fits all log begun)
