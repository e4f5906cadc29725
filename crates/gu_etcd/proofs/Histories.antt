-- How a log goes on while a desk asks for an entry to be put, and what an answer says of it.
use Rattle.std.proofs.Common.{◌≡◌, ◌≢◌, inl, inr, ⊎_elim, ℕ, ◌+◌, List, [], ◌∷◌, ◌++◌, length, take, drop, refl, sym, ◌∙◌, ap, subst, arith, append_assoc, append-nil}
use Rattle.std.proofs.lemmas.List.{length-append, take-append-drop}
use Rattle.std.proofs.lemmas.List.Elements.{All-append, All-head}
use Rattle.gu_etcd.specs.declared.node.PutAnswer.{PutAnswer}
use Rattle.gu_etcd.specs.declared.node.PutAnswer.TheVariants.{Kept, Holds, NotLeading}
use Rattle.gu_etcd.specs.Log.{IsOf, IsOthers, IsAt, HasNoneAt, IsSettled, IsPutNext, HasBegun}
use Rattle.gu_etcd.specs.Node.{Puts, Says, known_after, IsRefusal}
use Rattle.gu_etcd.specs.Outcome.{IsIn, IsNotIn}

-- a list that is parted twice at one place has one rest
same_rest : (first rest before after : List (List ℕ)) (entry : List ℕ) → length first ≡ length before → first ++ rest ≡ before ++ entry ∷ after → rest ≡ entry ∷ after
same_rest [] rest [] after entry place is = is
same_rest [] rest (other ∷ before) after entry place is = absurd (omega arith)
same_rest (other ∷ first) rest [] after entry place is = absurd (omega arith)
same_rest (one ∷ first) rest (other ∷ before) after entry place is = same_rest first rest before after entry (omega arith) (cc)

-- a list that is no longer than its beginning is its beginning
nothing_after : (first others was : List (List ℕ)) → was ≡ first ++ others → length was ≡ length first → was ≡ first
nothing_after first [] was is short = is ∙ append-nil first
nothing_after first (entry ∷ others) was is short =
    let long : length was ≡ length (first ++ entry ∷ others) = ap (λ (l : List (List ℕ)). length l) is in
    let parts : length (first ++ entry ∷ others) ≡ length first + length (entry ∷ others) = length-append first (entry ∷ others) in
    absurd (omega arith)

-- a log that is settled, in its two parts
record Parts (kept : List (List ℕ)) (desk : List ℕ) (log : List (List ℕ)) : Type 0 where
  pub others : List (List ℕ)
  pub log_is : log ≡ kept ++ others
  pub are_others : IsOthers desk others

take_first : (first others : List (List ℕ)) → take (length first) (first ++ others) ≡ first
take_first [] others = refl
take_first (entry ∷ first) others = ap (λ (l : List (List ℕ)). entry ∷ l) (take_first first others)

drop_first : (first others : List (List ℕ)) → drop (length first) (first ++ others) ≡ others
drop_first [] others = refl
drop_first (entry ∷ first) others = drop_first first others

parts_of : (kept : List (List ℕ)) (desk : List ℕ) (log : List (List ℕ)) → IsSettled kept desk log → Parts kept desk log
parts_of kept desk log s = record {
  others = drop (length kept) log;
  log_is = sym (take-append-drop (length kept) log) ∙ ap (λ (l : List (List ℕ)). l ++ drop (length kept) log) s.kept_is;
  are_others = s.are_others;
}

joined : (kept : List (List ℕ)) (desk : List ℕ) (log : List (List ℕ)) → Parts kept desk log → IsSettled kept desk log
joined kept desk log s = record {
  kept_is = ap (λ (l : List (List ℕ)). take (length kept) l) s.log_is ∙ take_first kept s.others;
  are_others = subst (λ (l : List (List ℕ)). IsOthers desk l) (sym (ap (λ (l : List (List ℕ)). drop (length kept) l) s.log_is ∙ drop_first kept s.others)) s.are_others;
}

module _ (kept : List (List ℕ)) (desk : List ℕ) (number : ℕ) (entry : List ℕ) (next : number ≡ length kept + 1) where
  settled_goes_on : (was log : List (List ℕ)) → Puts desk number entry was log → IsSettled kept desk was → HasBegun kept desk entry log
  settled_goes_on was log step settled =
      let s : Parts kept desk was = parts_of kept desk was settled in
      ⊎_elim
      (λ (only : log ≡ was ++ step.others). inl (joined kept desk log (record {
        others = s.others ++ step.others;
        log_is = only ∙ ap (λ (l : List (List ℕ)). l ++ step.others) s.log_is ∙ append_assoc kept s.others step.others;
        are_others = All-append (λ (e : List ℕ). ¬ IsOf desk e) s.others step.others s.are_others step.are_others;
      })))
      (λ (put : (length was + 1 ≡ number) × (log ≡ was ++ entry ∷ step.others)).
      let place : length was + 1 ≡ number = put.0 in
      inr (record {
        others = step.others;
        log_is = put.1 ∙ ap (λ (l : List (List ℕ)). l ++ entry ∷ step.others) (nothing_after kept s.others was s.log_is (omega arith));
        are_others = step.are_others;
      }))
      step.is

  put_goes_on : (was log : List (List ℕ)) → Puts desk number entry was log → IsPutNext kept desk entry was → HasBegun kept desk entry log
  put_goes_on was log step s =
      ⊎_elim
      (λ (only : log ≡ was ++ step.others). inr (record {
        others = s.others ++ step.others;
        log_is = only ∙ ap (λ (l : List (List ℕ)). l ++ step.others) s.log_is ∙ append_assoc kept (entry ∷ s.others) step.others;
        are_others = All-append (λ (e : List ℕ). ¬ IsOf desk e) s.others step.others s.are_others step.are_others;
      }))
      (λ (put : (length was + 1 ≡ number) × (log ≡ was ++ entry ∷ step.others)).
      let place : length was + 1 ≡ number = put.0 in
      let long : length was ≡ length (kept ++ entry ∷ s.others) = ap (λ (l : List (List ℕ)). length l) s.log_is in
      let parts : length (kept ++ entry ∷ s.others) ≡ length kept + length (entry ∷ s.others) = length-append kept (entry ∷ s.others) in
      absurd (omega arith))
      step.is

  -- asked once more for the entry, the log has begun with it at most once
  pub begun_goes_on : (was log : List (List ℕ)) → HasBegun kept desk entry was → Puts desk number entry was log → HasBegun kept desk entry log
  begun_goes_on was log begun step = ⊎_elim (settled_goes_on was log step) (put_goes_on was log step) begun

  -- an entry of this desk that is at the next number is no other desk's
  settled_has_none : (log : List (List ℕ)) → IsOf desk entry → IsAt number entry log → IsSettled kept desk log → IsSettled (kept ++ entry ∷ []) desk log
  settled_has_none log own at settled =
      let s : Parts kept desk log = parts_of kept desk log settled in
      let place : length at.before + 1 ≡ number = at.number_is in
      let rest : s.others ≡ entry ∷ at.after = same_rest kept s.others at.before at.after entry (omega arith) (sym s.log_is ∙ at.log_is) in
      absurd (All-head (λ (e : List ℕ). ¬ IsOf desk e) entry at.after (subst (λ (l : List (List ℕ)). IsOthers desk l) rest s.are_others) own)

  put_holds : (log : List (List ℕ)) → IsPutNext kept desk entry log → IsSettled (kept ++ entry ∷ []) desk log
  put_holds log s = joined (kept ++ entry ∷ []) desk log (record {
    others = s.others;
    log_is = s.log_is ∙ sym (append_assoc kept (entry ∷ []) s.others);
    are_others = s.are_others;
  })

  kept_when_held : (log : List (List ℕ)) → IsOf desk entry → HasBegun kept desk entry log → IsAt number entry log → IsSettled (kept ++ entry ∷ []) desk log
  kept_when_held log own begun at = ⊎_elim (settled_has_none log own at) (put_holds log) begun

  -- an entry isn't in the log if another one is at its number
  other_than_put : (log : List (List ℕ)) (there : List ℕ) → IsAt number there log → there ≢ entry → IsPutNext kept desk entry log → IsSettled kept desk log
  other_than_put log there at differs s =
      let place : length at.before + 1 ≡ number = at.number_is in
      let rest : entry ∷ s.others ≡ there ∷ at.after = same_rest kept (entry ∷ s.others) at.before at.after there (omega arith) (sym s.log_is ∙ at.log_is) in
      let one : there ≡ entry = cc in
      absurd (differs one)

  -- and not if no entry of this desk is there
  none_put : (log : List (List ℕ)) → IsOf desk entry → HasNoneAt number desk log → IsPutNext kept desk entry log → IsSettled kept desk log
  none_put log own none s = absurd (none entry (record { before = kept; after = s.others; number_is = omega arith; log_is = s.log_is }) own)

  -- what an answer that the entry is in the log says of the log
  pub kept_by_answer : (answer : PutAnswer) (log : List (List ℕ)) → IsOf desk entry → IsIn answer entry → HasBegun kept desk entry log → Says desk number entry answer log
      → IsSettled (kept ++ entry ∷ []) desk log
  kept_by_answer Kept log own is begun says = kept_when_held log own begun says
  kept_by_answer (Holds there) log own is begun says = kept_when_held log own begun (subst (λ (e : List ℕ). IsAt number e log) is says)
  kept_by_answer NotLeading log own is begun says = absurd is

  -- what an answer that it is not says of the log
  pub fenced_by_answer : (answer : PutAnswer) (log : List (List ℕ)) → IsOf desk entry → IsNotIn answer entry → HasBegun kept desk entry log → Says desk number entry answer log
      → IsSettled kept desk log
  fenced_by_answer Kept log own is begun says = absurd is
  fenced_by_answer (Holds there) log own is begun says = ⊎_elim (λ s. s) (other_than_put log there.items says is) begun
  fenced_by_answer NotLeading log own is begun says = ⊎_elim (λ s. s) (none_put log own says) begun

-- the entry is known after an answer that it is in the log
pub known_by_answer : (known : List (List ℕ)) (entry : List ℕ) (answer : PutAnswer) → IsIn answer entry → known_after known entry answer ≡ known ++ entry ∷ []
known_by_answer known entry Kept is = refl
known_by_answer known entry (Holds there) is = ap (λ (e : List ℕ). known ++ e ∷ []) is
known_by_answer known entry NotLeading is = absurd is

-- an answer that it is not is a refusal
pub refused_by_answer : (answer : PutAnswer) (entry : List ℕ) → IsNotIn answer entry → IsRefusal answer
refused_by_answer Kept entry is = is
refused_by_answer (Holds there) entry is = tt
refused_by_answer NotLeading entry is = tt
