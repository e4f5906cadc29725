-- A journal, written entry by entry.
use Rattle.gu_script.proofs.Words.{◌≡◌, ◌+◌, ◌++◌, ◌∷◌, [], ◌∙◌, ℕ, List, Option, None, Some, take, drop, get_or, refl, sym, ap, subst, append_assoc, slice_get, flat_map, take-append-drop, take_more, Day, Entry, WrotePart, entry_rows, journal_text, open_after, rows_after}
use Rattle.std.specs.Io.KnownBytes.{Appends}
use Rattle.std.proofs.KnownBytes.{Appends-nil, Appends-trans}
use Rattle.std.proofs.lemmas.Grind.{flat_map-append}
use Rattle.std.proofs.lemmas.List.{append-nil}
use Rattle.std.proofs.lemmas.Option.{slice_get-get_or, slice_get_within}
use Rattle.gu_text.specs.Texts.{line_of}

-- the day that is open after entries
abbrev pub open_from : Option Day → List Entry → Option Day
open_from today [] = today
open_from today (entry ∷ later) = open_from (open_after today entry) later

rows_after-append : (today : Option Day) (xs ys : List Entry) → rows_after today (xs ++ ys) ≡ rows_after today xs ++ rows_after (open_from today xs) ys
rows_after-append today [] ys = refl
rows_after-append today (x ∷ xs) ys =
    let next = open_after today x in
    ap (λ (rows : List (List (List ℕ))). entry_rows today x ++ rows) (rows_after-append next xs ys)
    ∙ sym (append_assoc (entry_rows today x) (rows_after next xs) (rows_after (open_from next xs) ys))

-- the text of entries
abbrev text_of : Option Day → List Entry → List ℕ
text_of today entries = flat_map line_of (rows_after today entries)

text_of-append : (today : Option Day) (xs ys : List Entry) → text_of today (xs ++ ys) ≡ text_of today xs ++ text_of (open_from today xs) ys
text_of-append today xs ys =
    ap (λ (rows : List (List (List ℕ))). flat_map line_of rows) (rows_after-append today xs ys)
    ∙ flat_map-append line_of (rows_after today xs) (rows_after (open_from today xs) ys)

pub open_from-append : (today : Option Day) (xs : List Entry) (entry : Entry) → open_from today (xs ++ entry ∷ []) ≡ open_after (open_from today xs) entry
open_from-append today [] entry = refl
open_from-append today (x ∷ xs) entry = open_from-append (open_after today x) xs entry

-- the first entries and one more
pub next_taken : (history : List Entry) (place : ℕ) (entry : Entry) → slice_get history place ≡ Some entry → take (place + 1) history ≡ take place history ++ entry ∷ []
next_taken history place entry is =
    let within = slice_get_within history place entry is in
    let read : Some (get_or history place entry) ≡ Some entry = sym (slice_get-get_or history place entry within) ∙ is in
    let same : get_or history place entry ≡ entry = cc in
    take_more history place entry within ∙ ap (λ (e : Entry). take place history ++ e ∷ []) same

-- the text of the first entries is written or held
pub record IsWrittenTo (history : List Entry) (place : ℕ) (held : List ℕ) (old new : Option (List ℕ)) : Type 0 where
  pub sent : List ℕ
  pub appended : Appends old new sent
  pub text : sent ++ held ≡ text_of None (take place history)

pub written_to_none : (history : List Entry) (a : Option (List ℕ)) → IsWrittenTo history 0 [] a a
written_to_none history a = record { sent = []; appended = Appends-nil a; text = refl }

pub written_to_next : (history : List Entry) (place : ℕ) (entry : Entry) (today : Option Day) (held more : List ℕ) (old new : Option (List ℕ))
    → slice_get history place ≡ Some entry → today ≡ open_from None (take place history) → more ≡ held ++ flat_map line_of (entry_rows today entry)
    → IsWrittenTo history place held old new → IsWrittenTo history (place + 1) more old new
written_to_next history place entry today held more old new there is appended so_far = record {
  sent = so_far.sent;
  appended = so_far.appended;
  text =
      let front = take place history in
      let line : text_of today (entry ∷ []) ≡ flat_map line_of (entry_rows today entry) = ap (λ (rows : List (List (List ℕ))). flat_map line_of rows) (append-nil (entry_rows today entry)) in
      ap (λ (t : List ℕ). so_far.sent ++ t) appended
      ∙ sym (append_assoc so_far.sent held (flat_map line_of (entry_rows today entry)))
      ∙ ap (λ (t : List ℕ). t ++ flat_map line_of (entry_rows today entry)) so_far.text
      ∙ ap (λ (t : List ℕ). text_of None front ++ t) (sym line)
      ∙ ap (λ (d : Option Day). text_of None front ++ text_of d (entry ∷ [])) is
      ∙ sym (text_of-append None front (entry ∷ []))
      ∙ ap (λ (es : List Entry). text_of None es) (sym (next_taken history place entry there));
}

-- part of what is held is sent
pub written_to_sent : (history : List Entry) (place : ℕ) (held sent left : List ℕ) (old mid new : Option (List ℕ))
    → Appends mid new sent → held ≡ sent ++ left → IsWrittenTo history place held old mid → IsWrittenTo history place left old new
written_to_sent history place held sent left old mid new appended parts so_far = record {
  sent = so_far.sent ++ sent;
  appended = Appends-trans old mid new so_far.sent sent so_far.appended appended;
  text = append_assoc so_far.sent sent left ∙ ap (λ (t : List ℕ). so_far.sent ++ t) (sym parts) ∙ so_far.text;
}

-- the text of the first entries is a prefix of the journal
begins : (history : List Entry) (place : ℕ) → (rest : List ℕ) × (journal_text history ≡ text_of None (take place history) ++ rest)
begins history place = (
  text_of (open_from None (take place history)) (drop place history),
  ap (λ (es : List Entry). text_of None es) (sym (take-append-drop place history)) ∙ text_of-append None (take place history) (drop place history),
)

-- part of what was held was written
pub wrote_part : (history : List Entry) (place : ℕ) (held : List ℕ) (old mid new : Option (List ℕ)) → WrotePart held mid new → IsWrittenTo history place held old mid → WrotePart (journal_text history) old new
wrote_part history place held old mid new part so_far =
    let after = begins history place in
    record {
      written = so_far.sent ++ part.written;
      appended = Appends-trans old mid new so_far.sent part.written so_far.appended part.appended;
      prefix = record {
        rest = part.prefix.rest ++ after.0;
        parts = after.1
            ∙ ap (λ (t : List ℕ). t ++ after.0) (sym so_far.text)
            ∙ ap (λ (t : List ℕ). (so_far.sent ++ t) ++ after.0) part.prefix.parts
            ∙ simp append_assoc;
      };
    }

-- nothing more was written
pub wrote_no_more : (history : List Entry) (place : ℕ) (held : List ℕ) (old new : Option (List ℕ)) → IsWrittenTo history place held old new → WrotePart (journal_text history) old new
wrote_no_more history place held old new so_far =
    wrote_part history place held old new new (record { written = []; appended = Appends-nil new; prefix = record { rest = held; parts = refl } }) so_far

-- everything was held, and is sent
pub wrote_all : (history : List Entry) (place : ℕ) (held : List ℕ) (old mid new : Option (List ℕ)) → take place history ≡ history → Appends mid new held → IsWrittenTo history place held old mid
    → Appends old new (journal_text history)
wrote_all history place held old mid new whole appended so_far =
    subst (Appends old new) (so_far.text ∙ ap (λ (es : List Entry). text_of None es) whole) (Appends-trans old mid new so_far.sent held so_far.appended appended)
