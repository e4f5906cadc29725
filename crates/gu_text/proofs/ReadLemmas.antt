-- Written values are read back, and so are the lines of a sheet.
use Rattle.std.proofs.Common.{◌≡◌, ◌<◌, ◌≤◌, ◌*◌, ◌^◌, ◌∷◌, [], ◌∙◌, ◌||◌, ◌&&◌, ℕ, Bool, true, false, nat_le, nat_lt, List, Option, None, Some, IsTrue, length, map, get_or, refl, sym, ap, subst, inl, inr, length-append, arith}
use Rattle.std.specs.Prelude.{codes, if◌then◌else◌}
use Rattle.std.specs.Char.{is_digit}
use Rattle.std.specs.Fmt.{decimal}
use Rattle.std.specs.List.{AllByRecursion, list_all}
use Rattle.std.specs.Option.{option_and_then, option_map}
use Rattle.std.specs.Str.{bytes_eq}
use Rattle.std.specs.Str.Parse.{AllDigits, digits_value}
use Rattle.std.proofs.lemmas.Bool.{and_parts, cases_lt, cond-false, cond-true, le-leb, le-ltb, ne_eqb}
use Rattle.std.proofs.lemmas.Fmt.{decimal_nonempty, digits_decimal, digits_value-decimal, length-decimal-le}
use Rattle.std.proofs.lemmas.List.Elements.{All-from_recursion}
use Rattle.std.proofs.lemmas.List.Sums.{AllPass-from_list_all}
use Rattle.std.proofs.lemmas.Str.Parse.{IsNumeralModel, digit_from_value}
use Rattle.gu_terms.specs.LimitKeys.{kind_of, name_of_key}
use Rattle.gu_terms.specs.Names.{is_name, is_name_byte}
use Rattle.gu_terms.specs.Numbers.{IsOfferNo}
use Rattle.gu_terms.specs.Paths.{guarantor_key, path_through}
use Rattle.gu_terms.specs.declared.account.AccountId.{AccountId}
use Rattle.gu_terms.specs.declared.agreement.AgreementId.{AgreementId}
use Rattle.gu_terms.specs.declared.firm.FirmId.{FirmId}
use Rattle.gu_terms.specs.declared.limit_key.LimitKey.{LimitKey}
use Rattle.gu_terms.specs.declared.limit_key.LimitKey.TheVariants.{Exec, Agr, Acct, Carry, Guar}
use Rattle.gu_terms.specs.declared.takes.Take.{Take}
use Rattle.gu_view.specs.View.{GroupView, IsPath}
use Rattle.gu_view.specs.declared.view.ViewOffer.{ViewOffer}
use Rattle.gu_view.specs.declared.view.Room.{Room}
use Rattle.gu_text.specs.Lines.{is_silent, longest_line}
use Rattle.gu_text.specs.ReadBack.{AreWords, IsLineOf, IsWord, is_word_byte, joined}
use Rattle.gu_text.specs.SheetLines.{guarantor_said, is_number, key_said, name_of, number_of, offer_no_of, path_said, said_by, spoken}
use Rattle.gu_text.specs.SheetText.{cut_key_words, cut_offer_words, head_words, offer_words, room_words, take_words}
use Rattle.gu_text.specs.Texts.{word}
use Rattle.gu_text.specs.Words.{is_ragged, words_of}
use Rattle.gu_text.specs.declared.sheet_line.SheetLine.{SheetLine}
use Rattle.gu_text.specs.declared.sheet_line.SheetLine.TheVariants as line
use Rattle.gu_text.proofs.NumberLemmas.{digits_from_test, number_tested, test_from_digits}
use Rattle.gu_text.proofs.ReadBackLemmas.{read_back}

-- ---- numbers

own : IsNumeralModel (AllDigits 10) (digits_value 10)
own = record { to = λ ds h. h; from = λ ds h. h; same = λ ds h. refl }

wide : (n : ℕ) → n < 10 ^ 12 → n < 2 ^ 64
wide n small = omega (arith, small)

few_digits : (n : ℕ) → n < 10 ^ 12 → length (decimal n) ≤ 12
few_digits n small = length-decimal-le 12 n (omega arith) small (wide n small)

is_number_back : (n : ℕ) → n < 10 ^ 12 → is_number (decimal n) ≡ true
is_number_back n small =
    let digits : AllDigits 10 (decimal n) = digits_decimal own n (wide n small) in
    sym (number_tested (decimal n) true (decimal_nonempty n (wide n small)) (few_digits n small) (λ h. digits, λ h. refl))

-- a number below 10^12 is read back
pub number_back : (n : ℕ) → n < 10 ^ 12 → number_of (decimal n) ≡ Some n
number_back n small =
    cond-true (is_number (decimal n)) (Some (digits_value 10 (decimal n))) None (is_number_back n small)
    ∙ ap Some (digits_value-decimal own n (wide n small))

-- a byte above the space may be in a word
pub high_in_word : (b : ℕ) → 33 ≤ b → is_word_byte b ≡ true
high_in_word b high =
    let blank = ne_eqb b 32 (λ e. absurd (omega (arith, e, high))) in
    let end = ne_eqb b 10 (λ e. absurd (omega (arith, e, high))) in
    let return = ne_eqb b 13 (λ e. absurd (omega (arith, e, high))) in
    rw (blank, end, return) refl

pub digit_in_word : (b : ℕ) → is_digit b 10 ≡ true → is_word_byte b ≡ true
digit_in_word b h =
    let digits : AllDigits 10 (b ∷ []) = digits_from_test (b ∷ []) (rw h refl) in
    let range = digit_from_value b digits.0 in
    high_in_word b (omega (arith, range))

-- it is a word of at most twelve bytes
pub number_word : (n : ℕ) → n < 10 ^ 12 → IsWord (decimal n) × (length (decimal n) ≤ 12)
number_word n small =
    let digits : AllDigits 10 (decimal n) = digits_decimal own n (wide n small) in
    let pass = AllPass-from_list_all (λ b. is_digit b 10) (decimal n) (test_from_digits (decimal n) digits) in
    let some = decimal_nonempty n (wide n small) in
    (record { some = omega (arith, some); each = λ k d k_in. digit_in_word (get_or (decimal n) k d) (pass k d k_in) }, few_digits n small)

-- ---- names

low_unnamed : (b : ℕ) → b < 33 → is_name_byte b ≡ false
low_unnamed b low =
    let capital : nat_le 65 b ≡ false = search (arith, low) in
    let digit : nat_le 48 b ≡ false = search (arith, low) in
    let dash = ne_eqb b 45 (λ e. absurd (omega (arith, e, low))) in
    rw (capital, digit, dash) refl

name_byte_in_word : (b : ℕ) → is_name_byte b ≡ true → is_word_byte b ≡ true
name_byte_in_word b h =
    elim (cases_lt b 33) [
      | inl low ↦ let e : true ≡ false = sym h ∙ low_unnamed b low in cc
      | inr high ↦ high_in_word b high
    ]

-- a name is read back
pub name_back : (name : List ℕ) → is_name name ≡ true → name_of name ≡ Some name
name_back name h = cond-true (is_name name) (Some name) None h

-- it is a word of at most twelve bytes
pub name_word : (name : List ℕ) → is_name name ≡ true → IsWord name × (length name ≤ 12)
name_word name h =
    let parts = and_parts (nat_le 1 (length name) && nat_le (length name) 12) (list_all is_name_byte name) h in
    let long = and_parts (nat_le 1 (length name)) (nat_le (length name) 12) parts.0 in
    let pass = AllPass-from_list_all is_name_byte name parts.1 in
    (record { some = search (arith, long.0); each = λ k d k_in. name_byte_in_word (get_or name k d) (pass k d k_in) }, search (arith, long.1))

-- a key is read back
pub key_back : (key : LimitKey) → is_name (name_of_key key) ≡ true → key_said (kind_of key) (name_of_key key) ≡ Some key
key_back (Exec firm) h = rw (name_back firm.name h) refl
key_back (Agr agreement) h = rw (name_back agreement.name h) refl
key_back (Acct account) h = rw (name_back account.name h) refl
key_back (Carry firm) h = rw (name_back firm.name h) refl
key_back (Guar firm) h = rw (name_back firm.name h) refl

-- ---- lines

-- the bytes in words of at most twelve bytes
length-joined : (words : List (List ℕ)) → AllByRecursion (λ w. length w ≤ 12) words → length (joined words) ≤ 13 * length words
length-joined [] small = omega arith
length-joined (last ∷ []) small = omega (arith, small.0)
length-joined (first ∷ next ∷ others) small =
    omega (arith, length-append first (32 ∷ []), length-append (word first) (joined (next ∷ others)), length-joined (next ∷ others) small.1, small.0)

words_of_short : (words : List (List ℕ)) → AllByRecursion (λ w. IsWord w × (length w ≤ 12)) words → AllByRecursion IsWord words × AllByRecursion (λ w. length w ≤ 12) words
words_of_short [] each = (tt, tt)
words_of_short (first ∷ others) each =
    let rest = words_of_short others each.1 in
    ((each.0.0, rest.0), (each.0.1, rest.1))

-- a line of a few short words that isn't silent has the content of the words
pub line_back : (words : List (List ℕ)) (said : SheetLine) → AllByRecursion (λ w. IsWord w × (length w ≤ 12)) words → 1 ≤ length words → length words ≤ 8
    → is_silent (joined words) ≡ false → said_by words ≡ Some said → IsLineOf words said
line_back words said each some few speaks is =
    let both = words_of_short words each in
    let are : AreWords words = record { some = some; each = All-from_recursion IsWord words both.0 } in
    let back = read_back words are in
    let bytes = length-joined words both.1 in
    let short : nat_lt longest_line (length (joined words)) ≡ false = le-ltb longest_line (length (joined words)) (omega (arith, bytes, few)) in
    record {
      are = are;
      says_it = cond-false (is_silent (joined words)) None (spoken (joined words)) speaks
          ∙ cond-false (nat_lt longest_line (length (joined words)) || is_ragged (joined words)) None (said_by (words_of (joined words)))
          (ap (λ (b : Bool). b || is_ragged (joined words)) short ∙ back.even)
          ∙ ap said_by back.words_are ∙ is;
    }

-- ---- the lines of a sheet

pub literal : (w : List ℕ) → list_all is_word_byte w ≡ true → (nat_le 1 (length w) && nat_le (length w) 12) ≡ true → IsWord w × (length w ≤ 12)
literal w bytes h =
    let long = and_parts (nat_le 1 (length w)) (nat_le (length w) 12) h in
    (record { some = search (arith, long.0); each = AllPass-from_list_all is_word_byte w bytes }, search (arith, long.1))

pub kind_word : (key : LimitKey) → IsWord (kind_of key) × (length (kind_of key) ≤ 12)
kind_word (Exec firm) = literal (codes "EXEC") refl refl
kind_word (Agr agreement) = literal (codes "AGR") refl refl
kind_word (Acct account) = literal (codes "ACCT") refl refl
kind_word (Carry firm) = literal (codes "CARRY") refl refl
kind_word (Guar firm) = literal (codes "GUAR") refl refl

kind_is_no_offer : (key : LimitKey) → bytes_eq (kind_of key) (codes "OFFER") ≡ false
kind_is_no_offer (Exec firm) = refl
kind_is_no_offer (Agr agreement) = refl
kind_is_no_offer (Acct account) = refl
kind_is_no_offer (Carry firm) = refl
kind_is_no_offer (Guar firm) = refl

pub offer_small : (n : ℕ) → IsOfferNo n → n < 10 ^ 12
offer_small n is = omega (arith, is.most)

-- the number of an offer is read back
pub offer_no_back : (n : ℕ) → IsOfferNo n → offer_no_of (decimal n) ≡ Some n
offer_no_back n is =
    let low = le-leb 1 n is.some in
    let high = le-leb n 16000000 is.most in
    ap (option_and_then (λ m. if nat_le 1 m && nat_le m 16000000 then Some m else None)) (number_back n (offer_small n is))
    ∙ cond-true (nat_le 1 n && nat_le n 16000000) (Some n) None (rw (low, high) refl)

pub head_back : (view : GroupView) → IsTrue (is_name view.group.name) → view.version < 10 ^ 12
    → IsLineOf (head_words view) (line.Sheet (record { group = view.group; version = view.version }))
head_back view named small =
    let name = name_back view.group.name named in
    let version = number_back view.version small in
    line_back (head_words view) (line.Sheet (record { group = view.group; version = view.version }))
    (literal (codes "SHEET") refl refl, (name_word view.group.name named, (number_word view.version small, tt)))
    (omega arith) (omega arith) refl
    (ap (option_and_then (λ n. option_map (λ m. line.Sheet (record { group = record { name = n }; version = m })) (number_of (decimal view.version)))) name
    ∙ ap (option_map (λ m. line.Sheet (record { group = view.group; version = m }))) version)

pub room_back : (room : Room) → IsTrue (is_name (name_of_key room.key)) → room.lots < 10 ^ 12 → IsLineOf (room_words room) (line.Room room)
room_back room named small =
    let key = key_back room.key named in
    let lots = number_back room.lots small in
    line_back (room_words room) (line.Room room)
    (literal (codes "ROOM") refl refl, (kind_word room.key, (name_word (name_of_key room.key) named, (number_word room.lots small, tt))))
    (omega arith) (omega arith) refl
    (ap (option_and_then (λ k. option_map (λ l. line.Room (record { key = k; lots = l })) (number_of (decimal room.lots)))) key
    ∙ ap (option_map (λ l. line.Room (record { key = room.key; lots = l }))) lots)

pub take_back : (t : Take) → IsOfferNo t.offer → t.lots < 10 ^ 12 → IsLineOf (take_words t.offer t.lots) (line.Take t)
take_back t is small =
    let number = offer_no_back t.offer is in
    let lots = number_back t.lots small in
    line_back (take_words t.offer t.lots) (line.Take t)
    (literal (codes "TAKE") refl refl, (number_word t.offer (offer_small t.offer is), (number_word t.lots small, tt)))
    (omega arith) (omega arith) refl
    (ap (option_and_then (λ n. option_map (λ l. line.Take (record { offer = n; lots = l })) (number_of (decimal t.lots)))) number
    ∙ ap (option_map (λ l. line.Take (record { offer = t.offer; lots = l }))) lots)

pub cut_key_back : (key : LimitKey) → IsTrue (is_name (name_of_key key)) → IsLineOf (cut_key_words key) (line.CutKey key)
cut_key_back key named =
    line_back (cut_key_words key) (line.CutKey key)
    (literal (codes "CUT") refl refl, (kind_word key, (name_word (name_of_key key) named, tt)))
    (omega arith) (omega arith) refl
    (cond-false (bytes_eq (kind_of key) (codes "OFFER")) (option_map line.CutOffer (offer_no_of (name_of_key key))) (option_map line.CutKey (key_said (kind_of key) (name_of_key key))) (kind_is_no_offer key)
    ∙ ap (option_map line.CutKey) (key_back key named))

pub cut_offer_back : (number : ℕ) → IsOfferNo number → IsLineOf (cut_offer_words number) (line.CutOffer number)
cut_offer_back number is =
    line_back (cut_offer_words number) (line.CutOffer number)
    (literal (codes "CUT") refl refl, (literal (codes "OFFER") refl refl, (number_word number (offer_small number is), tt)))
    (omega arith) (omega arith) refl
    (ap (option_map line.CutOffer) (offer_no_back number is))

pub end_back : IsLineOf (codes "END" ∷ []) line.End
end_back = line_back (codes "END" ∷ []) line.End (literal (codes "END") refl refl, tt) (omega arith) (omega arith) refl refl

guarantor_back : (guarantor : Option FirmId) → list_all (λ k. is_name (name_of_key k)) (guarantor_key guarantor) ≡ true → guarantor_said (map name_of_key (guarantor_key guarantor)) ≡ Some guarantor
guarantor_back None named = refl
guarantor_back (Some firm) named =
    let name = (and_parts (is_name firm.name) true named).0 in
    ap (option_map (λ n. let it : Option FirmId = Some (record { name = n }) in it)) (name_back firm.name name)

guarantor_words : (guarantor : Option FirmId) → list_all (λ k. is_name (name_of_key k)) (guarantor_key guarantor) ≡ true
    → AllByRecursion (λ w. IsWord w × (length w ≤ 12)) (map name_of_key (guarantor_key guarantor))
guarantor_words None named = tt
guarantor_words (Some firm) named = (name_word firm.name (and_parts (is_name firm.name) true named).0, tt)

few_guarantors : (guarantor : Option FirmId) → length (map name_of_key (guarantor_key guarantor)) ≤ 1
few_guarantors None = omega arith
few_guarantors (Some firm) = omega arith

path_back : (number lots : ℕ) (executing : FirmId) (agreement : AgreementId) (account : AccountId) (carrying : FirmId) (guarantor : Option FirmId)
    → IsOfferNo number → lots < 10 ^ 12 → list_all (λ k. is_name (name_of_key k)) (path_through executing agreement account carrying guarantor) ≡ true
    → IsLineOf (offer_words (record { number = number; lots = lots; agreement = agreement; path = path_through executing agreement account carrying guarantor })) (line.Offer (record { number = number; lots = lots; agreement = agreement; path = path_through executing agreement account carrying guarantor }))
path_back number lots executing agreement account carrying guarantor is small named =
    let rest = list_all (λ k. is_name (name_of_key k)) (guarantor_key guarantor) in
    let e = and_parts (is_name executing.name) (is_name agreement.name && (is_name account.name && (is_name carrying.name && rest))) named in
    let p = and_parts (is_name agreement.name) (is_name account.name && (is_name carrying.name && rest)) e.1 in
    let a = and_parts (is_name account.name) (is_name carrying.name && rest) p.1 in
    let c = and_parts (is_name carrying.name) rest a.1 in
    let path = path_through executing agreement account carrying guarantor in
    let offer : ViewOffer = record { number = number; lots = lots; agreement = agreement; path = path } in
    let guarantor_names = map name_of_key (guarantor_key guarantor) in
    let path_words_said : path_said agreement.name (executing.name ∷ account.name ∷ carrying.name ∷ guarantor_names) ≡ Some path =
    cond-true (is_name executing.name && is_name account.name && is_name carrying.name) (option_map (path_through executing agreement account carrying) (guarantor_said guarantor_names)) None (rw (e.0, a.0, c.0) refl)
    ∙ ap (option_map (path_through executing agreement account carrying)) (guarantor_back guarantor c.1) in
    line_back (offer_words offer) (line.Offer offer) (
      literal (codes "OFFER") refl refl,
      (
        number_word number (offer_small number is),
        (
          number_word lots small,
          (
            name_word agreement.name p.0,
            (name_word executing.name e.0, (name_word account.name a.0, (name_word carrying.name c.0, guarantor_words guarantor c.1))),
          ),
        ),
      ),
    )
    (omega arith) (omega (arith, few_guarantors guarantor)) refl
    (rw (offer_no_back number is, number_back lots small, name_back agreement.name p.0, path_words_said) refl)

pub offer_back : (offer : ViewOffer) → IsPath offer → IsTrue (list_all (λ k. is_name (name_of_key k)) offer.path) → IsOfferNo offer.number → offer.lots < 10 ^ 12 → IsLineOf (offer_words offer) (line.Offer offer)
offer_back offer is_path named is small =
    let path = path_through is_path.0 offer.agreement is_path.1 is_path.2 is_path.3 in
    let given = path_back offer.number offer.lots is_path.0 offer.agreement is_path.1 is_path.2 is_path.3 is small (sym (ap (list_all (λ k. is_name (name_of_key k))) is_path.4) ∙ named) in
    subst (λ (keys : List LimitKey). let o : ViewOffer = record { number = offer.number; lots = offer.lots; agreement = offer.agreement; path = keys } in IsLineOf (offer_words o) (line.Offer o)) (sym is_path.4) given
