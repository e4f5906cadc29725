-- The rows of a batch are lines: comments are silent, and each entry's rows say it.
use Rattle.gu_keeping.proofs.Words.{◌≡◌, ◌≤◌, ◌<◌, ◌+◌, ◌*◌, ◌/◌, ◌%◌, ◌^◌, ◌++◌, ◌∷◌, [], ◌∙◌, ◌&&◌, ℕ, zero, suc, true, nat_le, List, Option, None, Some, IsTrue, inl, inr, length, slice_index, refl, sym, ap, subst, append-nil, length-append, arith, codes, decimal, AllByRecursion, AllDigits, digits_value, decimal_nonempty, digits_decimal, digits_value-decimal, length-decimal-le, Day, Entry, IsWord, is_word_byte, joined, word, Line, Origin, IsWritableEntry, command_said, days_apart, entry_rows, entry_said, open_after, rows_apart, said_after, AreEntryRows, AreOriginRows, AreRows, IsOriginRow, digest_row, message_words, Chain}
use Rattle.std.proofs.lemmas.Bool.{and_parts, le-leb, ne_eqb}
use Rattle.std.proofs.lemmas.List.Elements.{All-from_recursion}
use Rattle.std.proofs.lemmas.Str.Parse.{IsNumeralModel, digit_from_value}
use Rattle.hex.specs.Hex.{encode_lower, encode_with, lower_digits}
use Rattle.gu_terms.specs.Names.{is_name}
use Rattle.gu_terms.specs.WrittenNumbers.{date_text, two_digits}
use Rattle.gu_terms.specs.declared.command.Command.{Command}
use Rattle.gu_terms.specs.declared.command.Command.TheVariants.{OpenDay}
use Rattle.gu_terms.specs.declared.entry.Entry.TheVariants.{Asked, Swept}
use Rattle.gu_terms.specs.declared.group.Group.{Group}
use Rattle.gu_fix.specs.WholeMessage.{three_digits}
use Rattle.gu_msgs.specs.MomentTexts.{WritesMoment, time_text}
use Rattle.gu_text.specs.Lines.{is_silent, longest_line}
use Rattle.gu_text.specs.WrittenCommands.{IsSilentLineOf, IsWritableCommand, sweep_remarks}
use Rattle.gu_text.proofs.WrittenCommandLemmas.{command_says, remark_is_silent, sweep_says, swept_is_silent}
use Rattle.gu_desk.specs.declared.origin.FirmMessage.{FirmMessage}
use Rattle.gu_keeping.specs.Days.{IsWritableMessage, IsWritableOrigin}
use Rattle.gu_keeping.proofs.Tells.{Tell, silent_first, tell-append}

-- ---- words

-- a byte above the space may be in a word
high : (b : ℕ) → 33 ≤ b → is_word_byte b ≡ true
high b above =
    let blank = ne_eqb b 32 (λ e. absurd (omega (arith, e, above))) in
    let end = ne_eqb b 10 (λ e. absurd (omega (arith, e, above))) in
    let return = ne_eqb b 13 (λ e. absurd (omega (arith, e, above))) in
    rw (blank, end, return) refl

abbrev IsWordByte : ℕ → Type 0
IsWordByte b = is_word_byte b ≡ true

word_of_bytes : (bytes : List ℕ) → 1 ≤ length bytes → AllByRecursion IsWordByte bytes → IsWord bytes
word_of_bytes bytes some all = record { some = some; each = All-from_recursion IsWordByte bytes all }

both_bytes : (xs ys : List ℕ) → AllByRecursion IsWordByte xs → AllByRecursion IsWordByte ys → AllByRecursion IsWordByte (xs ++ ys)
both_bytes [] ys p q = q
both_bytes (x ∷ xs) ys p q = (p.0, both_bytes xs ys p.1 q)

-- ---- numbers

pub own : IsNumeralModel (AllDigits 10) (digits_value 10)
own = record { to = λ ds h. h; from = λ ds h. h; same = λ ds h. refl }

digit_bytes : (ds : List ℕ) → AllDigits 10 ds → AllByRecursion IsWordByte ds
digit_bytes [] all = tt
digit_bytes (d ∷ ds) all = (high d (let range = digit_from_value d all.0 in omega (arith, range)), digit_bytes ds all.1)

-- a number of 64 bits is a word of at most twenty bytes
decimal_word : (n : ℕ) → n < 2 ^ 64 → IsWord (decimal n) × (length (decimal n) ≤ 20)
decimal_word n small =
    let digits : AllDigits 10 (decimal n) = digits_decimal own n small in
    let some = decimal_nonempty n small in
    (word_of_bytes (decimal n) (omega (arith, some)) (digit_bytes (decimal n) digits), length-decimal-le 20 n (omega arith) (omega (arith, small)) small)

-- two numbers with the same text are the same
pub decimal_same : (m n : ℕ) → m < 2 ^ 64 → n < 2 ^ 64 → decimal m ≡ decimal n → m ≡ n
decimal_same m n m_small n_small same = sym (digits_value-decimal own m m_small) ∙ ap (digits_value 10) same ∙ digits_value-decimal own n n_small

-- ---- names

-- a group with this name
abbrev group_of : List ℕ → Group
group_of name = record { name = name }

name_word : (name : List ℕ) → IsTrue (is_name name) → IsWord name × (length name ≤ 12)
name_word name named =
    let parts = and_parts (nat_le 1 (length name) && nat_le (length name) 12) _ named in
    let long = and_parts (nat_le 1 (length name)) (nat_le (length name) 12) parts.0 in
    ((sweep_says (group_of name) named).are.each 1 [] (omega arith), search (arith, long.1))

-- ---- moments

two_bytes : (n : ℕ) → AllByRecursion IsWordByte (two_digits n)
two_bytes n = (high (48 + n / 10) (omega arith), (high (48 + n % 10) (omega arith), tt))

three_bytes : (n : ℕ) → AllByRecursion IsWordByte (three_digits n)
three_bytes n = (high (48 + n / 100) (omega arith), (high (48 + n / 10 % 10) (omega arith), (high (48 + n % 10) (omega arith), tt)))

date_bytes : (year month day : ℕ) → AllByRecursion IsWordByte (date_text year month day) × (length (date_text year month day) ≡ 8)
unfolding date_text
date_bytes year month day =
    let y = both_bytes (two_digits (year / 100)) (two_digits (year % 100)) (two_bytes (year / 100)) (two_bytes (year % 100)) in
    let m = both_bytes (two_digits (year / 100) ++ two_digits (year % 100)) (two_digits month) y (two_bytes month) in
    (both_bytes ((two_digits (year / 100) ++ two_digits (year % 100)) ++ two_digits month) (two_digits day) m (two_bytes day), refl)

time_bytes : (n : ℕ) → AllByRecursion IsWordByte (time_text n) × (length (time_text n) ≡ 12)
unfolding time_text
time_bytes n =
    let h = two_digits (n / 3600000) in
    let m = two_digits (n / 60000 % 60) in
    let s = two_digits (n / 1000 % 60) in
    let colon : AllByRecursion IsWordByte (codes ":") = (refl, tt) in
    let point : AllByRecursion IsWordByte (codes ".") = (refl, tt) in
    let a = both_bytes h (codes ":") (two_bytes (n / 3600000)) colon in
    let b = both_bytes (h ++ codes ":") m a (two_bytes (n / 60000 % 60)) in
    let c = both_bytes ((h ++ codes ":") ++ m) (codes ":") b colon in
    let d = both_bytes (((h ++ codes ":") ++ m) ++ codes ":") s c (two_bytes (n / 1000 % 60)) in
    let e = both_bytes ((((h ++ codes ":") ++ m) ++ codes ":") ++ s) (codes ".") d point in
    (both_bytes (((((h ++ codes ":") ++ m) ++ codes ":") ++ s) ++ codes ".") (three_digits (n % 1000)) e (three_bytes (n % 1000)), refl)

stamp_word : (moment : ℕ) (text : List ℕ) → WritesMoment moment text → IsWord text × (length text ≤ 21)
stamp_word moment text writes =
    let d = writes.writes_date in
    let date = date_bytes d.year d.month d.day in
    let time = time_bytes (moment % 86400000) in
    let spelled : AllByRecursion IsWordByte writes.date = subst (AllByRecursion IsWordByte) (sym d.spelled) date.0 in
    let eight : length writes.date ≡ 8 = ap (λ (t : List ℕ). length t) d.spelled ∙ date.1 in
    let hyphen : AllByRecursion IsWordByte (codes "-") = (refl, tt) in
    let all = both_bytes (writes.date ++ codes "-") (time_text (moment % 86400000)) (both_bytes writes.date (codes "-") spelled hyphen) time.0 in
    let long : length text ≡ 21 = ap (λ (t : List ℕ). length t) writes.parts
    ∙ omega (arith, length-append (writes.date ++ codes "-") (time_text (moment % 86400000)), length-append writes.date (codes "-"), eight, time.1) in
    (word_of_bytes text (omega (arith, long)) (subst (AllByRecursion IsWordByte) (sym writes.parts) all), omega (arith, long))

-- ---- digests in hexadecimal digits

-- a byte at an index of word bytes is one; beyond them it is 0
byte_at : (bytes : List ℕ) → AllByRecursion IsWordByte bytes → (k : ℕ) → IsWordByte (slice_index bytes k)
byte_at [] all zero = refl
byte_at [] all (suc k) = refl
byte_at (b ∷ bytes) all zero = all.0
byte_at (b ∷ bytes) all (suc k) = byte_at bytes all.1 k

lower_bytes : AllByRecursion IsWordByte lower_digits
lower_bytes = (refl, (refl, (refl, (refl, (refl, (refl, (refl, (refl, (refl, (refl, (refl, (refl, (refl, (refl, (refl, (refl, tt))))))))))))))))

pub hex_bytes : (bytes : List ℕ) → AllByRecursion IsWordByte (encode_lower bytes) × (length (encode_lower bytes) ≡ 2 * length bytes)
unfolding encode_with
hex_bytes [] = (tt, refl)
hex_bytes (b ∷ bytes) =
    let rest = hex_bytes bytes in
    ((byte_at lower_digits lower_bytes (b / 16), (byte_at lower_digits lower_bytes (b % 16), rest.0)), omega (arith, rest.1))

-- ---- comments

-- the total length of words, plus one for each
abbrev size_of : List (List ℕ) → ℕ
size_of [] = 0
size_of (w ∷ ws) = length w + 1 + size_of ws

length-joined : (words : List (List ℕ)) → length (joined words) ≤ size_of words
length-joined [] = omega arith
length-joined (last ∷ []) = omega arith
length-joined (first ∷ next ∷ others) =
    omega (arith, length-append first (32 ∷ []), length-append (word first) (joined (next ∷ others)), length-joined (next ∷ others))

silent_comment : (words : List (List ℕ)) → length (joined (codes "#" ∷ words)) ≤ longest_line → is_silent (joined (codes "#" ∷ words)) ≡ true
silent_comment [] short = refl
silent_comment (next ∷ others) short = rw (le-leb (length (joined (codes "#" ∷ next ∷ others))) longest_line short) refl

comment : (words : List (List ℕ)) → AllByRecursion IsWord words → size_of words ≤ 1000 → IsSilentLineOf (codes "#" ∷ words)
comment words each few =
    let mark : IsWord (codes "#") = word_of_bytes (codes "#") (omega arith) (refl, tt) in
    record {
      are = record { some = omega arith; each = All-from_recursion IsWord (codes "#" ∷ words) (mark, each) };
      silent = silent_comment words (omega (arith, length-joined (codes "#" ∷ words), few));
    }

-- the words of a message
record AreShortWords (words : List (List ℕ)) : Type 0 where
  are : AllByRecursion IsWord words
  short : size_of words ≤ 60

message_are_words : (message : Option FirmMessage) → IsWritableMessage message → AreShortWords (message_words message)
message_are_words None is = record { are = tt; short = omega arith }
message_are_words (Some message) is =
    let name = name_word message.firm.name is.0 in
    let connection = decimal_word message.connection is.1 in
    let number = decimal_word message.number is.2 in
    record { are = (name.0, (connection.0, (number.0, tt))); short = omega (arith, name.1, connection.1, number.1) }

origin_is_silent : (origin : Origin) (row : List (List ℕ)) → IsOriginRow origin row → IsWritableOrigin (Some origin) → IsSilentLineOf row
origin_is_silent origin row is typed =
    let stamp = stamp_word origin.moment is.stamp is.writes in
    let words = message_are_words origin.message typed.1 in
    subst IsSilentLineOf (sym is.row_is)
    (comment (is.stamp ∷ message_words origin.message) (stamp.0, words.are) (omega (arith, stamp.1, words.short)))

origins_are_silent : (origin : Option Origin) (rows : List (List (List ℕ))) → AreOriginRows origin rows → IsWritableOrigin origin → AllByRecursion IsSilentLineOf rows
origins_are_silent None rows is typed = subst (AllByRecursion IsSilentLineOf) (sym is) tt
origins_are_silent (Some origin) rows is typed = subst (AllByRecursion IsSilentLineOf) (sym is.2) (origin_is_silent origin is.0 is.1 typed, tt)

pub digest_is_silent : (chain : Chain) → length chain.digest ≡ 32 → chain.count < 2 ^ 64 → IsSilentLineOf (digest_row chain)
digest_is_silent chain long few =
    let count = decimal_word chain.count few in
    let hex = hex_bytes chain.digest in
    comment (decimal chain.count ∷ encode_lower chain.digest ∷ [])
    (count.0, (word_of_bytes (encode_lower chain.digest) (omega (arith, hex.1, long)) hex.0, tt))
    (omega (arith, count.1, hex.1, long))

-- ---- entries

silent_tell : (rows : List (List (List ℕ))) → AllByRecursion IsSilentLineOf rows → Tell rows []
silent_tell [] all = tt
silent_tell (row ∷ rows) all = (all.0, silent_tell rows all.1)

apart_tell : (command : Command) (days : Option (Day × Day)) → IsWritableCommand command → Tell (rows_apart command days) (command_said command days ∷ [])
apart_tell command None is = inr (command_says command is, tt)
apart_tell command (Some days) is = inl (remark_is_silent command days.0 is, inr (command_says (OpenDay (record { day = days.1 })) tt, tt))

entry_tells : (today : Option Day) (entry : Entry) → IsWritableEntry entry → Tell (entry_rows today entry) (entry_said today entry ∷ [])
entry_tells today (Asked command reply) is = apart_tell command (days_apart today command) is
entry_tells today (Swept sweep) is = inr (sweep_says sweep.group is.group, silent_tell (sweep_remarks sweep) (swept_is_silent sweep is))

-- the rows of an entry say it
entry_rows_tell : (today : Option Day) (origin : Option Origin) (entry : Entry) (rows : List (List (List ℕ)))
    → AreEntryRows today origin entry rows → IsWritableOrigin origin → IsWritableEntry entry → Tell rows (entry_said today entry ∷ [])
entry_rows_tell today origin entry rows are typed is =
    subst (λ (r : List (List (List ℕ))). Tell r (entry_said today entry ∷ [])) (sym are.rows_are)
    (silent_first are.comments (entry_rows today entry) (entry_said today entry ∷ []) (origins_are_silent origin are.comments are.says typed) (entry_tells today entry is))

-- the rows of several entries say them
pub rows_tell : (today : Option Day) (origins : List (Option Origin)) (entries : List Entry) (rows : List (List (List ℕ)))
    → AreRows today origins entries rows → AllByRecursion IsWritableOrigin origins → AllByRecursion IsWritableEntry entries
    → Tell rows (said_after today entries)
rows_tell today [] [] rows are typed all = subst (λ (r : List (List (List ℕ))). Tell r []) (sym are) tt
rows_tell today [] (entry ∷ entries) rows are typed all = absurd are
rows_tell today (origin ∷ origins) [] rows are typed all = absurd are
rows_tell today (origin ∷ origins) (entry ∷ entries) rows are typed all =
    let next = open_after today entry in
    subst (λ (r : List (List (List ℕ))). Tell r (entry_said today entry ∷ said_after next entries)) (sym are.4)
    (tell-append are.0 are.1 (entry_said today entry ∷ []) (said_after next entries)
    (entry_rows_tell today origin entry are.0 are.2 typed.0 all.0)
    (rows_tell next origins entries are.1 are.3 typed.1 all.1))

-- so do the rows of a batch
pub batch_rows_tell : (today : Option Day) (origins : List (Option Origin)) (entries : List Entry) (rows : List (List (List ℕ))) (last : Chain)
    → AreRows today origins entries rows → AllByRecursion IsWritableOrigin origins → AllByRecursion IsWritableEntry entries
    → length last.digest ≡ 32 → last.count < 2 ^ 64 → Tell (rows ++ digest_row last ∷ []) (said_after today entries)
batch_rows_tell today origins entries rows last are typed all long few =
    subst (λ (said : List Line). Tell (rows ++ digest_row last ∷ []) said) (append-nil (said_after today entries))
    (tell-append rows (digest_row last ∷ []) (said_after today entries) [] (rows_tell today origins entries rows are typed all) (digest_is_silent last long few, tt))
