-- Written commands and sweeps are read back.
use Rattle.std.proofs.Common.{◌≡◌, ◌==◌, ◌+◌, ◌*◌, ◌^◌, ◌/◌, ◌%◌, ◌<◌, ◌≤◌, ◌++◌, ◌∷◌, [], ◌∙◌, ℕ, ℤ, pos, Bool, true, false, cond, List, Option, None, Some, IsSome, IsTrue, nat_le, length, drop, map, take, suc, get_or, refl, sym, ap, subst, length-append, append_assoc, arith}
use Rattle.std.specs.Prelude.{codes, int_lt, not, unsigned_abs}
use Rattle.std.specs.Char.{digit_value}
use Rattle.std.specs.Fmt.{decimal}
use Rattle.std.specs.List.{AllByRecursion, after_first, before_first, flat_map, position_or_len}
use Rattle.std.specs.Option.{option_to_list}
use Rattle.std.specs.Str.Parse.{AllDigits}
use Rattle.std.proofs.lemmas.Fmt.{length-decimal-le}
use Rattle.std.proofs.lemmas.Grind.{flat_map-append}
use Rattle.std.proofs.lemmas.Int.{ints}
use Rattle.std.proofs.lemmas.Bool.{and_parts, le-leb}
use Rattle.std.proofs.lemmas.Bool.Decides.{nat_tests}
use Rattle.std.proofs.lemmas.List.{append-nil}
use Rattle.std.proofs.lemmas.List.Elements.{All-from_recursion}
use Rattle.std.proofs.lemmas.Str.Parse.{digit_from_value}
use Rattle.gu_terms.specs.AllocRejects.{reject_number}
use Rattle.gu_terms.specs.Days.{IsDay}
use Rattle.gu_terms.specs.LimitKeys.{name_of_key}
use Rattle.gu_terms.specs.Names.{IsId, is_id_byte, is_name}
use Rattle.gu_terms.specs.NumberText.{fraction_digits, whole_digits}
use Rattle.gu_terms.specs.Numbers.{IsLots, IsOfferNo, IsPrice}
use Rattle.gu_terms.specs.WrittenNumbers.{date_text, fraction_text, price_text, six_digits, trimmed_digits}
use Rattle.gu_terms.specs.declared.alloc_reject.AllocReject.{AllocReject}
use Rattle.gu_terms.specs.declared.alloc_reject.AllocReject.TheVariants.{BlockLevel, AccountLevel, Intermediary}
use Rattle.gu_terms.specs.declared.command.Command.{Command}
use Rattle.gu_terms.specs.declared.command.Command.TheVariants.{OpenDay, SetLimit, ReportSide, GiveUp, Claim, Refuse, Reverse}
use Rattle.gu_terms.specs.declared.day.Day.{Day}
use Rattle.gu_terms.specs.declared.entry.SweepEntry.{SweepEntry}
use Rattle.gu_terms.specs.declared.group.Group.{Group}
use Rattle.gu_terms.specs.declared.limit_key.LimitKey.{LimitKey}
use Rattle.gu_terms.specs.declared.lines.Line.{Line as GiveUpLine}
use Rattle.gu_terms.specs.declared.side.Side.{Side}
use Rattle.gu_terms.specs.declared.takes.Take.{Take}
use Rattle.gu_terms.specs.declared.side.Side.TheVariants.{Buy, Sell}
use Rattle.gu_terms.proofs.WrittenLemmas.{length-trimmed, length-units}
use Rattle.gu_terms.proofs.WrittenMeanings.{date_text_writes, decimal_means_lots, price_text_means}
use Rattle.gu_world.specs.declared.step.Step.TheVariants.{Enter}
use Rattle.gu_text.specs.Lines.{is_silent, longest_line}
use Rattle.gu_text.specs.ReadBack.{AreWords, IsWord, is_word_byte, joined}
use Rattle.gu_text.specs.Scripts.{WriteLines, Writes, side_word}
use Rattle.gu_text.specs.SheetLines.{number_of}
use Rattle.gu_text.specs.SheetText.{cut_key_words, cut_offer_words, take_words}
use Rattle.gu_text.specs.Texts.{last_word, line_of, word}
use Rattle.gu_text.specs.WrittenCommands.{IsScriptLineOf, IsSilentLineOf, IsWritableCommand, IsWritableSweep, command_words, cut_key_remark, cut_key_remark_text, cut_offer_remark, cut_offer_remark_text, pair_words, remark_words, sweep_remarks, sweep_rows, sweep_words, take_remark, take_remark_text, undated}
use Rattle.gu_text.specs.declared.script_line.Line.{Line}
use Rattle.gu_text.specs.declared.script_line.Line.TheVariants as line
use Rattle.gu_text.proofs.ReadBackLemmas.{line_of-joined, read_back}
use Rattle.gu_text.proofs.ReadLemmas.{high_in_word, kind_word, literal, name_word, number_back, number_word, offer_no_back, offer_small}

-- ---- words, each followed by a space

-- words, each followed by a space, are a line except for its end
pub words-joined : (words : List (List ℕ)) → 1 ≤ length words → flat_map word words ≡ joined words ++ 32 ∷ []
words-joined [] some = absurd (omega (arith, some))
words-joined (last ∷ []) some = append-nil (word last)
words-joined (first ∷ next ∷ others) some =
    ap (λ (text : List ℕ). word first ++ text) (words-joined (next ∷ others) (omega arith)) ∙ sym (append_assoc (word first) (joined (next ∷ others)) (32 ∷ []))

-- a command has words
pub some_words : (command : Command) → 1 ≤ length (command_words command)
some_words (OpenDay it) = omega arith
some_words command = omega arith

-- ---- lines

-- the total length of words, plus one for each
abbrev size_of : List (List ℕ) → ℕ
size_of [] = 0
size_of (w ∷ ws) = length w + 1 + size_of ws

length-joined-size : (words : List (List ℕ)) → length (joined words) ≤ size_of words
length-joined-size [] = omega arith
length-joined-size (last ∷ []) = omega arith
length-joined-size (first ∷ next ∷ others) =
    omega (arith, length-append first (32 ∷ []), length-append (word first) (joined (next ∷ others)), length-joined-size (next ∷ others))

-- a line of words that isn't silent or long has the content of the words
script_line : (words : List (List ℕ)) (said : Line) → AllByRecursion IsWord words → 1 ≤ length words → size_of words ≤ longest_line
    → is_silent (joined words) ≡ false → Writes words said → IsScriptLineOf words said
script_line words said each some few speaks writes =
    let are : AreWords words = record { some = some; each = All-from_recursion IsWord words each } in
    let back = read_back words are in
    record {
      are = are;
      says = record {
        speaks = speaks;
        short = omega (arith, length-joined-size words, few);
        even = back.even;
        writes = subst (λ (ws : List (List ℕ)). Writes ws said) (sym back.words_are) writes;
      };
    }

-- ---- words

id_byte_in_word : (b : ℕ) → is_id_byte b ≡ true → is_word_byte b ≡ true
id_byte_in_word b h =
    let parts = and_parts (nat_le 33 b) (nat_le b 126) h in
    high_in_word b (search (arith, parts.0))

id_word : (id : List ℕ) → IsId id → IsWord id
id_word id is = record { some = is.some; each = λ k d k_in. id_byte_in_word (get_or id k d) (is.each k d k_in) }

side_is_word : (side : Side) → IsWord (side_word side) × (length (side_word side) ≤ 12)
side_is_word Buy = literal (codes "B") refl refl
side_is_word Sell = literal (codes "S") refl refl

-- a byte that may be in a word
abbrev IsWordByte : ℕ → Type 0
IsWordByte b = is_word_byte b ≡ true

digit_byte : (b : ℕ) → digit_value b < 10 → IsWordByte b
digit_byte b is = let range = digit_from_value b is in high_in_word b (omega (arith, range))

digit_bytes : (ds : List ℕ) → AllDigits 10 ds → AllByRecursion IsWordByte ds
digit_bytes [] all = tt
digit_bytes (d ∷ ds) all = (digit_byte d all.0, digit_bytes ds all.1)

-- digits on both sides of a point
pointed_bytes : (text : List ℕ) → AllDigits 10 (before_first (λ b. b == 46) text) → AllDigits 10 (after_first (λ b. b == 46) text) → AllByRecursion IsWordByte text
pointed_bytes [] before after = tt
pointed_bytes (c ∷ cs) before after = at (pointed_bytes cs) (c == 46) refl
  where
    at : (AllDigits 10 (before_first (λ b. b == 46) cs) → AllDigits 10 (after_first (λ b. b == 46) cs) → AllByRecursion IsWordByte cs)
        → (b : Bool) → (c == 46) ≡ b → AllByRecursion IsWordByte (c ∷ cs)
    at rest true is =
        let point : c ≡ 46 = grind (arith, nat_tests) in
        (high_in_word c (omega arith), digit_bytes cs (subst (λ (b : Bool). AllDigits 10 (drop (cond (not b) (1 + position_or_len (λ b. b == 46) cs) 0 + 1) (c ∷ cs))) is after))
    at rest false is =
        let n = position_or_len (λ b. b == 46) cs in
        let first : AllDigits 10 (take (1 + n) (c ∷ cs)) = subst (λ (b : Bool). AllDigits 10 (take (cond (not b) (1 + n) 0) (c ∷ cs))) is before in
        let second : AllDigits 10 (drop ((1 + n) + 1) (c ∷ cs)) = subst (λ (b : Bool). AllDigits 10 (drop (cond (not b) (1 + n) 0 + 1) (c ∷ cs))) is after in
        let next : 1 + n ≡ suc n = omega arith in
        let later : (1 + n) + 1 ≡ suc (n + 1) = omega arith in
        let front : AllDigits 10 (take (suc n) (c ∷ cs)) = subst (λ (k : ℕ). AllDigits 10 (take k (c ∷ cs))) next first in
        let back : AllDigits 10 (drop (suc (n + 1)) (c ∷ cs)) = subst (λ (k : ℕ). AllDigits 10 (drop k (c ∷ cs))) later second in
        (digit_byte c front.0, rest front.1 back)

-- a number text is a word
number_text_bytes : (text : List ℕ) → AllDigits 10 (whole_digits text) → AllDigits 10 (fraction_digits text) → AllByRecursion IsWordByte text
number_text_bytes [] whole fraction = tt
number_text_bytes (c ∷ cs) whole fraction = at (c == 45) refl
  where
    at : (b : Bool) → (c == 45) ≡ b → AllByRecursion IsWordByte (c ∷ cs)
    at true is =
        let minus : c ≡ 45 = grind (arith, nat_tests) in
        let front = subst (λ (b : Bool). AllDigits 10 (before_first (λ b. b == 46) (cond b cs (c ∷ cs)))) is whole in
        let back = subst (λ (b : Bool). AllDigits 10 (after_first (λ b. b == 46) (cond b cs (c ∷ cs)))) is fraction in
        (high_in_word c (omega arith), pointed_bytes cs front back)
    at false is =
        let front = subst (λ (b : Bool). AllDigits 10 (before_first (λ b. b == 46) (cond b cs (c ∷ cs)))) is whole in
        let back = subst (λ (b : Bool). AllDigits 10 (after_first (λ b. b == 46) (cond b cs (c ∷ cs)))) is fraction in
        pointed_bytes (c ∷ cs) front back

price_some : (z : ℤ) → IsPrice z → 1 ≤ length (price_text z)
price_some z is =
    let means = (price_text_means z is).means in
    not_none (price_text z) means.is_number.some
  where
    not_none : (text : List ℕ) → 1 ≤ length (whole_digits text) + length (fraction_digits text) → 1 ≤ length text
    not_none [] some = absurd (omega (arith, some))
    not_none (c ∷ cs) some = omega arith

price_word : (z : ℤ) → IsPrice z → IsWord (price_text z)
price_word z is =
    let number = (price_text_means z is).means.is_number in
    record { some = price_some z is; each = All-from_recursion IsWordByte (price_text z) (number_text_bytes (price_text z) number.whole number.fraction) }

length-sign : (b : Bool) → length (cond b (codes "-") []) ≤ 1
length-sign true = omega arith
length-sign false = omega arith

length-fraction : (n : ℕ) → length (fraction_text n) ≤ 7
unfolding fraction_text
length-fraction n = at (n == 0) (six_digits n) refl
  where
    at : (b : Bool) (ds : List ℕ) → length ds ≡ 6 → length (cond b [] (46 ∷ trimmed_digits ds)) ≤ 7
    at true ds six = omega arith
    at false ds six = omega (arith, length-trimmed ds, six)

length-price : (z : ℤ) → IsPrice z → length (price_text z) ≤ 17
unfolding price_text
length-price z is =
    let least = is.least in
    let most = is.most in
    let small : unsigned_abs z ≤ 999999999999999 = omega (arith, ints, least, most) in
    let sign = cond (int_lt z (pos 0)) (codes "-") [] in
    let whole = decimal (unsigned_abs z / 1000000) in
    let fraction = fraction_text (unsigned_abs z % 1000000) in
    omega (
      arith,
      length-append sign whole,
      length-append (sign ++ whole) fraction,
      length-sign (int_lt z (pos 0)),
      length-units (unsigned_abs z) small,
      length-fraction (unsigned_abs z % 1000000),
    )

day_word : (year month day : ℕ) → IsDay year month day → IsWord (date_text year month day)
day_word year month day is =
    let text = (date_text_writes year month day is).is_text in
    record { some = omega (arith, text.eight); each = All-from_recursion IsWordByte (date_text year month day) (digit_bytes (date_text year month day) text.digits) }

length-lots : (n : ℕ) → IsLots n → length (decimal n) ≤ 7
length-lots n is = length-decimal-le 7 n (omega arith) (omega (arith, is.most)) (omega (arith, is.most))

lots_small : (n : ℕ) → IsLots n → n < 10 ^ 12
lots_small n is = omega (arith, is.most)

reject_back : (why : AllocReject) → number_of (decimal (reject_number why)) ≡ Some (reject_number why)
reject_back BlockLevel = number_back 1 (omega arith)
reject_back AccountLevel = number_back 2 (omega arith)
reject_back Intermediary = number_back 5 (omega arith)

reject_word : (why : AllocReject) → IsWord (decimal (reject_number why)) × (length (decimal (reject_number why)) ≤ 12)
reject_word BlockLevel = number_word 1 (omega arith)
reject_word AccountLevel = number_word 2 (omega arith)
reject_word Intermediary = number_word 5 (omega arith)

-- ---- the lines of a give-up

-- their values are in the ranges of their types
abbrev HasSoundValues : GiveUpLine → Type 0
HasSoundValues l = IsTrue (is_name l.account.name) × IsLots l.lots

pairs_are_words : (lines : List GiveUpLine) → AllByRecursion HasSoundValues lines → AllByRecursion IsWord (pair_words lines)
pairs_are_words [] all = tt
pairs_are_words (first ∷ others) all = ((name_word first.account.name all.0.0).0, ((number_word first.lots (lots_small first.lots all.0.1)).0, pairs_are_words others all.1))

pairs_are_short : (lines : List GiveUpLine) → AllByRecursion HasSoundValues lines → size_of (pair_words lines) ≤ 21 * length lines
pairs_are_short [] all = omega arith
pairs_are_short (first ∷ others) all =
    let name = (name_word first.account.name all.0.0).1 in
    let lots = length-lots first.lots all.0.1 in
    omega (arith, name, lots, pairs_are_short others all.1)

pairs_write : (lines : List GiveUpLine) → AllByRecursion HasSoundValues lines → WriteLines (pair_words lines) lines
pairs_write [] all = tt
pairs_write (first ∷ others) all = (refl, all.0.0, decimal_means_lots first.lots all.0.1, pairs_write others all.1)

-- ---- commands and sweeps

command_are_words : (command : Command) → IsWritableCommand command → AllByRecursion IsWord (command_words command)
command_are_words (OpenDay it) is = ((literal (codes "DAY") refl refl).0, (day_word it.day.year it.day.month it.day.day it.day.there, tt))
command_are_words (SetLimit it) is =
    ((literal (codes "LIMIT") refl refl).0, ((name_word it.group.name is.0).0, ((kind_word it.key).0, ((name_word (name_of_key it.key) is.1).0, ((number_word it.lots is.2).0, tt)))))
command_are_words (ReportSide it) is = (
  (literal (codes "REPORT") refl refl).0,
  (
    (name_word it.firm.name is.0).0,
    (
      id_word it.id is.1,
      (
        id_word it.match_id is.2,
        (
          (side_is_word it.side).0,
          (
            (name_word it.symbol.name is.3).0,
            ((number_word it.lots (lots_small it.lots is.4)).0, (price_word it.price is.5, ((name_word it.account.name is.6).0, tt))),
          ),
        ),
      ),
    ),
  ),
)
command_are_words (GiveUp it) is =
    ((literal (codes "GIVEUP") refl refl).0, ((name_word it.firm.name is.0).0, (id_word it.id is.1, (id_word it.report is.2, pairs_are_words it.lines is.4))))
command_are_words (Claim it) is =
    ((literal (codes "CLAIM") refl refl).0, ((name_word it.firm.name is.0).0, ((number_word it.offer (offer_small it.offer is.1)).0, tt)))
command_are_words (Refuse it) is =
    ((literal (codes "REFUSE") refl refl).0, ((name_word it.firm.name is.0).0, ((number_word it.offer (offer_small it.offer is.1)).0, ((reject_word it.why).0, tt))))
command_are_words (Reverse it) is =
    ((literal (codes "REVERSE") refl refl).0, ((name_word it.firm.name is.0).0, ((number_word it.offer (offer_small it.offer is.1)).0, tt)))

-- a command has less than half of the bytes allowed in a line
command_is_short : (command : Command) → IsWritableCommand command → size_of (command_words command) ≤ 500
command_is_short (OpenDay it) is = omega (arith, (date_text_writes it.day.year it.day.month it.day.day it.day.there).is_text.eight)
command_is_short (SetLimit it) is = omega (arith, (name_word it.group.name is.0).1, (kind_word it.key).1, (name_word (name_of_key it.key) is.1).1, (number_word it.lots is.2).1)
command_is_short (ReportSide it) is =
    omega (
      arith,
      (name_word it.firm.name is.0).1,
      is.1.most,
      is.2.most,
      (side_is_word it.side).1,
      (name_word it.symbol.name is.3).1,
      (number_word it.lots (lots_small it.lots is.4)).1,
      length-price it.price is.5,
      (name_word it.account.name is.6).1,
    )
command_is_short (GiveUp it) is = omega (arith, (name_word it.firm.name is.0).1, is.1.most, is.2.most, is.3.most, pairs_are_short it.lines is.4)
command_is_short (Claim it) is = omega (arith, (name_word it.firm.name is.0).1, (number_word it.offer (offer_small it.offer is.1)).1)
command_is_short (Refuse it) is = omega (arith, (name_word it.firm.name is.0).1, (number_word it.offer (offer_small it.offer is.1)).1, (reject_word it.why).1)
command_is_short (Reverse it) is = omega (arith, (name_word it.firm.name is.0).1, (number_word it.offer (offer_small it.offer is.1)).1)

-- no command's line begins as a comment
command_speaks : (command : Command) → is_silent (joined (command_words command)) ≡ false
command_speaks (OpenDay it) = refl
command_speaks command = refl

command_writes : (command : Command) → IsWritableCommand command → Writes (command_words command) (line.Step (Enter (undated command)))
command_writes (OpenDay it) is = (date_text it.day.year it.day.month it.day.day, refl, date_text_writes it.day.year it.day.month it.day.day it.day.there)
command_writes (SetLimit it) is = (decimal it.lots, refl, rw (is.0, is.1) refl, number_back it.lots is.2)
command_writes (ReportSide it) is =
    (decimal it.lots, price_text it.price, refl, rw (is.0, is.3, is.6) refl, is.1, is.2, decimal_means_lots it.lots is.4, price_text_means it.price is.5, refl)
command_writes (GiveUp it) is = (pair_words it.lines, refl, is.0, is.1, is.2, pairs_write it.lines is.4, is.3)
command_writes (Claim it) is = (decimal it.offer, refl, is.0, offer_no_back it.offer is.1)
command_writes (Refuse it) is = (decimal it.offer, decimal (reject_number it.why), refl, is.0, offer_no_back it.offer is.1, reject_back it.why)
command_writes (Reverse it) is = (decimal it.offer, refl, is.0, offer_no_back it.offer is.1)

-- a command's line says the command
pub command_says : (command : Command) → IsWritableCommand command → IsScriptLineOf (command_words command) (line.Step (Enter (undated command)))
command_says command is =
    script_line (command_words command) (line.Step (Enter (undated command)))
    (command_are_words command is)
    (some_words command)
    (omega (arith, command_is_short command is))
    (command_speaks command)
    (command_writes command is)

-- a sweep's line says the sweep
pub sweep_says : (group : Group) → IsTrue (is_name group.name) → IsScriptLineOf (sweep_words group) (line.Sweep group)
sweep_says group named =
    let name = name_word group.name named in
    script_line (sweep_words group) (line.Sweep group)
    ((literal (codes "SWEEP") refl refl).0, (name.0, tt))
    (omega arith) (omega (arith, name.1)) refl
    (refl, named)

-- ---- comments

both_are_words : (xs ys : List (List ℕ)) → AllByRecursion IsWord xs → AllByRecursion IsWord ys → AllByRecursion IsWord (xs ++ ys)
both_are_words [] ys p q = q
both_are_words (x ∷ xs) ys p q = (p.0, both_are_words xs ys p.1 q)

size-append : (xs ys : List (List ℕ)) → size_of (xs ++ ys) ≡ size_of xs + size_of ys
size-append [] ys = omega arith
size-append (x ∷ xs) ys = omega (arith, size-append xs ys)

-- a line that begins with the word `#` is a comment
comment_is_silent : (words : List (List ℕ)) → length (joined (codes "#" ∷ words)) ≤ longest_line → is_silent (joined (codes "#" ∷ words)) ≡ true
comment_is_silent [] short = refl
comment_is_silent (next ∷ others) short = rw (le-leb (length (joined (codes "#" ∷ next ∷ others))) longest_line short) refl

-- a comment with a report says nothing
pub remark_is_silent : (report : Command) (day : Day) → IsWritableCommand report → IsSilentLineOf (remark_words report day)
remark_is_silent report day is =
    let text = date_text day.year day.month day.day in
    let date = day_word day.year day.month day.day day.there in
    let words = command_words report ++ text ∷ [] in
    let each : AllByRecursion IsWord words = both_are_words (command_words report) (text ∷ []) (command_are_words report is) (date, tt) in
    let mark : IsWord (codes "#") = (literal (codes "#") refl refl).0 in
    let size = size-append (command_words report) (text ∷ []) in
    let short : length (joined (codes "#" ∷ words)) ≤ longest_line =
    omega (arith, length-joined-size (codes "#" ∷ words), size, command_is_short report is, (date_text_writes day.year day.month day.day day.there).is_text.eight) in
    record {
      are = record { some = omega arith; each = All-from_recursion IsWord (codes "#" ∷ words) (mark, each) };
      silent = comment_is_silent words short;
    }

-- a short comment says nothing
short_remark : (words : List (List ℕ)) → AllByRecursion IsWord words → size_of words ≤ 1000 → IsSilentLineOf (codes "#" ∷ words)
short_remark words each few =
    let mark : IsWord (codes "#") = (literal (codes "#") refl refl).0 in
    record {
      are = record { some = omega arith; each = All-from_recursion IsWord (codes "#" ∷ words) (mark, each) };
      silent = comment_is_silent words (omega (arith, length-joined-size (codes "#" ∷ words), few));
    }

take_is_silent : (t : Take) → IsOfferNo t.offer × (t.lots < 10 ^ 12) → IsSilentLineOf (take_remark t)
take_is_silent t is =
    let name = literal (codes "TAKE") refl refl in
    let offer = number_word t.offer (offer_small t.offer is.0) in
    let lots = number_word t.lots is.1 in
    short_remark (take_words t.offer t.lots) (name.0, (offer.0, (lots.0, tt))) (omega (arith, offer.1, lots.1))

cut_key_is_silent : (key : LimitKey) → IsTrue (is_name (name_of_key key)) → IsSilentLineOf (cut_key_remark key)
cut_key_is_silent key named =
    let word = literal (codes "CUT") refl refl in
    let kind = kind_word key in
    let name = name_word (name_of_key key) named in
    short_remark (cut_key_words key) (word.0, (kind.0, (name.0, tt))) (omega (arith, kind.1, name.1))

cut_offer_is_silent : (n : ℕ) → IsOfferNo n → IsSilentLineOf (cut_offer_remark n)
cut_offer_is_silent n is =
    let word = literal (codes "CUT") refl refl in
    let kind = literal (codes "OFFER") refl refl in
    let offer = number_word n (offer_small n is) in
    short_remark (cut_offer_words n) (word.0, (kind.0, (offer.0, tt))) (omega (arith, offer.1))

-- each comment in a list
each_is_silent : {X : Type 0} (Is : X → Type 0) (remark : X → List (List ℕ)) → ((x : X) → Is x → IsSilentLineOf (remark x))
    → (xs : List X) → AllByRecursion Is xs → AllByRecursion IsSilentLineOf (map remark xs)
each_is_silent Is remark silent [] all = tt
each_is_silent Is remark silent (x ∷ xs) all = (silent x all.0, each_is_silent Is remark silent xs all.1)

both_are_silent : (xs ys : List (List (List ℕ))) → AllByRecursion IsSilentLineOf xs → AllByRecursion IsSilentLineOf ys → AllByRecursion IsSilentLineOf (xs ++ ys)
both_are_silent [] ys p q = q
both_are_silent (x ∷ xs) ys p q = (p.0, both_are_silent xs ys p.1 q)

-- a sweep's takes and its cut say nothing
pub swept_is_silent : (sweep : SweepEntry) → IsWritableSweep sweep → AllByRecursion IsSilentLineOf (sweep_remarks sweep)
swept_is_silent sweep is =
    let takes = map take_remark sweep.takes in
    let keys = map cut_key_remark sweep.cut.keys in
    both_are_silent (takes ++ keys) (map cut_offer_remark sweep.cut.offers)
    (both_are_silent takes keys
    (each_is_silent (λ (t : Take). IsOfferNo t.offer × (t.lots < 10 ^ 12)) take_remark take_is_silent sweep.takes is.takes)
    (each_is_silent (λ (k : LimitKey). IsTrue (is_name (name_of_key k))) cut_key_remark cut_key_is_silent sweep.cut.keys is.keys))
    (each_is_silent IsOfferNo cut_offer_remark cut_offer_is_silent sweep.cut.offers is.offers)

-- words, each followed by a space, and a last one are a line
pub words-last : (words : List (List ℕ)) (last : List ℕ) → flat_map word words ++ last_word last ≡ line_of (words ++ last ∷ [])
words-last [] last = refl
words-last (first ∷ []) last = ap (λ (t : List ℕ). t ++ last_word last) (append-nil (word first))
words-last (first ∷ next ∷ others) last =
    append_assoc (word first) (flat_map word (next ∷ others)) (last_word last) ∙ ap (λ (t : List ℕ). word first ++ t) (words-last (next ∷ others) last)

-- ---- appending

-- the lines of comments
lines_of_each : {X : Type 0} (remark : X → List (List ℕ)) (xs : List X) → flat_map (λ x. line_of (remark x)) xs ≡ flat_map line_of (map remark xs)
lines_of_each remark [] = refl
lines_of_each remark (x ∷ xs) = ap (λ (t : List ℕ). line_of (remark x) ++ t) (lines_of_each remark xs)

-- four texts after another one
four_after : (old line a b c : List ℕ) → (((old ++ line) ++ a) ++ b) ++ c ≡ old ++ (line ++ ((a ++ b) ++ c))
four_after old line a b c = simp append_assoc

-- a sweep's line, its takes and its cut, one after another
pub sweep_appended : (old first : List ℕ) (sweep : SweepEntry) → first ≡ old ++ line_of (sweep_words sweep.group)
    → ((first ++ flat_map take_remark_text sweep.takes) ++ flat_map cut_key_remark_text sweep.cut.keys)
    ++ flat_map cut_offer_remark_text sweep.cut.offers ≡ old ++ flat_map line_of (sweep_rows sweep)
sweep_appended old first sweep is =
    let line = line_of (sweep_words sweep.group) in
    let takes = map take_remark sweep.takes in
    let keys = map cut_key_remark sweep.cut.keys in
    let offers = map cut_offer_remark sweep.cut.offers in
    let took = flat_map take_remark_text sweep.takes in
    let held = flat_map cut_key_remark_text sweep.cut.keys in
    let closed = flat_map cut_offer_remark_text sweep.cut.offers in
    let parts : flat_map line_of ((takes ++ keys) ++ offers) ≡ (flat_map line_of takes ++ flat_map line_of keys) ++ flat_map line_of offers =
    flat_map-append line_of (takes ++ keys) offers ∙ ap (λ (t : List ℕ). t ++ flat_map line_of offers) (flat_map-append line_of takes keys) in
    ap (λ (t : List ℕ). ((t ++ took) ++ held) ++ closed) is
    ∙ four_after old line took held closed
    ∙ ap (λ (t : List ℕ). old ++ (line ++ ((t ++ held) ++ closed))) (lines_of_each take_remark sweep.takes)
    ∙ ap (λ (t : List ℕ). old ++ (line ++ ((flat_map line_of takes ++ t) ++ closed))) (lines_of_each cut_key_remark sweep.cut.keys)
    ∙ ap (λ (t : List ℕ). old ++ (line ++ ((flat_map line_of takes ++ flat_map line_of keys) ++ t))) (lines_of_each cut_offer_remark sweep.cut.offers)
    ∙ ap (λ (t : List ℕ). old ++ (line ++ t)) (sym parts)

pair_text-more : (front : List GiveUpLine) (l : GiveUpLine) → flat_map word (pair_words (front ++ l ∷ [])) ≡ flat_map word (pair_words front) ++ (word l.account.name ++ word (decimal l.lots))
pair_text-more [] l = ap (λ (t : List ℕ). word l.account.name ++ t) (append-nil (word (decimal l.lots)))
pair_text-more (first ∷ others) l =
    ap (λ (t : List ℕ). word first.account.name ++ (word (decimal first.lots) ++ t)) (pair_text-more others l) ∙ sym (simp append_assoc)

-- one more line of a give-up
pub pairs_more : (old : List ℕ) (front : List GiveUpLine) (l : GiveUpLine)
    → ((old ++ flat_map word (pair_words front)) ++ word l.account.name) ++ word (decimal l.lots) ≡ old ++ flat_map word (pair_words (front ++ l ∷ []))
pairs_more old front l =
    append_assoc (old ++ flat_map word (pair_words front)) (word l.account.name) (word (decimal l.lots))
    ∙ append_assoc old (flat_map word (pair_words front)) (word l.account.name ++ word (decimal l.lots))
    ∙ ap (λ (t : List ℕ). old ++ t) (sym (pair_text-more front l))

-- words, each followed by a space, have bytes
pub some_bytes : (words : List (List ℕ)) → 1 ≤ length words → 1 ≤ length (flat_map word words)
some_bytes words some = omega (arith, ap (λ (t : List ℕ). length t) (words-joined words some), length-append (joined words) (32 ∷ []))

-- the space after the last word is removed, and the line ends
pub line_ended : (old rest : List ℕ) (popped : Option ℕ) (words : List (List ℕ)) → 1 ≤ length words → IsSome popped
    → old ++ flat_map word words ≡ rest ++ option_to_list popped → rest ++ 10 ∷ [] ≡ old ++ line_of words
line_ended old rest None words some there is = cc
line_ended old rest (Some last) words some there is =
    let whole : (old ++ joined words) ++ 32 ∷ [] ≡ rest ++ last ∷ [] =
    append_assoc old (joined words) (32 ∷ []) ∙ sym (ap (λ (t : List ℕ). old ++ t) (words-joined words some)) ∙ is in
    let front : old ++ joined words ≡ rest = last_apart (old ++ joined words) rest 32 last whole in
    ap (λ (t : List ℕ). t ++ 10 ∷ []) (sym front) ∙ append_assoc old (joined words) (10 ∷ []) ∙ ap (λ (t : List ℕ). old ++ t) (sym (line_of-joined words))
  where
    last_apart : (xs ys : List ℕ) (x y : ℕ) → xs ++ x ∷ [] ≡ ys ++ y ∷ [] → xs ≡ ys
    last_apart [] [] x y e = refl
    last_apart [] (b ∷ ys) x y e = absurd (omega (arith, ap (λ (t : List ℕ). length t) e, length-append ys (y ∷ [])))
    last_apart (a ∷ xs) [] x y e = absurd (omega (arith, ap (λ (t : List ℕ). length t) e, length-append xs (x ∷ [])))
    last_apart (a ∷ xs) (b ∷ ys) x y e =
        let heads : a ≡ b = cc in
        let tails : xs ++ x ∷ [] ≡ ys ++ y ∷ [] = cc in
        let rest = last_apart xs ys x y tails in
        cc

-- a word, words and a last one are a line
pub remark_ended : (old : List ℕ) (words : List (List ℕ)) (last : List ℕ)
    → ((old ++ word (codes "#")) ++ flat_map word words) ++ last_word last ≡ old ++ line_of (codes "#" ∷ words ++ last ∷ [])
remark_ended old words last =
    append_assoc (old ++ word (codes "#")) (flat_map word words) (last_word last)
    ∙ append_assoc old (word (codes "#")) (flat_map word words ++ last_word last)
    ∙ ap (λ (t : List ℕ). old ++ t) (sym (append_assoc (word (codes "#")) (flat_map word words) (last_word last)) ∙ words-last (codes "#" ∷ words) last)
