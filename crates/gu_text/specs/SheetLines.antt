-- The content of a sheet line.
use Rattle.std.specs.Prelude.{ℕ, Bool, ◌&&◌, ◌||◌, nat_le, nat_lt, List, [], ◌∷◌, codes, length, Option, Some, None, if◌then◌else◌}
use Rattle.std.specs.Char.{is_digit}
use Rattle.std.specs.List.{list_all}
use Rattle.std.specs.Option.{option_map, option_and_then}
use Rattle.std.specs.Str.{bytes_eq}
use Rattle.std.specs.Str.Parse.{digits_value}
use Rattle.gu_terms.specs.LimitKeys.{key_of}
use Rattle.gu_terms.specs.Names.{is_name}
use Rattle.gu_terms.specs.Paths.{path_through}
use Rattle.gu_terms.specs.declared.firm.FirmId.{FirmId}
use Rattle.gu_terms.specs.declared.limit_key.LimitKey.{LimitKey}
use Rattle.gu_text.specs.Lines.{is_silent, longest_line}
use Rattle.gu_text.specs.Words.{is_ragged, words_of}
use Rattle.gu_text.specs.declared.sheet_line.SheetLine.{SheetLine}
use Rattle.gu_text.specs.declared.sheet_line.SheetLine.TheVariants as line

-- one to twelve digits
abbrev pub is_number : List ℕ → Bool
is_number word = nat_le 1 (length word) && nat_le (length word) 12 && list_all (λ byte. is_digit byte 10) word

-- the whole number in a word
abbrev pub number_of : List ℕ → Option ℕ
number_of word = if is_number word then Some (digits_value 10 word) else None

-- the offer number in a word: 1 to 16,000,000
abbrev pub offer_no_of : List ℕ → Option ℕ
offer_no_of word = option_and_then (λ n. if nat_le 1 n && nat_le n 16000000 then Some n else None) (number_of word)

-- the name in a word
abbrev pub name_of : List ℕ → Option (List ℕ)
name_of word = if is_name word then Some word else None

-- the key with this kind and this name
abbrev pub key_said : List ℕ → List ℕ → Option LimitKey
key_said kind word = option_and_then (key_of kind) (name_of word)

-- `SHEET group version`
abbrev pub sheet_said : List (List ℕ) → Option SheetLine
sheet_said (group ∷ version ∷ []) =
    option_and_then
    (λ name. option_map (λ n. line.Sheet (record { group = record { name = name }; version = n })) (number_of version))
    (name_of group)
sheet_said _ = None

-- the guarantor of an offer's carrying firm: none if there is no further word
abbrev pub guarantor_said : List (List ℕ) → Option (Option FirmId)
guarantor_said [] = Some None
guarantor_said (firm ∷ []) = option_map (λ name. Some (record { name = name })) (name_of firm)
guarantor_said _ = None

-- the path of an offer: executing firm, agreement, account, carrying firm, and its guarantor if it has one
abbrev pub path_said : List ℕ → List (List ℕ) → Option (List LimitKey)
path_said agreement (executing ∷ account ∷ carrying ∷ rest) =
    if is_name executing && is_name account && is_name carrying
    then option_map
    (path_through (record { name = executing }) (record { name = agreement }) (record { name = account }) (record { name = carrying }))
    (guarantor_said rest)
    else None
path_said agreement _ = None

-- `OFFER number lots agreement`, and the rest of the path
abbrev pub offer_said : List (List ℕ) → Option SheetLine
offer_said (number ∷ lots ∷ agreement ∷ path) =
    option_and_then
    (λ n. option_and_then
    (λ l. option_and_then
    (λ a. option_map
    (λ keys. line.Offer (record { number = n; lots = l; agreement = record { name = a }; path = keys }))
    (path_said a path))
    (name_of agreement))
    (number_of lots))
    (offer_no_of number)
offer_said _ = None

-- `ROOM KIND name lots`
abbrev pub room_said : List (List ℕ) → Option SheetLine
room_said (kind ∷ name ∷ lots ∷ []) =
    option_and_then (λ k. option_map (λ l. line.Room (record { key = k; lots = l })) (number_of lots)) (key_said kind name)
room_said _ = None

-- `TAKE number lots`
abbrev pub take_said : List (List ℕ) → Option SheetLine
take_said (number ∷ lots ∷ []) =
    option_and_then (λ n. option_map (λ l. line.Take (record { offer = n; lots = l })) (number_of lots)) (offer_no_of number)
take_said _ = None

-- `CUT KIND name` and `CUT OFFER number`
abbrev pub cut_said : List (List ℕ) → Option SheetLine
cut_said (kind ∷ member ∷ []) =
    if bytes_eq kind (codes "OFFER") then option_map line.CutOffer (offer_no_of member)
    else option_map line.CutKey (key_said kind member)
cut_said _ = None

-- `END`
abbrev pub end_said : List (List ℕ) → Option SheetLine
end_said [] = Some line.End
end_said _ = None

-- the content of a line with this first word and these words after it
abbrev pub words_say : List ℕ → List (List ℕ) → Option SheetLine
words_say kind words =
    if bytes_eq kind (codes "SHEET") then sheet_said words
    else if bytes_eq kind (codes "OFFER") then offer_said words
    else if bytes_eq kind (codes "ROOM") then room_said words
    else if bytes_eq kind (codes "TAKE") then take_said words
    else if bytes_eq kind (codes "CUT") then cut_said words
    else if bytes_eq kind (codes "END") then end_said words
    else None

-- the content of words
abbrev pub said_by : List (List ℕ) → Option SheetLine
said_by [] = None
said_by (kind ∷ words) = words_say kind words

-- the content of a line of words: it has at most 1,024 bytes, and no space at either end
abbrev pub spoken : List ℕ → Option SheetLine
spoken line = if nat_lt longest_line (length line) || is_ragged line then None else said_by (words_of line)

-- the content of a line; none if it is silent
abbrev pub says : List ℕ → Option SheetLine
says line = if is_silent line then None else spoken line
