-- Reading back what was written.
use Rattle.std.specs.Prelude.{◌≡◌, ℕ, ◌<◌, ◌≤◌, ◌^◌, ◌||◌, ◌==◌, ◌++◌, Bool, false, not, List, [], ◌∷◌, Some, All, IsTrue, filter, length, map}
use Rattle.std.specs.List.{AllPass, flat_map, list_all}
use Rattle.std.specs.Str.Lines.{lines}
use Rattle.gu_terms.specs.Cuts.{CutLists, has_number}
use Rattle.gu_terms.specs.LimitKeys.{has_key, name_of_key}
use Rattle.gu_terms.specs.Names.{is_name}
use Rattle.gu_terms.specs.Numbers.{IsOfferNo}
use Rattle.gu_terms.specs.Takes.{lots_of}
use Rattle.gu_terms.specs.declared.takes.Take.{Take}
use Rattle.gu_view.specs.View.{GroupView, IsPath}
use Rattle.gu_text.specs.SheetLines.{says}
use Rattle.gu_text.specs.SheetText.{sheet_text}
use Rattle.gu_text.specs.Sheets.{said_in}
use Rattle.gu_text.specs.Texts.{word, line_of}
use Rattle.gu_text.specs.Words.{is_ragged, words_of}
use Rattle.gu_text.specs.declared.sheet_line.SheetLine.{SheetLine}
use Rattle.gu_text.specs.declared.sheet_line.SheetLine.TheVariants as line

-- a byte that may be in a word: not a space, LF or CR
abbrev pub is_word_byte : ℕ → Bool
is_word_byte b = not (b == 32 || b == 10 || b == 13)

-- one or more such bytes
pub record IsWord (bytes : List ℕ) : Type 0 where
  pub some : 1 ≤ length bytes
  pub each : AllPass is_word_byte bytes

-- one or more words
pub record AreWords (words : List (List ℕ)) : Type 0 where
  pub some : 1 ≤ length words
  pub each : All IsWord words

-- a line without its LF: words separated by single spaces
abbrev pub joined : List (List ℕ) → List ℕ
joined [] = []
joined (last ∷ []) = last
joined (first ∷ next ∷ others) = word first ++ joined (next ∷ others)

-- a line made of these words is read as these words, and has no space at either end
pub record IsReadBack (words : List (List ℕ)) : Type 0 where
  pub words_are : words_of (joined words) ≡ words
  pub even : is_ragged (joined words) ≡ false

-- these words make a line, which has this content in a sheet
pub record IsLineOf (words : List (List ℕ)) (said : SheetLine) : Type 0 where
  pub are : AreWords words
  pub says_it : says (joined words) ≡ Some said

-- a text written line by line, each line of some words, has these lines
abbrev pub HasLines : List (List (List ℕ)) → Type 0
HasLines rows = lines (flat_map line_of rows) ≡ map joined rows

-- names are valid, paths are paths, and numbers have at most twelve digits
pub record IsWritable (view : GroupView) (takes : List Take) : Type 0 where
  pub group : IsTrue (is_name view.group.name)
  pub version : view.version < 10 ^ 12
  pub numbers : All (λ o. IsOfferNo o.number) view.offers
  pub lots : All (λ o. o.lots < 10 ^ 12) view.offers
  pub paths : All IsPath view.offers
  pub names : All (λ o. IsTrue (list_all (λ k. is_name (name_of_key k)) o.path)) view.offers
  pub keys : All (λ r. IsTrue (is_name (name_of_key r.key))) view.rooms
  pub rooms : All (λ r. r.lots < 10 ^ 12) view.rooms
  pub taken : (number : ℕ) → lots_of takes number < 10 ^ 12

-- the content of a sheet: its head, its offers, its rooms, a take for each offer, the keys and the offers of its cut, and the end
abbrev pub said_of : GroupView → List Take → CutLists → List SheetLine
said_of view takes cut =
    line.Sheet (record { group = view.group; version = view.version }) ∷ []
    ++ map line.Offer view.offers
    ++ map line.Room view.rooms
    ++ map (λ o. line.Take (record { offer = o.number; lots = lots_of takes o.number })) view.offers
    ++ map (λ r. line.CutKey r.key) (filter (λ r. has_key cut.keys r.key) view.rooms)
    ++ map (λ o. line.CutOffer o.number) (filter (λ o. has_number cut.offers o.number) view.offers)
    ++ line.End ∷ []

-- the lines of a written sheet have that content
abbrev pub IsReadAsWritten : GroupView → List Take → CutLists → Type 0
IsReadAsWritten view takes cut = said_in (lines (sheet_text view takes cut)) ≡ said_of view takes cut
