-- A batch of a day's text: the lines of entries, each after a comment that says who made it and when, and a final comment with the digest.
use Rattle.std.specs.Prelude.{◌≡◌, ℕ, List, [], ◌∷◌, ◌++◌, codes, Option, Some, None}
use Rattle.std.specs.Fmt.{decimal}
use Rattle.std.specs.List.{flat_map}
use Rattle.hex.specs.Hex.{encode_lower}
use Rattle.gu_terms.specs.declared.day.Day.{Day}
use Rattle.gu_terms.specs.declared.entry.Entry.{Entry}
use Rattle.gu_msgs.specs.MomentTexts.{WritesMoment}
use Rattle.gu_text.specs.Texts.{line_of}
use Rattle.gu_desk.specs.declared.origin.FirmMessage.{FirmMessage}
use Rattle.gu_desk.specs.declared.origin.Origin.{Origin}
use Rattle.gu_script.specs.Journals.{entry_rows, open_after}
use Rattle.gu_keeping.specs.Chains.{chain_after}
use Rattle.gu_keeping.specs.declared.chain.Chain.{Chain}

-- a firm's message in words: the firm, its connection and the message's number
abbrev pub message_words : Option FirmMessage → List (List ℕ)
message_words None = []
message_words (Some message) = message.firm.name ∷ decimal message.connection ∷ decimal message.number ∷ []

-- a comment, as words, that says when an entry was made, and by which message of a firm, if any
pub record IsOriginRow (origin : Origin) (row : List (List ℕ)) : Type 0 where
  pub stamp : List ℕ
  pub writes : WritesMoment origin.moment stamp
  pub row_is : row ≡ codes "#" ∷ stamp ∷ message_words origin.message

-- the comment before an entry's lines; none if its origin isn't known
abbrev pub AreOriginRows : Option Origin → List (List (List ℕ)) → Type 0
AreOriginRows None rows = rows ≡ []
AreOriginRows (Some origin) rows = (row : List (List ℕ)) × IsOriginRow origin row × (rows ≡ row ∷ [])

-- the lines of an entry after its comment, as words, given the day that is open before it
pub record AreEntryRows (today : Option Day) (origin : Option Origin) (entry : Entry) (rows : List (List (List ℕ))) : Type 0 where
  pub comments : List (List (List ℕ))
  pub says : AreOriginRows origin comments
  pub rows_are : rows ≡ comments ++ entry_rows today entry

-- the lines of entries, each entry's after its comment, given the day that is open before them
abbrev pub AreRows : Option Day → List (Option Origin) → List Entry → List (List (List ℕ)) → Type 0
AreRows today [] [] rows = rows ≡ []
AreRows today (origin ∷ origins) (entry ∷ entries) rows =
    (first : List (List (List ℕ))) × (others : List (List (List ℕ)))
    × AreEntryRows today origin entry first × AreRows (open_after today entry) origins entries others × (rows ≡ first ++ others)
AreRows today origins entries rows = ⊥

-- the comment with a digest: the number of entries, and the digest of what they show, batch by batch
abbrev pub digest_row : Chain → List (List ℕ)
digest_row chain = codes "#" ∷ decimal chain.count ∷ encode_lower chain.digest ∷ []

-- a batch of these entries, following those of a chain
pub record IsBatchText (chain : Chain) (origins : List (Option Origin)) (entries : List Entry) (text : List ℕ) : Type 0 where
  pub rows : List (List (List ℕ))
  pub are : AreRows chain.today origins entries rows
  pub text_is : text ≡ flat_map line_of (rows ++ digest_row (chain_after chain entries) ∷ [])
