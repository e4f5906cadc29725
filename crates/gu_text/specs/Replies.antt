-- Replies to commands as lines.
use Rattle.std.specs.Prelude.{ℕ, ◌+◌, ◌-◌, List, [], ◌∷◌, codes, if◌then◌else◌}
use Rattle.std.specs.Fmt.{decimal}
use Rattle.std.specs.Option.{option_map_or}
use Rattle.gu_terms.specs.LimitKeys.{kind_of, name_of_key}
use Rattle.gu_terms.specs.Refusals.{key_in, name_of, number_of}
use Rattle.gu_terms.specs.declared.limit_key.LimitKey.{LimitKey}
use Rattle.gu_terms.specs.declared.refusal.Refusal.{Refusal}
use Rattle.gu_terms.specs.declared.reply.Done.{Done}
use Rattle.gu_terms.specs.declared.reply.Done.TheVariants.{Opened, LimitSet, Reported, Offered, Claimed, Refused, Reversed}
use Rattle.gu_terms.specs.declared.reply.Reply.{Reply}
use Rattle.gu_terms.specs.declared.reply.Reply.TheVariants.{Accepted, Denied}
use Rattle.gu_text.specs.Texts.{line_of}

-- a key in two words: its kind and its name
abbrev pub key_words : LimitKey → List (List ℕ)
key_words key = kind_of key ∷ name_of_key key ∷ []

-- the effect of an accepted command: whether a report matched, the first and the last offer of a give-up, or the lots claimed, refused or
-- moved back
abbrev pub done_words : Done → List (List ℕ)
done_words Opened = []
done_words LimitSet = []
done_words (Reported matched) = (if matched then codes "MATCHED" else codes "OPEN") ∷ []
done_words (Offered group first count) = codes "OFFERS" ∷ decimal first ∷ decimal (first + count - 1) ∷ []
done_words (Claimed lots) = codes "LOTS" ∷ decimal lots ∷ []
done_words (Refused lots) = codes "LOTS" ∷ decimal lots ∷ []
done_words (Reversed lots) = codes "LOTS" ∷ decimal lots ∷ []

-- the reason that a command was refused: the refusal's number, its name and the key that it names, if it names one
abbrev pub refusal_words : Refusal → List (List ℕ)
refusal_words refusal = decimal (number_of refusal) ∷ name_of refusal ∷ option_map_or key_words (key_in refusal) []

-- the words of a reply: `OK` and the effect, or `NO` and the reason
abbrev pub reply_words : Reply → List (List ℕ)
reply_words (Accepted done) = codes "OK" ∷ done_words done
reply_words (Denied refusal) = codes "NO" ∷ refusal_words refusal

-- an entry's number, followed by the reply to its command
abbrev pub reply_text : ℕ → Reply → List ℕ
reply_text number reply = line_of (decimal number ∷ reply_words reply)
