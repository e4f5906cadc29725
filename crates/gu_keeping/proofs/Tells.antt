-- Rows of words that say script lines, one after another.
use Rattle.gu_keeping.proofs.Words.{◌≤◌, ◌++◌, ◌∷◌, [], ℕ, zero, suc, List, ◌⊎◌, inl, inr, IsTrue, length, map, take, arith, AllByRecursion, AreWords, joined, Line}
use Rattle.gu_text.specs.Lines.{is_silent}
use Rattle.gu_text.specs.WrittenCommands.{IsScriptLineOf, IsSilentLineOf}
use Rattle.gu_script.specs.Replaying.{SayAll}

-- each row is a silent line, or says the next of these
abbrev pub Tell : List (List (List ℕ)) → List Line → Type 0
Tell [] [] = Unit {0}
Tell [] (said ∷ others) = ⊥
Tell (row ∷ rows) [] = IsSilentLineOf row × Tell rows []
Tell (row ∷ rows) (said ∷ others) = (IsSilentLineOf row × Tell rows (said ∷ others)) ⊎ (IsScriptLineOf row said × Tell rows others)

-- such rows are lines
pub tell_are_words : (rows : List (List (List ℕ))) (said : List Line) → Tell rows said → AllByRecursion AreWords rows
tell_are_words [] [] all = tt
tell_are_words [] (said ∷ others) all = absurd all
tell_are_words (row ∷ rows) [] all = (all.0.are, tell_are_words rows [] all.1)
tell_are_words (row ∷ rows) (said ∷ others) (inl (silent, all)) = (silent.are, tell_are_words rows (said ∷ others) all)
tell_are_words (row ∷ rows) (said ∷ others) (inr (says, all)) = (says.are, tell_are_words rows others all)

-- and they say that
pub tell_say : (rows : List (List (List ℕ))) (said : List Line) → Tell rows said → SayAll (map joined rows) said
tell_say [] [] all = tt
tell_say [] (said ∷ others) all = all
tell_say (row ∷ rows) [] all = (all.0.silent, tell_say rows [] all.1)
tell_say (row ∷ rows) (said ∷ others) (inl (silent, all)) = inl (silent.silent, tell_say rows (said ∷ others) all)
tell_say (row ∷ rows) (said ∷ others) (inr (says, all)) = inr (says.says, tell_say rows others all)

-- silent rows before others
pub silent_first : (rows more : List (List (List ℕ))) (said : List Line) → AllByRecursion IsSilentLineOf rows → Tell more said → Tell (rows ++ more) said
silent_first [] more said all later = later
silent_first (row ∷ rows) more [] all later = (all.0, silent_first rows more [] all.1 later)
silent_first (row ∷ rows) more (said ∷ others) all later = inl (all.0, silent_first rows more (said ∷ others) all.1 later)

-- rows after others
pub tell-append : (rows more : List (List (List ℕ))) (said later : List Line) → Tell rows said → Tell more later → Tell (rows ++ more) (said ++ later)
tell-append [] more [] later all next = next
tell-append [] more (said ∷ others) later all next = absurd all
tell-append (row ∷ rows) more [] later all next = silent_first (row ∷ []) (rows ++ more) later (all.0, tt) (tell-append rows more [] later all.1 next)
tell-append (row ∷ rows) more (said ∷ others) later (inl (silent, all)) next = inl (silent, tell-append rows more (said ∷ others) later all next)
tell-append (row ∷ rows) more (said ∷ others) later (inr (says, all)) next = inr (says, tell-append rows more others later all next)

-- the first rows say the first of that
pub record TellFirst (rows : List (List (List ℕ))) (said : List Line) (n : ℕ) : Type 0 where
  pub count : ℕ
  pub within : count ≤ length said
  pub tell : Tell (take n rows) (take count said)

none_first : (rows : List (List (List ℕ))) (said : List Line) → TellFirst rows said 0
none_first rows said = record { count = 0; within = omega arith; tell = tt }

none_more : (said : List Line) (n : ℕ) → TellFirst [] said (suc n)
none_more said n = record { count = 0; within = omega arith; tell = tt }

silent_more : (row : List (List ℕ)) (rows : List (List (List ℕ))) (said : List Line) (n : ℕ) → IsSilentLineOf row → TellFirst rows said n → TellFirst (row ∷ rows) said (suc n)
silent_more row rows said n silent first = record {
  count = first.count;
  within = first.within;
  tell = silent_first (row ∷ []) (take n rows) (take first.count said) (silent, tt) first.tell;
}

says_more : (row : List (List ℕ)) (rows : List (List (List ℕ))) (said : Line) (others : List Line) (n : ℕ) → IsScriptLineOf row said → TellFirst rows others n → TellFirst (row ∷ rows) (said ∷ others) (suc n)
says_more row rows said others n says first = record {
  count = suc first.count;
  within = omega (arith, first.within);
  tell = inr (says, first.tell);
}

pub tell-take : (n : ℕ) (rows : List (List (List ℕ))) (said : List Line) → Tell rows said → TellFirst rows said n
tell-take zero rows said all = none_first rows said
tell-take (suc n) [] said all = none_more said n
tell-take (suc n) (row ∷ rows) [] all = silent_more row rows [] n all.0 (tell-take n rows [] all.1)
tell-take (suc n) (row ∷ rows) (said ∷ others) (inl (silent, all)) = silent_more row rows (said ∷ others) n silent (tell-take n rows (said ∷ others) all)
tell-take (suc n) (row ∷ rows) (said ∷ others) (inr (says, all)) = says_more row rows said others n says (tell-take n rows others all)

-- lines after others say that after that
silent_text : (text : List ℕ) (texts : List (List ℕ)) (said : List Line) → IsTrue (is_silent text) → SayAll texts said → SayAll (text ∷ texts) said
silent_text text texts [] silent all = (silent, all)
silent_text text texts (said ∷ others) silent all = inl (silent, all)

pub say-append : (texts more : List (List ℕ)) (said later : List Line) → SayAll texts said → SayAll more later → SayAll (texts ++ more) (said ++ later)
say-append [] more [] later all next = next
say-append [] more (said ∷ others) later all next = absurd all
say-append (text ∷ texts) more [] later all next = silent_text text (texts ++ more) later all.0 (say-append texts more [] later all.1 next)
say-append (text ∷ texts) more (said ∷ others) later (inl (silent, all)) next = inl (silent, say-append texts more (said ∷ others) later all next)
say-append (text ∷ texts) more (said ∷ others) later (inr (says, all)) next = inr (says, say-append texts more others later all next)
