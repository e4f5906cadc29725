-- A batch says its entries, and what a crash leaves of it says the first of them.
use Rattle.gu_keeping.proofs.Words.{◌≡◌, ◌++◌, ◌∷◌, [], ◌∙◌, ℕ, zero, suc, List, Option, None, length, map, take, refl, sym, ap, subst, append-nil, arith, flat_map, lines, Day, Entry, LeavesOpen, joined, line_of, Line, leaves_on, leaves_with, lines-left, Origin, entry_said, open_after, said_after, IsBatchText, digest_row, IsChainOf, chain_after, open_from, Chain}
use Rattle.gu_script.specs.Replaying.{SayAll}
use Rattle.gu_keeping.specs.Days.{ABatchSaysItsEntries, ACrashLeavesFirstEntries, AreWritable, SaysDay}
use Rattle.gu_keeping.proofs.ChainLemmas.{chain_count, chain_long, count_of, long_of, today_of}
use Rattle.gu_keeping.proofs.Cuts.{first_rows, rows_leave}
use Rattle.gu_keeping.proofs.RowWords.{batch_rows_tell}
use Rattle.gu_keeping.proofs.Tells.{Tell, say-append, tell-take, tell_are_words, tell_say}

said_after-append : (today : Option Day) (xs ys : List Entry) → said_after today (xs ++ ys) ≡ said_after today xs ++ said_after (open_from today xs) ys
said_after-append today [] ys = refl
said_after-append today (x ∷ xs) ys = ap (λ (said : List Line). entry_said today x ∷ said) (said_after-append (open_after today x) xs ys)

length-said_after : (today : Option Day) (xs : List Entry) → length (said_after today xs) ≡ length xs
length-said_after today [] = refl
length-said_after today (x ∷ xs) = omega (arith, length-said_after (open_after today x) xs)

take-said_after : (today : Option Day) (n : ℕ) (xs : List Entry) → take n (said_after today xs) ≡ said_after today (take n xs)
take-said_after today zero xs = refl
take-said_after today (suc n) [] = refl
take-said_after today (suc n) (x ∷ xs) = ap (λ (said : List Line). entry_said today x ∷ said) (take-said_after (open_after today x) n xs)

-- rows that say more entries, after a text that records a day
rows_after_day : (before more : List Entry) (today : Option Day) (kept : List ℕ) (rows : List (List (List ℕ))) → SaysDay kept before → today ≡ open_from None before
    → Tell rows (said_after today more) → SaysDay (kept ++ flat_map line_of rows) (before ++ more)
rows_after_day before more today kept rows day open_is tell =
    let text = flat_map line_of rows in
    let leaves : LeavesOpen (kept ++ text) (lines kept ++ map joined rows) [] =
    leaves_on (kept ++ text) text [] (lines kept) (map joined rows) (leaves_with kept text [] (lines kept) day.ended) (rows_leave rows (tell_are_words rows _ tell)) in
    let same : lines (kept ++ text) ≡ lines kept ++ map joined rows = lines-left (kept ++ text) [] (lines kept ++ map joined rows) leaves ∙ append-nil (lines kept ++ map joined rows) in
    let said : said_after None before ++ said_after today more ≡ said_after None (before ++ more) =
    ap (λ (d : Option Day). said_after None before ++ said_after d more) open_is ∙ sym (said_after-append None before more) in
    let all = say-append (lines kept) (map joined rows) (said_after None before) (said_after today more) day.says (tell_say rows _ tell) in
    record {
      ended = subst (λ (ls : List (List ℕ)). LeavesOpen (kept ++ text) ls []) (sym same) leaves;
      says = subst (λ (ls : List (List ℕ)). SayAll ls (said_after None (before ++ more))) (sym same) (subst (SayAll (lines kept ++ map joined rows)) said all);
    }

-- the rows of a batch say its entries
batch_tells : (chain : Chain) (before : List Entry) (origins : List (Option Origin)) (entries : List Entry) (text : List ℕ) → IsChainOf chain before
    → AreWritable before origins entries → (batch : IsBatchText chain origins entries text)
    → Tell (batch.rows ++ digest_row (chain_after chain entries) ∷ []) (said_after chain.today entries)
batch_tells chain before origins entries text of typed batch =
    let last = chain_after chain entries in
    batch_rows_tell chain.today origins entries batch.rows last batch.are typed.origins_are typed.entries_are
    (chain_long chain entries (long_of chain before of))
    (omega (arith, chain_count chain entries, count_of chain before of, typed.few))

pub a_batch_says_its_entries : ABatchSaysItsEntries
a_batch_says_its_entries chain before origins entries kept text of typed day batch =
    let rows = batch.rows ++ digest_row (chain_after chain entries) ∷ [] in
    subst (λ (t : List ℕ). SaysDay (kept ++ t) (before ++ entries)) (sym batch.text_is)
    (rows_after_day before entries chain.today kept rows day (today_of chain before of) (batch_tells chain before origins entries text of typed batch))

pub a_crash_leaves_first_entries : ACrashLeavesFirstEntries
a_crash_leaves_first_entries chain before origins entries kept text of typed day batch outcome begun =
    let today = chain.today in
    let rows = batch.rows ++ digest_row (chain_after chain entries) ∷ [] in
    let tell = batch_tells chain before origins entries text of typed batch in
    let first = first_rows rows begun.lines begun.rest (tell_are_words rows _ tell) begun.whole (sym begun.batch_is ∙ batch.text_is) in
    let told = tell-take first.count rows (said_after today entries) tell in
    let named : Tell (take first.count rows) (said_after today (take told.count entries)) =
    subst (Tell (take first.count rows)) (take-said_after today told.count entries) told.tell in
    record {
      lines_more = begun.lines;
      count = told.count;
      found = begun.outcome_is;
      within = omega (arith, told.within, length-said_after today entries);
      says = subst (λ (t : List ℕ). SaysDay (kept ++ t) (before ++ take told.count entries)) (sym first.begun_is)
          (rows_after_day before (take told.count entries) today kept (take first.count rows) day (today_of chain before of) named);
    }
