-- Script lines, form by form.
use Rattle.std.proofs.Common.{◌≡◌, ◌≢◌, ◌⊎◌, ◌++◌, ◌∷◌, [], ◌∙◌, ◌↔◌, ℕ, Bool, true, false, cond, List, Option, None, Some, IsTrue, IsSome, IfSome, MatchOption, refl, sym, ap, subst, inl, inr, append_assoc}
use Rattle.std.specs.Prelude.{codes, ℤ}
use Rattle.std.specs.List.{find, AllByRecursion}
use Rattle.std.specs.Option.{option_and_then}
use Rattle.std.specs.Str.{bytes_eq}
use Rattle.std.proofs.lemmas.List.{append-nil}
use Rattle.std.proofs.lemmas.Slice.Eq.{bytes_eq-Decides}
use Rattle.gu_terms.specs.Days.{WritesDay}
use Rattle.gu_terms.specs.LimitKeys.{key_of, keys_named, kind_of, name_of_key}
use Rattle.gu_terms.specs.Lines.{AreLines}
use Rattle.gu_terms.specs.Names.{IsId, is_name}
use Rattle.gu_terms.specs.NumberText.{MeansLots, MeansPrice}
use Rattle.gu_terms.specs.declared.account.AccountId.{AccountId}
use Rattle.gu_terms.specs.declared.command.Command.TheVariants.{ReportSide, SetLimit}
use Rattle.gu_terms.specs.declared.day.Day.{Day}
use Rattle.gu_terms.specs.declared.firm.FirmId.{FirmId}
use Rattle.gu_terms.specs.declared.group.Group.{Group}
use Rattle.gu_terms.specs.declared.limit_key.LimitKey.{LimitKey}
use Rattle.gu_terms.specs.declared.lines.Line.{Line as GiveUpLine}
use Rattle.gu_terms.specs.declared.side.Side.{Side}
use Rattle.gu_terms.specs.declared.symbol.Symbol.{Symbol}
use Rattle.gu_world.specs.declared.step.Step.TheVariants.{Enter}
use Rattle.gu_text.specs.ScriptForms.{ReadsLines, WriteNone, WritesLine, WritesNoLine}
use Rattle.gu_text.specs.Scripts.{WriteLines, Writes, side_word}
use Rattle.gu_text.specs.SheetLines.{key_said, name_of, number_of}
use Rattle.gu_text.specs.declared.script_forms.Form.TheVariants as form
use Rattle.gu_text.specs.declared.script_line.Line.TheVariants as line
use Rattle.gu_text.proofs.OneMeaning.{one_account, one_lots}

found_first : {X : Type 0} (b : Bool) (y x : X) (rest : Option X) → cond b (Some y) rest ≡ Some x → ((b ≡ true) × (y ≡ x)) ⊎ (rest ≡ Some x)
found_first true y x rest h = inl (refl, cc)
found_first false y x rest h = inr h

-- what is found passes the test, and is in the list searched
pub found : {X : Type 0} (p : X → Bool) (P : X → Type 0) (xs : List X) (x : X) → AllByRecursion P xs → find p xs ≡ Some x → (p x ≡ true) × P x
found p P [] x all h = cc
found p P (y ∷ ys) x all h =
    elim (found_first (p y) y x (find p ys) h) [
      | inl here ↦ (subst (λ z. p z ≡ true) here.1 here.0, subst P here.1 all.0)
      | inr later ↦ found p P ys x all.1 later
    ]

named_key : (b : Bool) (kind word : List ℕ) (key : LimitKey) → option_and_then (key_of kind) (cond b (Some word) None) ≡ Some key → (b ≡ true) × (key_of kind word ≡ Some key)
named_key true kind word key h = (refl, h)
named_key false kind word key h = cc

-- a key with a kind and a name has this kind and this name
pub key_found : (kind word : List ℕ) (key : LimitKey) → key_said kind word ≡ Some key → (kind ≡ kind_of key) × (word ≡ name_of_key key) × IsTrue (is_name word)
key_found kind word key h =
    let named = named_key (is_name word) kind word key h in
    let is = found (λ k. bytes_eq (kind_of k) kind) (λ k. word ≡ name_of_key k) (keys_named word) key (refl, (refl, (refl, (refl, (refl, tt))))) named.1 in
    (sym ((bytes_eq-Decides (kind_of key) kind).0 is.0), is.1, named.0)

name_kept : (b : Bool) (word name : List ℕ) → cond b (Some word) None ≡ Some name → (b ≡ true) × (word ≡ name)
name_kept true word name h = (refl, cc)
name_kept false word name h = cc

-- a limit is written
pub limit_found : (words : List (List ℕ)) (group : Group) (group_word kind name text : List ℕ) (key : LimitKey) (lots : ℕ)
    → words ≡ group_word ∷ kind ∷ name ∷ text ∷ [] → Some group.name ≡ name_of group_word → Some key ≡ key_said kind name → Some lots ≡ number_of text
    → Writes (codes "LIMIT" ∷ words) (line.Step (Enter (SetLimit (record { group = group; key = key; lots = lots }))))
limit_found words group group_word kind name text key lots words_are group_is key_is lots_are =
    let is = key_found kind name key (sym key_is) in
    let grouped = name_kept (is_name group_word) group_word group.name (sym group_is) in
    let named : is_name (name_of_key key) ≡ true = ap is_name (sym is.1) ∙ is.2 in
    let is_group : is_name group.name ≡ true = ap is_name (sym grouped.1) ∙ grouped.0 in (
      text,
      ap (λ (ws : List (List ℕ)). codes "LIMIT" ∷ ws) words_are
          ∙ ap (λ (g : List ℕ). codes "LIMIT" ∷ g ∷ kind ∷ name ∷ text ∷ []) grouped.1
          ∙ ap (λ (k : List ℕ). codes "LIMIT" ∷ group.name ∷ k ∷ name ∷ text ∷ []) is.0
          ∙ ap (λ (n : List ℕ). codes "LIMIT" ∷ group.name ∷ kind_of key ∷ n ∷ text ∷ []) is.1,
      rw (is_group, named) refl,
      sym lots_are,
    )

-- a report is written
pub report_found : (words rest behind : List (List ℕ)) (firm_word id_word match_word side_text symbol_word lots_text price_text account_word : List ℕ)
    (firm : FirmId) (id match_id : List ℕ) (side : Side) (symbol : Symbol) (lots : ℕ) (price : ℤ) (account : AccountId)
    → words ≡ firm_word ∷ id_word ∷ match_word ∷ rest → rest ≡ side_text ∷ symbol_word ∷ lots_text ∷ behind → behind ≡ price_text ∷ account_word ∷ []
    → Some firm.name ≡ name_of firm_word → IsId id_word → id ≡ id_word → IsId match_word → match_id ≡ match_word → side_text ≡ side_word side
    → Some symbol.name ≡ name_of symbol_word → MeansLots lots_text lots → MeansPrice price_text price → Some account.name ≡ name_of account_word
    → Writes (codes "REPORT" ∷ words) (line.Step (Enter (ReportSide (record { firm = firm; id = id; match_id = match_id; symbol = symbol; lots = lots; price = price; day = None; side = side; account = account }))))
report_found words rest behind firm_word id_word match_word side_text symbol_word lots_text price_text account_word firm id match_id side symbol lots price account words_are rest_are behind_are firm_is own own_is matching match_is side_is symbol_is means_lots means_price account_is =
    let firmed = name_kept (is_name firm_word) firm_word firm.name (sym firm_is) in
    let traded = name_kept (is_name symbol_word) symbol_word symbol.name (sym symbol_is) in
    let held = name_kept (is_name account_word) account_word account.name (sym account_is) in
    let is_firm : is_name firm.name ≡ true = ap is_name (sym firmed.1) ∙ firmed.0 in
    let is_symbol : is_name symbol.name ≡ true = ap is_name (sym traded.1) ∙ traded.0 in
    let is_account : is_name account.name ≡ true = ap is_name (sym held.1) ∙ held.0 in
    let firm_same : firm_word ≡ firm.name = firmed.1 in
    let symbol_same : symbol_word ≡ symbol.name = traded.1 in
    let account_same : account_word ≡ account.name = held.1 in
    let whole : words ≡ firm.name ∷ id ∷ match_id ∷ side_word side ∷ symbol.name ∷ lots_text ∷ price_text ∷ account.name ∷ [] = cc in (
      lots_text,
      price_text,
      ap (λ (ws : List (List ℕ)). codes "REPORT" ∷ ws) whole,
      rw (is_firm, is_symbol, is_account) refl,
      subst IsId (sym own_is) own,
      subst IsId (sym match_is) matching,
      means_lots,
      means_price,
      refl,
    )

-- a word that isn't a day opens none
pub day_missed : (words : List (List ℕ)) (text : List ℕ) → words ≡ text ∷ [] → ((day : Day) → ¬ WritesDay text day.year day.month day.day) → WriteNone form.Day (codes "DAY" ∷ words)
day_missed words text words_are none it h =
    let same : h.0 ≡ text = let all : codes "DAY" ∷ text ∷ [] ≡ codes "DAY" ∷ h.0 ∷ [] = sym (ap (λ (ws : List (List ℕ)). codes "DAY" ∷ ws) words_are) ∙ h.1 in cc in
    none it.day (subst (λ (t : List ℕ). WritesDay t it.day.year it.day.month it.day.day) same h.2)

-- a word that isn't a number of lots reports none
pub report_missed : (words rest behind : List (List ℕ)) (firm id match_id side symbol text : List ℕ) → words ≡ firm ∷ id ∷ match_id ∷ rest → rest ≡ side ∷ symbol ∷ text ∷ behind
    → ((n : ℕ) → ¬ MeansLots text n) → WriteNone form.Report (codes "REPORT" ∷ words)
report_missed words rest behind firm id match_id side symbol text words_are rest_are none it h =
    let all : codes "REPORT" ∷ firm ∷ id ∷ match_id ∷ side ∷ symbol ∷ text ∷ behind ≡ codes "REPORT" ∷ words = sym (ap (λ (ws : List (List ℕ)). codes "REPORT" ∷ ws) (words_are ∙ ap (λ (ws : List (List ℕ)). firm ∷ id ∷ match_id ∷ ws) rest_are)) in
    let same : h.0 ≡ text = let whole = all ∙ h.2 in cc in
    none it.lots (subst (λ (t : List ℕ). MeansLots t it.lots) same h.6)

-- ---- give-ups

-- such a word ends no line of a give-up
pub pair_missed : (words rest behind : List (List ℕ)) (account text : List ℕ) → words ≡ account ∷ rest → rest ≡ text ∷ behind → ((n : ℕ) → ¬ MeansLots text n) → WritesNoLine words
pair_missed words rest behind account text words_are rest_are none first others h =
    let all : words ≡ account ∷ text ∷ behind = words_are ∙ ap (λ (ws : List (List ℕ)). account ∷ ws) rest_are in
    let written : WriteLines (account ∷ text ∷ behind) (first ∷ others) = subst (λ (ws : List (List ℕ)). WriteLines ws (first ∷ others)) all h in
    none first.lots written.2

-- some words of a give-up are read as these lines, and these words are left
pub record IsReadTo (words : List (List ℕ)) (lines : List GiveUpLine) (rest : List (List ℕ)) : Type 0 where
  pub onward : (more : List GiveUpLine) → WriteLines rest more → WriteLines words (lines ++ more)
  pub back : (all : List GiveUpLine) → WriteLines words all → (more : List GiveUpLine) × (all ≡ lines ++ more) × WriteLines rest more

-- initially no words are read
pub unread : (words : List (List ℕ)) → IsReadTo words [] words
unread words = record { onward = λ more h. h; back = λ all h. (all, refl, h) }

more_onward : (rest behind : List (List ℕ)) (first : GiveUpLine) (more : List GiveUpLine) → WritesLine rest first behind → WriteLines behind more → WriteLines rest (first ∷ more)
more_onward rest behind first more line written = rw (line.words_are) (refl, line.name, line.lots, written)

one_line : (a b : GiveUpLine) → a.account ≡ b.account → a.lots ≡ b.lots → a ≡ b
one_line a b accounts lots = λ i. record { account = accounts i; lots = lots i }

more_back : (behind : List (List ℕ)) (account lots_text : List ℕ) (first : GiveUpLine) (more : List GiveUpLine) → account ≡ first.account.name → MeansLots lots_text first.lots
    → WriteLines (account ∷ lots_text ∷ behind) more → (others : List GiveUpLine) × (more ≡ first ∷ others) × WriteLines behind others
more_back behind account lots_text first [] name lots written = absurd written
more_back behind account lots_text first (next ∷ others) name lots written =
    let same = one_line next first (one_account next.account first.account (sym written.0 ∙ name)) (one_lots lots_text next.lots first.lots written.2 lots) in
    (others, ap (λ (l : GiveUpLine). l ∷ others) same, written.3)

-- one more line is read
pub read_on : (words : List (List ℕ)) (lines : List GiveUpLine) (rest behind : List (List ℕ)) (first : GiveUpLine) → IsReadTo words lines rest → WritesLine rest first behind → IsReadTo words (lines ++ first ∷ []) behind
read_on words lines rest behind first read line = record {
  onward = λ more written. rw append_assoc (read.onward (first ∷ more) (more_onward rest behind first more line written));
  back = λ all written.
      let b = read.back all written in
      let m = more_back behind first.account.name line.lots_text first b.0 refl line.lots (subst (λ (ws : List (List ℕ)). WriteLines ws b.0) line.words_are b.2) in
      (m.0, b.1 ∙ ap (λ (ls : List GiveUpLine). lines ++ ls) m.1 ∙ sym (append_assoc lines (first ∷ []) m.0), m.2);
}

no_more : (more : List GiveUpLine) → WriteLines [] more → more ≡ []
no_more [] h = refl
no_more (first ∷ others) h = absurd h

-- if none are left, the words are those of these lines only
pub lines_whole : (words : List (List ℕ)) (lines : List GiveUpLine) (rest : List (List ℕ)) → IsReadTo words lines rest → rest ≡ [] → (read : Option (List GiveUpLine))
    → MatchOption read (¬ AreLines lines) (λ made. AreLines lines × (made ≡ lines)) → ReadsLines words read
lines_whole words lines rest read none (Some made) is =
    (rw (is.1) is.0, rw (is.1) (subst (λ (ls : List GiveUpLine). WriteLines words ls) (append-nil lines) (read.onward [] (rw none tt))))
lines_whole words lines rest read none None is = λ all are written.
    let b = read.back all written in
    let same : all ≡ lines = b.1 ∙ ap (λ (ls : List GiveUpLine). lines ++ ls) (no_more b.0 (subst (λ (ws : List (List ℕ)). WriteLines ws b.0) none b.2)) ∙ append-nil lines in
    is (subst AreLines same are)

-- lines made from a list, if it isn't too long for a give-up
pub lines_made : (lines : List GiveUpLine) (read : Option (List GiveUpLine)) → IsSome read ↔ AreLines lines → IfSome read (λ made. made ≡ lines) → MatchOption read (¬ AreLines lines) (λ made. AreLines lines × (made ≡ lines))
lines_made lines None sound same = λ are. let e : false ≡ true = sound.1 are in cc
lines_made lines (Some made) sound same = (sound.0 refl, same)

-- no words are left
pub none_left : (b : Bool) (words : List (List ℕ)) → IsTrue b ↔ (words ≢ []) → b ≡ false → words ≡ []
none_left b [] tells h = refl
none_left b (w ∷ ws) tells h = let some : b ≡ true = tells.1 (λ e. cc) in cc
