-- Each committed sweep of a legal history prints a right sheet.
use Rattle.gu_script.proofs.Words.{◌≡◌, ℕ, zero, suc, ◌<◌, List, [], ◌∷◌, take, slice_get, sym, ◌∙◌, subst, arith, refl, length-take, take-take, Entry, Swept, group_view}
use Rattle.std.proofs.lemmas.Option.{slice_get_within}
use Rattle.gu_ref.specs.Rules.{IsSound}
use Rattle.gu_ref.specs.Tables.{Tables}
use Rattle.gu_view.proofs.Checked.{ok_from_right}
use Rattle.gu_rules.specs.Legal.{IsLegal, MayFollow}
use Rattle.gu_script.specs.CommittedSheets.{PrintRightSheets}
use Rattle.gu_text.specs.WrittenSheets.{cut_of, takes_of}
use Rattle.gu_script.proofs.GroupViews.{few_touches, is_view, named, nested}
use Rattle.gu_text.proofs.SheetAgain.{written_sheet}
use Rattle.gu_text.proofs.Writable.{right_writable}
use Rattle.gu_text.proofs.WrittenTakes.{right_again, same_key, same_lots, same_number}

-- ---- the first entries of a history

-- each is at the same index
taken_entry : (history : List Entry) (k j : ℕ) → j < k → slice_get (take k history) j ≡ slice_get history j
taken_entry history zero j less = absurd (omega (arith, less))
taken_entry [] (suc k) j less = refl
taken_entry (entry ∷ history) (suc k) zero less = refl
taken_entry (entry ∷ history) (suc k) (suc j) less = taken_entry history k j (omega (arith, less))

-- they are a legal history
legal_first : (reference : Tables) (history : List Entry) (k : ℕ) → IsLegal reference history → IsLegal reference (take k history)
legal_first reference history k legal = record {
  within = omega (arith, length-take k history, legal.within);
  entered = λ j entry at.
      let within = slice_get_within (take k history) j entry at in
      legal.entered j entry (sym (taken_entry history k j (omega (arith, within, length-take k history))) ∙ at);
  each = λ j entry at.
      let within = slice_get_within (take k history) j entry at in
      let less : j < k = omega (arith, within, length-take k history) in
      subst (λ (before : List Entry). MayFollow reference before entry) (sym (take-take j k history (omega (arith, less)))) (legal.each j entry (sym (taken_entry history k j less) ∙ at));
}

-- ---- the sheet

pub prints_right : (reference : Tables) (history : List Entry) → IsSound reference → IsLegal reference history → PrintRightSheets reference history
prints_right reference history rules legal k sweep at =
    let before = take k history in
    let group = sweep.group in
    let view = group_view reference before group in
    let may = legal.each k (Swept sweep) at in
    let right = may.sweeps.right in
    let first = legal_first reference history k legal in
    let sound = is_view reference before group rules first in
    let writable = right_writable view sweep.takes sweep.cut sweep.lots sound (nested reference before group rules first) (named reference before group rules first may.known)
    (few_touches reference before group rules first) right in
    record {
      sheet = written_sheet view sweep.takes sweep.cut sound writable;
      right = ok_from_right view sound (takes_of view sweep.takes) (cut_of view sweep.cut) sweep.lots (right_again view sweep.takes sweep.cut sweep.lots right);
      lots = λ number. same_lots view sweep.takes number right.takes_known;
      keys = λ key. same_key view sweep.cut key right.keys_known;
      offers = λ number. same_number view sweep.cut number right.offers_known;
    }
