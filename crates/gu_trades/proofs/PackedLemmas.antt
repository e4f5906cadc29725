-- Stored reports are unchanged by texts added after theirs.
use Rattle.std.proofs.Common.{◌≡◌, ℕ, suc, ◌+◌, ◌≤◌, List, [], ◌∷◌, ◌++◌, All, length, map, take, drop, arith, refl, ap, subst, ◌∙◌, get_or, sym}
use Rattle.std.proofs.lemmas.List.{append-nil, append_assoc, drop-append-le, length-append, length-drop, map-append, take-append-le}
use Rattle.std.proofs.lemmas.List.Elements.{All-push}
use Rattle.std.proofs.Math.Seq.{drop-append_seam, take-append_seam}
use Rattle.gu_terms.specs.PackedEntries.{text_at}
use Rattle.gu_terms.specs.declared.report.Report.{Report}
use Rattle.gu_trades.specs.PackedReports.{HasIdsAndNames, IsWithin, kept_at, report_of_kept, texts_of}
use Rattle.gu_trades.specs.declared.packed.Packed.{Packed}

-- bytes within the texts are unchanged, whatever follows
text_at-front : (texts more : List ℕ) (at len : ℕ) → at + len ≤ length texts → text_at (texts ++ more) at len ≡ text_at texts at len
text_at-front texts more at len within =
    ap (take len) (drop-append-le at texts more (omega (arith, within)))
    ∙ take-append-le len (drop at texts) more (omega (arith, length-drop at texts, within))

-- so are reports
report-front : (texts more : List ℕ) (k : Packed) → k.at + k.own + k.matched + k.firm + k.symbol + k.account ≤ length texts
    → report_of_kept (texts ++ more) k ≡ report_of_kept texts k
report-front texts more k h =
    let own = text_at-front texts more k.at k.own (omega (arith, h)) in
    let matched = text_at-front texts more (k.at + k.own) k.matched (omega (arith, h)) in
    let firm = text_at-front texts more (k.at + k.own + k.matched) k.firm (omega (arith, h)) in
    let symbol = text_at-front texts more (k.at + k.own + k.matched + k.firm) k.symbol (omega (arith, h)) in
    let account = text_at-front texts more (k.at + k.own + k.matched + k.firm + k.symbol) k.account (omega (arith, h)) in
    rw (own, matched, firm, symbol, account) refl

within-front : (texts more : List ℕ) (kept : Packed) → IsWithin texts kept → IsWithin (texts ++ more) kept
within-front texts more kept h = record {
  within = omega (arith, length-append texts more, h.within);
  sound = subst HasIdsAndNames (sym (report-front texts more kept h.within)) h.sound;
}

map-front : (texts more : List ℕ) (rows : List Packed) → All (IsWithin texts) rows → map (report_of_kept (texts ++ more)) rows ≡ map (report_of_kept texts) rows
map-front texts more [] h = refl
map-front texts more (k ∷ ks) h =
    ap (λ r. r ∷ map (report_of_kept (texts ++ more)) ks) (report-front texts more k (h 0 k (omega arith)).within)
    ∙ ap (λ rs. report_of_kept texts k ∷ rs) (map-front texts more ks (λ i d within. h (suc i) d (omega arith)))

-- a text after others is found at its position
text_at-new : (before text more all : List ℕ) (at : ℕ) → all ≡ before ++ (text ++ more) → at ≡ length before → text_at all at (length text) ≡ text
text_at-new before text more all at is there = rw (is, there, drop-append_seam before (text ++ more), take-append_seam text more) refl

-- so is a report
report-new : (texts : List ℕ) (r : Report) → report_of_kept (texts ++ texts_of r) (kept_at (length texts) r) ≡ r
report-new texts r =
    let all : List ℕ = texts ++ texts_of r in
    let at : ℕ = length texts in
    let own : text_at all at (length r.id) ≡ r.id =
    text_at-new texts r.id (r.match_id ++ (r.firm.name ++ (r.symbol.name ++ r.account.name))) all at refl refl in
    let matched : text_at all (at + length r.id) (length r.match_id) ≡ r.match_id =
    text_at-new (texts ++ r.id) r.match_id (r.firm.name ++ (r.symbol.name ++ r.account.name)) all (at + length r.id) (simp append_assoc) (simp length-append) in
    let firm : text_at all (at + length r.id + length r.match_id) (length r.firm.name) ≡ r.firm.name =
    text_at-new ((texts ++ r.id) ++ r.match_id) r.firm.name (r.symbol.name ++ r.account.name) all (at + length r.id + length r.match_id)
    (simp append_assoc) (simp length-append) in
    let symbol : text_at all (at + length r.id + length r.match_id + length r.firm.name) (length r.symbol.name) ≡ r.symbol.name =
    text_at-new (((texts ++ r.id) ++ r.match_id) ++ r.firm.name) r.symbol.name r.account.name all (at + length r.id + length r.match_id + length r.firm.name)
    (simp append_assoc) (simp length-append) in
    let account : text_at all (at + length r.id + length r.match_id + length r.firm.name + length r.symbol.name) (length r.account.name) ≡ r.account.name =
    text_at-new ((((texts ++ r.id) ++ r.match_id) ++ r.firm.name) ++ r.symbol.name) r.account.name [] all
    (at + length r.id + length r.match_id + length r.firm.name + length r.symbol.name)
    (simp (append_assoc, append-nil)) (simp length-append) in
    rw (own, matched, firm, symbol, account) refl

-- one more report, whose texts follow the others
module _ (texts later : List ℕ) (rows more : List Packed) (at : ℕ) (r : Report) (h : All (IsWithin texts) rows) (sound : HasIdsAndNames r)
    (there : at ≡ length texts) (longer : later ≡ texts ++ texts_of r) (one : more ≡ rows ++ kept_at at r ∷ []) where
  new : IsWithin (texts ++ texts_of r) (kept_at (length texts) r)
  new = record {
    within =
        omega (
          arith,
          length-append texts (texts_of r),
          length-append r.id (r.match_id ++ (r.firm.name ++ (r.symbol.name ++ r.account.name))),
          length-append r.match_id (r.firm.name ++ (r.symbol.name ++ r.account.name)),
          length-append r.firm.name (r.symbol.name ++ r.account.name),
          length-append r.symbol.name r.account.name,
        );
    sound = subst HasIdsAndNames (sym (report-new texts r)) sound;
  }

  pub within_more : All (IsWithin later) more
  within_more =
      rw (longer, one, there) (All-push (IsWithin (texts ++ texts_of r)) rows (kept_at (length texts) r)
      (λ i d inside. within-front texts (texts_of r) (get_or rows i d) (h i d inside)) new)

  pub reports_more : map (report_of_kept later) more ≡ map (report_of_kept texts) rows ++ r ∷ []
  reports_more =
      rw (longer, one, there) (map-append (report_of_kept (texts ++ texts_of r)) rows (kept_at (length texts) r ∷ [])
      ∙ (λ i. map-front texts (texts_of r) rows h i ++ report-new texts r i ∷ []))
