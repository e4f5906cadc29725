-- The receipts in stored outcomes, after one more outcome and after one more series.
use Rattle.gu_world.proofs.Words.{◌≡◌, ℕ, ◌+◌, ◌<◌, List, [], ◌∷◌, ◌++◌, length, map, take, get_or, Some, sym, ap, ◌∙◌, append-nil, append_assoc, slice_get, option_to_list, map-append, take_more, filter_map-append, get_or_from_slice_get, slice_get_within, Entry, Receipt, outcome_in, receipt_of, receipts_in, all_outcomes, outcomes_of, Outcome, KeptOutcome}
use Rattle.std.proofs.lemmas.List.Concat.{flat_map-append}
use Rattle.gu_terms.proofs.Gathered.{filter_map-last}
use Rattle.gu_world.specs.declared.series.Series.{Series}

-- the receipts in these stored outcomes
abbrev pub receipts_by : List Entry → List KeptOutcome → List Receipt
receipts_by history outcomes = receipts_in (map (outcome_in history) outcomes)

receipts_by-append : (history : List Entry) (some more : List KeptOutcome) → receipts_by history (some ++ more) ≡ receipts_by history some ++ receipts_by history more
receipts_by-append history some more =
    ap receipts_in (map-append (outcome_in history) some more) ∙ filter_map-append receipt_of (map (outcome_in history) some) (map (outcome_in history) more)

-- after one more outcome
receipts_by-more : (history : List Entry) (outcomes : List KeptOutcome) (i : ℕ) (k : KeptOutcome) → slice_get outcomes i ≡ Some k
    → receipts_by history (take (i + 1) outcomes) ≡ receipts_by history (take i outcomes) ++ option_to_list (receipt_of (outcome_in history k))
receipts_by-more history outcomes i k at =
    ap (receipts_by history) (take_more outcomes i k (slice_get_within outcomes i k at) ∙ ap (λ (x : KeptOutcome). take i outcomes ++ x ∷ []) (get_or_from_slice_get outcomes i k k at))
    ∙ ap receipts_in (map-append (outcome_in history) (take i outcomes) (k ∷ []))
    ∙ filter_map-last receipt_of (map (outcome_in history) (take i outcomes)) (outcome_in history k)

-- after one more outcome, following other receipts
pub receipts_after-more : (history : List Entry) (outcomes : List KeptOutcome) (i : ℕ) (k : KeptOutcome) (outcome : Outcome) (others : List Receipt) → slice_get outcomes i ≡ Some k → outcome ≡ outcome_in history k
    → (others ++ receipts_by history (take i outcomes)) ++ option_to_list (receipt_of outcome) ≡ others ++ receipts_by history (take (i + 1) outcomes)
receipts_after-more history outcomes i k outcome others at is =
    append_assoc others (receipts_by history (take i outcomes)) (option_to_list (receipt_of outcome))
    ∙ ap (λ (o : Outcome). others ++ (receipts_by history (take i outcomes) ++ option_to_list (receipt_of o))) is
    ∙ ap (λ (rs : List Receipt). others ++ rs) (sym (receipts_by-more history outcomes i k at))

-- after one more series
pub receipts_by-series : (history : List Entry) (list : List Series) (i : ℕ) (first : Series) → i < length list
    → receipts_by history (all_outcomes (take (i + 1) list)) ≡ receipts_by history (all_outcomes (take i list)) ++ receipts_by history (outcomes_of (get_or list i first))
receipts_by-series history list i first within =
    let here = get_or list i first in
    ap (receipts_by history) (ap all_outcomes (take_more list i first within) ∙ flat_map-append outcomes_of (take i list) (here ∷ []) ∙ ap (λ (ks : List KeptOutcome). all_outcomes (take i list) ++ ks) (append-nil (outcomes_of here)))
    ∙ receipts_by-append history (all_outcomes (take i list)) (outcomes_of here)
