-- The lots of a give-up's lines.
use Rattle.gu_msgs.proofs.Words.{◌≡◌, List, [], ◌∷◌, map, sum, length, refl, filter_map, sum-map, lots_in_all, MeansLots, Line, TagValue, AreLots, HasQuantities, entries_of, AreAllocs, Holds, first_value, ALLOC_QTY, NO_ALLOCS, QUANTITY}
use Rattle.gu_terms.specs.declared.lots.Lots.{Lots}
use Rattle.gu_msgs.specs.declared.msg_type.MsgType.TheVariants as kind

-- there are as many lines as entries
pub length-allocs : (entries : List (List TagValue)) (lines : List Line) → AreAllocs entries lines → length entries ≡ length lines
length-allocs [] [] are = refl
length-allocs (entry ∷ entries) (line ∷ lines) are = let same = length-allocs entries lines are.1 in cc
length-allocs [] (line ∷ lines) are = absurd are
length-allocs (entry ∷ entries) [] are = absurd are

-- the texts in entries are the lots of the lines in them
lots_of_allocs : (entries : List (List TagValue)) (lines : List Line) → AreAllocs entries lines
    → AreLots (filter_map (first_value ALLOC_QTY) entries) (map (λ (l : Line). l.lots) lines)
lots_of_allocs [] [] are = tt
lots_of_allocs (entry ∷ entries) (line ∷ lines) are = rw are.0.lots.first (are.0.lots.such, lots_of_allocs entries lines are.1)
lots_of_allocs [] (line ∷ lines) are = absurd are
lots_of_allocs (entry ∷ entries) [] are = absurd are

-- the quantities of a give-up with these lines
pub quantities : (fields : List TagValue) (whole : Lots) (lines : List Line) → Holds QUANTITY (λ text. MeansLots text whole) fields
    → AreAllocs (entries_of kind.AllocationInstruction NO_ALLOCS fields) lines → HasQuantities fields whole (map (λ (l : Line). l.lots) lines)
quantities fields whole lines quantity are = record {
  quantity = quantity;
  allocs = lots_of_allocs (entries_of kind.AllocationInstruction NO_ALLOCS fields) lines are;
}

-- the lots of all lines
pub sum_of_lines : (lines : List Line) → sum (map (λ (l : Line). l.lots) lines) ≡ lots_in_all lines
sum_of_lines lines = sum-map (λ (l : Line). l.lots) lines
