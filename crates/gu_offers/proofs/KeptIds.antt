-- Stored offers: the ids of their reports stay at their positions, whatever is added after them.
use Rattle.gu_offers.proofs.Words.{◌≡◌, ◌∙◌, sym, refl, ap, subst, ℕ, suc, ◌+◌, ◌<◌, ◌≤◌, List, [], ◌∷◌, ◌++◌, All, length, map, set, take, drop, get_or, arith, slice_get, Option, Some, None, option_map, option_map_or, drop-append-le, length-drop, length-map, map-append, map-set, take-append-le, take_all, All-append, All-map, All-set, slice_get-get_or, slice_get-map, Line, GivenUp, IsWithin, forgotten, given_for, given_in, kept_for, report_in, row_of, without_today, IsWritten, Row, left_of, Offer}
use Rattle.std.proofs.lemmas.List.{length-append}
use Rattle.std.proofs.Math.Seq.{drop-append_seam, take-append_seam}
use Rattle.gu_terms.specs.Names.{IsId}
use Rattle.gu_offers.specs.declared.given.Given.{Given}
use Rattle.gu_offers.specs.declared.given.Shared.{Shared}
use Rattle.gu_offers.specs.declared.open_offer.OpenOffer.{OpenOffer}

module _ (ids more : List ℕ) (g : Given) (within : g.at + g.len ≤ length ids) where
  -- the id of a report is unchanged
  report-front : report_in (ids ++ more) g ≡ report_in ids g
  report-front =
      ap (take g.len) (drop-append-le g.at ids more (omega (arith, within)))
      ∙ take-append-le g.len (drop g.at ids) more (omega (arith, length-drop g.at ids, within))

  -- so is the offer
  given-front : given_in (ids ++ more) g ≡ given_in ids g
  given-front = rw report-front refl

IsWithin-front : (ids more : List ℕ) (g : Given) → IsWithin ids g → IsWithin (ids ++ more) g
IsWithin-front ids more g h = record {
  within = omega (arith, length-append ids more, h.within);
  id = subst IsId (sym (report-front ids more g h.within)) h.id;
}

map-front : (ids more : List ℕ) (list : List Given) → All (IsWithin ids) list → map (given_in (ids ++ more)) list ≡ map (given_in ids) list
map-front ids more [] h = refl
map-front ids more (g ∷ gs) h =
    ap (λ e. e ∷ map (given_in (ids ++ more)) gs) (given-front ids more g (h 0 g (omega arith)).within)
    ∙ ap (λ es. given_in ids g ∷ es) (map-front ids more gs (λ i d inside. h (suc i) d (omega arith)))

-- the lines of a give-up, whose id follows the others
module _ (ids id : List ℕ) (shared : Shared) (at : shared.at ≡ length ids) (len : shared.len ≡ length id) where
  found : (line : Line) → report_in (ids ++ id) (kept_for shared line) ≡ id
  found line = rw (at, len) (rw (drop-append_seam ids id) (take_all (length id) id (omega arith)))

  offered : (lines : List Line) → map (given_in (ids ++ id)) (map (kept_for shared) lines) ≡ map (given_for shared.firm id shared.group) lines
  offered [] = refl
  offered (line ∷ lines) =
      ap (λ (report : List ℕ). given_for shared.firm report shared.group line ∷ map (given_in (ids ++ id)) (map (kept_for shared) lines)) (found line)
      ∙ ap (λ es. given_for shared.firm id shared.group line ∷ es) (offered lines)

  within : IsId id → (lines : List Line) → All (IsWithin (ids ++ id)) (map (kept_for shared) lines)
  within is lines =
      All-map (IsWithin (ids ++ id)) (kept_for shared) lines
      (λ i d inside. record { within = omega (arith, at, len, length-append ids id); id = rw (found (get_or lines i d)) is })

  module _ (list new : List Given) (all : List ℕ) (lines : List Line) (is : IsId id) (h : All (IsWithin ids) list)
      (one : new ≡ list ++ map (kept_for shared) lines) (longer : all ≡ ids ++ id) where
    pub given_more : map (given_in all) new ≡ map (given_in ids) list ++ map (given_for shared.firm id shared.group) lines
    given_more = rw (one, longer)
        (map-append (given_in (ids ++ id)) list (map (kept_for shared) lines)
        ∙ ap (λ es. es ++ map (given_in (ids ++ id)) (map (kept_for shared) lines)) (map-front ids id list h)
        ∙ ap (λ es. map (given_in ids) list ++ es) (offered lines))

    pub within_more : All (IsWithin all) new
    within_more = rw (one, longer)
        (All-append (IsWithin (ids ++ id)) list (map (kept_for shared) lines) (λ i d inside. IsWithin-front ids id (get_or list i d) (h i d inside)) (within is lines))

-- a failed allocation changes nothing, whatever is after the ids
pub given_as_before : (ids more all : List ℕ) (list new : List Given) → All (IsWithin ids) list → new ≡ list → all ≡ ids ++ more → map (given_in all) new ≡ map (given_in ids) list
given_as_before ids more all list new h same longer = rw (same, longer) (map-front ids more list h)

-- what was moved today is reset
pub given_forgotten : (ids : List ℕ) (list : List Given) → map (given_in ids) (map without_today list) ≡ map forgotten (map (given_in ids) list)
given_forgotten ids [] = refl
given_forgotten ids (g ∷ gs) = ap (λ es. forgotten (given_in ids g) ∷ es) (given_forgotten ids gs)

pub within_forgotten : (ids : List ℕ) (list : List Given) → All (IsWithin ids) list → All (IsWithin ids) (map without_today list)
within_forgotten ids list h = All-map (IsWithin ids) without_today list (λ i d inside. record { within = (h i d inside).within; id = (h i d inside).id })

-- one offer was changed at its index
module _ (ids : List ℕ) (list : List Given) (rows : List GivenUp) (place : ℕ) (was : Given) (view : map (given_in ids) list ≡ rows)
    (inside : place < length rows) (at : was ≡ get_or list place was) where
  pub inside_list : place < length list
  inside_list = omega (arith, inside, ap length view, length-map list (given_in ids))

  pub there_in : slice_get rows place ≡ Some (given_in ids was)
  there_in = ap (λ all. slice_get all place) (sym view) ∙ slice_get-map (given_in ids) list place
      ∙ ap (option_map (given_in ids)) (slice_get-get_or list place was inside_list ∙ ap Some (sym at))

  pub is_written : (now : Given) (day : ℕ) (change : Row → Row) → row_of day (given_in ids now) ≡ change (row_of day (given_in ids was))
      → (was.moved_on ≤ day → now.moved_on ≤ day) → IsWritten rows (map (given_in ids) (set list place now)) place day change
  is_written now day change row on =
      record {
        was = given_in ids was;
        now = given_in ids now;
        there = there_in;
        written = map-set (given_in ids) list place now ∙ ap (λ all. set all place (given_in ids now)) view;
        row = row;
        on = on;
      }

  pub within_changed : All (IsWithin ids) list → (now : Given) → (IsWithin ids was → IsWithin ids now) → All (IsWithin ids) (set list place now)
  within_changed h now still = All-set (IsWithin ids) list place now (still (rw at (h place was inside_list))) h

-- what is read from a stored offer is read from its row
pub read_by : (f : Row → ℕ) (day : ℕ) (o : Option GivenUp) (n : ℕ) → option_map (λ (g : GivenUp). f (row_of day g)) o ≡ Some n → option_map_or f (option_map (row_of day) o) 0 ≡ n
read_by f day None n e = cc
read_by f day (Some g) n e = cc

pub offer_by : {X : Type 0} (f : Offer → X) (day : ℕ) (o : Option GivenUp) → option_map (λ (r : Row). f r.offer) (option_map (row_of day) o) ≡ option_map (λ (g : GivenUp). f g.offer) o
offer_by f day None = refl
offer_by f day (Some g) = refl

pub shown_by : (day number left : ℕ) (offer : Offer) (o : Option GivenUp) → option_map (λ (g : GivenUp). g.offer) o ≡ Some offer
    → option_map (λ (g : GivenUp). left_of (row_of day g)) o ≡ Some left
    → option_map (λ (r : Row). let shown : OpenOffer = record { number = number; offer = r.offer; left = left_of r } in shown) (option_map (row_of day) o)
    ≡ Some (record { number = number; offer = offer; left = left })
shown_by day number left offer None e f = cc
shown_by day number left offer (Some g) e f = cc

-- what was appended is removed again
pub taken_off : (old more pushed later : List GivenUp) (count : ℕ) → later ≡ take count pushed → count ≡ length old → pushed ≡ old ++ more → later ≡ old
taken_off old more pushed later count e f h = rw (e, f, h) (take-append_seam old more)
