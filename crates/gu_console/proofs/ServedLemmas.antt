-- Lines of an operator that are answered one after another.
use Rattle.std.proofs.Common.{◌≡◌, ◌∙◌, ℕ, List, [], ◌∷◌, ◌++◌, All, take, refl, sym, ap, subst, append_assoc, append-nil}
use Rattle.std.specs.List.{flat_map}
use Rattle.std.proofs.lemmas.Grind.{flat_map-append}
use Rattle.std.proofs.lemmas.List.Elements.{All-nil, All-push}
use Rattle.gu_ref.specs.Tables.{Tables}
use Rattle.gu_text.specs.LineFeeds.{HasNoLineFeed}
use Rattle.gu_console.specs.Answers.{AnswersLine, IsAnswered, OperatorState, sent_as}
use Rattle.gu_console.specs.Served.{AnswersEach, Serves, ServesLast, ended, line_kept}
use Rattle.gu_console.specs.declared.said.Said.{Said}
use Rattle.gu_console.specs.declared.said.Said.TheVariants.{GoesOn, Closes}

-- one line more is answered
pub each_more : (reference : Tables) (old : OperatorState) (lines : List (List ℕ)) (text : List ℕ) (mid : OperatorState) (line first : List ℕ) (new : OperatorState)
    → AnswersEach reference old lines text mid → AnswersLine reference mid (line_kept line) first GoesOn new → AnswersEach reference old (lines ++ line ∷ []) (text ++ sent_as GoesOn first) new
each_more reference old [] text mid line first new so_far answered = (
  first,
  [],
  new,
  subst (λ (o : OperatorState). AnswersLine reference o (line_kept line) first GoesOn new) so_far.1 answered,
  ap (λ (t : List ℕ). t ++ sent_as GoesOn first) so_far.0 ∙ sym (append-nil (sent_as GoesOn first)),
  (refl, refl),
)
each_more reference old (x ∷ later) text mid line first new so_far answered = (
  so_far.0,
  so_far.1 ++ sent_as GoesOn first,
  so_far.2,
  so_far.3,
  ap (λ (t : List ℕ). t ++ sent_as GoesOn first) so_far.4 ∙ append_assoc (sent_as GoesOn so_far.0) so_far.1 (sent_as GoesOn first),
  each_more reference so_far.2 later so_far.1 mid line first new so_far.5 answered,
)

-- the lines so far are answered, and these bytes are left
pub record IsServedTo (reference : Tables) (old : OperatorState) (bytes before : List ℕ) (new : OperatorState) (left after : List ℕ) : Type 0 where
  pub lines : List (List ℕ)
  pub text : List ℕ
  pub bytes_are : bytes ≡ flat_map ended lines ++ left
  pub each : All HasNoLineFeed lines
  pub answers : AnswersEach reference old lines text new
  pub after_is : after ≡ before ++ text

pub served_none : (reference : Tables) (old : OperatorState) (bytes before : List ℕ) → IsServedTo reference old bytes before old bytes before
served_none reference old bytes before = record {
  lines = [];
  text = [];
  bytes_are = refl;
  each = All-nil HasNoLineFeed;
  answers = (refl, refl);
  after_is = sym (append-nil before);
}

-- the bytes of one line more
one_line : (lines : List (List ℕ)) (bytes kept left part later : List ℕ) → bytes ≡ flat_map ended lines ++ (kept ++ left) → left ≡ part ++ 10 ∷ later
    → bytes ≡ flat_map ended (lines ++ (kept ++ part) ∷ []) ++ later
one_line lines bytes kept left part later is parted =
    let more = flat_map-append ended lines ((kept ++ part) ∷ []) in
    is ∙ ap (λ (l : List ℕ). flat_map ended lines ++ (kept ++ l)) parted
    ∙ sym (ap (λ (l : List ℕ). l ++ later) more ∙ simp append_assoc)

pub served_next : (reference : Tables) (old : OperatorState) (bytes before : List ℕ) (mid : OperatorState) (kept left out : List ℕ) (part later : List ℕ) (line new_out : List ℕ) (new : OperatorState) (empty : List ℕ)
    → IsServedTo reference old bytes before mid (kept ++ left) out → HasNoLineFeed (kept ++ part) → left ≡ part ++ 10 ∷ later → line ≡ line_kept (kept ++ part)
    → IsAnswered reference mid line out new_out GoesOn new → empty ≡ [] → IsServedTo reference old bytes before new (empty ++ later) new_out
served_next reference old bytes before mid kept left out part later line new_out new empty so_far none parted is answered nothing = record {
  lines = so_far.lines ++ (kept ++ part) ∷ [];
  text = so_far.text ++ sent_as GoesOn answered.text;
  bytes_are = one_line so_far.lines bytes kept left part later so_far.bytes_are parted
      ∙ ap (λ (l : List ℕ). flat_map ended (so_far.lines ++ (kept ++ part) ∷ []) ++ (l ++ later)) (sym nothing);
  each = All-push HasNoLineFeed so_far.lines (kept ++ part) so_far.each none;
  answers = each_more reference old so_far.lines so_far.text mid (kept ++ part) answered.text new so_far.answers
      (subst (λ (l : List ℕ). AnswersLine reference mid l answered.text GoesOn new) is answered.answers);
  after_is = answered.sent ∙ ap (λ (t : List ℕ). t ++ sent_as GoesOn answered.text) so_far.after_is ∙ append_assoc before so_far.text (sent_as GoesOn answered.text);
}

pub served_last : (reference : Tables) (old : OperatorState) (bytes before : List ℕ) (mid : OperatorState) (kept left out : List ℕ) (part later : List ℕ) (line new_out : List ℕ) (new : OperatorState)
    → IsServedTo reference old bytes before mid (kept ++ left) out → HasNoLineFeed (kept ++ part) → left ≡ part ++ 10 ∷ later → line ≡ line_kept (kept ++ part)
    → IsAnswered reference mid line out new_out Closes new → (text : List ℕ) × ServesLast reference old bytes text new × (new_out ≡ before ++ text)
served_last reference old bytes before mid kept left out part later line new_out new so_far none parted is answered = (
  so_far.text ++ answered.text,
  record {
    lines = so_far.lines;
    last = kept ++ part;
    rest = later;
    parts = record {
      bytes_are = one_line so_far.lines bytes kept left part later so_far.bytes_are parted;
      each = All-push HasNoLineFeed so_far.lines (kept ++ part) so_far.each none;
    };
    before = so_far.text;
    mid = mid;
    answers = so_far.answers;
    answer = answered.text;
    closes = subst (λ (l : List ℕ). AnswersLine reference mid l answered.text Closes new) is answered.answers;
    text_is = refl;
  },
  answered.sent ∙ ap (λ (t : List ℕ). t ++ answered.text) so_far.after_is ∙ append_assoc before so_far.text answered.text,
)

pub served_all : (reference : Tables) (old : OperatorState) (bytes before : List ℕ) (new : OperatorState) (left after kept : List ℕ)
    → IsServedTo reference old bytes before new left after → HasNoLineFeed left → kept ≡ take 1026 left
    → (text : List ℕ) × ((rest : List ℕ) × Serves reference old bytes text new rest × (kept ≡ take 1026 rest)) × (after ≡ before ++ text)
served_all reference old bytes before new left after kept so_far none is = (
  so_far.text,
  (left, record { lines = so_far.lines; parts = record { bytes_are = so_far.bytes_are; each = so_far.each }; none = none; answers = so_far.answers }, is),
  so_far.after_is,
)

-- an answer that isn't the last one goes on
pub goes_on_else : (said : Said) → ¬ (said ≡ Closes) → said ≡ GoesOn
goes_on_else GoesOn other = refl
goes_on_else Closes other = absurd (other refl)
