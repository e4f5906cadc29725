-- Entries that take lots from offers, and do nothing else.
use Rattle.gu_rules.proofs.Words.{◌≡◌, ◌≢◌, ℕ, ◌+◌, ◌-◌, ◌==◌, ◌||◌, true, false, [], ◌∷◌, Option, Some, None, refl, sym, arith, inl, inr, cases_Bool, Decides-eqb, Claim, Day, Entry, Asked, Swept, SweepEntry, FirmId, Group, Id, LimitKey, Claimed, Accepted, Take, taken, Row, limit_set_by, part, closes, gave_up, given_back_by, lines_by, taken_by, opened_day, report_on}
use Rattle.gu_rules.proofs.Moved.{LeavesOthers}
use Rattle.gu_rules.proofs.StandingLemmas.{either-false, stepped, stepped-still}

-- a number differs from another
pub apart : (n m : ℕ) → m ≢ n → (n == m) ≡ false
apart n m differ =
    elim (cases_Bool (n == m)) [
      | inl hit ↦ absurd (differ (sym ((Decides-eqb n m).0 hit)))
      | inr miss ↦ miss
    ]

-- and equals itself
pub same : (n : ℕ) → (n == n) ≡ true
same n = (Decides-eqb n n).1 refl

-- an entry that opens no day, reports nothing, makes no offer, gives nothing back, closes nothing, gives nothing up and sets no limit
pub record OnlyTakes (entry : Entry) : Type 0 where
  pub opens : opened_day entry ≡ None
  pub reports : (today : Option Day) → report_on today entry ≡ None
  pub lines : lines_by entry ≡ []
  pub gives : (n : ℕ) → given_back_by n entry ≡ 0
  pub closed : (n : ℕ) → closes n entry ≡ false
  pub gives_up : (firm : FirmId) (id : Id) → gave_up firm id entry ≡ false
  pub sets : (group : Group) (key : LimitKey) → limit_set_by group key entry ≡ None

-- it takes this many lots from one offer
pub record TakesOne (entry : Entry) (n lots : ℕ) : Type 0 where
  pub only : OnlyTakes entry
  pub own : taken_by n entry ≡ lots
  pub others : (m : ℕ) → m ≢ n → taken_by m entry ≡ 0

-- an entry of a claim
abbrev pub claimed : FirmId → ℕ → ℕ → Entry
claimed firm n lots = Asked (Claim (record { firm = firm; offer = n })) (Accepted (Claimed lots))

-- takes from its offer
pub claim-takes : (firm : FirmId) (n lots : ℕ) → TakesOne (claimed firm n lots) n lots
claim-takes firm n lots = record {
  only = record {
    opens = refl;
    reports = unreported;
    lines = refl;
    gives = λ m. refl;
    closed = λ m. refl;
    gives_up = λ f i. refl;
    sets = λ g k. refl;
  };
  own = rw (same n) refl;
  others = λ m differ. rw (apart n m differ) refl;
}
  where
    unreported : (today : Option Day) → report_on today (claimed firm n lots) ≡ None
    unreported None = refl
    unreported (Some day) = refl

-- a sweep only takes
pub sweep-takes : (sweep : SweepEntry) → OnlyTakes (Swept sweep)
sweep-takes sweep = record {
  opens = refl;
  reports = unreported;
  lines = refl;
  gives = λ m. refl;
  closed = λ m. refl;
  gives_up = λ f i. refl;
  sets = λ g k. refl;
}
  where
    unreported : (today : Option Day) → report_on today (Swept sweep) ≡ None
    unreported None = refl
    unreported (Some day) = refl

-- one take of a sweep takes from its offer
pub part-takes : (sweep : SweepEntry) (take : Take) → TakesOne (part sweep take) take.offer take.lots
part-takes sweep take = record {
  only = sweep-takes (record { group = sweep.group; takes = take ∷ []; cut = sweep.cut; lots = take.lots });
  own = rw (same take.offer) refl;
  others = λ m differ. rw (apart take.offer m differ) refl;
}

-- such an entry leaves the other offers unchanged
pub takes-others : (entry : Entry) (n lots : ℕ) → TakesOne entry n lots → LeavesOthers entry n
takes-others entry n lots takes m differ row = stepped-still entry m row (takes.others m differ) (takes.only.gives m) (takes.only.closed m)

-- and takes from its own
pub takes-own : (entry : Entry) (n lots : ℕ) (row : Row) → TakesOne entry n lots → stepped entry n row ≡ taken lots row
takes-own entry n lots row takes =
    let moved : row.moved + taken_by n entry - given_back_by n entry ≡ row.moved + lots = omega (arith, takes.own, takes.only.gives n) in
    let today : row.today + taken_by n entry - given_back_by n entry ≡ row.today + lots = omega (arith, takes.own, takes.only.gives n) in
    let shut : (row.is_shut || closes n entry) ≡ row.is_shut = rw (takes.only.closed n) (either-false row.is_shut) in
    λ i. record { offer = row.offer; moved = moved i; today = today i; is_shut = shut i }
