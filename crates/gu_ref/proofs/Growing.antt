-- A row without a fault keeps the rules of a reference.
use Rattle.gu_ref.proofs.Words.{◌≡◌, ◌∙◌, sym, refl, Bool, true, false, not, cond, is_some, ◌&&◌, ◌||◌, ℕ, zero, suc, ◌≤◌, nat_le, List, [], ◌∷◌, ◌++◌, length, slice_index_or, subst, Option, None, Some, if◌then◌else◌, arith, rules, length-append, find, list_any, All, AllPass, IsDistinct, option_map, FirmId, Agreement, Guarantor, Row, is_known, is_own, is_twice, is_full, row_fault, with_row, Passes, is_between, agreement_for, guarantor_for, has_names, same_firm, same_group, same_account, same_agreement, Tables, distinct-push, is_some-find}
use Rattle.std.proofs.lemmas.List.Elements.{All-append}
use Rattle.std.proofs.lemmas.List.Folds.{list_any-append}
use Rattle.gu_terms.specs.declared.group.Group.{Group}
use Rattle.gu_ref.specs.declared.instruments.Instrument.{Instrument}
use Rattle.gu_ref.specs.declared.accounts.Account.{Account}
use Rattle.gu_ref.specs.declared.row.Row.TheVariants as row
use Rattle.gu_ref.specs.Reference.{is_firm, account_row, agreement_row}
use Rattle.gu_ref.specs.Rules.{AreNamed, IsSound, IsOnce, IsWithinLimits, same_pair}
use Rattle.gu_ref.proofs.FewGuarantors.{few_guarantors}

tests : {F : Type 0} (p q r s : Bool) (a b c d : F)
    → (if not p then Some a else if q then Some b else if r then Some c else if s then Some d else None) ≡ None
    → (p ≡ true) × (q ≡ false) × (r ≡ false) × (s ≡ false)
tests false q r s a b c d h = cc
tests true true r s a b c d h = cc
tests true false true s a b c d h = cc
tests true false false true a b c d h = cc
tests true false false false a b c d h = (refl, refl, refl, refl)

-- a row without a fault passes every test
pub passes-no_fault : (t : Tables) (line : ℕ) (row : Row) → row_fault t line row ≡ None → has_names row ≡ true → Passes t row
passes-no_fault t line row h names =
    let p = tests (is_known t row) (is_own t row) (is_twice t row) (is_full t row) _ _ _ _ h in
    record { known = p.0; foreign = p.1; new = p.2; room = p.3; names = names }

-- an element of a list is one of a longer list
any-more : {X : Type 0} (test : X → Bool) (xs ys : List X) → list_any test xs ≡ true → list_any test (xs ++ ys) ≡ true
any-more test xs ys h = rw (list_any-append test xs ys, h) refl

-- the first element found in a list is the first found in a longer list
find-more : {X : Type 0} (test : X → Bool) (xs ys : List X) → is_some (find test xs) ≡ true → find test (xs ++ ys) ≡ find test xs
find-more test [] ys h = cc
find-more test (x ∷ xs) ys h = by (test x) h (find-more test xs ys)
  where
    by : (b : Bool) → is_some (cond b (Some x) (find test xs)) ≡ true → (is_some (find test xs) ≡ true → find test (xs ++ ys) ≡ find test xs)
        → cond b (Some x) (find test (xs ++ ys)) ≡ cond b (Some x) (find test xs)
    by true e rest = refl
    by false e rest = rest e

both : (p q : Bool) → (p && q) ≡ true → (p ≡ true) × (q ≡ true)
both true true h = (refl, refl)
both true false h = cc
both false q h = cc

neither : (p q : Bool) → (p || q) ≡ false → (p ≡ false) × (q ≡ false)
neither true q h = cc
neither false true h = cc
neither false false h = (refl, refl)

-- what a row names is still declared after one more row
pub known-more : (t : Tables) (more row : Row) → is_known t row ≡ true → is_known (with_row t more) row ≡ true
known-more t more (row.Firm f) h = refl
known-more t more (row.Group g) h = refl
known-more t (row.Group g) (row.Instrument i) h = any-more (λ x. same_group x i.group) t.groups (g ∷ []) h
known-more t _ (row.Instrument i) h = h
known-more t (row.Firm f) (row.Account a) h = any-more (λ x. same_firm x a.firm) t.firms (f ∷ []) h
known-more t _ (row.Account a) h = h
known-more t (row.Firm f) (row.Agreement a) h =
    let p = both (is_firm t a.executing) (is_some (account_row t a.account)) h in
    rw (any-more (λ x. same_firm x a.executing) t.firms (f ∷ []) p.0, p.1) refl
known-more t (row.Account b) (row.Agreement a) h =
    let p = both (is_firm t a.executing) (is_some (account_row t a.account)) h in
    rw (p.0, find-more (λ x. same_account x.account a.account) t.accounts (b ∷ []) p.1, p.1) refl
known-more t _ (row.Agreement a) h = h
known-more t (row.Firm f) (row.Guarantor g) h =
    let p = both (is_firm t g.guarantor) (is_firm t g.firm) h in
    rw (any-more (λ x. same_firm x g.guarantor) t.firms (f ∷ []) p.0, any-more (λ x. same_firm x g.firm) t.firms (f ∷ []) p.1) refl
known-more t _ (row.Guarantor g) h = h

-- an account keeps its firm after one more row
pub foreign-more : (t : Tables) (more row : Row) → is_known t row ≡ true → not (is_own t row) ≡ true → not (is_own (with_row t more) row) ≡ true
foreign-more t (row.Account b) (row.Agreement a) k h =
    let p = both (is_firm t a.executing) (is_some (account_row t a.account)) k in
    rw (find-more (λ x. same_account x.account a.account) t.accounts (b ∷ []) p.1) h
foreign-more t _ (row.Firm f) k h = h
foreign-more t _ (row.Group f) k h = h
foreign-more t _ (row.Instrument f) k h = h
foreign-more t _ (row.Account f) k h = h
foreign-more t _ (row.Agreement a) k h = h
foreign-more t _ (row.Guarantor g) k h = h

-- a list of one element
all-one : {X : Type 0} (P : X → Type 0) (x : X) → P x → All P (x ∷ [])
all-one P x p zero d h = p
all-one P x p (suc k) d h = absurd (omega arith)

-- what a search doesn't find isn't in the list
none-found : {X : Type 0} (test : X → Bool) (xs : List X) → is_some (find test xs) ≡ false → list_any test xs ≡ false
none-found test xs h = sym (is_some-find test xs) ∙ h

is_some-map : {X Y : Type 0} (f : X → Y) (o : Option X) → is_some (option_map f o) ≡ is_some o
is_some-map f None = refl
is_some-map f (Some x) = refl

-- one more element keeps within a limit that wasn't reached
pub room-push : {X : Type 0} (most : ℕ) (xs : List X) (x : X) → nat_le most (length xs) ≡ false → length (xs ++ x ∷ []) ≤ most
room-push most xs x h = grind (arith, rules, length-append xs (x ∷ []))

-- each name still occurs once after a new row
once-more : (t : Tables) (new : Row) → IsOnce t → is_twice t new ≡ false → IsOnce (with_row t new)
once-more t (row.Firm f) o h = record { firms = distinct-push same_firm t.firms f h o.firms; groups = o.groups; symbols = o.symbols; accounts = o.accounts; agreements = o.agreements; pairs = o.pairs; guaranteed = o.guaranteed }
once-more t (row.Group g) o h = record { firms = o.firms; groups = distinct-push same_group t.groups g h o.groups; symbols = o.symbols; accounts = o.accounts; agreements = o.agreements; pairs = o.pairs; guaranteed = o.guaranteed }
once-more t (row.Instrument i) o h = record { firms = o.firms; groups = o.groups; symbols = distinct-push _ t.instruments i h o.symbols; accounts = o.accounts; agreements = o.agreements; pairs = o.pairs; guaranteed = o.guaranteed }
once-more t (row.Account a) o h =
    record { firms = o.firms; groups = o.groups; symbols = o.symbols; accounts = distinct-push _ t.accounts a (none-found (λ x. same_account x.account a.account) t.accounts h) o.accounts; agreements = o.agreements; pairs = o.pairs; guaranteed = o.guaranteed }
once-more t (row.Agreement a) o h =
    let p = neither (is_some (agreement_row t a.id)) _ h in
    let pair = none-found (is_between a.executing a.account) t.agreements (sym (is_some-map (λ x. x.id) (agreement_for t.agreements a.executing a.account)) ∙ p.1) in
    record { firms = o.firms; groups = o.groups; symbols = o.symbols; accounts = o.accounts; agreements = distinct-push _ t.agreements a (none-found (λ x. same_agreement x.id a.id) t.agreements p.0) o.agreements; pairs = distinct-push same_pair t.agreements a pair o.pairs; guaranteed = o.guaranteed }
once-more t (row.Guarantor g) o h =
    let none = none-found (λ x. same_firm x.firm g.firm) t.guarantors (sym (is_some-map (λ x. x.guarantor) (guarantor_for t.guarantors g.firm)) ∙ h) in
    record { firms = o.firms; groups = o.groups; symbols = o.symbols; accounts = o.accounts; agreements = o.agreements; pairs = o.pairs; guaranteed = distinct-push _ t.guarantors g none o.guaranteed }

-- a row for which there is room keeps the limits; there are no more guarantors than firms
within-more : (t : Tables) (new : Row) → IsWithinLimits t → is_full t new ≡ false → length (with_row t new).guarantors ≤ 1000 → IsWithinLimits (with_row t new)
within-more t (row.Firm f) w h few = record { firms = room-push 1000 t.firms f h; groups = w.groups; instruments = w.instruments; accounts = w.accounts; agreements = w.agreements; guarantors = few }
within-more t (row.Group g) w h few = record { firms = w.firms; groups = room-push 100 t.groups g h; instruments = w.instruments; accounts = w.accounts; agreements = w.agreements; guarantors = few }
within-more t (row.Instrument i) w h few = record { firms = w.firms; groups = w.groups; instruments = room-push 10000 t.instruments i h; accounts = w.accounts; agreements = w.agreements; guarantors = few }
within-more t (row.Account a) w h few = record { firms = w.firms; groups = w.groups; instruments = w.instruments; accounts = room-push 10000 t.accounts a h; agreements = w.agreements; guarantors = few }
within-more t (row.Agreement a) w h few = record { firms = w.firms; groups = w.groups; instruments = w.instruments; accounts = w.accounts; agreements = room-push 10000 t.agreements a h; guarantors = few }
within-more t (row.Guarantor g) w h few = record { firms = w.firms; groups = w.groups; instruments = w.instruments; accounts = w.accounts; agreements = w.agreements; guarantors = few }

not-false : (b : Bool) → b ≡ false → not b ≡ true
not-false true h = cc
not-false false h = refl

-- elements that pass one test pass another
all-more : {X : Type 0} (p q : X → Bool) (xs : List X) → ((x : X) → p x ≡ true → q x ≡ true) → AllPass p xs → AllPass q xs
all-more p q xs f a = λ k d h. f (slice_index_or xs k d) (a k d h)

all-push : {X : Type 0} (p : X → Bool) (xs : List X) (x : X) → AllPass p xs → p x ≡ true → AllPass p (xs ++ x ∷ [])
all-push p xs x a one = All-append (λ y. p y ≡ true) xs (x ∷ []) a (all-one (λ y. p y ≡ true) x one)

-- each name still is one after a row that has names
named-more : (t : Tables) (new : Row) → AreNamed t → has_names new ≡ true → AreNamed (with_row t new)
named-more t (row.Firm f) n h = record { firms = all-push (λ x. has_names (row.Firm x)) t.firms f n.firms h; groups = n.groups; instruments = n.instruments; accounts = n.accounts; agreements = n.agreements; guarantors = n.guarantors }
named-more t (row.Group g) n h = record { firms = n.firms; groups = all-push (λ x. has_names (row.Group x)) t.groups g n.groups h; instruments = n.instruments; accounts = n.accounts; agreements = n.agreements; guarantors = n.guarantors }
named-more t (row.Instrument i) n h = record { firms = n.firms; groups = n.groups; instruments = all-push (λ x. has_names (row.Instrument x)) t.instruments i n.instruments h; accounts = n.accounts; agreements = n.agreements; guarantors = n.guarantors }
named-more t (row.Account a) n h = record { firms = n.firms; groups = n.groups; instruments = n.instruments; accounts = all-push (λ x. has_names (row.Account x)) t.accounts a n.accounts h; agreements = n.agreements; guarantors = n.guarantors }
named-more t (row.Agreement a) n h = record { firms = n.firms; groups = n.groups; instruments = n.instruments; accounts = n.accounts; agreements = all-push (λ x. has_names (row.Agreement x)) t.agreements a n.agreements h; guarantors = n.guarantors }
named-more t (row.Guarantor g) n h = record { firms = n.firms; groups = n.groups; instruments = n.instruments; accounts = n.accounts; agreements = n.agreements; guarantors = all-push (λ x. has_names (row.Guarantor x)) t.guarantors g n.guarantors h }

-- the rules still hold after a row that passes every test
pub sound-more : (t : Tables) (new : Row) → IsSound t → Passes t new → IsSound (with_row t new)
sound-more t (row.Firm f) s p = record {
  groups = s.groups;
  firms = all-more (λ x. is_known t (row.Account x)) (λ x. is_known (with_row t (row.Firm f)) (row.Account x)) t.accounts (λ x. known-more t (row.Firm f) (row.Account x)) s.firms;
  parties = all-more (λ x. is_known t (row.Agreement x)) (λ x. is_known (with_row t (row.Firm f)) (row.Agreement x)) t.agreements (λ x. known-more t (row.Firm f) (row.Agreement x)) s.parties;
  foreign = s.foreign;
  guarantors = all-more (λ x. is_known t (row.Guarantor x)) (λ x. is_known (with_row t (row.Firm f)) (row.Guarantor x)) t.guarantors (λ x. known-more t (row.Firm f) (row.Guarantor x)) s.guarantors;
  others = s.others;
  once = once-more t (row.Firm f) s.once p.new;
  within = within-more t (row.Firm f) s.within p.room s.within.guarantors;
  names = named-more t (row.Firm f) s.names p.names;
}
sound-more t (row.Group g) s p = record {
  groups = all-more (λ x. is_known t (row.Instrument x)) (λ x. is_known (with_row t (row.Group g)) (row.Instrument x)) t.instruments (λ x. known-more t (row.Group g) (row.Instrument x)) s.groups;
  firms = s.firms;
  parties = s.parties;
  foreign = s.foreign;
  guarantors = s.guarantors;
  others = s.others;
  once = once-more t (row.Group g) s.once p.new;
  within = within-more t (row.Group g) s.within p.room s.within.guarantors;
  names = named-more t (row.Group g) s.names p.names;
}
sound-more t (row.Instrument i) s p = record {
  groups = all-push (λ x. is_known t (row.Instrument x)) t.instruments i s.groups p.known;
  firms = s.firms;
  parties = s.parties;
  foreign = s.foreign;
  guarantors = s.guarantors;
  others = s.others;
  once = once-more t (row.Instrument i) s.once p.new;
  within = within-more t (row.Instrument i) s.within p.room s.within.guarantors;
  names = named-more t (row.Instrument i) s.names p.names;
}
sound-more t (row.Account a) s p = record {
  groups = s.groups;
  firms = all-push (λ x. is_known t (row.Account x)) t.accounts a s.firms p.known;
  parties = all-more (λ x. is_known t (row.Agreement x)) (λ x. is_known (with_row t (row.Account a)) (row.Agreement x)) t.agreements (λ x. known-more t (row.Account a) (row.Agreement x)) s.parties;
  foreign = λ k d h. foreign-more t (row.Account a) (row.Agreement (slice_index_or t.agreements k d)) (s.parties k d h) (s.foreign k d h);
  guarantors = s.guarantors;
  others = s.others;
  once = once-more t (row.Account a) s.once p.new;
  within = within-more t (row.Account a) s.within p.room s.within.guarantors;
  names = named-more t (row.Account a) s.names p.names;
}
sound-more t (row.Agreement a) s p = record {
  groups = s.groups;
  firms = s.firms;
  parties = all-push (λ x. is_known t (row.Agreement x)) t.agreements a s.parties p.known;
  foreign = all-push (λ x. not (is_own t (row.Agreement x))) t.agreements a s.foreign (not-false _ p.foreign);
  guarantors = s.guarantors;
  others = s.others;
  once = once-more t (row.Agreement a) s.once p.new;
  within = within-more t (row.Agreement a) s.within p.room s.within.guarantors;
  names = named-more t (row.Agreement a) s.names p.names;
}
sound-more t (row.Guarantor g) s p =
    let once = once-more t (row.Guarantor g) s.once p.new in
    let known = all-push (λ x. is_known t (row.Guarantor x)) t.guarantors g s.guarantors p.known in
    record {
      groups = s.groups;
      firms = s.firms;
      parties = s.parties;
      foreign = s.foreign;
      guarantors = known;
      others = all-push (λ x. not (is_own t (row.Guarantor x))) t.guarantors g s.others (not-false _ p.foreign);
      once = once;
      within = within-more t (row.Guarantor g) s.within p.room (few_guarantors (with_row t (row.Guarantor g)) once.guaranteed known s.within.firms);
      names = named-more t (row.Guarantor g) s.names p.names;
    }

-- the rules hold for no rows
pub sound-empty : IsSound (record { firms = []; groups = []; instruments = []; accounts = []; agreements = []; guarantors = [] })
unfolding IsDistinct
sound-empty = record {
  groups = λ k d h. absurd (omega arith);
  firms = λ k d h. absurd (omega arith);
  parties = λ k d h. absurd (omega arith);
  foreign = λ k d h. absurd (omega arith);
  guarantors = λ k d h. absurd (omega arith);
  others = λ k d h. absurd (omega arith);
  once = record { firms = tt; groups = tt; symbols = tt; accounts = tt; agreements = tt; pairs = tt; guaranteed = tt };
  within = record { firms = omega arith; groups = omega arith; instruments = omega arith; accounts = omega arith; agreements = omega arith; guarantors = omega arith };
  names = record {
    firms = λ k d h. absurd (omega arith);
    groups = λ k d h. absurd (omega arith);
    instruments = λ k d h. absurd (omega arith);
    accounts = λ k d h. absurd (omega arith);
    agreements = λ k d h. absurd (omega arith);
    guarantors = λ k d h. absurd (omega arith);
  };
}

-- the rules hold after a push that succeeded, and as before after one that was refused
pub firm-pushed : (t : Tables) (f : FirmId) (ok : Bool) (new : List FirmId) → IsSound t → Passes t (row.Firm f) → new ≡ (if ok then t.firms ++ f ∷ [] else t.firms)
    → IsSound (record { firms = new; groups = t.groups; instruments = t.instruments; accounts = t.accounts; agreements = t.agreements; guarantors = t.guarantors })
firm-pushed t f true new s p e = subst (λ (rows : List FirmId). IsSound (record { firms = rows; groups = t.groups; instruments = t.instruments; accounts = t.accounts; agreements = t.agreements; guarantors = t.guarantors })) (sym e) (sound-more t (row.Firm f) s p)
firm-pushed t f false new s p e = subst (λ (rows : List FirmId). IsSound (record { firms = rows; groups = t.groups; instruments = t.instruments; accounts = t.accounts; agreements = t.agreements; guarantors = t.guarantors })) (sym e) s

pub group-pushed : (t : Tables) (g : Group) (ok : Bool) (new : List Group) → IsSound t → Passes t (row.Group g) → new ≡ (if ok then t.groups ++ g ∷ [] else t.groups)
    → IsSound (record { firms = t.firms; groups = new; instruments = t.instruments; accounts = t.accounts; agreements = t.agreements; guarantors = t.guarantors })
group-pushed t g true new s p e = subst (λ (rows : List Group). IsSound (record { firms = t.firms; groups = rows; instruments = t.instruments; accounts = t.accounts; agreements = t.agreements; guarantors = t.guarantors })) (sym e) (sound-more t (row.Group g) s p)
group-pushed t g false new s p e = subst (λ (rows : List Group). IsSound (record { firms = t.firms; groups = rows; instruments = t.instruments; accounts = t.accounts; agreements = t.agreements; guarantors = t.guarantors })) (sym e) s

pub instrument-pushed : (t : Tables) (i : Instrument) (ok : Bool) (new : List Instrument) → IsSound t → Passes t (row.Instrument i) → new ≡ (if ok then t.instruments ++ i ∷ [] else t.instruments)
    → IsSound (record { firms = t.firms; groups = t.groups; instruments = new; accounts = t.accounts; agreements = t.agreements; guarantors = t.guarantors })
instrument-pushed t i true new s p e = subst (λ (rows : List Instrument). IsSound (record { firms = t.firms; groups = t.groups; instruments = rows; accounts = t.accounts; agreements = t.agreements; guarantors = t.guarantors })) (sym e) (sound-more t (row.Instrument i) s p)
instrument-pushed t i false new s p e = subst (λ (rows : List Instrument). IsSound (record { firms = t.firms; groups = t.groups; instruments = rows; accounts = t.accounts; agreements = t.agreements; guarantors = t.guarantors })) (sym e) s

pub account-pushed : (t : Tables) (a : Account) (ok : Bool) (new : List Account) → IsSound t → Passes t (row.Account a) → new ≡ (if ok then t.accounts ++ a ∷ [] else t.accounts)
    → IsSound (record { firms = t.firms; groups = t.groups; instruments = t.instruments; accounts = new; agreements = t.agreements; guarantors = t.guarantors })
account-pushed t a true new s p e = subst (λ (rows : List Account). IsSound (record { firms = t.firms; groups = t.groups; instruments = t.instruments; accounts = rows; agreements = t.agreements; guarantors = t.guarantors })) (sym e) (sound-more t (row.Account a) s p)
account-pushed t a false new s p e = subst (λ (rows : List Account). IsSound (record { firms = t.firms; groups = t.groups; instruments = t.instruments; accounts = rows; agreements = t.agreements; guarantors = t.guarantors })) (sym e) s

pub agreement-pushed : (t : Tables) (a : Agreement) (ok : Bool) (new : List Agreement) → IsSound t → Passes t (row.Agreement a) → new ≡ (if ok then t.agreements ++ a ∷ [] else t.agreements)
    → IsSound (record { firms = t.firms; groups = t.groups; instruments = t.instruments; accounts = t.accounts; agreements = new; guarantors = t.guarantors })
agreement-pushed t a true new s p e = subst (λ (rows : List Agreement). IsSound (record { firms = t.firms; groups = t.groups; instruments = t.instruments; accounts = t.accounts; agreements = rows; guarantors = t.guarantors })) (sym e) (sound-more t (row.Agreement a) s p)
agreement-pushed t a false new s p e = subst (λ (rows : List Agreement). IsSound (record { firms = t.firms; groups = t.groups; instruments = t.instruments; accounts = t.accounts; agreements = rows; guarantors = t.guarantors })) (sym e) s

pub guarantor-pushed : (t : Tables) (g : Guarantor) (ok : Bool) (new : List Guarantor) → IsSound t → Passes t (row.Guarantor g) → new ≡ (if ok then t.guarantors ++ g ∷ [] else t.guarantors)
    → IsSound (record { firms = t.firms; groups = t.groups; instruments = t.instruments; accounts = t.accounts; agreements = t.agreements; guarantors = new })
guarantor-pushed t g true new s p e = subst (λ (rows : List Guarantor). IsSound (record { firms = t.firms; groups = t.groups; instruments = t.instruments; accounts = t.accounts; agreements = t.agreements; guarantors = rows })) (sym e) (sound-more t (row.Guarantor g) s p)
guarantor-pushed t g false new s p e = subst (λ (rows : List Guarantor). IsSound (record { firms = t.firms; groups = t.groups; instruments = t.instruments; accounts = t.accounts; agreements = t.agreements; guarantors = rows })) (sym e) s

-- a firm without a guarantor has no row
pub no_guarantor : (t : Tables) (firm : FirmId) → is_some (option_map (λ g. g.guarantor) (guarantor_for t.guarantors firm)) ≡ false → guarantor_for t.guarantors firm ≡ None
no_guarantor t firm h = none-of (guarantor_for t.guarantors firm) h
  where
    none-of : (o : Option Guarantor) → is_some (option_map (λ g. g.guarantor) o) ≡ false → o ≡ None
    none-of None e = refl
    none-of (Some x) e = cc

-- an instrument that isn't in the list isn't found
pub no_instrument : {X : Type 0} (test : X → Bool) (xs : List X) → list_any test xs ≡ false → find test xs ≡ None
no_instrument {X} test xs h = none-of (find test xs) (is_some-find test xs ∙ h)
  where
    none-of : (o : Option X) → is_some o ≡ false → o ≡ None
    none-of None e = refl
    none-of (Some x) e = cc
