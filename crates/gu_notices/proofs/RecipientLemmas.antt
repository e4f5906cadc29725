-- The firms that entries may notify.
use Rattle.gu_notices.proofs.Words.{◌≡◌, ◌<◌, ◌≤◌, ◌+◌, ℕ, zero, suc, true, false, List, [], ◌∷◌, ◌++◌, length, Option, None, Some, IfSome, refl, sym, ap, ◌∙◌, arith, append-nil, append_assoc, subst, inl, inr, unwrap_or, AllByRecursion, ◌&&◌, nat_le, slice_get, cases_Bool, Entry, Register, Told, offer_notice, to_both, to_carrier, told_of_event, told_of_line, told_of_take, told_by, told_of_trade, told_on, told_to, Keeps, has_place, may_hold, place_of, AreRecipients, Covers, CoversCarrier, Grows, Holds, carrier_in}
use Rattle.std.specs.Option.{option_map, option_map_or}
use Rattle.std.proofs.lemmas.List.Elements.{filter-append}
use Rattle.std.proofs.lemmas.Slice.Eq.{bytes_eq-Decides}
use Rattle.gu_terms.specs.declared.firm.FirmId.{FirmId}
use Rattle.gu_terms.specs.declared.id.Id.{Id}
use Rattle.gu_terms.specs.declared.notice.Notice.{Notice}
use Rattle.gu_terms.specs.declared.notice.OfferEvent.{OfferEvent}
use Rattle.gu_terms.specs.declared.notice.OfferEvent.TheVariants.{Claimed as IsClaimed, Offered as IsOffered}
use Rattle.gu_terms.specs.declared.offer.Offer.{Offer}
use Rattle.gu_terms.specs.declared.report.Report.{Report}
use Rattle.gu_terms.specs.declared.side.Side.{Side}
use Rattle.gu_terms.specs.declared.side.Side.TheVariants.{Buy, Sell}
use Rattle.gu_terms.specs.declared.takes.Take.{Take}
use Rattle.gu_terms.specs.Same.{same_firm, same_id, same_side}
use Rattle.gu_ref.specs.Reference.{account_row}
use Rattle.gu_ref.specs.Tables.{Tables}
use Rattle.gu_ref.specs.declared.accounts.Account.{Account}
use Rattle.gu_trades.specs.Reports.{report_by, with_match}
use Rattle.gu_trades.specs.Rules.{are_sides}
use Rattle.gu_trades.specs.Terms.{terms_of}
use Rattle.gu_notices.specs.declared.firm_filter.FirmFilter.{FirmFilter}

-- ---- what a set may hold

-- every firm that one set may hold, a larger one may hold too
pub holds-more : (old new : FirmFilter) → Keeps old new → (told : List Told) → Holds old told → Holds new told
holds-more old new keeps [] all = tt
holds-more old new keeps (t ∷ told) all = (keeps t.firm all.0, holds-more old new keeps told all.1)

-- recipients of some notices, and of more
pub holds-append : (firms : FirmFilter) (before after : List Told) → Holds firms before → Holds firms after → Holds firms (before ++ after)
holds-append firms [] after first then = then
holds-append firms (t ∷ before) after first then = (first.0, holds-append firms before after first.1 then)

-- a set of all firms may hold every recipient
pub holds-all : (firms : FirmFilter) → ((firm : FirmId) → may_hold firms firm ≡ true) → (told : List Told) → Holds firms told
holds-all firms all [] = tt
holds-all firms all (t ∷ told) = (all t.firm, holds-all firms all told)

-- a firm that a set doesn't hold gets none of the notices
pub told_to-nobody : (firms : FirmFilter) (firm : FirmId) (told : List Told) → has_place firms (place_of firm) ≡ false → Holds firms told → told_to firm told ≡ []
told_to-nobody firms firm [] without all = refl
told_to-nobody firms firm (t ∷ told) without all =
    elim (cases_Bool (same_firm t.firm firm)) [
      | inl hit ↦
          let name : t.firm.name ≡ firm.name = (bytes_eq-Decides t.firm.name firm.name).0 hit in
          let own : t.firm ≡ firm = λ i. record { name = name i } in
          let no : true ≡ false = sym all.0 ∙ ap (may_hold firms) own ∙ without in
          absurd (cc)
      | inr miss ↦ rw miss (told_to-nobody firms firm told without all.1)
    ]

-- ---- recipients

-- the firm that carries an offer's account
carrier-held : (reference : Tables) (o : Offer) (firms : FirmFilter) (notice : Notice) → IfSome (carrier_in reference o) (λ (firm : FirmId). may_hold firms firm ≡ true) → Holds firms (to_carrier reference o notice)
carrier-held reference o firms notice held = go (account_row reference o.account) held
  where
    go : (row : Option Account) → IfSome (option_map (λ (a : Account). a.firm) row) (λ (firm : FirmId). may_hold firms firm ≡ true)
        → Holds firms (option_map_or (λ (a : Account). record { firm = a.firm; notice = notice } ∷ []) row [])
    go None held = tt
    go (Some a) held = (held, tt)

-- an offer's line
pub line-held : (register later : Register) (n : ℕ) (o : Offer) (firms : FirmFilter) → Grows register later → register.offer n ≡ Some o → CoversCarrier register o firms → Holds firms (told_of_line later n)
line-held register later n o firms grows is held = rw (grows.offers n o is) (go (report_by later.reports o.firm o.report))
  where
    go : (report : Option Report) → Holds firms (option_map_or (λ (r : Report). to_carrier later.reference o (offer_notice n IsOffered o.lots o (terms_of r))) report [])
    go None = tt
    go (Some r) =
        subst (λ (reference : Tables). Holds firms (to_carrier reference o (offer_notice n IsOffered o.lots o (terms_of r)))) (sym grows.reference)
        (carrier-held register.reference o firms (offer_notice n IsOffered o.lots o (terms_of r)) held)

-- an event of an offer
pub event-held : (register later : Register) (n : ℕ) (event : OfferEvent) (lots : ℕ) (o : Offer) (firms : FirmFilter) → Grows register later → register.offer n ≡ Some o → may_hold firms o.firm ≡ true
    → CoversCarrier register o firms → Holds firms (told_of_event later n event lots)
event-held register later n event lots o firms grows is own held = rw (grows.offers n o is) (go (report_by later.reports o.firm o.report))
  where
    go : (report : Option Report) → Holds firms (option_map_or (λ (r : Report). to_both later.reference o (offer_notice n event lots o (terms_of r))) report [])
    go None = tt
    go (Some r) = (
      own,
      subst (λ (reference : Tables). Holds firms (to_carrier reference o (offer_notice n event lots o (terms_of r)))) (sym grows.reference)
          (carrier-held register.reference o firms (offer_notice n event lots o (terms_of r)) held),
    )

-- reports on a side
on-held : (firms : FirmFilter) (number : ℕ) (side : Side) (reports : List Report) → AllByRecursion (λ (r : Report). may_hold firms r.firm ≡ true) reports → Holds firms (told_on number side reports)
on-held firms number side [] held = tt
on-held firms number side (r ∷ reports) held =
    elim (cases_Bool (same_side r.side side)) [
      | inl hit ↦ rw hit (held.0, on-held firms number side reports held.1)
      | inr miss ↦ rw miss (on-held firms number side reports held.1)
    ]

-- if two are at most two, there is none after them
no_third : (first second : Report) (more : List Report) → length (first ∷ second ∷ more) ≤ 2 → more ≡ []
no_third first second [] few = refl
no_third first second (third ∷ more) few = absurd (omega (arith, few))

-- the two sides of a trade stay its sides
sides-stay : (register later : Register) (id : Id) (first second : Report) → Grows register later → with_match id register.reports ≡ first ∷ second ∷ [] → with_match id later.reports ≡ first ∷ second ∷ []
sides-stay register later id first second grows are =
    let more = grows.reports.0 in
    let all : with_match id later.reports ≡ first ∷ second ∷ with_match id more =
    ap (with_match id) grows.reports.1
    ∙ filter-append (λ (r : Report). same_id r.match_id id) register.reports more
    ∙ ap (λ (rs : List Report). rs ++ with_match id more) are in
    all ∙ ap (λ (rs : List Report). first ∷ second ∷ rs) (no_third first second (with_match id more) (subst (λ (rs : List Report). length rs ≤ 2) all (grows.sides id)))

-- a trade
pub trade-held : (register later : Register) (id : Id) (number : ℕ) (first second : Report) (firms : FirmFilter) → Grows register later → with_match id register.reports ≡ first ∷ second ∷ []
    → may_hold firms first.firm ≡ true → may_hold firms second.firm ≡ true → Holds firms (told_of_trade number (with_match id later.reports))
trade-held register later id number first second firms grows are one two =
    let sides = first ∷ second ∷ [] in
    rw (sides-stay register later id first second grows are)
    (holds-append firms (told_on number Buy sides) (told_on number Sell sides) (on-held firms number Buy sides (one, (two, tt))) (on-held firms number Sell sides (one, (two, tt))))

-- a take of a sweep
pub take-held : (later : Register) (t : Take) (firms : FirmFilter) → Holds firms (told_of_event later t.offer IsClaimed t.lots) → Holds firms (told_of_take later t)
take-held later t firms held =
    elim (cases_Bool (nat_le 1 t.lots && nat_le t.lots 1000000)) [
      | inl hit ↦ rw hit held
      | inr miss ↦ rw miss tt
    ]

-- ---- later entries

-- a match id has at most two reports
pub few_sides : (reports : List Report) → are_sides reports ≡ true → length reports ≤ 2
few_sides [] are = omega arith
few_sides (first ∷ []) are = omega arith
few_sides (first ∷ second ∷ []) are = omega arith
few_sides (first ∷ second ∷ third ∷ more) are = absurd (cc)

-- nothing was added
pub grows-self : (register : Register) → ((id : Id) → length (with_match id register.reports) ≤ 2) → Grows register register
grows-self register few = record { reference = refl; reports = ([], sym (append-nil register.reports)); sides = few; offers = λ n o is. is }

-- more was added, and then still more
grows-on : (register later last : Register) → Grows register later → Grows later last → Grows register last
grows-on register later last first then = record {
  reference = then.reference ∙ first.reference;
  reports = (
    first.reports.0 ++ then.reports.0,
    then.reports.1 ∙ ap (λ (rs : List Report). rs ++ then.reports.0) first.reports.1 ∙ append_assoc register.reports first.reports.0 then.reports.0,
  );
  sides = then.sides;
  offers = λ n o is. then.offers n o (first.offers n o is);
}

-- the recipients of entries, later
pub recipients-later : (register later : Register) → Grows register later → (history : List Entry) (recipients : List FirmFilter) → AreRecipients register history recipients → AreRecipients later history recipients
recipients-later register later grows history [] are = tt
recipients-later register later grows [] (firms ∷ recipients) are = absurd are
recipients-later register later grows (entry ∷ history) (firms ∷ recipients) are = (
  λ number last more. are.0 number last (grows-on register later last grows more),
  recipients-later register later grows history recipients are.1,
)

-- and when there are more entries
pub recipients-longer : (register : Register) (history more : List Entry) (recipients : List FirmFilter) → AreRecipients register history recipients → AreRecipients register (history ++ more) recipients
recipients-longer register history more [] are = tt
recipients-longer register [] more (firms ∷ recipients) are = absurd are
recipients-longer register (entry ∷ history) more (firms ∷ recipients) are = (are.0, recipients-longer register history more recipients are.1)

-- the recipients of one more entry
pub recipients-push : (register : Register) (history : List Entry) (recipients : List FirmFilter) (entry : Entry) (firms : FirmFilter) → AreRecipients register history recipients
    → slice_get history (length recipients) ≡ Some entry → Covers register entry firms → AreRecipients register history (recipients ++ firms ∷ [])
recipients-push register [] [] entry firms are at covers = cc
recipients-push register [] (some ∷ recipients) entry firms are at covers = absurd are
recipients-push register (one ∷ history) [] entry firms are at covers = (subst (λ (e : Entry). Covers register e firms) (sym (λ i. unwrap_or (at i) one)) covers, tt)
recipients-push register (one ∷ history) (some ∷ recipients) entry firms are at covers = (are.0, recipients-push register history recipients entry firms are.1 at covers)

-- the recipients of the entry at an index
pub recipients-at : (register : Register) (history : List Entry) (recipients : List FirmFilter) (place : ℕ) (entry : Entry) (firms : FirmFilter) → AreRecipients register history recipients
    → slice_get history place ≡ Some entry → slice_get recipients place ≡ Some firms → Covers register entry firms
recipients-at register history [] place entry firms are at_history at_recipients = cc
recipients-at register [] (some ∷ recipients) place entry firms are at_history at_recipients = absurd are
recipients-at register (one ∷ history) (some ∷ recipients) zero entry firms are at_history at_recipients =
    subst (λ (e : Entry). Covers register e firms) (λ i. unwrap_or (at_history i) one) (subst (Covers register one) (λ i. unwrap_or (at_recipients i) some) are.0)
recipients-at register (one ∷ history) (some ∷ recipients) (suc place) entry firms are at_history at_recipients = recipients-at register history recipients place entry firms are.1 at_history at_recipients

-- an entry that may not notify the firms with a bit has a recorded set, without that bit
pub held-out : (found : Option FirmFilter) (own : ℕ) → option_map_or (λ (firms : FirmFilter). has_place firms own) found true ≡ false
    → (firms : FirmFilter) × (found ≡ Some firms) × (has_place firms own ≡ false)
held-out None own out = cc
held-out (Some firms) own out = (firms, refl, out)

-- there is an element at each index of a list
at-place : {X : Type 0} (xs : List X) (place : ℕ) → place < length xs → (x : X) × (slice_get xs place ≡ Some x)
at-place [] place within = absurd (omega (arith, within))
at-place (x ∷ xs) zero within = (x, refl)
at-place (x ∷ xs) (suc place) within = at-place xs place (omega (arith, within))

-- if a firm isn't held, the entry doesn't notify it
pub nobody-told : (register : Register) (history : List Entry) (recipients : List FirmFilter) (place : ℕ) (firms : FirmFilter) (firm : FirmId) → AreRecipients register history recipients
    → ((id : Id) → length (with_match id register.reports) ≤ 2) → slice_get recipients place ≡ Some firms → has_place firms (place_of firm) ≡ false → place < length history
    → (entry : Entry) × (slice_get history place ≡ Some entry) × (told_to firm (told_by register (place + 1) entry) ≡ [])
nobody-told register history recipients place firms firm are sides at without within =
    let there = at-place history place within in
    let covers = recipients-at register history recipients place there.0 firms are there.1 at in
    (there.0, there.1, told_to-nobody firms firm (told_by register (place + 1) there.0) without (covers (place + 1) register (grows-self register sides)))
