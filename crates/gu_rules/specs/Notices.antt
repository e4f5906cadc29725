-- Notices: what entries send unsolicited, and to which firms.
use Rattle.std.specs.Prelude.{◌≡◌, ℕ, ◌+◌, ◌-◌, ◌<◌, ◌≤◌, ◌++◌, ◌&&◌, ◌⊎◌, ◌↔◌, IsTrue, nat_le, true, false, List, [], ◌∷◌, drop, filter, length, map, max, take, Option, if◌then◌else◌}
use Rattle.std.specs.List.{flat_map, range_with_len}
use Rattle.std.specs.Option.{option_map_or}
use Rattle.gu_terms.specs.Same.{same_firm, same_side}
use Rattle.gu_terms.specs.declared.command.Command.TheVariants.{ReportSide, GiveUp, Claim, Refuse, Reverse}
use Rattle.gu_terms.specs.declared.entry.Entry.{Entry}
use Rattle.gu_terms.specs.declared.entry.Entry.TheVariants.{Asked, Swept}
use Rattle.gu_terms.specs.declared.firm.FirmId.{FirmId}
use Rattle.gu_terms.specs.declared.notice.Notice.{Notice}
use Rattle.gu_terms.specs.declared.notice.Notice.TheVariants.{Matched, Offer as OfferOf}
use Rattle.gu_terms.specs.declared.notice.Stretch.{Stretch}
use Rattle.gu_terms.specs.declared.notice.OfferEvent.{OfferEvent}
use Rattle.gu_terms.specs.declared.notice.OfferEvent.TheVariants.{Offered as IsOffered, Claimed as IsClaimed, Refused as IsRefused, Reversed as IsReversed}
use Rattle.gu_terms.specs.declared.offer.Offer.{Offer}
use Rattle.gu_terms.specs.declared.reply.Done.TheVariants.{Reported, Offered, Claimed, Refused, Reversed}
use Rattle.gu_terms.specs.declared.reply.Reply.TheVariants.{Accepted}
use Rattle.gu_terms.specs.declared.report.Report.{Report}
use Rattle.gu_terms.specs.declared.side.Side.{Side}
use Rattle.gu_terms.specs.declared.side.Side.TheVariants.{Buy, Sell}
use Rattle.gu_terms.specs.declared.takes.Take.{Take}
use Rattle.gu_ref.specs.Reference.{account_row}
use Rattle.gu_ref.specs.Tables.{Tables}
use Rattle.gu_ref.specs.declared.accounts.Account.{Account}
use Rattle.gu_trades.specs.Reports.{report_by, with_match}
use Rattle.gu_trades.specs.Terms.{terms_of}
use Rattle.gu_trades.specs.declared.terms.Terms.{Terms}
use Rattle.gu_rules.specs.BookState.{BookState}
use Rattle.gu_rules.specs.Reports.{reports_of}
use Rattle.gu_rules.specs.Versions.{offer_at}

-- what notices are made from: the reference, the reports, and the offer with each number
pub record Register : Type 0 where
  pub reference : Tables
  pub reports : List Report
  pub offer : ℕ → Option Offer

-- the register of a book
abbrev pub register_of : BookState → Register
register_of book = record { reference = book.reference; reports = reports_of book.history; offer = offer_at book.history }

-- a notice and the firm that it is sent to
pub record Told : Type 0 where
  pub firm : FirmId
  pub notice : Notice

-- an event of an offer, with this number of lots: the account is the offer's, and the rest comes from the trade given up
abbrev pub offer_notice : ℕ → OfferEvent → ℕ → Offer → Terms → Notice
offer_notice n event lots o t =
    OfferOf (record { offer = n; event = event; lots = lots; account = o.account; symbol = t.symbol; side = t.side; price = t.price; day = t.day })

-- a notice to the firm that carries an offer's account
abbrev pub to_carrier : Tables → Offer → Notice → List Told
to_carrier reference o notice = option_map_or (λ (a : Account). record { firm = a.firm; notice = notice } ∷ []) (account_row reference o.account) []

-- a notice to the firm that gives an offer up, and then to the one that carries its account
abbrev pub to_both : Tables → Offer → Notice → List Told
to_both reference o notice = record { firm = o.firm; notice = notice } ∷ to_carrier reference o notice

-- the notices about the offer with a number, made from the offer and its report; none if either is missing
abbrev pub told_of : Register → ℕ → (Offer → Report → List Told) → List Told
told_of register n tell = option_map_or (λ (o : Offer). option_map_or (tell o) (report_by register.reports o.firm o.report) []) (register.offer n) []

-- an offer was made: the firm that carries its account is notified
abbrev pub told_of_line : Register → ℕ → List Told
told_of_line register n = told_of register n (λ o r. to_carrier register.reference o (offer_notice n IsOffered o.lots o (terms_of r)))

-- lots of an offer were claimed, refused or moved back: both its firms are notified
abbrev pub told_of_event : Register → ℕ → OfferEvent → ℕ → List Told
told_of_event register n event lots = told_of register n (λ o r. to_both register.reference o (offer_notice n event lots o (terms_of r)))

-- a sweep took lots from an offer: both its firms are notified; nobody is if it took 0 lots or more than 1,000,000 (which no sweep takes)
abbrev pub told_of_take : Register → Take → List Told
told_of_take register t = if nat_le 1 t.lots && nat_le t.lots 1000000 then told_of_event register t.offer IsClaimed t.lots else []

-- the reports on a side, each sent to its firm
abbrev pub told_on : ℕ → Side → List Report → List Told
told_on number side reports = map (λ (r : Report). record { firm = r.firm; notice = Matched number r }) (filter (λ (r : Report). same_side r.side side) reports)

-- a trade is sent to both its firms, the buyer first
abbrev pub told_of_trade : ℕ → List Report → List Told
told_of_trade number reports = told_on number Buy reports ++ told_on number Sell reports

-- the notices of an entry: a report that makes a trade, a give-up by its lines, a claim, refusal, reversal, a sweep by its takes; else none
abbrev pub told_by : Register → ℕ → Entry → List Told
told_by register number (Asked (ReportSide report) (Accepted (Reported true))) = told_of_trade number (with_match report.match_id register.reports)
told_by register number (Asked (GiveUp give_up) (Accepted (Offered group first count))) = flat_map (told_of_line register) (range_with_len first (length give_up.lines))
told_by register number (Asked (Claim claim) (Accepted (Claimed lots))) = told_of_event register claim.offer IsClaimed lots
told_by register number (Asked (Refuse refusal) (Accepted (Refused lots))) = told_of_event register refusal.offer (IsRefused refusal.why) lots
told_by register number (Asked (Reverse reversal) (Accepted (Reversed lots))) = told_of_event register reversal.offer IsReversed lots
told_by register number (Swept sweep) = flat_map (told_of_take register) sweep.takes
told_by register number _ = []

-- the notices of entries, the first of which has this number
abbrev pub told_from : Register → ℕ → List Entry → List Told
told_from register number [] = []
told_from register number (entry ∷ later) = told_by register number entry ++ told_from register (number + 1) later

-- the notices sent to a firm
abbrev pub told_to : FirmId → List Told → List Notice
told_to firm told = map (λ (t : Told). t.notice) (filter (λ (t : Told). same_firm t.firm firm) told)

-- a firm's notices of the entries from a number on
abbrev pub notices_of : BookState → FirmId → ℕ → List Notice
notices_of book firm from = told_to firm (told_from (register_of book) (max 1 from) (drop (from - 1) book.history))

-- a firm's notices of the entries from one number up to, but not including, another
abbrev pub told_between : Register → List Entry → FirmId → ℕ → ℕ → List Notice
told_between register history firm from next = told_to firm (told_from register (max 1 from) (take (next - max 1 from) (drop (from - 1) history)))

-- the same for a book
abbrev pub notices_between : BookState → FirmId → ℕ → ℕ → List Notice
notices_between book firm from next = told_between (register_of book) book.history firm from next

-- a batch of a firm's notices from a number on, at least 1, covering the entries before `next`
pub record IsStretchOf (register : Register) (history : List Entry) (firm : FirmId) (from : ℕ) (stretch : Stretch) : Type 0 where
  -- it has all their notices
  pub list : stretch.notices.list.items ≡ told_between register history firm from stretch.notices.next
  -- it covers at most 1,024 entries, and none beyond the last
  pub from_first : max 1 from ≤ stretch.notices.next
  pub most : stretch.notices.next ≤ max 1 from + 1024
  pub inside : stretch.notices.next ≤ max (max 1 from) (length history + 1)
  -- it covers no further entry once it has 1,024 notices
  pub few : max 1 from < stretch.notices.next → length (told_between register history firm from (stretch.notices.next - 1)) < 1024
  -- it is the last batch if and only if no entry has number `next` or higher
  pub last : IsTrue stretch.is_last ↔ (length history < stretch.notices.next)
  -- any other batch covers at least one entry, and ends because it covers 1,024 entries or has 1,024 notices
  pub onwards : stretch.is_last ≡ false → max 1 from < stretch.notices.next
  pub full : stretch.is_last ≡ false → (stretch.notices.next ≡ max 1 from + 1024) ⊎ (1024 ≤ length stretch.notices.list.items)

-- a batch of a book's notices to a firm from a number on
abbrev pub IsStretch : BookState → FirmId → ℕ → Stretch → Type 0
IsStretch book firm from stretch = IsStretchOf (register_of book) book.history firm from stretch
