-- Machinery: an accepted command's effect, with everything that was looked up to decide it.
use Rattle.std.specs.Prelude.{◌≡◌, ℕ, length, Option, Some, Result, Ok, Err, is_some}
use Rattle.std.specs.Option.{option_map}
use Rattle.gu_terms.specs.declared.alloc_reject.AllocReject.{AllocReject}
use Rattle.gu_terms.specs.declared.command.Command.{Command}
use Rattle.gu_terms.specs.declared.command.Command.TheVariants as asked
use Rattle.gu_terms.specs.declared.command.GiveUp.{GiveUp}
use Rattle.gu_terms.specs.declared.command.OpenDay.{OpenDay}
use Rattle.gu_terms.specs.declared.command.ReportSide.{ReportSide}
use Rattle.gu_terms.specs.declared.command.SetLimit.{SetLimit}
use Rattle.gu_terms.specs.declared.day.Day.{Day}
use Rattle.gu_terms.specs.declared.firm.FirmId.{FirmId}
use Rattle.gu_terms.specs.declared.group.Group.{Group}
use Rattle.gu_terms.specs.declared.offer.Offer.{Offer}
use Rattle.gu_terms.specs.declared.refusal.Refusal.{Refusal}
use Rattle.gu_terms.specs.declared.reply.Done.{Done}
use Rattle.gu_terms.specs.declared.reply.Done.TheVariants.{Opened, LimitSet, Reported, Offered, Claimed, Refused, Reversed}
use Rattle.gu_terms.specs.declared.reply.Reply.{Reply}
use Rattle.gu_terms.specs.declared.reply.Reply.TheVariants.{Accepted, Denied}
use Rattle.gu_ref.specs.Tables.{Tables}
use Rattle.gu_limits.specs.Limits.{AreLimitsOf}
use Rattle.gu_trades.specs.Counterparts.{counterpart_of}
use Rattle.gu_trades.specs.Reports.{made_on, report_by, with_match}
use Rattle.gu_trades.specs.Terms.{terms_of}
use Rattle.gu_trades.specs.declared.terms.Terms.{Terms}
use Rattle.gu_offers.specs.Rows.{Row, left_in, row_at, today_in}
use Rattle.gu_rules.specs.Answer.{given_up}
use Rattle.gu_rules.specs.Limits.{path_after}
use Rattle.gu_book.specs.Beside.{state_in, waiting_of}
use Rattle.gu_book.specs.GivenUp.{names_at}
use Rattle.gu_book.specs.declared.deed.Moved.{Moved}
use Rattle.gu_book.specs.declared.totals.Totals.{Totals}
use Rattle.gu_book.specs.declared.versions.Touched.{Touched}
use Rattle.gu_book.specs.declared.versions.Touched.TheVariants.{Nothing, Only, Every}

-- an accepted command's effect, with everything that was looked up to decide it
pub data Deed : Type 0 where
  Opens : (opening : OpenDay) → Deed
  SetsLimit : (limit : SetLimit) → Deed
  Reports : (report : ReportSide) (today : Day) (waiting : Option Terms) → Deed
  GivesUp : (give_up : GiveUp) (group : Group) (first report : ℕ) → Deed
  Claims : (claimed : Moved) → Deed
  Refuses : (number : ℕ) (group : Group) (lots : ℕ) → Deed
  Reverses : (reversed : Moved) → Deed

-- what the reply to a command with this effect says
abbrev pub done_by : Deed → Done
done_by (Opens opening) = Opened
done_by (SetsLimit limit) = LimitSet
done_by (Reports report today waiting) = Reported (is_some waiting)
done_by (GivesUp give_up group first report) = Offered group first (length give_up.lines)
done_by (Claims claimed) = Claimed claimed.lots
done_by (Refuses number group lots) = Refused lots
done_by (Reverses reversed) = Reversed reversed.lots

-- the groups that its entry touches (a refused command touches none)
abbrev pub touched_by : Deed → Touched
touched_by (Opens opening) = Every
touched_by (SetsLimit limit) = Only limit.group
touched_by (Reports report today waiting) = Nothing
touched_by (GivesUp give_up group first report) = Only group
touched_by (Claims claimed) = Only claimed.group
touched_by (Refuses number group lots) = Only group
touched_by (Reverses reversed) = Only reversed.group

-- that reply if the command is accepted, or else the refusal
abbrev pub reply_by : {D : Type 0} → (D → Deed) → Result D Refusal → Reply
reply_by does (Ok deed) = Accepted (done_by (does deed))
reply_by does (Err why) = Denied why

-- the offer with this number is this one, and its report has these terms
pub record AreFound (totals : Totals) (n : ℕ) (offer : Offer) (report : Terms) : Type 0 where
  pub shown : Some offer ≡ option_map (λ (r : Row). r.offer) (row_at totals.offers n)
  pub found : Some report ≡ option_map terms_of (report_by totals.trades offer.firm offer.report)

-- what is looked up to move lots of an offer: its group and account, the terms of its report, and the limits of its path
pub record IsFound (reference : Tables) (totals : Totals) (moved : Moved) : Type 0 where
  pub offer : Offer
  pub seen : AreFound totals moved.number offer moved.report
  pub group_is : moved.group ≡ offer.group
  pub account_is : moved.account ≡ offer.account
  pub under : AreLimitsOf totals.limits moved.group (path_after reference offer) moved.limits

-- a command that some firm enters with `ask` moves these lots of an offer
pub record MovesLots (reference : Tables) (totals : Totals) (command : Command) (ask : FirmId → ℕ → Command) (moved : Moved) (lots : ℕ) : Type 0 where
  pub firm : FirmId
  pub is : command ≡ ask firm moved.number
  pub found : IsFound reference totals moved
  pub all : moved.lots ≡ lots

-- a command makes this report on the open day, given the terms of the report that waits for it, if one does
pub record MakesReport (totals : Totals) (command : Command) (report : ReportSide) (today : Day) (waiting : Option Terms) : Type 0 where
  pub is : command ≡ asked.ReportSide report
  pub opened : totals.today ≡ Some today
  pub met : waiting ≡ waiting_of (counterpart_of (with_match report.match_id totals.trades) (terms_of (made_on today report)))

-- a command gives these lines up, for the report with this number, in this group
pub record GivesLines (reference : Tables) (totals : Totals) (command : Command) (give_up : GiveUp) (group : Group) (report : ℕ) : Type 0 where
  pub is : command ≡ asked.GiveUp give_up
  pub group_is : option_map (λ g. g.1) (given_up reference (state_in totals) give_up.firm give_up.report) ≡ Some group
  pub report_is : names_at totals.trades report ≡ Some (give_up.firm, give_up.report)

-- a command refuses an offer in this group
pub record RefusesOffer (totals : Totals) (command : Command) (number : ℕ) (group : Group) : Type 0 where
  pub firm : FirmId
  pub why : AllocReject
  pub is : command ≡ asked.Refuse (record { firm = firm; offer = number; why = why })
  pub group_is : Some group ≡ option_map (λ (r : Row). r.offer.group) (row_at totals.offers number)

-- a firm's claim of an offer, and its reversal of one
abbrev pub claim_of : FirmId → ℕ → Command
claim_of firm offer = asked.Claim (record { firm = firm; offer = offer })

abbrev pub reversal_of : FirmId → ℕ → Command
reversal_of firm offer = asked.Reverse (record { firm = firm; offer = offer })

-- an accepted command's effect, given these totals: a claim moves all that is left, a reversal all that was moved today
abbrev pub IsDeedOf : Tables → Totals → Command → Deed → Type 0
IsDeedOf reference totals command (Opens opening) = command ≡ asked.OpenDay opening
IsDeedOf reference totals command (SetsLimit limit) = command ≡ asked.SetLimit limit
IsDeedOf reference totals command (Reports report today waiting) = MakesReport totals command report today waiting
IsDeedOf reference totals command (GivesUp give_up group first report) = GivesLines reference totals command give_up group report
IsDeedOf reference totals command (Claims claimed) = MovesLots reference totals command claim_of claimed (left_in totals.offers claimed.number)
IsDeedOf reference totals command (Refuses number group lots) = RefusesOffer totals command number group
IsDeedOf reference totals command (Reverses reversed) = MovesLots reference totals command reversal_of reversed (today_in totals.offers reversed.number)
