-- Commands and sweeps written as script lines.
use Rattle.std.specs.Prelude.{ℕ, ◌<◌, ◌^◌, List, [], ◌∷◌, ◌++◌, codes, map, None, IsTrue}
use Rattle.std.specs.Fmt.{decimal}
use Rattle.std.specs.List.{AllByRecursion}
use Rattle.gu_terms.specs.AllocRejects.{reject_number}
use Rattle.gu_terms.specs.LimitKeys.{kind_of, name_of_key}
use Rattle.gu_terms.specs.Lines.{AreLines}
use Rattle.gu_terms.specs.Names.{IsId, is_name}
use Rattle.gu_terms.specs.Numbers.{IsLots, IsOfferNo, IsPrice}
use Rattle.gu_terms.specs.WrittenNumbers.{date_text, price_text}
use Rattle.gu_terms.specs.declared.command.Command.{Command}
use Rattle.gu_terms.specs.declared.command.Command.TheVariants.{OpenDay, SetLimit, ReportSide, GiveUp, Claim, Refuse, Reverse}
use Rattle.gu_terms.specs.declared.day.Day.{Day}
use Rattle.gu_terms.specs.declared.entry.SweepEntry.{SweepEntry}
use Rattle.gu_terms.specs.declared.group.Group.{Group}
use Rattle.gu_terms.specs.declared.limit_key.LimitKey.{LimitKey}
use Rattle.gu_terms.specs.declared.lines.Line.{Line as GiveUpLine}
use Rattle.gu_terms.specs.declared.takes.Take.{Take}
use Rattle.gu_text.specs.Lines.{is_silent}
use Rattle.gu_text.specs.ReadBack.{AreWords, joined}
use Rattle.gu_text.specs.Scripts.{Says, side_word}
use Rattle.gu_text.specs.SheetText.{cut_key_words, cut_offer_words, take_words}
use Rattle.gu_text.specs.Texts.{line_of}
use Rattle.gu_text.specs.declared.script_line.Line.{Line}

-- the words of a give-up's lines: the account and the lots of each
abbrev pub pair_words : List GiveUpLine → List (List ℕ)
pair_words [] = []
pair_words (first ∷ others) = first.account.name ∷ decimal first.lots ∷ pair_words others

-- the words of a command: its first word, followed by names, ids and numbers; there is no word for the day that a report names
abbrev pub command_words : Command → List (List ℕ)
command_words (OpenDay opening) = codes "DAY" ∷ date_text opening.day.year opening.day.month opening.day.day ∷ []
command_words (SetLimit limit) = codes "LIMIT" ∷ limit.group.name ∷ kind_of limit.key ∷ name_of_key limit.key ∷ decimal limit.lots ∷ []
command_words (ReportSide report) =
    codes "REPORT" ∷ report.firm.name ∷ report.id ∷ report.match_id ∷ side_word report.side ∷ report.symbol.name ∷ decimal report.lots ∷ price_text report.price ∷ report.account.name ∷ []
command_words (GiveUp give_up) = codes "GIVEUP" ∷ give_up.firm.name ∷ give_up.id ∷ give_up.report ∷ pair_words give_up.lines
command_words (Claim claim) = codes "CLAIM" ∷ claim.firm.name ∷ decimal claim.offer ∷ []
command_words (Refuse refusal) = codes "REFUSE" ∷ refusal.firm.name ∷ decimal refusal.offer ∷ decimal (reject_number refusal.why) ∷ []
command_words (Reverse reversal) = codes "REVERSE" ∷ reversal.firm.name ∷ decimal reversal.offer ∷ []

-- the words of a whole sweep
abbrev pub sweep_words : Group → List (List ℕ)
sweep_words group = codes "SWEEP" ∷ group.name ∷ []

-- the words of comments: the lots that a sweep takes from an offer, a key of its cut, and an offer of its cut
abbrev pub take_remark : Take → List (List ℕ)
take_remark take = codes "#" ∷ take_words take.offer take.lots

abbrev pub cut_key_remark : LimitKey → List (List ℕ)
cut_key_remark key = codes "#" ∷ cut_key_words key

abbrev pub cut_offer_remark : ℕ → List (List ℕ)
cut_offer_remark offer = codes "#" ∷ cut_offer_words offer

-- a sweep's takes and its cut as comments, each as words
abbrev pub sweep_remarks : SweepEntry → List (List (List ℕ))
sweep_remarks sweep = map take_remark sweep.takes ++ map cut_key_remark sweep.cut.keys ++ map cut_offer_remark sweep.cut.offers

-- the lines of a committed sweep, as words
abbrev pub sweep_rows : SweepEntry → List (List (List ℕ))
sweep_rows sweep = sweep_words sweep.group ∷ sweep_remarks sweep

-- the words of a comment with a report and the day that it names
abbrev pub remark_words : Command → Day → List (List ℕ)
remark_words report day = codes "#" ∷ command_words report ++ date_text day.year day.month day.day ∷ []

-- the lines of such comments
abbrev pub take_remark_text : Take → List ℕ
take_remark_text take = line_of (take_remark take)

abbrev pub cut_key_remark_text : LimitKey → List ℕ
cut_key_remark_text key = line_of (cut_key_remark key)

abbrev pub cut_offer_remark_text : ℕ → List ℕ
cut_offer_remark_text offer = line_of (cut_offer_remark offer)

-- the line for a command, and the comment line for a report and its day
abbrev pub command_text : Command → List ℕ
command_text command = line_of (command_words command)

abbrev pub remark_text : Command → Day → List ℕ
remark_text report day = line_of (remark_words report day)

-- a report without the day that it names, so for the open day; any other command unchanged
abbrev pub undated : Command → Command
undated (ReportSide report) = ReportSide (record report { day = None })
undated command = command

-- the invariants of commands: names, ids, lots, prices and offer numbers are valid; and one requirement of scripts: a limit has at most
-- twelve digits
abbrev pub IsWritableCommand : Command → Type 0
IsWritableCommand (OpenDay opening) = Unit {0}
IsWritableCommand (SetLimit limit) = IsTrue (is_name limit.group.name) × IsTrue (is_name (name_of_key limit.key)) × (limit.lots < 10 ^ 12)
IsWritableCommand (ReportSide report) =
    IsTrue (is_name report.firm.name) × IsId report.id × IsId report.match_id × IsTrue (is_name report.symbol.name) × IsLots report.lots × IsPrice report.price × IsTrue (is_name report.account.name)
IsWritableCommand (GiveUp give_up) =
    IsTrue (is_name give_up.firm.name) × IsId give_up.id × IsId give_up.report × AreLines give_up.lines
    × AllByRecursion (λ (l : GiveUpLine). IsTrue (is_name l.account.name) × IsLots l.lots) give_up.lines
IsWritableCommand (Claim claim) = IsTrue (is_name claim.firm.name) × IsOfferNo claim.offer
IsWritableCommand (Refuse refusal) = IsTrue (is_name refusal.firm.name) × IsOfferNo refusal.offer
IsWritableCommand (Reverse reversal) = IsTrue (is_name reversal.firm.name) × IsOfferNo reversal.offer

-- the invariants of sweeps: names and offer numbers are valid; and one requirement of scripts: lots have at most twelve digits
pub record IsWritableSweep (sweep : SweepEntry) : Type 0 where
  pub group : IsTrue (is_name sweep.group.name)
  pub takes : AllByRecursion (λ (t : Take). IsOfferNo t.offer × (t.lots < 10 ^ 12)) sweep.takes
  pub keys : AllByRecursion (λ (k : LimitKey). IsTrue (is_name (name_of_key k))) sweep.cut.keys
  pub offers : AllByRecursion IsOfferNo sweep.cut.offers

-- these words make a line, which says nothing in a script
pub record IsSilentLineOf (words : List (List ℕ)) : Type 0 where
  pub are : AreWords words
  pub silent : IsTrue (is_silent (joined words))

-- these words make a line, which has this content in a script
pub record IsScriptLineOf (words : List (List ℕ)) (said : Line) : Type 0 where
  pub are : AreWords words
  pub says : Says (joined words) said
