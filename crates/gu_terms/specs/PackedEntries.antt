-- Machinery: entries as the history stores them. All texts are in one list of bytes, and each entry says where its own are.
use Rattle.std.specs.Prelude.{◌≡◌, ℕ, ℤ, ◌+◌, ◌-◌, ◌<◌, ◌≤◌, ◌^◌, ◌++◌, All, AllPairs, List, [], ◌∷◌, length, slice_get, take, drop}
use Rattle.std.specs.Option.{option_map_or}
use Rattle.gu_terms.specs.LimitKeys.{key_by}
use Rattle.gu_terms.specs.Names.{IsId, IsName}
use Rattle.gu_terms.specs.Refusals.{refusal_of}
use Rattle.gu_terms.specs.declared.command.Command.{Command}
use Rattle.gu_terms.specs.declared.command.Command.TheVariants as command
use Rattle.gu_terms.specs.declared.entry.Entry.{Entry}
use Rattle.gu_terms.specs.declared.entry.Entry.TheVariants.{Asked, Swept}
use Rattle.gu_terms.specs.declared.firm.FirmId.{FirmId}
use Rattle.gu_terms.specs.declared.lines.Line.{Line}
use Rattle.gu_terms.specs.declared.kept_reply.KeptReply.{KeptReply}
use Rattle.gu_terms.specs.declared.kept_reply.KeptReply.TheVariants as kept
use Rattle.gu_terms.specs.declared.kept_texts.Span.{Span}
use Rattle.gu_terms.specs.declared.packed.Body.{Body}
use Rattle.gu_terms.specs.declared.packed.Body.TheVariants as body
use Rattle.gu_terms.specs.declared.packed.KeptReport.{KeptReport}
use Rattle.gu_terms.specs.declared.packed.Packed.{Packed}
use Rattle.gu_terms.specs.declared.refusal.Refusal.TheVariants.{LimitReached}
use Rattle.gu_terms.specs.declared.reply.Done.TheVariants as done
use Rattle.gu_terms.specs.declared.reply.Reply.{Reply}
use Rattle.gu_terms.specs.declared.reply.Reply.TheVariants.{Accepted, Denied}

-- `len` bytes from position `at`
abbrev pub text_at : List ℕ → ℕ → ℕ → List ℕ
text_at texts at len = take len (drop at texts)

-- the texts of an entry: its command's own id, other id, symbol or group, account or key's name, and firm; and the name in its reply
pub record Texts : Type 0 where
  pub own_id : List ℕ
  pub other_id : List ℕ
  pub symbol_or_group : List ℕ
  pub account_or_key : List ℕ
  pub firm : List ℕ
  pub reply : List ℕ

-- no texts
abbrev pub no_texts : Texts
no_texts = record { own_id = []; other_id = []; symbol_or_group = []; account_or_key = []; firm = []; reply = [] }

-- all the texts, joined in order
abbrev pub joined : Texts → List ℕ
joined t = t.own_id ++ (t.other_id ++ (t.symbol_or_group ++ (t.account_or_key ++ (t.firm ++ t.reply))))

-- the place of texts that start at `at`
abbrev pub span_of : ℕ → Texts → Span
span_of at t = record {
  at = at;
  own_id = length t.own_id;
  other_id = length t.other_id;
  symbol_or_group = length t.symbol_or_group;
  account_or_key = length t.account_or_key;
  firm = length t.firm;
  reply = length t.reply;
}

-- the total length of the texts, in bytes
abbrev pub size_of : Span → ℕ
size_of span = span.own_id + span.other_id + span.symbol_or_group + span.account_or_key + span.firm + span.reply

-- the texts at this place among all
abbrev pub texts_at : List ℕ → Span → Texts
texts_at texts span = record {
  own_id = text_at texts span.at span.own_id;
  other_id = text_at texts (span.at + span.own_id) span.other_id;
  symbol_or_group = text_at texts (span.at + span.own_id + span.other_id) span.symbol_or_group;
  account_or_key = text_at texts (span.at + span.own_id + span.other_id + span.symbol_or_group) span.account_or_key;
  firm = text_at texts (span.at + span.own_id + span.other_id + span.symbol_or_group + span.account_or_key) span.firm;
  reply = text_at texts (span.at + span.own_id + span.other_id + span.symbol_or_group + span.account_or_key + span.firm) span.reply;
}

-- each text has at most 255 bytes
pub record AreShort (t : Texts) : Type 0 where
  pub own_id : length t.own_id ≤ 255
  pub other_id : length t.other_id ≤ 255
  pub symbol_or_group : length t.symbol_or_group ≤ 255
  pub account_or_key : length t.account_or_key ≤ 255
  pub firm : length t.firm ≤ 255
  pub reply : length t.reply ≤ 255

-- the reply stored as this, with this name if it has one
abbrev pub reply_by : List ℕ → KeptReply → Reply
reply_by name kept.Opened = Accepted done.Opened
reply_by name kept.LimitSet = Accepted done.LimitSet
reply_by name (kept.Reported matched) = Accepted (done.Reported matched)
reply_by name (kept.Offered first count) = Accepted (done.Offered (record { name = name }) first count)
reply_by name (kept.Claimed lots) = Accepted (done.Claimed lots)
reply_by name (kept.Refused lots) = Accepted (done.Refused lots)
reply_by name (kept.Reversed lots) = Accepted (done.Reversed lots)
reply_by name (kept.Denied number) = Denied (refusal_of number)
reply_by name (kept.LimitReached kind) = Denied (LimitReached (key_by kind name))

-- the firm in these texts
abbrev pub firm_by : Texts → FirmId
firm_by t = record { name = t.firm }

-- the report with these texts
abbrev pub report_by : Texts → KeptReport → ℤ → Command
report_by t r price =
    command.ReportSide (record {
      firm = firm_by t;
      id = t.own_id;
      match_id = t.other_id;
      symbol = record { name = t.symbol_or_group };
      lots = r.lots;
      price = price;
      day = r.day;
      side = r.side;
      account = record { name = t.account_or_key };
    })

-- the give-up with these texts and lines
abbrev pub given_up : Texts → List Line → Command
given_up t lines = command.GiveUp (record { firm = firm_by t; id = t.own_id; report = t.other_id; lines = lines })

-- the entry with these texts, this body and this reply
abbrev pub entry_by : Texts → Body → Reply → Entry
entry_by t (body.OpenDay day) reply = Asked (command.OpenDay (record { day = day })) reply
entry_by t (body.SetLimit kind lots) reply = Asked (command.SetLimit (record { group = record { name = t.symbol_or_group }; key = key_by kind t.account_or_key; lots = lots })) reply
entry_by t (body.ReportSide report price) reply = Asked (report_by t report price) reply
entry_by t (body.GiveUpOne lots) reply =
    Asked (given_up t (record { account = record { name = t.account_or_key }; lots = lots } ∷ [])) reply
entry_by t (body.GiveUp lines) reply = Asked (given_up t lines.value) reply
entry_by t (body.Claim offer) reply = Asked (command.Claim (record { firm = firm_by t; offer = offer })) reply
entry_by t (body.Refuse why offer) reply = Asked (command.Refuse (record { firm = firm_by t; offer = offer; why = why })) reply
entry_by t (body.Reverse offer) reply = Asked (command.Reverse (record { firm = firm_by t; offer = offer })) reply
entry_by t (body.Swept sweep) reply = Swept sweep.value

-- the entry stored as this, with these texts
abbrev pub entry_with : Texts → Packed → Entry
entry_with t kept = entry_by t kept.body (reply_by t.reply kept.reply)

-- the same, with its texts taken from all texts
abbrev pub entry_of : List ℕ → Packed → Entry
entry_of texts kept = entry_with (texts_at texts kept.span) kept

-- the position after its texts
abbrev pub end_of : Packed → ℕ
end_of kept = kept.span.at + size_of kept.span

-- the position after the texts of the last entry; 0 if there are no entries
abbrev pub end_of_last : List Packed → ℕ
end_of_last entries = option_map_or end_of (slice_get entries (length entries - 1)) 0

-- these are valid ids and names for each text that the body has
abbrev pub AreTextsOf : Texts → Body → Type 0
AreTextsOf t (body.SetLimit kind lots) = IsName t.symbol_or_group × IsName t.account_or_key
AreTextsOf t (body.ReportSide report price) = (IsId t.own_id × IsId t.other_id) × (IsName t.symbol_or_group × IsName t.account_or_key × IsName t.firm)
AreTextsOf t (body.GiveUpOne lots) = (IsId t.own_id × IsId t.other_id) × (IsName t.account_or_key × IsName t.firm)
AreTextsOf t (body.GiveUp lines) = (IsId t.own_id × IsId t.other_id) × IsName t.firm
AreTextsOf t (body.Claim offer) = IsName t.firm
AreTextsOf t (body.Refuse why offer) = IsName t.firm
AreTextsOf t (body.Reverse offer) = IsName t.firm
AreTextsOf t other = Unit {0}

-- this is a valid name, if the reply has one
abbrev pub IsNameOf : List ℕ → KeptReply → Type 0
IsNameOf name (kept.Offered first count) = IsName name
IsNameOf name (kept.LimitReached kind) = IsName name
IsNameOf name other = Unit {0}

-- an entry's texts are valid for its body and its reply
pub record AreSound (t : Texts) (kept : Packed) : Type 0 where
  pub texts : AreTextsOf t kept.body
  pub reply : IsNameOf t.reply kept.reply

-- a reply consists of this name and the rest as stored
pub record IsReplyOf (name : List ℕ) (kept : KeptReply) (reply : Reply) : Type 0 where
  pub sound : IsNameOf name kept
  pub same : reply_by name kept ≡ reply

-- a command consists of these texts and the rest as stored, whatever the reply; the reply's name is among the texts
pub record IsCommandOf (t : Texts) (body : Body) (command : Command) (name : List ℕ) : Type 0 where
  pub sound : AreTextsOf t body
  pub reply : t.reply ≡ name
  pub same : (reply : Reply) → entry_by t body reply ≡ Asked command reply

-- the texts of a stored entry are valid and lie within all texts
pub record IsWithin (texts : List ℕ) (kept : Packed) : Type 0 where
  pub within : end_of kept ≤ length texts
  pub sound : AreSound (texts_at texts kept.span) kept

-- this holds for every entry, and each entry's texts come after those of the entries before it; all texts have less than 2^32 bytes
pub record AreKept (texts : List ℕ) (entries : List Packed) : Type 0 where
  pub short : length texts < 2 ^ 32
  pub within : All (IsWithin texts) entries
  pub behind : AllPairs (λ earlier later. end_of earlier ≤ end_of later) entries
