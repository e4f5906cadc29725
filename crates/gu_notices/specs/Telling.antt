-- Machinery: notices as collected for a firm.
use Rattle.std.specs.Prelude.{◌≡◌, ℕ, ◌+◌, ◌-◌, ◌<◌, ◌≤◌, ◌++◌, ◌||◌, Bool, false, List, drop, length, take, Result, OnOk}
use Rattle.std.specs.Option.{option_map_or}
use Rattle.gu_terms.specs.Same.{same_firm}
use Rattle.gu_terms.specs.declared.entry.Entry.{Entry}
use Rattle.gu_terms.specs.declared.firm.FirmId.{FirmId}
use Rattle.gu_terms.specs.declared.notice.Notice.{Notice}
use Rattle.gu_terms.specs.declared.offer.Offer.{Offer}
use Rattle.gu_ref.specs.Reference.{account_row}
use Rattle.gu_ref.specs.Tables.{Tables}
use Rattle.gu_ref.specs.declared.accounts.Account.{Account}
use Rattle.gu_rules.specs.Notices.{Register, Told, told_from, told_to}
use Rattle.gu_notices.specs.declared.mailbox.Mailbox.{Mailbox}
use Rattle.gu_notices.specs.declared.span.Span.{Span}

-- a firm gives an offer up, or carries its account
abbrev pub is_party : Tables → FirmId → Offer → Bool
is_party reference firm o = same_firm o.firm firm || option_map_or (λ (a : Account). same_firm a.firm firm) (account_row reference o.account) false

-- a firm is a party to the offer with a number; it gets notices of no other offer
abbrev pub is_party_to : Register → FirmId → ℕ → Bool
is_party_to register firm n = option_map_or (is_party register.reference firm) (register.offer n) false

-- if no allocation failed, the firm's notices among these are appended to the earlier ones
pub record IsTold {T E : Type 0} (old new : Mailbox) (result : Result T E) (told : List Told) : Type 0 where
  pub firm : new.firm ≡ old.firm
  pub list : OnOk result (new.list.items ≡ old.list.items ++ told_to old.firm told)

-- a firm's notices of the entries from one index up to another
abbrev pub told_at_places : Register → List Entry → FirmId → ℕ → ℕ → List Notice
told_at_places register history firm start place = told_to firm (told_from register (start + 1) (take (place - start) (drop start history)))

-- the entries of a span were covered up to an index, with these notices to a firm; the walk stopped at the span's end or with more than
-- `most` notices, and before its last entry it had at most `most`
pub record IsWalked (register : Register) (history : List Entry) (firm : FirmId) (span : Span) (list : List Notice) (place : ℕ) : Type 0 where
  pub start : span.start ≤ place
  pub end : place ≤ span.end
  pub told : list ≡ told_at_places register history firm span.start place
  pub stopped : place < span.end → span.most < length list
  pub before : span.start < place → length (told_at_places register history firm span.start (place - 1)) ≤ span.most
