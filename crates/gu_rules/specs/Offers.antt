-- Offers: what give-ups make, and how claims, sweeps, refusals and reversals change them.
use Rattle.std.specs.Prelude.{ℕ, ◌+◌, ◌-◌, ◌==◌, ◌&&◌, Bool, false, List, [], ◌∷◌, map, sum_by, if◌then◌else◌}
use Rattle.std.specs.List.{flat_map, list_any}
use Rattle.gu_terms.specs.Same.{same_firm, same_id}
use Rattle.gu_terms.specs.Takes.{lots_of}
use Rattle.gu_terms.specs.declared.command.Command.TheVariants.{GiveUp, Claim, Refuse, Reverse}
use Rattle.gu_terms.specs.declared.entry.Entry.{Entry}
use Rattle.gu_terms.specs.declared.entry.Entry.TheVariants.{Asked, Swept}
use Rattle.gu_terms.specs.declared.firm.FirmId.{FirmId}
use Rattle.gu_terms.specs.declared.id.Id.{Id}
use Rattle.gu_terms.specs.declared.lines.Line.{Line}
use Rattle.gu_terms.specs.declared.offer.Offer.{Offer}
use Rattle.gu_terms.specs.declared.reply.Done.TheVariants.{Offered, Claimed, Refused, Reversed}
use Rattle.gu_terms.specs.declared.reply.Reply.TheVariants.{Accepted}
use Rattle.gu_offers.specs.Rows.{Row}
use Rattle.gu_rules.specs.Reports.{entries_today}

-- the offers that an entry makes: the lines of an accepted give-up, in the group named in its reply
abbrev pub lines_by : Entry → List Offer
lines_by (Asked (GiveUp give_up) (Accepted (Offered group first count))) =
    map (λ (l : Line). record { firm = give_up.firm; report = give_up.report; group = group; account = l.account; lots = l.lots }) give_up.lines
lines_by _ = []

-- all offers, in order
abbrev pub offers_of : List Entry → List Offer
offers_of history = flat_map lines_by history

-- the lots that an entry takes from the offer with a number: an accepted claim, or a sweep
abbrev pub taken_by : ℕ → Entry → ℕ
taken_by n (Asked (Claim claim) (Accepted (Claimed lots))) = if claim.offer == n then lots else 0
taken_by n (Swept sweep) = lots_of sweep.takes n
taken_by n _ = 0

-- the lots that an entry gives back to it: an accepted reversal
abbrev pub given_back_by : ℕ → Entry → ℕ
given_back_by n (Asked (Reverse reversal) (Accepted (Reversed lots))) = if reversal.offer == n then lots else 0
given_back_by n _ = 0

-- the lots of it that entries moved: those taken less those given back
abbrev pub moved_of : List Entry → ℕ → ℕ
moved_of entries n = sum_by (taken_by n) entries - sum_by (given_back_by n) entries

-- an entry closes it for good: an accepted refusal or reversal
abbrev pub closes : ℕ → Entry → Bool
closes n (Asked (Refuse refusal) (Accepted (Refused lots))) = refusal.offer == n
closes n (Asked (Reverse reversal) (Accepted (Reversed lots))) = reversal.offer == n
closes n _ = false

-- it was closed for good
abbrev pub is_shut : List Entry → ℕ → Bool
is_shut history n = list_any (closes n) history

-- an offer with this number, as it is now
abbrev pub standing : List Entry → ℕ → Offer → Row
standing history n offer =
    record { offer = offer; moved = moved_of history n; today = moved_of (entries_today history) n; is_shut = is_shut history n }

-- offers as they are now, numbered from this number
abbrev pub standing_from : List Entry → ℕ → List Offer → List Row
standing_from history n [] = []
standing_from history n (offer ∷ offers) = standing history n offer ∷ standing_from history (n + 1) offers

-- all offers as they are now; the first has number 1
abbrev pub standing_of : List Entry → List Row
standing_of history = standing_from history 1 (offers_of history)

-- an entry is this firm's accepted give-up with this id
abbrev pub gave_up : FirmId → Id → Entry → Bool
gave_up firm id (Asked (GiveUp give_up) (Accepted (Offered group first count))) = same_firm give_up.firm firm && same_id give_up.id id
gave_up firm id _ = false

-- the firm has given up with this id
abbrev pub has_give_up : List Entry → FirmId → Id → Bool
has_give_up history firm id = list_any (gave_up firm id) history
