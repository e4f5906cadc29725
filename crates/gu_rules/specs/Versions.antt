-- Versions: the number of entries that touched a group.
use Rattle.std.specs.Prelude.{ℕ, zero, suc, ◌+◌, Bool, true, false, List, [], ◌∷◌, ◌++◌, length, Option, Some, None, slice_get, if◌then◌else◌}
use Rattle.std.specs.Option.{option_map_or, option_to_list}
use Rattle.gu_terms.specs.Same.{same_group}
use Rattle.gu_terms.specs.declared.command.Command.TheVariants.{OpenDay, SetLimit, GiveUp, Claim, Refuse, Reverse}
use Rattle.gu_terms.specs.declared.entry.Entry.{Entry}
use Rattle.gu_terms.specs.declared.entry.Entry.TheVariants.{Asked, Swept}
use Rattle.gu_terms.specs.declared.group.Group.{Group}
use Rattle.gu_terms.specs.declared.offer.Offer.{Offer}
use Rattle.gu_terms.specs.declared.reply.Done.TheVariants.{Opened, LimitSet, Offered, Claimed, Refused, Reversed}
use Rattle.gu_terms.specs.declared.reply.Reply.TheVariants.{Accepted}
use Rattle.gu_rules.specs.Offers.{offers_of}

-- the offer with this number; the first has number 1, and none has number 0
abbrev pub offer_at : List Entry → ℕ → Option Offer
offer_at history zero = None
offer_at history (suc place) = slice_get (offers_of history) place

-- the offer with this number is in this group
abbrev pub is_of_group : List Entry → Group → ℕ → Bool
is_of_group history group n = option_map_or (λ (o : Offer). same_group o.group group) (offer_at history n) false

-- an entry after these touches a group: an opening touches every group; a limit or a give-up its own; a claim, a refusal or a reversal that
-- of its offer; a sweep its own, even if it takes nothing; reports and refused commands touch none
abbrev pub touches : List Entry → Group → Entry → Bool
touches before group (Asked (OpenDay opening) (Accepted Opened)) = true
touches before group (Asked (SetLimit limit) (Accepted LimitSet)) = same_group limit.group group
touches before group (Asked (GiveUp give_up) (Accepted (Offered at first count))) = same_group at group
touches before group (Asked (Claim claim) (Accepted (Claimed lots))) = is_of_group before group claim.offer
touches before group (Asked (Refuse refusal) (Accepted (Refused lots))) = is_of_group before group refusal.offer
touches before group (Asked (Reverse reversal) (Accepted (Reversed lots))) = is_of_group before group reversal.offer
touches before group (Swept sweep) = same_group sweep.group group
touches before group (Asked command reply) = false

-- the numbers of later entries that touch a group, after these entries
abbrev pub touching_after : List Entry → Group → List Entry → List ℕ
touching_after before group [] = []
touching_after before group (entry ∷ later) =
    option_to_list (if touches before group entry then Some (length before + 1) else None) ++ touching_after (before ++ entry ∷ []) group later

-- the numbers of the entries that touch a group, ascending
abbrev pub touching : List Entry → Group → List ℕ
touching history group = touching_after [] group history

-- the version of a group: the number of entries that touched it
abbrev pub version_of : List Entry → Group → ℕ
version_of history group = length (touching history group)
