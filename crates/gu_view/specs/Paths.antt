-- Machinery: where keys are on paths, and whether paths that share one go on alike.
use Rattle.std.specs.Prelude.{ℕ, Bool, true, false, List, [], ◌∷◌, Option, None, Some, slice_get}
use Rattle.std.specs.List.{list_all}
use Rattle.std.specs.Option.{option_and_then, option_map_or}
use Rattle.gu_terms.specs.LimitKeys.{key_eq}
use Rattle.gu_terms.specs.declared.limit_key.LimitKey.{LimitKey}
use Rattle.gu_terms.specs.declared.limit_key.LimitKey.TheVariants.{Exec, Agr, Acct, Carry, Guar}
use Rattle.gu_view.specs.View.{places_under}
use Rattle.gu_view.specs.declared.view.ViewOffer.{ViewOffer}
use Rattle.gu_view.specs.declared.view.Room.{Room}

-- the number of keys before a key on each path that has it
abbrev pub step_of : LimitKey → ℕ
step_of (Exec firm) = 0
step_of (Agr agreement) = 1
step_of (Acct account) = 2
step_of (Carry firm) = 3
step_of (Guar firm) = 4

-- the same key, or none on both sides
abbrev pub same_key : Option LimitKey → Option LimitKey → Bool
same_key (Some j) (Some k) = key_eq j k
same_key None None = true
same_key _ _ = false

-- the depth on a path that follows a key which paths share: the carrying firm's after an account's, the guarantor's after a carrying firm's
abbrev pub behind : LimitKey → Option ℕ
behind (Acct _) = Some 3
behind (Carry _) = Some 4
behind _ = None

-- the key at a depth on the path of the offer at an index
abbrev pub key_on : List ViewOffer → ℕ → ℕ → Option LimitKey
key_on offers depth place = option_and_then (λ (o : ViewOffer). slice_get o.path depth) (slice_get offers place)

-- the offers at these indexes all have the same key at this depth as the first, or all have none
abbrev pub have_one_key : List ViewOffer → ℕ → List ℕ → Bool
have_one_key offers depth [] = true
have_one_key offers depth (first ∷ others) = list_all (λ other. same_key (key_on offers depth first) (key_on offers depth other)) others

-- the paths of all offers under a room continue with the same key, or all end
abbrev pub room_agrees : List ViewOffer → Room → Bool
room_agrees offers r = option_map_or (λ depth. have_one_key offers depth (places_under offers r.key)) (behind r.key) true
