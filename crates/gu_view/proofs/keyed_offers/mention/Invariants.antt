use Rattle.gu_view.proofs.Words.{◌≡◌, ◌≤◌, ◌+◌, ◌++◌, true, List, length, map, take, All, has_key, LimitKey, firsts, place_among}
use Rattle.gu_view.proofs.keyed_offers.mention.Given as goal

abbrev pub invariant-loop-at : goal.invariant-loop-at
invariant-loop-at l = record {
  long : length l.list ≡ 5;
  first : (mentioned : List LimitKey) → l.fn.keys.keys ≡ firsts mentioned → l.keys.keys ≡ firsts (mentioned ++ take l.at l.path);
  few : length l.keys.keys ≤ length l.fn.keys.keys + l.at;
  stay : (k : LimitKey) → has_key l.fn.keys.keys k ≡ true → (has_key l.keys.keys k ≡ true) × (place_among l.keys.keys k ≡ place_among l.fn.keys.keys k);
  known : All (λ k. has_key l.keys.keys k ≡ true) (take l.at l.path);
  so_far : take l.at l.list ≡ map (place_among l.keys.keys) (take l.at l.path);
}
