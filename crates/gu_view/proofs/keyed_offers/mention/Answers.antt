use Rattle.gu_view.proofs.Words.{◌≡◌, ◌∙◌, ap, arith, length, subst, sym, take, true, length-set, take_more_set, All-more, recursion_from_All, has_key, LimitKey, place_among}
use Rattle.gu_view.proofs.Mentions.{with_key, has_key-stay, has_key-with_key, length-with_key, mention_more, place_among-stay, place_put, places-stay, places_more}
use Rattle.gu_view.proofs.keyed_offers.mention.Goals as goal

pub loop-at-preserved : goal.loop-at-preserved
loop-at-preserved c =
    let i = c.loop-at.at in
    let path = c.args.path.now in
    let k = c.index-path-at.result in
    let place = c.in_ok-place.place in
    let old = c.loop-at.keys.keys in
    let new = c.insert_full.new.self.keys in
    let h = c.loop-at.invariant in
    let is : new ≡ with_key old k = c.in_ok-place.ensures.keys in
    let known : (j : LimitKey) → has_key old j ≡ true → has_key new j ≡ true = λ j there. ap (λ l. has_key l j) is ∙ has_key-stay old k j there in
    let stay : (j : LimitKey) → has_key old j ≡ true → place_among new j ≡ place_among old j = λ j there. ap (λ l. place_among l j) is ∙ place_among-stay old k j there in
    let put : place ≡ place_among new k = c.in_ok-place.ensures.index ∙ place_put old k ∙ ap (λ l. place_among l k) (sym is) in
    record {
      long = length-set c.loop-at.list i place ∙ h.long;
      first = λ mentioned before. is ∙ mention_more mentioned path old i k c.loop-at-test.true c.index-path-at.is (h.first mentioned before);
      few = omega (arith, ap length is, length-with_key old k, h.few);
      stay = λ j before. (known j (h.stay j before).0, stay j (h.stay j before).0 ∙ (h.stay j before).1);
      known = All-more (λ k. has_key new k ≡ true) path i k c.loop-at-test.true (λ p d inside. known _ (h.known p d inside)) (subst (λ k. has_key new k ≡ true) c.index-path-at.is (ap (λ l. has_key l k) is ∙ has_key-with_key old k));
      so_far = take_more_set c.loop-at.list i place (omega (arith, h.long, c.requires.short, c.loop-at-test.true))
          ∙ places_more new path (take i c.loop-at.list) i k place c.loop-at-test.true c.index-path-at.is
          (h.so_far ∙ places-stay old new (take i path) stay (recursion_from_All (λ k. has_key old k ≡ true) (take i path) h.known)) put;
    }
