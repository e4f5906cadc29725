use Rattle.gu_view.proofs.Words.{◌≡◌, ◌∙◌, ◌+◌, ◌-◌, ◌++◌, List, Some, ap, arith, map, slice_get, subst, sym, take, true, AllByRecursion, flat_map, get_or_default, length-take, All-more, has_key, LimitKey, Agr, AreMentioned, IsPath, firsts, place_among, ViewOffer}
use Rattle.std.proofs.lemmas.Result.{on_ok_weaker}
use Rattle.gu_view.proofs.DerivedEq.{same, same-one}
use Rattle.gu_view.proofs.Mentions.{all_known, all_places-more, all_places-stay, keys_of-more, mentioned_again}
use Rattle.gu_view.proofs.WholePaths.{whole_path}
use Rattle.gu_view.proofs.keyed_offers.mention_offer.Goals as goal

pub returns-then-eq : goal.returns-then-eq
returns-then-eq c =
    let before = c.index-offers-at.result in
    let o = c.index-offers-at-then-at-gt0.result in
    let keys = c.args.keys.now.keys in
    let offers = c.args.offers.now in
    let i = c.args.at in
    let inside = c.requires.inside.0 in
    let first = c.index-offers-at.is in
    let second = c.index-offers-at-then-at-gt0.is ∙ get_or_default offers i o before inside in
    let agreement : before.agreement ≡ o.agreement =
    same-one before.agreement o.agreement ((λ j. same (c.index-offers-at.is j).agreement (c.index-offers-at-then-at-gt0.is j).agreement) ∙ sym c.eq.ensures ∙ c.if-eq.true) in
    let path : before.path ≡ o.path =
    ap (λ (o : ViewOffer). o.path) first
    ∙ c.requires.one_path (i - 1) i before (omega (arith, c.if-at-gt0.true)) inside (sym (ap (λ (o : ViewOffer). o.agreement) first) ∙ agreement ∙ ap (λ (o : ViewOffer). o.agreement) second)
    ∙ sym (ap (λ (o : ViewOffer). o.path) second) in
    on_ok_weaker c.push_again.result
    (λ made. subst (AreMentioned (take (i + 1) offers) keys) (sym made) (mentioned_again offers keys c.args.places.now i before o (omega (arith, c.if-at-gt0.true)) inside first c.index-offers-at-then-at-gt0.is agreement path c.requires.before))
    c.push_again.ensures

pub returns : goal.returns
returns c =
    let i = c.args.at in
    let offers = c.args.offers.now in
    let seen = take i offers in
    let o = c.index-offers-at-2.result in
    let old = c.args.keys.now.keys in
    let new = c.mention.new.keys.keys in
    let h = c.requires.before in
    let e = c.in_ok-mention.ensures in
    let path : c.keys.result.now ≡ o.path = c.keys.ensures.keys ∙ sym (ap (λ (o : ViewOffer). o.path) c.index-offers-at-2.is) in
    let known : AllByRecursion (λ (o : ViewOffer). AllByRecursion (λ k. has_key old k ≡ true) o.path) seen =
    subst (λ (keys : List LimitKey). AllByRecursion (λ (o : ViewOffer). AllByRecursion (λ k. has_key keys k ≡ true) o.path) seen) (sym h.keys_are) (all_known seen) in
    let own : slice_get o.path 1 ≡ Some (Agr o.agreement) = rw (← c.index-offers-at-2.is) at (c.requires.own i o c.requires.inside.0) in
    record {
      whole = All-more IsPath offers i o c.requires.inside.0 h.whole (subst IsPath c.index-offers-at-2.is (whole_path o c.keys.result.now path own c.keys.ensures.are));
      keys_are = e.first (flat_map (λ (o : ViewOffer). o.path) seen) h.keys_are
          ∙ ap (λ (l : List LimitKey). firsts (flat_map (λ (o : ViewOffer). o.path) seen ++ l)) path
          ∙ keys_of-more offers i o c.requires.inside.0 c.index-offers-at-2.is;
      few = omega (arith, e.few, c.keys.ensures.few, h.few, c.requires.inside.0, length-take i offers, length-take (i + 1) offers);
      places_are = e.places
          ∙ all_places-more new offers c.args.places.now i o _ c.requires.inside.0 c.index-offers-at-2.is (h.places_are ∙ all_places-stay old new seen e.stay known) (ap (map (place_among new)) path);
    }
