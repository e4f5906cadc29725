use Rattle.gu_positions.proofs.Words.{◌≡◌, ◌∙◌, ◌+◌, ◌<◌, ◌^◌, ◌&&◌, ℕ, true, arith, refl, subst, sym, if◌then◌else◌, Side, Buy, Sell, Symbol, same_side, lots_at, lots_at_side, with_less, with_more, account_at, symbol_at, lots_on}
use Rattle.std.proofs.lemmas.Slice.Eq.{bytes_eq-Decides}
use Rattle.gu_positions.proofs.Changed.{with_more-with_less}
use Rattle.gu_positions.proofs.positions.Positions.shift_between.Goals as goal

own_side : (side : Side) → same_side side side ≡ true
own_side Buy = refl
own_side Sell = refl

-- lots counted on their own side and instrument are all of them
own_lots : (side : Side) (symbol : Symbol) (lots : ℕ) → lots_at_side side symbol lots side symbol ≡ lots
own_lots side symbol lots = (λ i. if own_side side i && (bytes_eq-Decides symbol.name symbol.name).1 refl i then lots else 0)

-- in each answer: the receiving row keeps its account and instrument after the lots leave the other

pub add_to-requires-clause-fits : goal.add_to-requires-clause-fits
add_to-requires-clause-fits c =
    let to = c.take_from.ensures.stay (account_at c.args.self.now c.args.to.now) (symbol_at c.args.self.now c.args.to.now) c.args.to.now (record { made = c.requires.to_made; account_is = refl; symbol_is = refl }) in
    let own : Symbol = symbol_at c.args.self.now c.args.from.now in
    let sums : lots_on c.take_from.new.self c.args.side own + c.args.lots ≡ lots_on c.args.self.now c.args.side own =
    (λ i. lots_on c.take_from.new.self c.args.side own + sym (own_lots c.args.side own c.args.lots) i) ∙ c.take_from.ensures.sums c.args.side own in
    subst (λ symbol. lots_on c.take_from.new.self c.args.side symbol + c.args.lots < 2 ^ 64) (sym (to.symbol_is ∙ c.requires.one)) (omega (arith, sums, c.rules.ensures.few c.args.side own))

pub returns-clause-rows : goal.returns-clause-rows
returns-clause-rows c =
    let to = c.take_from.ensures.stay (account_at c.args.self.now c.args.to.now) (symbol_at c.args.self.now c.args.to.now) c.args.to.now (record { made = c.requires.to_made; account_is = refl; symbol_is = refl }) in
    let symbol = to.symbol_is ∙ c.requires.one in
    c.add_to.ensures.rows ∙ (λ i. with_more (c.take_from.ensures.rows i) c.args.side (to.account_is i) (symbol i) c.args.lots)

pub returns-clause-lots : goal.returns-clause-lots
returns-clause-lots c = λ on account another.
    let to = c.take_from.ensures.stay (account_at c.args.self.now c.args.to.now) (symbol_at c.args.self.now c.args.to.now) c.args.to.now (record { made = c.requires.to_made; account_is = refl; symbol_is = refl }) in
    let symbol = to.symbol_is ∙ c.requires.one in
    c.add_to.ensures.lots on account another
    ∙ (λ i. c.take_from.ensures.lots on account another i + lots_at c.args.side (to.account_is i) (symbol i) c.args.lots on account another)

pub returns-clause-sums : goal.returns-clause-sums
returns-clause-sums c = λ on another.
    let to = c.take_from.ensures.stay (account_at c.args.self.now c.args.to.now) (symbol_at c.args.self.now c.args.to.now) c.args.to.now (record { made = c.requires.to_made; account_is = refl; symbol_is = refl }) in
    let symbol = to.symbol_is ∙ c.requires.one in
    c.add_to.ensures.sums on another
    ∙ (λ i. lots_on c.take_from.new.self on another + lots_at_side c.args.side (symbol i) c.args.lots on another)
    ∙ c.take_from.ensures.sums on another

pub returns-clause-stay : goal.returns-clause-stay
returns-clause-stay c = λ account symbol row of. c.add_to.ensures.stay account symbol row (c.take_from.ensures.stay account symbol row of)

pub returns-clause-still : goal.returns-clause-still
returns-clause-still c = λ same.
    returns-clause-rows c
    ∙ (λ i. with_more (with_less c.args.self.now c.args.side (account_at c.args.self.now c.args.from.now) (symbol_at c.args.self.now c.args.from.now) c.args.lots)
    c.args.side (sym same i) (symbol_at c.args.self.now c.args.from.now) c.args.lots)
    ∙ with_more-with_less c.args.side (account_at c.args.self.now c.args.from.now) (symbol_at c.args.self.now c.args.from.now) c.args.lots c.args.self.now c.rules.ensures.once c.requires.there
