use Rattle.gu_keeping.proofs.Words.{◌≡◌, ◌≤◌, ◌<◌, ◌^◌, ◌∙◌, ℕ, List, length, take, ap, subst, sym, arith, HasNoLineFeed, ended_lines, IsChainOf, AgreeTo, chain_to, Chain}
use Rattle.gu_keeping.proofs.ChainLemmas.{long_of, none_chained}
use Rattle.gu_keeping.proofs.DigestLemmas.{agree_digest, agree_silent, digest_agrees, ended_first, no_digest, none_ended, rest_chain, silent_agree, to_chain}
use Rattle.gu_keeping.proofs.Results.{if_none}
use Rattle.gu_keeping.proofs.checking.check_digests.Goals as goal
use Rattle.gu_keeping.proofs.checking.check_digests.Goals.{else-is_digest_line-via-then-is_digest_line+in_ok-reach+else-not-branch, else-is_digest_line-via-else-is_digest_line}

pub loop-line-init : goal.loop-line-init
loop-line-init c =
    let history = c.args.history.now in
    let lines = ended_lines c.args.text.now in
    let is = c.new-chain.ensures.value in
    let none : c.new-chain.result.count ≡ 0 = ap (λ (chain : Chain). chain.count) is in
    record {
      at = subst (λ (chain : Chain). IsChainOf chain (take chain.count history)) (sym is) none_chained;
      within = omega (arith, none);
      agrees = λ last all. subst (λ (chain : Chain). AgreeTo history chain lines last) is all;
      only = λ last all. subst (λ (chain : Chain). AgreeTo history chain lines last) (sym is) all;
    }

pub returns-then-not-branch-clause-differs : goal.returns-then-not-branch-clause-differs
returns-then-not-branch-clause-differs c n is agree =
    let history = c.args.history.now in
    let chain = c.loop-line.chain in
    let line = c.without_return-line.result.now in
    let lines = ended_lines c.in-Some.behind.now in
    let first = ended_first c.loop-line.rest.now c.in-Some.line.now c.in-Some.behind.now line c.in-Some.ensures c.without_return-line.ensures in
    let later = subst (λ (ls : List (List ℕ)). AgreeTo history chain ls agree.0) first (c.loop-line.invariant.only agree.0 agree.1) in
    no_digest history chain agree.0 line lines (sym c.is_digest_line.ensures ∙ c.if-is_digest_line.true)
    (c.in_ok-reach.ensures.none c.if-not-branch.true) later

pub loop-line-preserved : goal.loop-line-preserved
loop-line-preserved c =
    let history = c.args.history.now in
    let so_far = c.loop-line.invariant in
    let chain = c.loop-line.chain in
    let line = c.without_return-line.result.now in
    let lines = ended_lines c.in-Some.behind.now in
    let first = ended_first c.loop-line.rest.now c.in-Some.line.now c.in-Some.behind.now line c.in-Some.ensures c.without_return-line.ensures in
    let few : length history < 2 ^ 64 = omega (arith, c.len-entries.ensures, c.len-entries.type_inv) in
    let long = long_of chain (take chain.count history) so_far.at in
    elim c.else-is_digest_line.branch [
      | else-is_digest_line-via-then-is_digest_line+in_ok-reach+else-not-branch w ↦
          let next = w.reach.new.chain in
          let is = sym c.is_digest_line.ensures ∙ w.if-is_digest_line.true in
          let found = w.in_ok-reach.ensures.found w.if-not-branch.false in
          let to = to_chain history chain next.count so_far.at found.0 in
          let at : IsChainOf next (take next.count history) = subst (λ (ch : Chain). IsChainOf ch (take next.count history)) (sym found.2) to in
          record {
            at = subst (λ (ch : Chain). IsChainOf ch (take ch.count history)) (sym w.chain-is) at;
            within = subst (λ (ch : Chain). ch.count ≤ length history) (sym w.chain-is) found.1;
            agrees = λ last later. so_far.agrees last (subst (λ (ls : List (List ℕ)). AgreeTo history chain ls last) (sym first)
                (agree_digest history chain next last line lines is found.0 found.1 found.2 found.3 (subst (λ (ch : Chain). AgreeTo history ch lines last) w.chain-is later)));
            only = λ last all. subst (λ (ch : Chain). AgreeTo history ch lines last) (sym w.chain-is)
                (digest_agrees history chain next last line lines long few is found.0 found.1 found.2 found.3
                (subst (λ (ls : List (List ℕ)). AgreeTo history chain ls last) first (so_far.only last all)));
          }
      | else-is_digest_line-via-else-is_digest_line w ↦
          let isnt = sym c.is_digest_line.ensures ∙ w.if-is_digest_line.false in
          record {
            at = subst (λ (ch : Chain). IsChainOf ch (take ch.count history)) (sym w.chain-is) so_far.at;
            within = subst (λ (ch : Chain). ch.count ≤ length history) (sym w.chain-is) so_far.within;
            agrees = λ last later. so_far.agrees last (subst (λ (ls : List (List ℕ)). AgreeTo history chain ls last) (sym first)
                (agree_silent history chain last line lines isnt (subst (λ (ch : Chain). AgreeTo history ch lines last) w.chain-is later)));
            only = λ last all. subst (λ (ch : Chain). AgreeTo history ch lines last) (sym w.chain-is)
                (silent_agree history chain last line lines isnt (subst (λ (ls : List (List ℕ)). AgreeTo history chain ls last) first (so_far.only last all)));
          }
    ]

pub returns-clause-chain : goal.returns-clause-chain
returns-clause-chain c =
    let history = c.args.history.now in
    let chain = c.loop-line.chain in
    let so_far = c.loop-line.invariant in
    let is = c.in_ok-last.ensures ∙ ap (λ (n : ℕ). chain_to history chain n) c.len-entries.ensures in
    subst (λ (ch : Chain). IsChainOf ch history) (sym is) (rest_chain history chain so_far.at so_far.within)

pub returns-clause-agree : goal.returns-clause-agree
returns-clause-agree c =
    let history = c.args.history.now in
    let chain = c.loop-line.chain in
    let last = c.in_ok-last.last in
    let none = if_none c.split_at_line_feed.result (HasNoLineFeed c.loop-line.rest.now) _ c.split_at_line_feed.ensures c.in_default.not-Some in
    let is = c.in_ok-last.ensures ∙ ap (λ (n : ℕ). chain_to history chain n) c.len-entries.ensures in
    c.loop-line.invariant.agrees last (none_ended history chain last c.loop-line.rest.now none is)
