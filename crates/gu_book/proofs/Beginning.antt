-- The totals of the empty history, and after a refusal.
use Rattle.gu_book.proofs.Words.{◌≡◌, true, false, ◌<◌, ◌++◌, List, [], ◌∷◌, length, None, sym, ap, ◌∙◌, arith, subst, Command, Entry, Asked, Group, Tables, GroupLimit, has_limit, limit_in, used_in, lots_in, lots_on, accepts, answer, legal_push, nothing-orderly, is-accepted, TakesIn, IsKept, IsKeptLegal, is_kept_give_up, AreVersions, version_in, SameAnswers, GiveUpKey, Totals, Versions}
use Rattle.gu_terms.specs.Commands.{MayBeAsked}
use Rattle.gu_terms.specs.declared.reply.Reply.{Reply}
use Rattle.gu_positions.specs.Rows.{Row as PositionRow}
use Rattle.gu_rules.proofs.AcceptedCommands.{refused}
use Rattle.gu_book.proofs.KeptQuiet.{kept-denied}

-- the totals of the empty history
pub nothing-kept : (reference : Tables) (totals : Totals) (versions : Versions) → totals.today ≡ None → totals.trades ≡ [] → totals.offers ≡ [] → totals.give_ups.keys ≡ [] → totals.limits ≡ [] → totals.positions ≡ []
    → versions.days ≡ 0 → ((group : Group) → version_in versions group ≡ 0) → IsKeptLegal reference [] totals versions
nothing-kept reference totals versions today trades offers give_ups limits positions days none = record {
  legal = record { within = omega arith; entered = λ k entry at. cc; each = λ k entry at. cc };
  kept = record {
    orderly = nothing-orderly;
    beside = record {
      today = today;
      reports = trades;
      offers = offers;
      give_ups = λ firm id. ap (λ (keys : List GiveUpKey). is_kept_give_up keys firm id) give_ups;
      set = λ group key. ap (λ (ls : List GroupLimit). has_limit ls group key) limits;
      limits = λ group key. ap (λ (ls : List GroupLimit). limit_in ls group key) limits;
      uses = λ group key. ap (λ (ls : List GroupLimit). used_in ls group key) limits;
      positions = λ side account symbol. ap (λ (rs : List PositionRow). lots_in rs side account symbol) positions;
      sums = λ side symbol. omega (arith, ap (λ (rs : List PositionRow). lots_on rs side symbol) positions);
    };
  };
  counted = record { each = none; days = omega (arith, days) };
}

-- if an allocation failed, the totals are unchanged
pub still-kept : (reference : Tables) (history : List Entry) (old new : Totals) → IsKept reference history old → SameAnswers old new → IsKept reference history new
still-kept reference history old new kept same =
    let b = kept.beside in
    record {
      orderly = kept.orderly;
      beside = record {
        today = same.entries.today ∙ b.today;
        reports = same.entries.trades ∙ b.reports;
        offers = same.offers ∙ b.offers;
        give_ups = λ firm id. ap (λ (keys : List GiveUpKey). is_kept_give_up keys firm id) same.entries.give_ups ∙ b.give_ups firm id;
        set = λ group key. ap (λ (ls : List GroupLimit). has_limit ls group key) same.limits ∙ b.set group key;
        limits = λ group key. ap (λ (ls : List GroupLimit). limit_in ls group key) same.limits ∙ b.limits group key;
        uses = λ group key. ap (λ (ls : List GroupLimit). used_in ls group key) same.limits ∙ b.uses group key;
        positions = λ side account symbol. same.positions.lots side account symbol ∙ b.positions side account symbol;
        sums = λ side symbol. omega (arith, same.positions.sums side symbol, b.sums side symbol);
      };
    }

-- a legal history extended by an accepted command
pub legal-accepted : (reference : Tables) (history : List Entry) (old new : Totals) (before after : Versions) (command : Command) (reply : Reply) → IsKeptLegal reference history old before
    → length history < 1000000 → MayBeAsked command → reply ≡ answer reference history command → accepts reply ≡ true → TakesIn reference old new command
    → AreVersions (history ++ Asked command reply ∷ []) after → IsKeptLegal reference (history ++ Asked command reply ∷ []) new after
legal-accepted reference history old new before after command reply kept room asked is accepted takes counted =
    let it = is-accepted reference history command reply room is accepted in
    record {
      legal = legal_push reference history (Asked command reply) kept.legal room asked is;
      kept = subst (λ (r : Reply). IsKept reference (history ++ Asked command r ∷ []) new) (sym (is ∙ it.accepted)) (takes history kept.kept it);
      counted = counted;
    }

-- and by a refused one
pub legal-denied : (reference : Tables) (history : List Entry) (totals : Totals) (before after : Versions) (command : Command) (reply : Reply) → IsKeptLegal reference history totals before
    → length history < 1000000 → MayBeAsked command → reply ≡ answer reference history command → accepts reply ≡ false
    → AreVersions (history ++ Asked command reply ∷ []) after → IsKeptLegal reference (history ++ Asked command reply ∷ []) totals after
legal-denied reference history totals before after command reply kept room asked is denied counted =
    let one = refused reply denied in
    record {
      legal = legal_push reference history (Asked command reply) kept.legal room asked is;
      kept = subst (λ (r : Reply). IsKept reference (history ++ Asked command r ∷ []) totals) (sym one.1) (kept-denied reference history totals command one.0 kept.kept);
      counted = counted;
    }

-- if nothing was entered, everything is unchanged
pub legal-refused : (reference : Tables) (history : List Entry) (old new : Totals) (before after : Versions) → IsKeptLegal reference history old before → SameAnswers old new
    → AreVersions history after → IsKeptLegal reference history new after
legal-refused reference history old new before after kept same counted = record {
  legal = kept.legal;
  kept = still-kept reference history old new kept.kept same;
  counted = counted;
}
