-- Cut turns, and those that continue: each answers its share of what a piece brings.
use Rattle.gu_engine.proofs.Words.{◌≡◌, ℕ, List, [], ◌∷◌, ◌++◌, map, Option, None, Some, refl, sym, ap, subst, ◌∙◌, AnswersEach, Brings, Engine, brought_in, AnswersInShares, AnswersShare, AnswersTurn, Call, Leaves, Pause, Share, between_of, later_calls, Event}
use Rattle.std.specs.List.{flat_map}

-- the events left
abbrev pending : Option (List Event) → List Event
pending None = []
pending (Some events) = events

-- the share of one turn
abbrev share_of : List Event → ℕ → Share
share_of events moment = record { events = events; moment = moment }

module _ {S : Type 0} (engine : Engine S) where
  -- what isn't answered is left
  others_left : (state : S) (others : List Event) (left : Option (List Event)) → Leaves engine state others left → others ≡ pending left
  others_left state others None leaves = leaves.0
  others_left state others (Some events) leaves = sym leaves

  -- a turn answers a share of what it has to answer, and the rest is left
  one_share : (old new : Pause S) (call : Call) (text : List ℕ) (turn : AnswersTurn engine old call text new)
      → AnswersShare engine old.state (share_of (brought_in turn.answered.events) call.moment) text new.state × (turn.brought ≡ brought_in turn.answered.events ++ pending new.left)
  one_share old new call text turn = (
    record { begun = turn.begun; begins = turn.begins; events = turn.answered.events; events_are = refl; answered = turn.answered.answered },
    turn.answered.split ∙ ap (λ (es : List Event). brought_in turn.answered.events ++ es) (others_left new.state turn.answered.others new.left turn.leaves),
  )

  -- turns that continue answer what was left
  later_shares : (moments : List ℕ) (old new : Pause S) (text : List ℕ) → AnswersEach (AnswersTurn engine) old (later_calls moments) text new → new.left ≡ None
      → (shares : List Share) × (flat_map (λ (share : Share). share.events) shares ≡ pending old.left) × (map (λ (share : Share). share.moment) shares ≡ moments)
      × AnswersEach (AnswersShare engine) old.state shares text new.state × (new.kept ≡ old.kept)
  later_shares [] old new text (none, same) all = (
    [],
    ap pending (sym all ∙ ap (λ (pause : Pause S). pause.left) same),
    refl,
    (none, ap (λ (pause : Pause S). pause.state) same),
    ap (λ (pause : Pause S). pause.kept) same,
  )
  later_shares (moment ∷ moments) old new text (first, rest, next, turn, parts, each) all =
      let one = one_share old next (record { read = None; moment = moment }) first turn in
      let (shares, events_are, moments_are, answered, kept) = later_shares moments next new rest each all in (
        share_of (brought_in turn.answered.events) moment ∷ shares,
        ap (λ (es : List Event). brought_in turn.answered.events ++ es) events_are ∙ sym one.1 ∙ ap pending (sym turn.has.0),
        ap (λ (ns : List ℕ). moment ∷ ns) moments_are,
        (first, rest, next.state, one.0, parts, answered),
        kept ∙ turn.has.1,
      )

  -- a turn that reads, and those that continue
  pub in_shares : (old new : Pause S) (bytes : List ℕ) (moment : ℕ) (moments text : List ℕ)
      → AnswersEach (AnswersTurn engine) old (record { read = Some bytes; moment = moment } ∷ later_calls moments) text new → new.left ≡ None
      → AnswersInShares engine (between_of old) bytes (moment ∷ moments) text (between_of new)
  in_shares old new bytes moment moments text (first, rest, next, turn, parts, each) all =
      let one = one_share old next (record { read = Some bytes; moment = moment }) first turn in
      let (shares, events_are, moments_are, answered, kept) = later_shares moments next new rest each all in
      record {
        brought = turn.brought;
        brings = subst (Brings old.kept bytes turn.brought) (sym kept) turn.has.2;
        shares = share_of (brought_in turn.answered.events) moment ∷ shares;
        shares_are = ap (λ (es : List Event). brought_in turn.answered.events ++ es) events_are ∙ sym one.1;
        at_moments = ap (λ (ns : List ℕ). moment ∷ ns) moments_are;
        answered = (first, rest, next.state, one.0, parts, answered);
      }
