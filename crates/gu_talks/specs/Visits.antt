-- A visit of a connection: its session goes on by turns of the engine alone, at one moment.
use Rattle.std.specs.Prelude.{◌≡◌, ◌≤◌, ◌++◌, ℕ, true, false, List, [], drop, length, take, Option}
use Rattle.std.specs.Borrow.{MutBor}
use Rattle.std.specs.Io.KnownBytes.{Appends, Keeps}
use Rattle.std.specs.List.{All}
use Rattle.gu_engine.specs.Closings.{Closes, KeepsInput}
use Rattle.gu_engine.specs.Exchange.{EndsSession, conversation_of, exchange, new_conversation}
use Rattle.gu_engine.specs.Houses.{HouseRules, lent}
use Rattle.gu_engine.specs.Turned.{is_last}
use Rattle.gu_engine.specs.Turns.{IsEmpty}
use Rattle.gu_engine.specs.declared.connection.Connection.{Connection}
use Rattle.gu_engine.specs.declared.turned.Turned.{Turned}
use Rattle.gu_terms.specs.declared.firm.FirmId.{FirmId}
use Rattle.gu_talks.specs.Moments.{is_used_up, moments_left}
use Rattle.gu_talks.specs.Sources.{left_ahead, left_of}
use Rattle.gu_talks.specs.Turns.{HoldsOn, TurnsOn, spot}
use Rattle.gu_talks.specs.declared.source.Ahead.{Ahead}
use Rattle.gu_talks.specs.declared.talk.Talk.{Talk}
use Rattle.gu_talks.specs.declared.visit_clock.VisitClock.{VisitClock}

-- A connection that has just come: a new session, whose notices begin with the first entry; nothing was read, and nothing is held.
pub record IsNewTalk {I O : Type 0} (talk : Talk I O) (firms : List FirmId) (incoming : Option (List ℕ)) (remaining : I → Option (List ℕ)) : Type 0 where
  pub conversation : talk.conversation ≡ new_conversation firms
  pub input : left_of remaining talk.source ≡ incoming
  pub empty : IsEmpty talk.backlog
  pub unheld : talk.backlog.held.bytes.items ≡ []
  pub unmarked : talk.marks ≡ []

-- after its last turn a session is notified; after any other turn nothing is done
pub record EndsAfter {H C : Type 0} (became : Turned) (old new : Connection H C) : Type 0 where
  pub last : is_last became ≡ true → EndsSession old new
  pub other : is_last became ≡ false → new ≡ old

-- A visit at a moment, which borrows a house: the session goes on by turns, each at this moment, of which the last became this; nothing
-- that was read is lost. Nothing is sent: what was held is still held, with its marks, and the answers of the turns are held after it.
pub record Visits {H I O : Type 0} (rules : HouseRules H) (remaining : I → Option (List ℕ)) (moment : ℕ) (old : Talk I O) (house_old : H) (new : Talk I O) (became : Turned) : Type 0 where
  pub begun : Connection (MutBor H) VisitClock
  pub ahead : Ahead I
  pub conversation : conversation_of begun ≡ old.conversation
  pub house : begun.house.now ≡ house_old
  pub clock : begun.clock.moment ≡ moment
  pub input : left_ahead remaining ahead ≡ left_of remaining old.source
  pub went : Connection (MutBor H) VisitClock
  pub rest : Ahead I
  pub more : ℕ
  pub turns : TurnsOn (exchange (lent rules) (λ (clock : VisitClock). moments_left clock.left clock.moment) (λ (clock : VisitClock). is_used_up clock.left))
      (left_ahead remaining) more (spot begun ahead old.backlog) became (spot went rest new.backlog)
  pub ended : Connection (MutBor H) VisitClock
  pub ends : EndsAfter became went ended
  pub conversation_new : new.conversation ≡ conversation_of ended
  pub input_new : Keeps (left_ahead remaining rest) (left_of remaining new.source)
  pub holds : HoldsOn old.backlog new.backlog
  pub writer : new.writer ≡ old.writer
  pub marks : new.marks ≡ old.marks

-- Nothing of an exchange changes except what is known about its streams: the same session, the same bytes left to be read, the same answers
-- held.
pub record StaysAsItIs {I O : Type 0} (remaining : I → Option (List ℕ)) (old new : Talk I O) : Type 0 where
  pub conversation : new.conversation ≡ old.conversation
  pub input : left_of remaining new.source ≡ left_of remaining old.source
  pub backlog : new.backlog ≡ old.backlog
  pub output : new.writer.stream ≡ old.writer.stream
  pub marks : new.marks ≡ old.marks

-- At a moment the session is notified that the house closes. What it sends is held after the other answers; nothing is read, and nothing
-- else is sent.
pub record ClosesTalk {H I O : Type 0} (moment : ℕ) (old : Talk I O) (house_old : H) (new : Talk I O) : Type 0 where
  pub begun : Connection (MutBor H) VisitClock
  pub conversation : conversation_of begun ≡ old.conversation
  pub house : begun.house.now ≡ house_old
  pub clock : begun.clock.moment ≡ moment
  pub ended : Connection (MutBor H) VisitClock
  pub closes : Closes (λ (clock : VisitClock). moments_left clock.left clock.moment) begun ended old.backlog new.backlog
  pub conversation_new : new.conversation ≡ conversation_of ended
  pub source : new.source ≡ old.source
  pub writer : new.writer ≡ old.writer
  pub marks : new.marks ≡ old.marks

-- A prefix of what is held goes out, in which each byte has a mark of at most `kept`. The rest is still held, with its marks; the session
-- and what is read stay as they are.
pub record Sends {I O : Type 0} (contents : O → Option (List ℕ)) (kept : ℕ) (old new : Talk I O) : Type 0 where
  pub conversation : new.conversation ≡ old.conversation
  pub source : new.source ≡ old.source
  pub input : KeepsInput old.backlog new.backlog
  pub sent : List ℕ
  pub appended : Appends (contents old.writer.stream) (contents new.writer.stream) sent
  pub parts : old.backlog.held.bytes.items ≡ sent ++ new.backlog.held.bytes.items
  pub marked : length sent ≤ length old.marks
  pub all_kept : All (λ mark. mark ≤ kept) (take (length sent) old.marks)
  pub marks : new.marks ≡ drop (length sent) old.marks
