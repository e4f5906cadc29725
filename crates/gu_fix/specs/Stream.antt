-- The frames of a stream of bytes: the messages taken from it, while garbled bytes are dropped.
use Rattle.std.specs.Prelude.{◌≡◌, ℕ, ◌<◌, List, [], ◌∷◌, ◌++◌, length, drop}
use Rattle.gu_fix.specs.WholeMessage.{IsWhole}

-- these bytes begin with a whole message
pub record Stands (bytes : List ℕ) : Type 0 where
  pub message : List ℕ
  pub rest : List ℕ
  pub is_whole : IsWhole message
  pub parts : bytes ≡ message ++ rest

-- these bytes can be continued, by at least one byte, to a whole message
pub record IsOpen (bytes : List ℕ) : Type 0 where
  pub more : List ℕ
  pub some : 0 < length more
  pub is_whole : IsWhole (bytes ++ more)

-- neither: whatever may still follow, no message begins here
abbrev pub IsGarbled : List ℕ → Type 0
IsGarbled bytes = (¬ (Stands bytes)) × (¬ (IsOpen bytes))

-- each earlier position of the stream is garbled
abbrev pub GarbledBefore : List ℕ → ℕ → Type 0
GarbledBefore stream place = (k : ℕ) → k < place → IsGarbled (drop k stream)

-- a message begins at the first position that isn't garbled, and this is the rest after it
pub record IsFirstFrame (stream message rest : List ℕ) : Type 0 where
  pub place : ℕ
  pub before : GarbledBefore stream place
  pub is_whole : IsWhole message
  pub parts : drop place stream ≡ message ++ rest

-- the first position that isn't garbled is open: what begins there can be continued to a message
pub record HasNoFrameYet (stream : List ℕ) : Type 0 where
  pub place : ℕ
  pub before : GarbledBefore stream place
  pub is_open : IsOpen (drop place stream)

-- The frames of a stream: the message at the first position that isn't garbled, and then the frames of the rest after it. Bytes before it
-- are dropped. (The end of a stream is open, so there is always such a position.)
abbrev pub AreFrames : List ℕ → List (List ℕ) → Type 0
AreFrames stream [] = HasNoFrameYet stream
AreFrames stream (message ∷ messages) = (rest : List ℕ) × IsFirstFrame stream message rest × AreFrames rest messages

-- Whatever follows these bytes, the frames are those given, and then the frames of what is kept and what follows.
abbrev pub LeadsOn : List ℕ → List (List ℕ) → List ℕ → Type 0
LeadsOn bytes given kept =
    (more : List ℕ) (later : List (List ℕ)) → AreFrames (kept ++ more) later → AreFrames (bytes ++ more) (given ++ later)

-- a feed that keeps these bytes takes a piece: it gives the frames that the piece completes, and keeps what leads on
pub record TakesPiece (kept piece : List ℕ) (given : List (List ℕ)) (next : List ℕ) : Type 0 where
  pub given_are : AreFrames (kept ++ piece) given
  pub leads_on : LeadsOn (kept ++ piece) given next

-- it takes pieces one after another: all the frames that it gives, and what it keeps at the end
abbrev pub TakesPieces : List ℕ → List (List ℕ) → List (List ℕ) → List ℕ → Type 0
TakesPieces kept [] given last = (given ≡ []) × (last ≡ kept)
TakesPieces kept (piece ∷ pieces) given last =
    (now : List (List ℕ)) × (next : List ℕ) × (later : List (List ℕ))
    × TakesPiece kept piece now next × (given ≡ now ++ later) × TakesPieces next pieces later last
