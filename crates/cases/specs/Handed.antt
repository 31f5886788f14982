-- What a case hands in. Bytes that are not given are 0.
--     byte_given bs i        the byte at the place i of the bytes bs
--     number_of_three bs i   the number of three bytes, highest first, from the place i on
--     GivesNumber bs i r     promise: `number_at` answers r
--     handed_part bs i       the part whose four bytes begin at the place i: kind, a, b and name
--     handed_start bs i      the start, a set in five bytes, lowest first, from the place i on
--     HandsBoard bs r        promise: `board` answers r, by the bytes bs: T, R, B, C (low byte, high byte), the start
--                            and the 256 parts
--     HandsKept b s bs r     promise: `kept` answers r: the state s, with the board's own sets beside it where bs has
--                            nothing
use Rattle.std.specs.Prelude.{ℕ, ◌≡◌, ◌+◌, ◌*◌, ◌<◌, List, [], slice_index_or}
use Rattle.kinds.specs.Kinds.{kind_of}
use Rattle.board.specs.declared.Part.{Part}
use Rattle.board.specs.declared.Board.{Board}
use Rattle.state.specs.declared.State.{State}
use Rattle.kept.specs.declared.Kept.{Kept}
use Rattle.kept.specs.Kept.{KeptOf}

abbrev pub byte_given : List ℕ → ℕ → ℕ
byte_given bs i = slice_index_or bs i 0

abbrev pub number_of_three : List ℕ → ℕ → ℕ
number_of_three bs i = 65536 * byte_given bs i + 256 * byte_given bs (i + 1) + byte_given bs (i + 2)

abbrev pub GivesNumber : List ℕ → ℕ → ℕ → Type 0
GivesNumber bs i r = r ≡ number_of_three bs i

abbrev pub handed_part : List ℕ → ℕ → Part
handed_part bs i =
    record {
      a = byte_given bs (i + 1);
      b = byte_given bs (i + 2);
      kind = kind_of (byte_given bs i) (byte_given bs (i + 3));
    }

abbrev pub handed_start : List ℕ → ℕ → ℕ
handed_start bs i =
    byte_given bs i + 256 * byte_given bs (i + 1)
    + 65536 * (byte_given bs (i + 2) + 256 * byte_given bs (i + 3)) + 4294967296 * byte_given bs (i + 4)

pub record HandsBoard (bs : List ℕ) (r : Board) : Type 0 where
  pub terminals : r.counts.terminals ≡ byte_given bs 0
  pub relays : r.counts.relays ≡ byte_given bs 1
  pub buttons : r.counts.buttons ≡ byte_given bs 2
  pub parts_few : r.counts.parts ≡ byte_given bs 3 + 256 * byte_given bs 4
  pub start : r.start ≡ handed_start bs 5
  pub parts : (i : ℕ) (p : Part) → i < 256 → slice_index_or r.parts i p ≡ handed_part bs (10 + 4 * i)

pub record HandsKept (b : Board) (s : State) (bs : List ℕ) (r : Kept) : Type 0 where
  pub state : r.state ≡ s
  pub own : bs ≡ [] → KeptOf b s r
