-- What it is for a board to break no rule, in the rule book's own sentences. Refusal 15 is "board handed in breaks a
-- rule of refusals 3 to 9", and since request A2 of 17, and is given where the record does not carry "the start its
-- marks give": the calls test `board_fine`, and that stands for these sentences exactly. 1 and 2 are of bytes, and a
-- board handed in has no kind above the last (4).
--     InRange c         3: "T terminals (2 to 64), R relays (0 to 32), B buttons (0 to 32), C parts (0 to 256)"
--     Names c k         7: the relay that kind k carries is below R, or its button below B; a wire carries none
--     EndsFit c p       5 and 6 of the part p: both ends are below T, and they differ
--     Fits c p          5 to 7 of the part p: its ends fit, unless it is a mark, and its relay or button is there
--     BoardFits b       3 to 7: the counts are in range, and each of the first C parts fits
--     StartsMarked b    the board's start has exactly the relays that its parts mark
--     BreaksNoRule b    the board fits, "Every relay is regular, with exactly one part of kind 4, or steel-core, with
--                       exactly one of kind 5 and one of kind 6" (8, 9), none is marked twice (17), and the start is
--                       that of the marks
--     FifteenExactly    what `board::check` answers for a board is true exactly if the board breaks no rule
--     EveryRelaySort    each relay of a board that breaks no rule is regular or steel-core, and not both
use Rattle.std.specs.Prelude.{ℕ, ◌≤◌, ◌<◌, ◌≡◌, ◌⊎◌, ◌↔◌, Bool, true}
use Rattle.lists.specs.Members.{All}
use Rattle.bits.specs.Sets.{member}
use Rattle.kinds.specs.Kinds.{kind_number, mark_kind}
use Rattle.kinds.specs.declared.Kind.{Kind}
use Rattle.kinds.specs.declared.Kind.TheVariants.{Wire, Upper, Lower, Button, Regular, Drawing, Dropping, Mark}
use Rattle.board.specs.declared.Part.{Part}
use Rattle.board.specs.declared.Counts.{Counts}
use Rattle.board.specs.declared.Board.{Board}
use Rattle.board.specs.Parts.{parts_of, most_parts}
use Rattle.board.specs.Rules.{least_terminals, most_terminals, most_relays, most_buttons, board_fine, Checks}
use Rattle.board.specs.Sorts.{IsRegular, IsSteel, Wound, MarkedOnce, IsMarked}

pub record InRange (c : Counts) : Type 0 where
  pub terminals_enough : least_terminals ≤ c.terminals
  pub terminals_few : c.terminals ≤ most_terminals
  pub relays_few : c.relays ≤ most_relays
  pub buttons_few : c.buttons ≤ most_buttons
  pub parts_few : c.parts ≤ most_parts

abbrev pub Names : Counts → Kind → Type 0
Names c Wire = Unit {0}
Names c (Upper r) = r < c.relays
Names c (Lower r) = r < c.relays
Names c (Button n) = n < c.buttons
Names c (Regular r) = r < c.relays
Names c (Drawing r) = r < c.relays
Names c (Dropping r) = r < c.relays
Names c (Mark r) = r < c.relays

pub record EndsFit (c : Counts) (p : Part) : Type 0 where
  pub a_below : p.a < c.terminals
  pub b_below : p.b < c.terminals
  pub ends_differ : ¬ (p.a ≡ p.b)

pub record Fits (c : Counts) (p : Part) : Type 0 where
  pub ends : ¬ (kind_number p.kind ≡ mark_kind) → EndsFit c p
  pub named : Names c p.kind

pub record BoardFits (b : Board) : Type 0 where
  pub counts : InRange b.counts
  pub parts : All (Fits b.counts) (parts_of b)

abbrev pub StartsMarked : Board → Type 0
StartsMarked b = (r : ℕ) → member b.start r ≡ true ↔ IsMarked r (parts_of b)

pub record BreaksNoRule (b : Board) : Type 0 where
  pub fits : BoardFits b
  pub relays : Wound b.counts.relays (parts_of b)
  pub marks : MarkedOnce b.counts.relays (parts_of b)
  pub start : StartsMarked b

abbrev pub FifteenExactly : Type 0
FifteenExactly = (b : Board) (fine : Bool) → Checks b fine → fine ≡ true ↔ BreaksNoRule b

abbrev pub EveryRelaySort : Type 0
EveryRelaySort =
    (b : Board) (r : ℕ)
    → board_fine b ≡ true
    → r < b.counts.relays
    → (IsRegular r (parts_of b) × ¬ (IsSteel r (parts_of b))) ⊎ (IsSteel r (parts_of b) × ¬ (IsRegular r (parts_of b)))
