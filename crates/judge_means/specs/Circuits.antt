-- The words of document 000, over a board in a state: the paper's network is the board in the state, its connectors are
-- the terminals, its components the parts, and its poles pos and neg are terminals 0 and 1. The paper counts places in
-- a path from 1, a list here from 0. Its circuits have no parallel components and obey Danish wiring rules; our
-- boards need not.
--     pos, neg                        the poles
--     place p i                       p(i), from place 0 on
--     actual_connections s p          the connections that part p makes in state s: (a, b) and (b, a) if it
--                                     conducts, else none
--     AreConnected b s x y            "(∃ cm : Component • cm ∈ components(n) ∧ (c1, c2) ∈ actual_connections(cm))"
--     Available b s p                 "len p ≥ 2 ∧ (∀ i : Nat • i ∈ {1 .. len p - 1} ⇒ areConnected(p(i), p(i+1), n))
--                                     ∧ (∀ i, j : Nat • {i, j} ⊆ {1 .. len p} ⇒ (i ≠ j ⇒ p(i) ≠ p(j)))"
--     AvailablePath b s from to p     p is in "availablePaths(from, to, n)":
--                                     "{p | p : Path • available(p, n) ∧ p(1) = from ∧ p(len p) = to}"
--     PathContainsConnection p x y    "(∃ i : Nat • i ∈ {1 .. len p - 1} ∧ (p(i), p(i+1)) = (c1, c2))"
--     CurrentCarrying b s x y         "(∃ p : Path • p ∈ availablePaths(pos, neg, n) ∧ PathContainsConnection(p, con))"
--     WindingCarries b s x y          one of the connections of a winding between x and y is current carrying
-- Agreement, of a board whose counts and parts fit (`proofs/Circuits.antt`):
--     PathsAreChains    the available paths from pos to neg are exactly our chains that end at 1
--     LiveIsCarrying    some chain of ours shows a winding exactly if one of its connections is current carrying
use Rattle.std.specs.Prelude.{ℕ, ◌+◌, ◌-◌, ◌<◌, ◌≤◌, ◌≡◌, ◌⊎◌, ◌↔◌, cond, List, [], ◌∷◌, length, get_or}
use Rattle.lists.specs.Members.{◌∈◌}
use Rattle.board.specs.declared.Part.{Part}
use Rattle.board.specs.declared.Board.{Board}
use Rattle.board.specs.Parts.{parts_of}
use Rattle.board.specs.BreaksNoRule.{BoardFits}
use Rattle.state.specs.declared.State.{State}
use Rattle.neighbours.specs.Conduction.{conducts}
use Rattle.neighbours.specs.Neighbours.{Joined}
use Rattle.chains.specs.Chains.{minus, ending, IsChain, Live}

abbrev pub pos : ℕ
pos = 0

abbrev pub neg : ℕ
neg = 1

abbrev pub place : List ℕ → ℕ → ℕ
place p i = get_or p i 0

unfoldable pub actual_connections : State → Part → List (ℕ × ℕ)
actual_connections s p = cond (conducts s p.kind) ((p.a, p.b) ∷ (p.b, p.a) ∷ []) []

pub record AreConnected (b : Board) (s : State) (x y : ℕ) : Type 0 where
  pub component : Part
  pub of_network : component ∈ parts_of b
  pub connects : (x, y) ∈ actual_connections s component

pub record Available (b : Board) (s : State) (p : List ℕ) : Type 0 where
  pub long : 2 ≤ length p
  pub connected : (i : ℕ) → i < length p - 1 → AreConnected b s (place p i) (place p (i + 1))
  pub no_repetition : (i j : ℕ) → i < length p → j < length p → ¬ (i ≡ j) → ¬ (place p i ≡ place p j)

pub record AvailablePath (b : Board) (s : State) (from to : ℕ) (p : List ℕ) : Type 0 where
  pub available : Available b s p
  pub starts : place p 0 ≡ from
  pub ends : place p (length p - 1) ≡ to

pub record PathContainsConnection (p : List ℕ) (x y : ℕ) : Type 0 where
  pub at : ℕ
  pub inside : at < length p - 1
  pub first : place p at ≡ x
  pub second : place p (at + 1) ≡ y

pub record CurrentCarrying (b : Board) (s : State) (x y : ℕ) : Type 0 where
  pub path : List ℕ
  pub from_pos_to_neg : AvailablePath b s pos neg path
  pub contains : PathContainsConnection path x y

abbrev pub WindingCarries : Board → State → ℕ → ℕ → Type 0
WindingCarries b s x y = CurrentCarrying b s x y ⊎ CurrentCarrying b s y x

abbrev pub PathsAreChains : Type 0
PathsAreChains =
    (b : Board) (s : State) (p : List ℕ)
    → BoardFits b
    → AvailablePath b s pos neg p ↔ IsChain (Joined b s) b.counts.terminals p × (ending p ≡ minus)

abbrev pub LiveIsCarrying : Type 0
LiveIsCarrying =
    (b : Board) (s : State) (x y : ℕ)
    → BoardFits b
    → Live (Joined b s) b.counts.terminals x y ↔ WindingCarries b s x y
