-- A move turns its relay: what a relay does, by its windings, draws it only if dropped and drops it only if drawn.
use mathlib.Core.Path.{◌≡◌, refl}
use mathlib.Core.Bool.{Bool, true, false}
use Rattle.search.specs.declared.Winding.{Winding}
use Rattle.judge.specs.RelayWindings.{OfRelay, regular, steel, absent}
use Rattle.moves.specs.Steps.{Move, drew, dropped, rests, conflict, regular_move, steel_move, move_by}

-- ---- a relay that draws was dropped, and one that drops was drawn

abbrev pub Turns : Bool → Move → Type 0
Turns d drew = d ≡ false
Turns d dropped = d ≡ true
Turns d rests = Unit {0}
Turns d conflict = Unit {0}

regular_turns : (d l : Bool) → Turns d (regular_move d l)
unfolding regular_move
regular_turns true true = tt
regular_turns true false = refl
regular_turns false true = refl
regular_turns false false = tt

steel_turns : (d x y : Bool) → Turns d (steel_move d x y)
unfolding steel_move
steel_turns d true true = tt
steel_turns true true false = tt
steel_turns false true false = refl
steel_turns true false true = refl
steel_turns false false true = tt
steel_turns true false false = tt
steel_turns false false false = tt

pub moves-turn : (live : Winding → Bool) (d : Bool) (x : OfRelay Winding) → Turns d (move_by live d x)
moves-turn live d (regular v) = regular_turns d (live v)
moves-turn live d (steel v u) = steel_turns d (live v) (live u)
moves-turn live d absent = tt
