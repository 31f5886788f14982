-- A relay's windings. Rule book: "Every relay is regular, with exactly one part of kind 4, or steel-core, with exactly
-- one of kind 5 and one of kind 6"; "Judging names a relay and either its first winding (the regular or the drawing
-- one) or its second (the dropping one)"; refusal 11, "no such relay, or a second winding asked of a regular one".
--     is_first r k, is_second r k  kind k is the first, the second winding of relay r
--     is_winding n r k             kind k is that winding of relay r
--     ends_of p                    the ends of part p, as those of a winding
--     winding_of n r ps            the ends of that winding of relay r among the parts ps, if it is there
--     OfRelay                      what there is for each winding of a relay:
--       regular x                  x for the one of a regular relay
--       steel x y                  x for the drawing and y for the dropping one of a steel-core relay
--       absent                     nothing, where there is no first
--     of_relay o q                 that by what there is for its first, o, and for its second, q
--     windings_at r ps             the windings of relay r among the parts ps
--     winding_named n x            what x has for winding n
--     is_there o                   whether o is something, and not none
--     or_no_such_winding o         the winding o of which a call asks; where there is none, 11
--     windings_if b r              the windings of relay r of board b; absent where it has no such relay
--     told_windings                the answer's cases as windings
--     FindsWindings b r x          promise: `find_windings` of relay r of board b answers x
--     FindsAllWindings b x         promise: `find_all_windings` of board b answers x
-- What the functions of this crate promise each other:
--     told_seen                    what the code has seen, as a winding or none
--     seen_with o p t              what is seen of a winding after o was seen, with part p besides, which is it if t
-- `judge_means` shows that on a board that breaks no rule 11 is given exactly if its line holds, and that the winding
-- is the only one.
use Rattle.std.specs.Prelude.{ℕ, ◌≡◌, Bool, true, false, cond, ◌||◌, List, [], ◌∷◌, map, ltb}
use Rattle.std.specs.Prelude as code
use Rattle.std.proofs.Math.Option.{Option, none, some}
use Rattle.lists.specs.Tables.{table_from}
use Rattle.refusals.specs.Outcomes.{Outcome, given, refused}
use Rattle.refusals.specs.Refusals.{no_such_winding}
use Rattle.kinds.specs.declared.Kind.{Kind}
use Rattle.kinds.specs.Kinds.{regular_kind, drawing_kind, dropping_kind}
use Rattle.board.specs.declared.Part.{Part}
use Rattle.board.specs.declared.Board.{Board}
use Rattle.board.specs.Parts.{parts_of}
use Rattle.board.specs.Rules.{most_relays}
use Rattle.board.specs.Sorts.{carries}
use Rattle.search.specs.declared.Winding.{Winding}
use Rattle.judge.specs.declared.Which.{Which}
use Rattle.judge.specs.declared.Which.TheVariants.{First, Second}
use Rattle.judge.specs.declared.Windings.{Windings}
use Rattle.judge.specs.declared.Windings.TheVariants.{Regular, Steel}

abbrev pub is_first : ℕ → Kind → Bool
is_first r k = carries regular_kind r k || carries drawing_kind r k

abbrev pub is_second : ℕ → Kind → Bool
is_second r k = carries dropping_kind r k

abbrev pub is_winding : Which → ℕ → Kind → Bool
is_winding First r k = is_first r k
is_winding Second r k = is_second r k

abbrev pub ends_of : Part → Winding
ends_of p = record { a = p.a; b = p.b }

unfoldable pub winding_of : Which → ℕ → List Part → Option Winding
winding_of n r [] = none
winding_of n r (p ∷ ps) = cond (is_winding n r p.kind) (some (ends_of p)) (winding_of n r ps)

pub data OfRelay (A : Type 0) : Type 0 where
  regular : A → OfRelay A
  steel : A → A → OfRelay A
  absent : OfRelay A

abbrev pub of_relay : {A : Type 0} → Option A → Option A → OfRelay A
of_relay (some x) (some y) = steel x y
of_relay (some x) none = regular x
of_relay none q = absent

unfoldable pub windings_at : ℕ → List Part → OfRelay Winding
windings_at r ps = of_relay (winding_of First r ps) (winding_of Second r ps)

abbrev pub winding_named : {A : Type 0} → Which → OfRelay A → Option A
winding_named First (regular x) = some x
winding_named Second (regular x) = none
winding_named First (steel x y) = some x
winding_named Second (steel x y) = some y
winding_named n absent = none

abbrev pub is_there : {A : Type 0} → Option A → Bool
is_there (some a) = true
is_there none = false

abbrev pub or_no_such_winding : Option Winding → Outcome Winding
or_no_such_winding (some v) = given v
or_no_such_winding none = refused no_such_winding 0

abbrev pub told_windings : code.Option Windings → OfRelay Winding
told_windings (code.Some (Regular v)) = regular v
told_windings (code.Some (Steel v u)) = steel v u
told_windings code.None = absent

abbrev pub FindsWindings : Board → ℕ → code.Option Windings → Type 0
FindsWindings b r x = told_windings x ≡ windings_at r (parts_of b)

unfoldable pub windings_if : Board → ℕ → OfRelay Winding
windings_if b r = cond (ltb r b.counts.relays) (windings_at r (parts_of b)) absent

abbrev pub FindsAllWindings : Board → List (code.Option Windings) → Type 0
FindsAllWindings b x = map told_windings x ≡ table_from (windings_if b) most_relays 0

abbrev pub told_seen : code.Option Winding → Option Winding
told_seen (code.Some v) = some v
told_seen code.None = none

abbrev pub seen_with : Option Winding → Part → Bool → Option Winding
seen_with (some v) p t = some v
seen_with none p t = cond t (some (ends_of p)) none
