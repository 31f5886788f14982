-- Which terminals are joined. Rule book: "neighbours are each joined by a conducting part". Request A4: "conducting
-- parts none of which is a winding".
--     EndsAt p x y           x and y are the ends of part p, in either order
--     Joined b s x y         some conducting part of board b in state s has x and y as its ends, in either order
--     JoinedBare b s x y     such a part that is no winding does
--     joined near x y        in the sets `near`, y is in the set of x
--     with_other u v x k     the set k of terminal x, with v besides if x is u
--     with_part t p x k      the set k of terminal x, with the other end of part p besides, if t and p has x as an end
--     set_from g x k ps      the set k of terminal x, with those besides that the parts ps join to x, of them those
--                            that pass the test g
--     set_at f x ps          the set of the terminals that the parts ps join to terminal x, of them those of the kinds
--                            that pass the test f
--     sets_at f ps           the set at each of 64 terminals, by the parts ps, likewise
--     neighbours b s         the sets of board b in state s, by all parts that conduct
--     bare_neighbours b s    the same, by those of them that are no winding
--     sets_of b s            both, as one struct. Request A5: "for each terminal the set of terminals joined to it"
--     chosen at k l          of the terminals of the set `at` those in k, of all others those in l
--     renewed_at f ps at near
--                            the sets `near`, in which each pair of terminals of the set `at` is joined exactly if the
--                            parts ps join it, by those of the kinds that pass the test f, and every other as it was
--     renewed k at b s       both rows of the sets k, with each pair of terminals of the set `at` as board b has it in
--                            state s
--     Neighbours b s r       promise: `neighbours` of board b in state s answers r
--     Renews k at b s r      promise: `renew` of the sets k at the terminals of the set `at`, for board b in state s,
--                            answers r
-- `proofs/JoinedLaws.antt` shows of a board whose counts and parts fit: y is in the set of x exactly if `Joined` says
-- so, and in its set without windings exactly if `JoinedBare` does.
use Rattle.std.specs.Prelude.{ℕ, ◌≡◌, ◌⊎◌, Bool, true, false, cond, List, [], ◌∷◌, eqb, get_or}
use Rattle.lists.specs.Members.{◌∈◌}
use Rattle.lists.specs.Tables.{table_from}
use Rattle.bits.specs.Sets.{member, including, remaining, together}
use Rattle.kinds.specs.declared.Kind.{Kind}
use Rattle.board.specs.declared.Part.{Part}
use Rattle.board.specs.declared.Board.{Board}
use Rattle.board.specs.Parts.{parts_of}
use Rattle.board.specs.Rules.{most_terminals}
use Rattle.state.specs.declared.State.{State}
use Rattle.neighbours.specs.declared.Sets.{Sets}
use Rattle.neighbours.specs.Conduction.{conducts, winds, conducts_bare}

abbrev pub EndsAt : Part → ℕ → ℕ → Type 0
EndsAt p x y = ((p.a ≡ x) × (p.b ≡ y)) ⊎ ((p.a ≡ y) × (p.b ≡ x))

pub record Joined (b : Board) (s : State) (x y : ℕ) : Type 0 where
  pub part : Part
  pub on_board : part ∈ parts_of b
  pub conducting : conducts s part.kind ≡ true
  pub ends : EndsAt part x y

pub record JoinedBare (b : Board) (s : State) (x y : ℕ) : Type 0 where
  pub joined : Joined b s x y
  pub no_winding : winds joined.part.kind ≡ false

abbrev pub joined : List ℕ → ℕ → ℕ → Bool
joined near x y = member (get_or near x 0) y

abbrev pub with_other : ℕ → ℕ → ℕ → ℕ → ℕ
with_other u v x k = cond (eqb x u) (including k v) k

abbrev pub with_part : Bool → Part → ℕ → ℕ → ℕ
with_part t p x k = cond t (with_other p.b p.a x (with_other p.a p.b x k)) k

unfoldable pub set_from : (Part → Bool) → ℕ → ℕ → List Part → ℕ
set_from g x k [] = k
set_from g x k (p ∷ ps) = with_part (g p) p x (set_from g x k ps)

unfoldable pub set_at : (Kind → Bool) → ℕ → List Part → ℕ
set_at f x ps = set_from (λ (p : Part). f p.kind) x 0 ps

unfoldable pub sets_at : (Kind → Bool) → List Part → List ℕ
sets_at f ps = table_from (λ (x : ℕ). set_at f x ps) most_terminals 0

unfoldable pub neighbours : Board → State → List ℕ
neighbours b s = sets_at (conducts s) (parts_of b)

unfoldable pub bare_neighbours : Board → State → List ℕ
bare_neighbours b s = sets_at (conducts_bare s) (parts_of b)

abbrev pub sets_of : Board → State → Sets
sets_of b s = record { near = neighbours b s; bare = bare_neighbours b s }

unfoldable pub chosen : ℕ → ℕ → ℕ → ℕ
chosen at k l = together (remaining k (remaining k at)) (remaining l at)

unfoldable pub renewed_at : (Kind → Bool) → List Part → ℕ → List ℕ → List ℕ
renewed_at f ps at near =
    table_from (λ (x : ℕ). cond (member at x) (chosen at (set_at f x ps) (get_or near x 0)) (get_or near x 0))
    most_terminals 0

abbrev pub renewed : Sets → ℕ → Board → State → Sets
renewed k at b s =
    record {
      near = renewed_at (conducts s) (parts_of b) at k.near;
      bare = renewed_at (conducts_bare s) (parts_of b) at k.bare;
    }

abbrev pub Neighbours : Board → State → Sets → Type 0
Neighbours b s r = r ≡ sets_of b s

abbrev pub Renews : Sets → ℕ → Board → State → Sets → Type 0
Renews k at b s r = r ≡ renewed k at b s
