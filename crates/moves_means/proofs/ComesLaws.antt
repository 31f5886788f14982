-- What `Comes` asks of a relay, by its sort and the current through its windings, one clause for each row of the rule
-- book's two tables; so what it comes to by what its windings are taken for. And no relay comes to two words.
use Prim.Native.Nat.{ℕ, ◌<◌}
use native.Mathlib.Omega.{arith}
use mathlib.Core.Path.{◌≡◌, refl, sym, ◌∙◌}
use mathlib.Core.Logic.{◌⊎◌, inl, inr}
use mathlib.Core.Bool.{Bool, true, false, false≢true}
use mathlib.Core.List.{List}
use Rattle.board.specs.declared.Part.{Part}
use Rattle.board.specs.declared.Board.{Board}
use Rattle.board.specs.Parts.{parts_of}
use Rattle.board.specs.Sorts.{IsRegular, IsSteel}
use Rattle.state.specs.declared.State.{State}
use Rattle.state.specs.States.{is_drawn}
use Rattle.judge.specs.declared.Which.TheVariants.{First, Second}
use Rattle.moves.specs.Steps.{Move, drew, dropped, rests, conflict, regular_move, steel_move}
use Rattle.moves_means.specs.Guards.{CurrentThrough, CanDraw, CanDrop, BothCurrents}
use Rattle.moves_means.specs.SingleMoves.{Comes}
use Rattle.moves_means.proofs.TakenLaws.{CurrentIf}

-- ---- a guard of both sorts, of a relay of one sort

module _ {P Q : Type 0} {n r : ℕ} (ps : List Part) where
  pub regular_guard : IsRegular r ps → (r < n) × ((IsRegular r ps × P) ⊎ (IsSteel r ps × Q)) → P
  regular_guard regular (there, inl (sort, guard)) = guard
  regular_guard regular (there, inr (sort, guard)) = absurd (omega (arith, regular.0, sort.0))

  pub steel_guard : IsSteel r ps → (r < n) × ((IsRegular r ps × P) ⊎ (IsSteel r ps × Q)) → Q
  steel_guard steel (there, inl (sort, guard)) = absurd (omega (arith, steel.0, sort.0))
  steel_guard steel (there, inr (sort, guard)) = guard

module _ (b : Board) (s : State) (r : ℕ) where
  drawn_apart : is_drawn s r ≡ true → is_drawn s r ≡ false → ⊥
  drawn_apart on off = false≢true (sym off ∙ on)

  -- ---- a regular relay

  module _ (below : r < b.counts.relays) (regular : IsRegular r (parts_of b)) where
    pub regular_one : ¬ (BothCurrents b s r)
    regular_one both = omega (arith, regular.0, both.1.0)

    pub regular_drew : is_drawn s r ≡ false → CurrentThrough b s r First → Comes b s r drew
    regular_drew off current = (regular_one, (below, inl (regular, (off, current))))

    pub regular_dropped : is_drawn s r ≡ true → ¬ (CurrentThrough b s r First) → Comes b s r dropped
    regular_dropped on still = (regular_one, (below, inl (regular, (on, still))))

    pub regular_held : is_drawn s r ≡ true → CurrentThrough b s r First → Comes b s r rests
    regular_held on current = (
      regular_one,
      λ draw. drawn_apart on (regular_guard (parts_of b) regular draw).0,
      λ drop. (regular_guard (parts_of b) regular drop).1 current,
    )

    pub regular_rested : is_drawn s r ≡ false → ¬ (CurrentThrough b s r First) → Comes b s r rests
    regular_rested off still = (
      regular_one,
      λ draw. still (regular_guard (parts_of b) regular draw).1,
      λ drop. drawn_apart (regular_guard (parts_of b) regular drop).0 off,
    )

    -- so by plain tests, where there is current through it exactly if l
    pub regular_comes : (d l : Bool) → is_drawn s r ≡ d → CurrentIf b s r First l → Comes b s r (regular_move d l)
    unfolding regular_move
    regular_comes true true is current = regular_held is current
    regular_comes false true is current = regular_drew is current
    regular_comes true false is still = regular_dropped is still
    regular_comes false false is still = regular_rested is still

  -- ---- a steel relay

  module _ (below : r < b.counts.relays) (steel : IsSteel r (parts_of b)) where
    pub steel_drew : is_drawn s r ≡ false → CurrentThrough b s r First → ¬ (CurrentThrough b s r Second)
        → Comes b s r drew
    steel_drew off draws still = (λ both. still both.3, (below, inr (steel, (off, draws))))

    pub steel_dropped : is_drawn s r ≡ true → CurrentThrough b s r Second → ¬ (CurrentThrough b s r First)
        → Comes b s r dropped
    steel_dropped on drops still = (λ both. still both.2, (below, inr (steel, (on, drops))))

    pub steel_held : is_drawn s r ≡ true → ¬ (CurrentThrough b s r Second) → Comes b s r rests
    steel_held on still = (
      λ both. still both.3,
      λ draw. drawn_apart on (steel_guard (parts_of b) steel draw).0,
      λ drop. still (steel_guard (parts_of b) steel drop).1,
    )

    pub steel_rested : is_drawn s r ≡ false → ¬ (CurrentThrough b s r First) → Comes b s r rests
    steel_rested off still = (
      λ both. still both.2,
      λ draw. still (steel_guard (parts_of b) steel draw).1,
      λ drop. drawn_apart (steel_guard (parts_of b) steel drop).0 off,
    )

    -- so by plain tests, where there is current through its drawing winding exactly if x, and through its dropping
    -- winding exactly if y
    pub steel_comes : (d x y : Bool) → is_drawn s r ≡ d → CurrentIf b s r First x → CurrentIf b s r Second y
        → Comes b s r (steel_move d x y)
    unfolding steel_move
    steel_comes d true true is draws drops = (below, steel, draws, drops)
    steel_comes true true false is draws still = steel_held is still
    steel_comes false true false is draws still = steel_drew is draws still
    steel_comes true false true is still drops = steel_dropped is drops still
    steel_comes false false y is still drops = steel_rested is still
    steel_comes true false false is still none = steel_held is none

  -- ---- no relay comes to two words

  draw_not_drop : CanDraw b s r → CanDrop b s r → ⊥
  draw_not_drop draw drop = drawn_apart (dropped_drawn drop) (drawn_dropped draw)
    where
      drawn_dropped : CanDraw b s r → is_drawn s r ≡ false
      drawn_dropped (there, inl (sort, guard)) = guard.0
      drawn_dropped (there, inr (sort, guard)) = guard.0

      dropped_drawn : CanDrop b s r → is_drawn s r ≡ true
      dropped_drawn (there, inl (sort, guard)) = guard.0
      dropped_drawn (there, inr (sort, guard)) = guard.0

  pub comes_exclusive : (m k : Move) → Comes b s r m → Comes b s r k → m ≡ k
  comes_exclusive conflict conflict x y = refl
  comes_exclusive conflict drew x y = absurd (y.0 x)
  comes_exclusive conflict dropped x y = absurd (y.0 x)
  comes_exclusive conflict rests x y = absurd (y.0 x)
  comes_exclusive drew conflict x y = absurd (x.0 y)
  comes_exclusive drew drew x y = refl
  comes_exclusive drew dropped x y = absurd (draw_not_drop x.1 y.1)
  comes_exclusive drew rests x y = absurd (y.1 x.1)
  comes_exclusive dropped conflict x y = absurd (x.0 y)
  comes_exclusive dropped drew x y = absurd (draw_not_drop y.1 x.1)
  comes_exclusive dropped dropped x y = refl
  comes_exclusive dropped rests x y = absurd (y.2 x.1)
  comes_exclusive rests conflict x y = absurd (x.0 y)
  comes_exclusive rests drew x y = absurd (x.1 y.1)
  comes_exclusive rests dropped x y = absurd (x.2 y.1)
  comes_exclusive rests rests x y = refl
