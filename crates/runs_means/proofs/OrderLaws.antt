-- The order of moves, for whatever counts as a move. While the moves of two relays can change places (`Swaps`), each
-- move brings nearer, by one, every end that some order reaches.
use Prim.Native.Nat.{ℕ, suc, ◌+◌}
use native.Mathlib.Omega.{arith}
use mathlib.Core.Path.{◌≡◌, refl, sym, ap, subst}
use mathlib.Core.List.{List, [], ◌∷◌}
use lib.Dec.{eqb}
use lib.ListN.{length}
use borrow.Author.Tests.{eqb-true, eqb-false}
use Rattle.bits.proofs.BoolLaws.{by_test}
use Rattle.state.specs.declared.State.{State}
use Rattle.runs_means.specs.Following.{Movement, Follows}
use Rattle.runs_means.specs.Orders.{CanMove}
use Rattle.runs_means.proofs.TurnLaws.{RelayTurned, turned_unique, turned_commutes}

-- a move turns its relay; and while P holds, which each move keeps so, of two relays that can move either still can
-- after the other has moved
pub record Swaps (M : Movement) (P : State → Type 0) : Type 0 where
  pub turning : (s : State) (r : ℕ) (t : State) → M s r t → RelayTurned s r t
  pub holds_on : (s : State) (r : ℕ) (t : State) → P s → M s r t → P t
  pub stays : (s t : State) (q r : ℕ) → P s → ¬ (q ≡ r) → M s q t → CanMove M s r → CanMove M t r

-- no move leads out of state u
abbrev pub Still : Movement → State → Type 0
Still M u = (r : ℕ) → ¬ (CanMove M u r)

-- n moves lead from state t to state u
pub record Away (M : Movement) (t u : State) (n : ℕ) : Type 0 where
  pub moves : List ℕ
  pub leads : Follows M t moves u
  pub long : length moves ≡ n

-- where no move leads out, that is the end
pub still_away : (M : Movement) (t u : State) (n : ℕ) → Still M t → Away M t u n → (n ≡ 0) × (t ≡ u)
unfolding Follows
still_away M t u n still away = by away.moves away.leads away.long
  where
    by : (rs : List ℕ) → Follows M t rs u → length rs ≡ n → (n ≡ 0) × (t ≡ u)
    by [] same long = (sym long, same)
    by (c ∷ rs) (v, first, on) long = absurd (still c (v, first))

module _ (M : Movement) (P : State → Type 0) (swaps : Swaps M P) where
  moves_swapped : (s t u : State) (q r : ℕ) → P s → ¬ (q ≡ r) → M s q t → M s r u → (v : State) × M t r v × M u q v
  moves_swapped s t u q r here apart first second =
      let (v, then) = swaps.stays s t q r here apart first (u, second) in
      let (w, also) = swaps.stays s u r q here (λ same. apart (sym same)) second (t, first) in
      let same : w ≡ v = turned_commutes (swaps.turning s r u second) (swaps.turning u q w also)
      (swaps.turning s q t first) (swaps.turning t r v then) in
      (v, then, subst (M u q) same also)

  -- after one move each end is nearer by one
  pub end_nearer : (rs : List ℕ) (s t u : State) (r : ℕ) → P s → Still M u → M s r t → Follows M s rs u
      → (n : ℕ) × (length rs ≡ suc n) × Away M t u n
  unfolding Follows
  end_nearer [] s t u r here still move same = absurd (still r (t, subst (λ (x : State). M x r t) same move))
  end_nearer (c ∷ rs) s t u r here still move (v, first, on) =
      by_test (eqb c r)
      (λ is.
      let same : v ≡ t = turned_unique
      (subst (λ (q : ℕ). RelayTurned s q v) (eqb-true c r is) (swaps.turning s c v first))
      (swaps.turning s r t move) in
      (length rs, refl, record { moves = rs; leads = subst (λ (x : State). Follows M x rs u) same on; long = refl }))
      (λ is.
      let (w, later, sooner) = moves_swapped s v t c r here (eqb-false c r is) first move in
      let (n, one, away) = end_nearer rs v w u r (swaps.holds_on s c v here first) still later on in (
        suc n,
        ap suc one,
        record { moves = c ∷ away.moves; leads = (w, sooner, away.leads); long = ap suc away.long },
      ))

  -- whatever moves were made, those that are left to an end make up its number
  pub moves-left : (rs ds : List ℕ) (s t u : State) → P s → Still M u → Follows M s rs u → Follows M s ds t
      → (n : ℕ) × (length ds + n ≡ length rs) × Away M t u n
  unfolding Follows
  moves-left rs [] s t u here still to same = (
    length rs,
    omega arith,
    record { moves = rs; leads = subst (λ (x : State). Follows M x rs u) same to; long = refl },
  )
  moves-left rs (d ∷ ds) s t u here still to (v, first, on) =
      let (n, one, away) = end_nearer rs s v u d here still first to in
      let (m, sum, rest) = moves-left away.moves ds v t u (swaps.holds_on s d v here first) still away.leads
      on in
      (m, omega (arith, sum, one, away.long), rest)

  pub end_unique : (rs ds : List ℕ) (s t u : State) → P s → Still M u → Still M t → Follows M s rs u → Follows M s ds t
      → (length ds ≡ length rs) × (t ≡ u)
  end_unique rs ds s t u here still also to on =
      let (n, sum, away) = moves-left rs ds s t u here still to on in
      let (none, same) = still_away M t u n also away in
      (omega (arith, sum, none), same)
