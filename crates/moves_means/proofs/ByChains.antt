-- The theorem of specs/ByChains.antt: there is current through a winding exactly if it is live; so what `Comes` says
-- of a relay, by its sort, is what the rule book says of it by chains.
use Prim.Native.Nat.{ℕ, ◌<◌}
use mathlib.Core.Path.{◌≡◌, sym, ◌∙◌}
use mathlib.Core.Logic.{◌↔◌, inl, inr, ⊎_elim}
use mathlib.Core.Bool.{true, false≢true}
use Rattle.bits.proofs.BoolLaws.{by_test}
use Rattle.refusals.specs.Outcomes.{given}
use Rattle.board.specs.declared.Board.{Board}
use Rattle.board.specs.Parts.{parts_of}
use Rattle.board.specs.Sorts.{IsRegular, IsSteel}
use Rattle.board.specs.Rules.{board_fine}
use Rattle.board.specs.BreaksNoRule.{BoardFits}
use Rattle.board.proofs.FineLaws.{fine_relays_wound}
use Rattle.board.proofs.BreaksNoRule.{fine_fits}
use Rattle.state.specs.declared.State.{State}
use Rattle.state.specs.States.{is_drawn}
use Rattle.neighbours.specs.Neighbours.{sets_of}
use Rattle.search.specs.declared.Winding.{Winding}
use Rattle.judge.specs.declared.Which.TheVariants.{First, Second}
use Rattle.judge_means.specs.Exactness.{IsLive}
use Rattle.judge_means.specs.Eleven.{ItsWinding}
use Rattle.judge_means.proofs.Eleven.{regular-wound, steel-wound}
use Rattle.moves.specs.Steps.{Move, drew, dropped, rests, conflict, taken_live, step_of}
use Rattle.moves.specs.Moving.{told_move_answer}
use Rattle.moves.proofs.MovingLaws.{movable_fine}
use Rattle.moves_means.specs.Guards.{CurrentThrough}
use Rattle.moves_means.specs.SingleMoves.{Comes}
use Rattle.moves_means.specs.ByChains.{RegularComes, SteelComes, ComesByChains, by_regular, by_steel}
use Rattle.moves_means.specs.ByChains.{EveryRelayMoves}
use Rattle.moves_means.proofs.CurrentLaws.{live_current}
use Rattle.moves_means.proofs.TakenLaws.{taken_exactly}
use Rattle.moves_means.proofs.ComesLaws.{regular_guard, steel_guard, regular_one, regular_drew, regular_dropped}
use Rattle.moves_means.proofs.ComesLaws.{regular_held, regular_rested, steel_drew, steel_dropped, steel_held}
use Rattle.moves_means.proofs.ComesLaws.{steel_rested}
use Rattle.moves_means.proofs.SingleMoves.{call_moved, move_exactly}

module _ (b : Board) (s : State) (r : ℕ) (fits : BoardFits b) (below : r < b.counts.relays) where
  -- ---- a regular relay

  module _ (regular : IsRegular r (parts_of b)) (e : Winding) (first : ItsWinding b r First e) where
    through : IsLive b s e ↔ CurrentThrough b s r First
    through = live_current b s r First e first fits

    -- one that is not without current is live
    held_live : ¬ (¬ (CurrentThrough b s r First)) → IsLive b s e
    held_live held =
        by_test (taken_live (sets_of b s) b.counts.terminals e) (taken_exactly b s r First e fits first).0
        (λ off. absurd (held (λ current.
        false≢true (sym off ∙ (taken_exactly b s r First e fits first).1 (through.1 current)))))

    regular-chains : (m : Move) → Comes b s r m → RegularComes b s r e m
    regular-chains conflict both = regular_one b s r below regular both
    regular-chains drew (one, draw) =
        let guard = regular_guard (parts_of b) regular draw in (guard.0, through.1 guard.1)
    regular-chains dropped (one, drop) =
        let guard = regular_guard (parts_of b) regular drop in (guard.0, λ live. guard.1 (through.0 live))
    regular-chains rests (one, no-draw, no_drop) =
        by_test (is_drawn s r)
        (λ on. inl (on, held_live (λ still. no_drop (below, inl (regular, (on, still))))))
        (λ off. inr (off, λ live. no-draw (below, inl (regular, (off, through.0 live)))))

    chains_regular : (m : Move) → RegularComes b s r e m → Comes b s r m
    chains_regular conflict never = absurd never
    chains_regular drew (off, live) = regular_drew b s r below regular off (through.0 live)
    chains_regular dropped (on, dead) =
        regular_dropped b s r below regular on (λ current. dead (through.1 current))
    chains_regular rests (inl (on, live)) = regular_held b s r below regular on (through.0 live)
    chains_regular rests (inr (off, dead)) =
        regular_rested b s r below regular off (λ current. dead (through.1 current))

  -- ---- a steel relay

  module _ (steel : IsSteel r (parts_of b)) (e f : Winding) (first : ItsWinding b r First e)
      (second : ItsWinding b r Second f) where
    draws : IsLive b s e ↔ CurrentThrough b s r First
    draws = live_current b s r First e first fits

    drops : IsLive b s f ↔ CurrentThrough b s r Second
    drops = live_current b s r Second f second fits

    steel-chains : (m : Move) → Comes b s r m → SteelComes b s r e f m
    steel-chains conflict both = (draws.1 both.2, drops.1 both.3)
    steel-chains drew (one, draw) =
        let guard = steel_guard (parts_of b) steel draw in
        (guard.0, draws.1 guard.1, λ live. one (below, steel, guard.1, drops.0 live))
    steel-chains dropped (one, drop) =
        let guard = steel_guard (parts_of b) steel drop in
        (guard.0, drops.1 guard.1, λ live. one (below, steel, draws.0 live, guard.1))
    steel-chains rests (one, no-draw, no_drop) =
        by_test (is_drawn s r)
        (λ on. inl (on, λ live. no_drop (below, inr (steel, (on, drops.0 live)))))
        (λ off. inr (off, λ live. no-draw (below, inr (steel, (off, draws.0 live)))))

    chains_steel : (m : Move) → SteelComes b s r e f m → Comes b s r m
    chains_steel conflict (live, also) = (below, steel, draws.0 live, drops.0 also)
    chains_steel drew (off, live, dead) =
        steel_drew b s r below steel off (draws.0 live) (λ current. dead (drops.1 current))
    chains_steel dropped (on, live, dead) =
        steel_dropped b s r below steel on (drops.0 live) (λ current. dead (draws.1 current))
    chains_steel rests (inl (on, dead)) = steel_held b s r below steel on (λ current. dead (drops.1 current))
    chains_steel rests (inr (off, dead)) = steel_rested b s r below steel off (λ current. dead (draws.1 current))

  -- ---- either sort, with the windings that it has

  comes-chains : (m : Move) → board_fine b ≡ true → Comes b s r m → ComesByChains b s r m
  comes-chains m fine comes =
      ⊎_elim
      (λ sort. let its = regular-wound b r sort in
      by_regular its.winding sort its.first (regular-chains sort its.winding its.first m comes))
      (λ sort. let its = steel-wound b r sort in
      by_steel its.drawing its.dropping sort its.first its.second
      (steel-chains sort its.drawing its.dropping its.first its.second m comes))
      (fine_relays_wound b fine r below)

  chains_come : (m : Move) → ComesByChains b s r m → Comes b s r m
  chains_come m (by_regular e sort first comes) = chains_regular sort e first m comes
  chains_come m (by_steel e f sort first second comes) = chains_steel sort e f first second m comes

pub every_relay_moves : EveryRelayMoves
every_relay_moves b h r a moves taken =
    let fit = movable_fine b h r taken in
    let exactly : (m : Move) → told_move_answer a.answer ≡ given m ↔ Comes b h.state r m =
    λ m. (move_exactly b h r a m moves taken).0 in (
      (step_of b h.state r, λ i. (call_moved b h r a moves taken i).1),
      λ m. (
        λ says. comes-chains b h.state r (fine_fits b fit.0) fit.2 m fit.0 ((exactly m).0 says),
        λ comes. (exactly m).1 (chains_come b h.state r (fine_fits b fit.0) fit.2 m comes),
      ),
    )
