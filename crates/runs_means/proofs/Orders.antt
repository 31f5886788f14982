-- The theorems of specs/Orders.antt: by the laws for whatever counts as a move (`OrderLaws`) and for any stepper
-- (`RunOrderLaws`), of the single moves that the call allows, from the states that they reach.
use Prim.Native.Nat.{ℕ, ◌+◌, ◌<◌, ◌≤◌}
use mathlib.Core.Path.{◌≡◌, refl, sym, ap, ◌∙◌}
use mathlib.Core.Logic.{inl, inr}
use mathlib.Core.Bool.{true}
use mathlib.Core.List.{List, [], ◌∷◌, ◌++◌}
use lib.ListN.{length}
use Rattle.refusals.specs.Outcomes.{given}
use Rattle.board.specs.declared.Board.{Board}
use Rattle.board.specs.Rules.{board_fine}
use Rattle.state.specs.declared.State.{State}
use Rattle.state.specs.States.{state_fine}
use Rattle.kept.specs.declared.Kept.{Kept}
use Rattle.kept.specs.Kept.{kept_at}
use Rattle.kept.proofs.KeptLaws.{usable_given}
use Rattle.moves.specs.Steps as step
use Rattle.moves.specs.Steps.{step_of, made}
use Rattle.moves_means.specs.SingleMoves.{Comes}
use Rattle.moves_means.proofs.SingleMoves.{step_exactly}
use Rattle.runs.specs.Looks.{quiet, halts, makes, look_from}
use Rattle.runs.specs.Runs as runs
use Rattle.runs.specs.Running.{run_on}
use Rattle.runs.proofs.RunningLaws.{runnable_given}
use Rattle.runs_means.specs.Following.{Follows}
use Rattle.runs_means.specs.Courses.{Resting}
use Rattle.runs_means.specs.Orders.{Answers, SingleMove, ReachableFrom, IsIdle, NoConflict, StaysMovable}
use Rattle.runs_means.specs.Orders.{OneEnding, AnyOrder, RunInAnyOrder, RunShowsAll}
use Rattle.runs_means.proofs.FollowLaws.{follows_next}
use Rattle.runs_means.proofs.AnswerLaws.{accepted_ran, answer_word, answer-moves, answer-kept}
use Rattle.runs_means.proofs.Courses.{run_exactly}
use Rattle.runs_means.proofs.LookMeans.{LookMeans, look_means_so}
use Rattle.runs_means.proofs.OrderLaws.{Swaps, Still, Away, moves-left, end_unique}
use Rattle.runs_means.proofs.RunOrderLaws.{EndsIdle, run_away, run_idle}
use Rattle.runs_means.proofs.SingleLaws.{stepped_answers, single_turns, single_fits, rests_idle}

module _ (b : Board) where
  reached_on : (s₀ s : State) (r : ℕ) (t : State) → ReachableFrom (SingleMove b) s₀ s → SingleMove b s r t
      → ReachableFrom (SingleMove b) s₀ t
  reached_on s₀ s r t (rs, on) move = (rs ++ (r ∷ []), follows_next (SingleMove b) s₀ rs s r t on move)

  idle_still : (u : State) → IsIdle b u → Still (SingleMove b) u
  idle_still u idle r = (idle r).0

  reached_here : (s : State) → ReachableFrom (SingleMove b) s s
  unfolding Follows
  reached_here s = ([], refl)

  -- what holds of single moves from the states that are reached, where these leave others movable
  reached_swaps : (s₀ : State) → StaysMovable (SingleMove b) s₀ → Swaps (SingleMove b) (ReachableFrom (SingleMove b) s₀)
  reached_swaps s₀ stays = record { turning = single_turns b; holds_on = reached_on s₀; stays = stays }

  module _ (s u : State) (rs : List ℕ) (stays : StaysMovable (SingleMove b) s) (to : Follows (SingleMove b) s rs u)
      (idle : IsIdle b u) where
    orders-left : (ds : List ℕ) (t : State) → Follows (SingleMove b) s ds t
        → (n : ℕ) × (length ds + n ≡ length rs) × Away (SingleMove b) t u n
    orders-left ds t on =
        moves-left (SingleMove b) _ (reached_swaps s stays) rs ds s t u (reached_here s) (idle_still u idle) to on

    orders_end : (ds : List ℕ) (t : State) → Follows (SingleMove b) s ds t → IsIdle b t
        → (length ds ≡ length rs) × (t ≡ u)
    orders_end ds t on also =
        end_unique (SingleMove b) _ (reached_swaps s stays) rs ds s t u (reached_here s) (idle_still u idle)
        (idle_still t also) to on

    orders_one : OneEnding b s (length rs) u
    orders_one =
        record {
          idle_there = idle;
          carried_on = λ ds t on. let (n, sum, away) = orders-left ds t on in (away.moves, away.leads);
          ends_so = orders_end;
        }

  -- ---- a run

  module _ (fine : board_fine b ≡ true) (s₀ : State) (stays : StaysMovable (SingleMove b) s₀) where
    -- the states that are reached, all of which fit the board
    abbrev Reached : State → Type 0
    Reached s = ReachableFrom (SingleMove b) s₀ s × (state_fine b.counts s ≡ true)

    fitting_swaps : Swaps (SingleMove b) Reached
    fitting_swaps =
        record {
          turning = single_turns b;
          holds_on = λ s r t (reached, fits) move. (reached_on s₀ s r t reached move, single_fits b s r t move);
          stays = λ s t q r (reached, fits). stays s t q r reached;
        }

    -- relay r comes to m: so its call says m
    comes_answers : (s : State) (r : ℕ) (m : step.Move) → Reached s → r < b.counts.relays → Comes b s r m
        → Answers b s r m (made s r m)
    comes_answers s r m (reached, fits) below comes =
        stepped_answers b s r (record {
          fine = fine;
          fits = fits;
          below = below;
          steps = (step_exactly b s r m fine below).1 comes;
          leads = refl;
        })

    look-moves : (s : State) (m : step.Move) (r : ℕ) → Reached s → LookMeans b s (makes m r)
        → SingleMove b s r (made s r m)
    look-moves s m r reached (inl (is, (below, rest, comes))) =
        inl (rw is (comes_answers s r step.drew reached below comes))
    look-moves s m r reached (inr (is, (below, rest, comes))) =
        inr (rw is (comes_answers s r step.dropped reached below comes))

    quiet_idle : (s : State) → Resting b s b.counts.relays → IsIdle b s
    quiet_idle s rest = rests_idle b s (λ r below. (step_exactly b s r step.rests fine below).1 (rest r below))

    looks : (s : State) (m : step.Move) (r : ℕ) → Reached s → look_from (step_of b) s b.counts.relays 0 ≡ makes m r
        → SingleMove b s r (made s r m)
    looks s m r reached e = look-moves s m r reached (look_means_so b s fine (makes m r) e)

    module _ (fits : state_fine b.counts s₀ ≡ true) where
      run_ends : (u : State) (rs : List ℕ) (n : ℕ) → NoConflict b s₀ → Follows (SingleMove b) s₀ rs u → IsIdle b u
          → length rs ≤ n → EndsIdle (run_on b n s₀) u (length rs)
      run_ends u rs n peace to idle room =
          run_idle (SingleMove b) Reached fitting_swaps (step_of b) b.counts.relays looks
          (λ s reached e. idle_still s (quiet_idle s (look_means_so b s fine quiet e)))
          (λ s r reached e.
          let stopped = look_means_so b s fine (halts r) e in
          peace s r reached.0 (_, comes_answers s r step.conflict reached stopped.0 stopped.2))
          n s₀ u (length rs) (reached_here s₀, fits) (idle_still u idle)
          (record { moves = rs; leads = to; long = refl }) room

      run_leads : (n : ℕ) → Away (SingleMove b) s₀ (run_on b n s₀).state (length (run_on b n s₀).bytes)
      run_leads n =
          run_away (SingleMove b) Reached fitting_swaps (step_of b) b.counts.relays looks n s₀
          (reached_here s₀, fits)

-- ---- the theorems

pub any_order : AnyOrder
any_order b s rs u stays to idle = orders_one b s u rs stays to idle

pub run_in_any_order : RunInAnyOrder
run_in_any_order b h log a l rs u told taken peace stays to idle room =
    let fit = usable_given b h (runnable_given b h log taken) in
    let ended = run_ends b fit.0 h.state stays fit.1 u rs (length log) peace to idle room in
    let tells = accepted_ran b h log a l told taken in (
      answer_word (kept_at b) a l _ log tells ∙ ap given ended.0,
      answer-moves (kept_at b) a l _ log tells ∙ ended.1,
      answer-kept (kept_at b) a l _ log tells ∙ ap (kept_at b) ended.2,
    )

pub run_shows_all : RunShowsAll
run_shows_all b h log a l told taken stays is =
    let fit = usable_given b h (runnable_given b h log taken) in
    let tells = accepted_ran b h log a l told taken in
    let away = run_leads b fit.0 h.state stays fit.1 (length log) in
    let state = ap (λ (k : Kept). k.state) (answer-kept (kept_at b) a l _ log tells) in
    let rests = quiet_idle b fit.0 h.state stays a.kept.state
    (((run_exactly b h log a l told taken).ended runs.idle).0 is).2 in
    rw (answer-moves (kept_at b) a l _ log tells ∙ sym away.long)
    (orders_one b h.state a.kept.state away.moves stays (rw state away.leads) rests)
