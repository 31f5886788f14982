-- Request A9: the theorems of `runs_means`; and of two relays beside each other, and of two that are each fed through
-- the other's lower contact, what their steps come to is computed.
use Prim.Native.Nat.{ℕ, zero, suc, ◌<◌}
use native.Mathlib.Omega.{arith}
use mathlib.Core.Path.{◌≡◌, refl, sym, ap, ◌∙◌}
use mathlib.Core.Logic.{inl, inr}
use mathlib.Core.Bool.{Bool, true, false}
use mathlib.Core.List.{[], ◌∷◌}
use Rattle.bits.specs.Sets.{member, including, excluding, remaining, together, first_from, lowest_from, within}
use Rattle.windings.specs.Windings.{every, complete}
use Rattle.board.specs.Parts.{padded}
use Rattle.board.specs.Rules.{in_range, counts_fine, name_fine, ends_fit, part_fits, part_fine, gained_all, parts_fine}
use Rattle.board.specs.Rules.{board_fine}
use Rattle.board.specs.Sorts.{carries}
use Rattle.state.specs.declared.State.{State}
use Rattle.state.specs.States.{empty_state, is_drawn, state_fine}
use Rattle.lists.specs.Tables.{table_from}
use Rattle.neighbours.specs.Neighbours.{set_from, set_at, sets_at, neighbours, bare_neighbours}
use Rattle.reach.specs.Floods.{next_seen, flood_on, flooded}
use Rattle.feed.specs.Feeds.{reached_without, served_on, served, linked_to, linked, shunted_by, live_by}
use Rattle.search.specs.Verdicts.{in_sets}
use Rattle.judge.specs.RelayWindings.{winding_of, windings_at}
use Rattle.moves.specs.Steps.{Move, drew, dropped, rests, conflict, regular_move, taken_live, step_by, step_of, made}
use Rattle.runs_means.specs.Following.{Follows}
use Rattle.runs_means.specs.Orders.{Answers, SingleMove, CanMove, OneEnding, TwoEndings}
use Rattle.runs_means.proofs.SingleLaws.{Stepped, answers_stepped, stepped_answers, single_turns, single_fits}
use Rattle.runs_means.proofs.SingleLaws.{rests_idle}
use Rattle.runs_means.proofs.Orders.{any_order, run_in_any_order, run_shows_all}
use Rattle.demands.specs.Starred.{pair, crossed, drawn0, drawn1}
use Rattle.demands.specs.InAnyOrder.{SuppositionHolds, SuppositionFails, InAnyOrder}

-- two relays, each fed through the other's lower contact: either draws, and then both rest
record Crossed : Type 0 where
  first : Stepped crossed empty_state 0 drew (drawn0 empty_state)
  second : Stepped crossed empty_state 1 drew (drawn1 empty_state)
  first_rests : (r : ℕ) → r < 2 → step_of crossed (drawn0 empty_state) r ≡ rests
  second_rests : (r : ℕ) → r < 2 → step_of crossed (drawn1 empty_state) r ≡ rests

-- two relays beside each other, fed by a wire: each draws if it is dropped, whatever the other does
record Pair : Type 0 where
  either : (s : State) (r : ℕ) → r < 2 → step_of pair s r ≡ regular_move (is_drawn s r) true
  first : Stepped pair empty_state 0 drew (drawn0 empty_state)
  second : Stepped pair (drawn0 empty_state) 1 drew (drawn1 (drawn0 empty_state))
  both_rest : (r : ℕ) → r < 2 → step_of pair (drawn1 (drawn0 empty_state)) r ≡ rests

-- what holds of relays 0 and 1
both_relays : (P : ℕ → Type 0) → P 0 → P 1 → (r : ℕ) → r < 2 → P r
both_relays P here there zero below = here
both_relays P here there (suc zero) below = there
both_relays P here there (suc (suc r)) below = absurd (omega arith)

-- what the relays of both boards come to, computed
computed : Crossed × Pair
unfolding member including excluding remaining together first_from lowest_from within every complete padded in_range
    counts_fine name_fine ends_fit part_fits part_fine gained_all parts_fine board_fine carries state_fine set_from
    set_at table_from sets_at neighbours bare_neighbours next_seen flood_on flooded reached_without served_on served
    linked_to linked shunted_by live_by in_sets winding_of windings_at regular_move taken_live step_by step_of
computed = (
  record {
    first = record { fine = refl; fits = refl; below = omega arith; steps = refl; leads = refl };
    second = record { fine = refl; fits = refl; below = omega arith; steps = refl; leads = refl };
    first_rests = both_relays (λ r. step_of crossed (drawn0 empty_state) r ≡ rests) refl refl;
    second_rests = both_relays (λ r. step_of crossed (drawn1 empty_state) r ≡ rests) refl refl;
  },
  record {
    either = λ s. both_relays (λ r. step_of pair s r ≡ regular_move (is_drawn s r) true) refl refl;
    first = record { fine = refl; fits = refl; below = omega arith; steps = refl; leads = refl };
    second = record { fine = refl; fits = refl; below = omega arith; steps = refl; leads = refl };
    both_rest = both_relays (λ r. step_of pair (drawn1 (drawn0 empty_state)) r ≡ rests) refl refl;
  },
)

crossed-steps : Crossed
crossed-steps = computed.0

pair-steps : Pair
pair-steps = computed.1

-- ---- each fed through the other's lower contact

-- the states with one of two relays drawn are different
drawn_differ : ¬ (drawn0 empty_state ≡ drawn1 empty_state)
unfolding member including
drawn_differ same = omega (arith, ap (λ (s : State). s.drawn) same)

two_endings : TwoEndings crossed empty_state
unfolding Follows
two_endings = record {
  one = drawn0 empty_state;
  other = drawn1 empty_state;
  reached = (0 ∷ [], (drawn0 empty_state, inl (stepped_answers crossed empty_state 0 crossed-steps.first), refl));
  also_reached = (
    1 ∷ [],
    (drawn1 empty_state, inl (stepped_answers crossed empty_state 1 crossed-steps.second), refl),
  );
  idle_there = rests_idle crossed (drawn0 empty_state) crossed-steps.first_rests;
  also_idle = rests_idle crossed (drawn1 empty_state) crossed-steps.second_rests;
  different = drawn_differ;
}

supposition_fails : SuppositionFails
supposition_fails stays =
    let (rs, to) = two_endings.reached in
    let (qs, on) = two_endings.also_reached in
    let only = any_order crossed empty_state rs two_endings.one stays to two_endings.idle_there in
    two_endings.different (sym (only.ends_so qs two_endings.other on two_endings.also_idle).1)

-- ---- beside each other

live_peaceful : (d : Bool) → ¬ (regular_move d true ≡ conflict)
unfolding regular_move
live_peaceful true is = let never : ◌≡◌ {A = ℕ} 0 1 = cc in omega (arith, never)
live_peaceful false is = let never : ◌≡◌ {A = ℕ} 0 1 = cc in omega (arith, never)

-- what the one relay's call says, it says after the other has moved too
pair_answers : (t u v : State) (q r : ℕ) (m : Move) → ¬ (q ≡ r) → SingleMove pair t q u → Answers pair t r m v
    → Answers pair u r m (made u r m)
pair_answers t u v q r m apart move x =
    let stepped = answers_stepped pair t r x in
    let same = (single_turns pair t q u move).else_as_before.relays r (λ is. apart (sym is)) in
    stepped_answers pair u r (record {
      fine = stepped.fine;
      fits = single_fits pair t q u move;
      below = stepped.below;
      steps = pair-steps.either u r stepped.below ∙ ap (λ (d : Bool). regular_move d true) same
          ∙ sym (pair-steps.either t r stepped.below) ∙ stepped.steps;
      leads = refl;
    })

pair_stays : (t u v : State) (q r : ℕ) → ¬ (q ≡ r) → SingleMove pair t q u → SingleMove pair t r v
    → CanMove (SingleMove pair) u r
pair_stays t u v q r apart move (inl x) = (made u r drew, inl (pair_answers t u v q r drew apart move x))
pair_stays t u v q r apart move (inr x) = (made u r dropped, inr (pair_answers t u v q r dropped apart move x))

supposition_holds : SuppositionHolds
supposition_holds = (
  λ t r reached (v, x).
      let stepped = answers_stepped pair t r x in
      live_peaceful (is_drawn t r) (sym (pair-steps.either t r stepped.below) ∙ stepped.steps),
  λ t u q r reached apart move (v, can). pair_stays t u v q r apart move can,
)

both_drawn : OneEnding pair empty_state 2 (drawn1 (drawn0 empty_state))
unfolding Follows
both_drawn =
    any_order pair empty_state (0 ∷ 1 ∷ []) (drawn1 (drawn0 empty_state)) supposition_holds.1 (
      drawn0 empty_state,
      inl (stepped_answers pair empty_state 0 pair-steps.first),
      (
        drawn1 (drawn0 empty_state),
        inl (stepped_answers pair (drawn0 empty_state) 1 pair-steps.second),
        refl,
      ),
    )
    (rests_idle pair (drawn1 (drawn0 empty_state)) pair-steps.both_rest)

pub in-any_order : InAnyOrder
in-any_order = record {
  orders = any_order;
  runs = run_in_any_order;
  shows = run_shows_all;
  holds = supposition_holds;
  ends = both_drawn;
  fails = supposition_fails;
  endings = two_endings;
}
