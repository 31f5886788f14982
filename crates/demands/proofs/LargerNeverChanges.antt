-- Demand 3: each field is a theorem of a wing. That no judge of one word meets it is shown by H1, live while its button
-- is pushed and dead while it is not.
use Prim.Native.Nat.{◌≤◌}
use mathlib.Core.Path.{refl}
use mathlib.Core.Logic.{◌⊎◌, inl, inr}
use mathlib.Core.List.{[], ◌∷◌}
use lib.ListN.{length}
use Rattle.refusals.specs.Order.{first_no}
use Rattle.bits.specs.Sets.{member, including, excluding, remaining, together, first_from, lowest_from, within}
use Rattle.windings.specs.Windings.{every, complete}
use Rattle.board.specs.Parts.{padded}
use Rattle.board.specs.Rules.{in_range, counts_fine, name_fine, ends_fit, part_fits, part_fine, gained_all, parts_fine}
use Rattle.board.specs.Rules.{board_fine}
use Rattle.board.specs.Sorts.{carries}
use Rattle.state.specs.declared.State.{State}
use Rattle.state.specs.States.{empty_state, state_fine}
use Rattle.lists.specs.Tables.{table_from}
use Rattle.neighbours.specs.Neighbours.{set_from, set_at, sets_at, neighbours, bare_neighbours}
use Rattle.kept.specs.declared.Kept.{Kept}
use Rattle.kept.specs.Kept.{kept_at, same_row, belongs}
use Rattle.chains.specs.ChainList.{is_in, can_follow, tries, beyond, chains, crosses, some_crosses, beside, shows}
use Rattle.reach.specs.Floods.{next_seen, flood_on, flooded}
use Rattle.search.specs.declared.Winding.{Winding}
use Rattle.std.specs.Prelude.{Result}
use Rattle.refusals.specs.declared.Refusal.{Refusal}
use Rattle.search.specs.declared.Finding.{Finding}
use Rattle.search.specs.declared.Verdict.{Verdict}
use Rattle.search.specs.Verdicts.{first_shown, effort, places, weighed, verdict_by, in_sets}
use Rattle.judge.specs.declared.Which.TheVariants.{First}
use Rattle.judge.specs.RelayWindings.{winding_of}
use Rattle.judge.specs.Judging.{shunted, judged_by, winding_for, judging, Judges}
use Rattle.judge_means.specs.Exactness.{Judge, Keeps, AcceptedWinding, chains_of, IsShown, IsLive, effort_of}
use Rattle.judge_means.specs.Shunts.{Shunted}
use Rattle.judge_means.proofs.Exactness.{live_verdict, dead_verdict, the_chains, effort_numbers, judges_keep}
use Rattle.judge_means.proofs.Exactness.{as_afresh, live_exactly, dead_exactly, undecided_exactly, live_shows}
use Rattle.judge_means.proofs.Exactness.{shunted_dead, dead_counts, undecided_reports}
use Rattle.judge_means.proofs.Allowances.{larger_allowance, turns_at_effort, effort_some_always}
use Rattle.judge_means.proofs.Dividing.{agree_where_settled}
use Rattle.runs_means.proofs.LongerRuns.{longer_run}
use Rattle.session_means.proofs.AnyAllowance.{any_allowance}
use Rattle.demands.specs.Starred.{h1, pushed0}
use Rattle.demands.specs.LargerNeverChanges.{JudgedExactly, NoWordAlways, LargerNeverChanges}

judged_exactly : (J : Judge) → Keeps J → JudgedExactly J
judged_exactly J keeps = record {
  afresh = as_afresh J keeps;
  live = live_exactly J keeps;
  dead = dead_exactly J keeps;
  undecided = undecided_exactly J keeps;
  shunted = shunted_dead J keeps;
  shown = live_shows J keeps;
  counted = dead_counts J keeps;
  reported = undecided_reports J keeps;
  larger = larger_allowance J keeps;
  turns = turns_at_effort J keeps;
  effort = effort_some_always J keeps;
}

-- ---- H1

abbrev ends : Winding
ends = record { a = 2; b = 1 }

-- while its button is pushed, and while it is not, with the sets beside the state
abbrev down : Kept
down = kept_at h1 pushed0

abbrev up : Kept
up = kept_at h1 empty_state

-- what H1 comes to then
record H1 : Type 0 where
  pushed_taken : AcceptedWinding h1 down 0 First ends
  rest_taken : AcceptedWinding h1 up 0 First ends
  pushed : Judges h1 down 0 First 100 (live_verdict 3 (0 ∷ 2 ∷ 1 ∷ []))
  rest : Judges h1 up 0 First 100 (dead_verdict 1)

h1_judged : H1
unfolding first_no member including excluding remaining together first_from lowest_from within every complete padded
    in_range counts_fine name_fine ends_fit part_fits part_fine gained_all parts_fine board_fine carries state_fine
    set_from set_at table_from sets_at neighbours bare_neighbours same_row belongs next_seen flood_on flooded is_in
    can_follow tries beyond chains crosses some_crosses beside shows first_shown effort places weighed verdict_by
    in_sets winding_of shunted judged_by winding_for judging
h1_judged = record { pushed_taken = refl; rest_taken = refl; pushed = refl; rest = refl }

pushed_live : IsLive h1 pushed0 ends × (effort_of h1 pushed0 ends ≤ 100)
pushed_live =
    (live_exactly _ judges_keep h1 down 0 First 100 ends _ h1_judged.pushed h1_judged.pushed_taken).0 refl

rest_dead : Shunted h1 empty_state ends
    ⊎ (¬ (IsShown h1 empty_state ends) × (length (chains_of h1 empty_state) ≤ 100))
rest_dead =
    (dead_exactly _ judges_keep h1 up 0 First 100 ends _ h1_judged.rest h1_judged.rest_taken).0 refl

-- dead is not live
never_both : (s : State) → Shunted h1 s ends ⊎ (¬ (IsShown h1 s ends) × (length (chains_of h1 s) ≤ 100))
    → ¬ (IsLive h1 s ends)
never_both s (inl shunts) live = live.1 shunts
never_both s (inr dead) live = dead.0 live.0

-- one word for both cannot be right for both
no_word_always : NoWordAlways
no_word_always f = (
  λ exactly.
      let live = (exactly h1 down 0 First 100 ends (saying f) refl h1_judged.pushed_taken).1 pushed_live in
      never_both empty_state rest_dead
      ((exactly h1 up 0 First 100 ends (saying f) refl h1_judged.rest_taken).0 live).0,
  λ exactly.
      let dead = (exactly h1 up 0 First 100 ends (saying f) refl h1_judged.rest_taken).1 rest_dead in
      never_both pushed0 ((exactly h1 down 0 First 100 ends (saying f) refl h1_judged.pushed_taken).0 dead)
      pushed_live.0,
)
  where
    saying : Result Finding Refusal → Verdict
    saying g = record { finding = g; effort = 0; length = 0; terminals = [] }

-- ---- the demand

pub larger_never_changes : LargerNeverChanges
larger_never_changes = record {
  chains = the_chains;
  numbers = effort_numbers;
  judge = judged_exactly _ judges_keep;
  always = no_word_always;
  agree = agree_where_settled;
  runs = longer_run;
  sessions = any_allowance;
}
