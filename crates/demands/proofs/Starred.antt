-- The table of specs/Starred.antt holds: what each call's promise says is computed from the definitions, and so is what
-- a session prints.
use native.Mathlib.Omega.{arith}
use mathlib.Core.Path.{refl}
use mathlib.Core.List.{[], ◌∷◌}
use Rattle.refusals.specs.Order.{first_no}
use Rattle.number.specs.Numbers.{below, form, placed, number_at, encode, number_bytes}
use Rattle.kinds.specs.Kinds.{kind_of}
use Rattle.bits.specs.Sets.{member, including, excluding, remaining, together, first_from, lowest_from, within}
use Rattle.windings.specs.Windings.{every, complete}
use Rattle.board.specs.Parts.{padded}
use Rattle.board.specs.Rules.{in_range, counts_fine, name_fine, ends_fit, part_fits, part_fine, gained_all, parts_fine}
use Rattle.board.specs.Rules.{board_fine}
use Rattle.board.specs.Sorts.{carries}
use Rattle.state.specs.States.{state_fine}
use Rattle.presses.specs.Presses.{pushing, releasing}
use Rattle.board_reader.specs.Reading.{wanted, counts_at, name_at, ends_at, part_at, parts_at, board_from, board_at}
use Rattle.board_reader.specs.Reading.{answered, reading}
use Rattle.lists.specs.Tables.{table_from}
use Rattle.neighbours.specs.Neighbours.{set_from, set_at, sets_at, neighbours, bare_neighbours}
use Rattle.kept.specs.Kept.{same_row, belongs, left}
use Rattle.chains.specs.ChainList.{is_in, can_follow, tries, beyond, chains, crosses, some_crosses, beside, shows}
use Rattle.reach.specs.Floods.{next_seen, flood_on, flooded}
use Rattle.search.specs.Verdicts.{first_shown, effort, places, weighed, verdict_by, in_sets}
use Rattle.feed.specs.Feeds.{reached_without, served_on, served, linked_to, linked, shunted_by, live_by}
use Rattle.judge.specs.RelayWindings.{winding_of, windings_at}
use Rattle.judge.specs.Judging.{shunted, judged_by, winding_for, judging}
use Rattle.divide.specs.AtOnce.{divides, lowest_dividing, judged_at_once, judging_at_once, checking}
use Rattle.moves.specs.Steps.{regular_move, steel_move, taken_live, step_by, step_of}
use Rattle.moves.specs.Moving.{movable, moving}
use Rattle.runs.specs.Looks.{look_from}
use Rattle.runs.specs.Runs.{same_state, met_from, run_from}
use Rattle.runs.specs.Running.{runnable, ran, running}
use Rattle.report.specs.Settings.{all_runs}
use Rattle.report.specs.Figures.{ended_with, total_moves, most_moves, first_with, figures_of}
use Rattle.report.specs.Reporting.{reportable, reporting}
use Rattle.lines.specs.Texts.{digits_of, decimal}
use Rattle.lines.specs.Lines.{line_text}
use Rattle.events.specs.Events.{event_at, pressing, ran_line, pressed_line, event_line}
use Rattle.session.specs.Sessions.{past_allowance, head_at, lines_from, head_lines, session_lines, line_texts, printed}
use Rattle.session.specs.Sessions.{session_text}
use Rattle.session_means.proofs.AnyAllowance.{any_text}
use Rattle.demands.specs.Starred.{h5, h5_file, Starred}

-- one row after the other
infixr 20 ◌&◌
◌&◌ : {A B : Type 0} → A → B → A × B
a & b = (a, b)

pub starred_boards : Starred
unfolding first_no kind_of below form placed number_at encode number_bytes member including excluding remaining together
    first_from lowest_from within every complete padded in_range counts_fine name_fine ends_fit part_fits part_fine
    gained_all parts_fine board_fine carries state_fine left pushing releasing wanted counts_at name_at ends_at part_at
    parts_at board_from board_at answered reading set_from set_at table_from sets_at neighbours bare_neighbours same_row
    belongs next_seen flood_on flooded is_in can_follow tries beyond chains crosses some_crosses beside shows
    first_shown effort places weighed verdict_by in_sets winding_of windings_at shunted judged_by winding_for judging
    reached_without served_on served linked_to linked shunted_by live_by divides lowest_dividing judged_at_once
    judging_at_once checking regular_move steel_move taken_live step_by step_of movable moving look_from same_state
    met_from run_from runnable ran running all_runs ended_with total_moves most_moves first_with figures_of reportable
    reporting digits_of decimal line_text event_at pressing ran_line pressed_line event_line past_allowance head_at
    lines_from head_lines session_lines line_texts printed session_text
starred_boards =
    (λ x told. told) & (λ a k told. told) & (λ v told. told) & (λ v told. told) & (λ v told. told)
    & (λ a k told. told) & (λ a k told. told) & (λ v told. told) & (λ v told. told) & (λ v told. told)
    & (λ v told. told) & (λ v told. told) & (λ a told. told) & (λ a told. told) & (λ a told. told)
    & (λ v told. told) & (λ x told. told) & (λ a k told. told) & (λ x told. told) & (λ x told. told)
    & (λ x told. told) & (λ x told. told) & refl & (λ v told. told) & (λ a k told. told)
    & (λ a k told. told) & (λ a k told. told) & (λ a k told. told) & (λ a k told. told)
    & (λ x told. told) & (λ x told. told) & (λ x told. told) & (λ x told. told) & (λ x told. told)
    & (λ x told. told) & (λ x told. told) & (λ x told. told) & (λ x told. told) & (λ x told. told) & refl & refl
    & (λ x told. told) & (λ x told. told) & (λ x told. told) & (λ x told. told) & (λ x told. told)
    & (λ x told. told) & (λ x told. told) & (λ x told. told) & (λ v told. told) & (λ v told. told)
    & (λ v told. told) & (λ v told. told) & (λ a k told. told) & refl & (λ v told. told) & (λ v told. told)
    & (λ v told. told) & (λ a told. told) & (λ v told. told) & (λ v told. told) & (λ v told. told)
    & (λ v told. told) & (λ a k told. told) & (λ v told. told) & (λ v told. told) & (λ a told. told)
    & (λ x told. told) & (λ x told. told) & (λ x told. told) & (λ a told. told) & (λ a told. told)
    & (λ x told. told) & (λ x told. told) & (λ v told. told) & (λ v told. told) & (λ v told. told)
    & (λ v told. told) & (λ a told. told) & (λ a k told. told) & (λ v told. told)
    & (λ a told. told) & (λ a told. told) & (λ a told. told) & (λ a told. told) & (λ a told. told)
    & (λ a told. told) & (λ a told. told) & (λ a told. told) & (λ a told. told) & (λ a told. told)
    & (λ a told. told) & (λ a told. told) & (λ a told. told) & (λ a told. told) & (λ a told. told)
    & (λ a told. told) & (λ a told. told) & (λ a told. told) & (λ a told. told) & (λ a told. told)
    & (λ a told. told) & (λ a told. told) & (λ a told. told)
    & (λ w most. any_text h5_file (1 ∷ 3 ∷ []) h5 w refl most (omega arith) (tt & tt & tt & tt))
    & (λ a k told. told) & (λ a k told. told) & (λ a k told. told) & (λ a k told. told) & (λ a k told. told) & refl
    & (λ a told. told) & (λ a told. told) & (λ a told. told) & (λ a told. told) & (λ a told. told) & (λ a told. told)
    & (λ a told. told) & (λ a told. told) & (λ a k told. told)
    & (λ r told. told) & (λ r told. told) & (λ r told. told) & (λ r told. told) & (λ r told. told) & (λ r told. told)
    & (λ r told. told) & (λ r told. told) & (λ r told. told) & (λ r told. told) & (λ r told. told) & tt
