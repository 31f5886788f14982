-- Demand 1: "Every call comes back." Rule book, how tight the promises are: "Any pair of answers allowed by a promise
-- is shown to be one answer". A line for each function that another crate can call: its promise, by the name that its
-- `ensures` cites, allows exactly one answer, whatever the call is given. `docs/PROMISES.md` has the promises in words.
--     One P        the promise P allows an answer, and any two that it allows are one
--     OneLent P    P allows an answer with what it leaves in a lent log or buffer, and any two that it allows are one
--                  answer, and leave the same
--     OneAnswer    the list; the argument of `bits_wide` is a byte: its promise is kept by std's `u32::from` today,
--                  which `bytes_are_widened` shows; that of `refusals_unless` is a `No`, as in every call: of any type
--                  `any_line_is_one_answer` says it
use Rattle.std.specs.Prelude.{ℕ, ◌<◌, ◌≡◌, Bool, List, Option, Result}
use Rattle.bits.specs.Sets.{SetHas, SetWith, SetWithout, SetFlipped, SetRemaining, SetTogether, SetLowestFrom}
use Rattle.bits.specs.Sets.{SetAllBelow, WideByte}
use Rattle.refusals.specs.declared.No.{No}
use Rattle.refusals.specs.declared.Refusal.{Refusal}
use Rattle.refusals.specs.Order.{AsksLine}
use Rattle.number.specs.Numbers.{ReadsNumber, NumberLength, WritesNumber}
use Rattle.kinds.specs.declared.Kind.{Kind}
use Rattle.kinds.specs.Kinds.{KindOf, KindNumber, KindName, KindFields}
use Rattle.windings.specs.declared.WoundSoFar.{WoundSoFar}
use Rattle.windings.specs.Windings.{WoundNone, WoundFree, WoundUnmarked, WoundWith, WoundComplete}
use Rattle.board.specs.declared.Counts.{Counts}
use Rattle.board.specs.declared.Board.{Board}
use Rattle.board.specs.Parts.{BlankPart, EmptyBoard, TakesParts}
use Rattle.board.specs.Rules.{NameLimit, Checks}
use Rattle.board.specs.Same.{SameBoards}
use Rattle.state.specs.declared.State.{State}
use Rattle.state.specs.States.{StateFresh, StateDraws, StateDrops, StatePushes, StateReleases, StateIsDrawn}
use Rattle.state.specs.States.{StateIsPushed, StateFits}
use Rattle.board_reader.specs.Reading.{Reads}
use Rattle.board_writer.specs.Writing.{Writes}
use Rattle.neighbours.specs.Conduction.{Conducts}
use Rattle.neighbours.specs.declared.Sets.{Sets}
use Rattle.neighbours.specs.Neighbours.{Neighbours, Renews}
use Rattle.kept.specs.declared.Kept.{Kept}
use Rattle.kept.specs.declared.Change.{Change}
use Rattle.kept.specs.Kept.{KeptOf, KeptFresh, Usable}
use Rattle.kept.specs.Upkeep.{KeptChanged}
use Rattle.reach.specs.Floods.{Floods}
use Rattle.search.specs.declared.Winding.{Winding}
use Rattle.search.specs.Verdicts.{Searches}
use Rattle.feed.specs.declared.Feed.{Feed}
use Rattle.feed.specs.Feeds.{ReachedWithout, Feeds, LiveBy}
use Rattle.judge.specs.declared.Which.{Which}
use Rattle.judge.specs.declared.Windings.{Windings}
use Rattle.judge.specs.RelayWindings.{FindsWindings, FindsAllWindings}
use Rattle.judge.specs.Judging.{AsksFor, FindsShunt, Judges}
use Rattle.divide.specs.AtOnce.{JudgesAtOnce, ChecksTerminal}
use Rattle.presses.specs.Presses.{Pushes, Releases}
use Rattle.moves.specs.declared.Move.{Move}
use Rattle.moves.specs.Steps.{StepsRelay, AfterMove}
use Rattle.moves.specs.Moving.{Moves}
use Rattle.runs.specs.declared.Ending.{Ending}
use Rattle.runs.specs.Running.{Runs}
use Rattle.report.specs.declared.Figures.{Figures}
use Rattle.report.specs.Reporting.{Reports}
use Rattle.report.specs.BothWays.{OneRun, Followed}
use Rattle.lines.specs.declared.Line.{Line}
use Rattle.lines.specs.Lines.{WritesLine}
use Rattle.events.specs.declared.Event.{Event}
use Rattle.events.specs.Events.{RunLine, EventLine}
use Rattle.session.specs.declared.Session.{Session}
use Rattle.session.specs.Carried.{Begins}
use Rattle.session.specs.HandingOut.{NextLine}
use Rattle.session.specs.Filling.{NextLines}

pub record One {R : Type 0} (P : R → Type 0) : Type 0 where
  pub answer : R
  pub allowed : P answer
  pub only : (x y : R) → P x → P y → x ≡ y

pub record OneLent {R : Type 0} (P : R → List ℕ → Type 0) : Type 0 where
  pub answer : R
  pub left : List ℕ
  pub allowed : P answer left
  pub only : (x y : R) (k l : List ℕ) → P x k → P y l → (x ≡ y) × (k ≡ l)

pub record OneAnswer : Type 0 where
  pub bits_has : (s n : ℕ) → One (SetHas s n)
  pub bits_with : (s n : ℕ) → One (SetWith s n)
  pub bits_without : (s n : ℕ) → One (SetWithout s n)
  pub bits_flip : (s n : ℕ) → One (SetFlipped s n)
  pub bits_remaining : (s t : ℕ) → One (SetRemaining s t)
  pub bits_together : (s t : ℕ) → One (SetTogether s t)
  pub bits_lowest_from : (s n : ℕ) → One (SetLowestFrom s n)
  pub bits_all_below : (s n : ℕ) → One (SetAllBelow s n)
  pub bits_wide : (x : ℕ) → x < 256 → One (WideByte x)
  pub refusals_unless : (t : Bool) (e : No) → One (AsksLine t e)
  pub number_read_number : (s : List ℕ) (at : ℕ) → One (ReadsNumber s at)
  pub number_number_length : (v : ℕ) → One (NumberLength v)
  pub number_write_number : (v : ℕ) (out : List ℕ) (at : ℕ) → OneLent (WritesNumber v out at)
  pub kinds_of : (k n : ℕ) → One (KindOf k n)
  pub kinds_number : (k : Kind) → One (KindNumber k)
  pub kinds_name : (k : Kind) → One (KindName k)
  pub kinds_fields : (k : Kind) (a b : ℕ) → One (KindFields k a b)
  pub windings_none : One WoundNone
  pub windings_free : (w : WoundSoFar) (k : Kind) → One (WoundFree w k)
  pub windings_unmarked : (w : WoundSoFar) (k : Kind) → One (WoundUnmarked w k)
  pub windings_with : (w : WoundSoFar) (k : Kind) → One (WoundWith w k)
  pub windings_complete : (w : WoundSoFar) (n : ℕ) → One (WoundComplete w n)
  pub board_limit : (c : Counts) (k : ℕ) → One (NameLimit c k)
  pub board_blank : One BlankPart
  pub board_empty : One EmptyBoard
  pub board_parts : (b : Board) → One (TakesParts b)
  pub board_check : (b : Board) → One (Checks b)
  pub board_same : (x y : Board) → One (SameBoards x y)
  pub state_fresh : (b : Board) → One (StateFresh b)
  pub state_draw : (s : State) (r : ℕ) → One (StateDraws s r)
  pub state_drop : (s : State) (r : ℕ) → One (StateDrops s r)
  pub state_push : (s : State) (n : ℕ) → One (StatePushes s n)
  pub state_release : (s : State) (n : ℕ) → One (StateReleases s n)
  pub state_is_drawn : (s : State) (r : ℕ) → One (StateIsDrawn s r)
  pub state_is_pushed : (s : State) (n : ℕ) → One (StateIsPushed s n)
  pub state_fits : (s : State) (c : Counts) → One (StateFits s c)
  pub board_reader_read : (s : List ℕ) → One (Reads s)
  pub board_writer_write : (b : Board) (out : List ℕ) → OneLent (Writes b out)
  pub neighbours_conducts : (k : Kind) (s : State) → One (Conducts k s)
  pub neighbours_neighbours : (b : Board) (s : State) → One (Neighbours b s)
  pub neighbours_renew : (k : Sets) (at : ℕ) (b : Board) (s : State) → One (Renews k at b s)
  pub kept_of : (b : Board) (s : State) → One (KeptOf b s)
  pub kept_fresh : (b : Board) → One (KeptFresh b)
  pub kept_changed : (h : Kept) (b : Board) (c : Change) (t : State) → One (KeptChanged h b c t)
  pub kept_usable : (b : Board) (h : Kept) → One (Usable b h)
  pub reach_flood : (near : List ℕ) (from out : ℕ) → One (Floods near from out)
  pub search_search : (near : List ℕ) (t : ℕ) (v : Winding) (w : ℕ) → One (Searches near t v w)
  pub feed_reached_without : (near : List ℕ) (x : ℕ) → One (ReachedWithout near x)
  pub feed_feed_by : (k : Sets) (t : ℕ) → One (Feeds k t)
  pub feed_is_live : (f : Feed) (v : Winding) → One (LiveBy f v)
  pub judge_find_windings : (b : Board) (r : ℕ) → One (FindsWindings b r)
  pub judge_find_all_windings : (b : Board) → One (FindsAllWindings b)
  pub judge_winding_for : (b : Board) (h : Kept) (r : ℕ) (k : Which) → One (AsksFor b h r k)
  pub judge_is_shunted : (k : Sets) (v : Winding) → One (FindsShunt k v)
  pub judge_judge : (b : Board) (h : Kept) (r : ℕ) (k : Which) (w : ℕ) → One (Judges b h r k w)
  pub divide_judge : (b : Board) (h : Kept) (r : ℕ) (k : Which) → One (JudgesAtOnce b h r k)
  pub divide_check : (b : Board) (h : Kept) (r : ℕ) (k : Which) (x : ℕ) → One (ChecksTerminal b h r k x)
  pub presses_push : (b : Board) (h : Kept) (n : ℕ) → One (Pushes b h n)
  pub presses_release : (b : Board) (h : Kept) (n : ℕ) → One (Releases b h n)
  pub moves_step : (f : Feed) (x : Option Windings) (d : Bool) → One (StepsRelay f x d)
  pub moves_after : (b : Board) (h : Kept) (r : ℕ) (m : Move) → One (AfterMove b h r m)
  pub moves_move_relay : (b : Board) (h : Kept) (r : ℕ) → One (Moves b h r)
  pub runs_run : (b : Board) (h : Kept) (log : List ℕ) → OneLent (Runs b h log)
  pub report_report : (b : Board) (n : ℕ) → One (Reports b n)
  pub report_one_run : (w : Result Ending Refusal) (m : ℕ) → One (OneRun w m)
  pub report_followed : (f g : Figures) → One (Followed f g)
  pub lines_write_line : (l : Line) (out : List ℕ) → OneLent (WritesLine l out)
  pub events_run_line : (b : Board) (e : ℕ) (h : Kept) → One (RunLine b e h)
  pub events_event_line : (b : Board) (e : ℕ) (h : Kept) (v : Event) → One (EventLine b e h v)
  pub session_begin : (s : List ℕ) → One (Begins s)
  pub session_next_line : (z : Session) (s out : List ℕ) → OneLent (NextLine z s out)
  pub session_next_lines : (z : Session) (s out : List ℕ) → OneLent (NextLines z s out)
