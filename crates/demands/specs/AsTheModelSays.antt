-- Demand 2, in the user's own words, and what states each sentence:
--     "Relays move as the relay circuit model published by the Technical University of Denmark says."
--         `paths`, `carrying`: the model's paths and its current are ours; `current`: what is called live or dead goes
--         exactly by it, within the allowance, of a winding that is not shunted; `shunted`: one that is shunted is
--         called dead, whatever the model says (request A4: "here our rule decides"); `moves`: a relay is moved exactly
--         by the model's guards, of current through a winding that is not shunted
--     "A relay draws when a chain of conducting parts that meets no terminal twice runs from plus to minus through its
--     winding, and drops when there is none."
--         `relays`: every relay of an accepted board and state draws, drops, rests or is in conflict by its windings,
--         each live if such a chain shows it and it is not shunted (request A4), with no allowance (request A7);
--         `sorts`: each is regular or steel-core; `wound`: it has the windings of its sort, each of them its
--         `winding`; `changes`: a move changes that relay and nothing else. It is found without listing chains (request
--         A6): `undivided`: there is such a chain exactly if no terminal divides the winding; `told`, what the judge
--         that goes by this says; `checked`, of a terminal handed in; `served`: a winding that is not shunted is live
--         exactly if both its ends are served; `serves`, `links`: what a look works out is who is served and who is
--         linked; `taken`: by these a step takes a winding for what that judge says; `regular_told`, `steel_told`: so
--         a relay moves
--     "A steel-core relay moves only on its drawing or dropping winding."
--         `relays`, of the two windings that `wound` gives it
--     "Board files keep their meaning both ways: write then read gives the board, read then write gives the bytes
--     read."
--         `written_read`, `read_written`; `rest_stays`: behind the bytes written a buffer is as lent; `file_read`: a
--         board that was read is what stands in the file; `bytes_after`: what stands behind a board does not bear on
--         it; `same`: which boards are the same; `number_written_read`, `number_read_written`: both ways for every
--         number to 4,294,967,295; `files_kept`, `only_by_two`, `sessions_kept`: files and sessions of the days when
--         numbers had at most three bytes are read as they were (request A1); `first_files_kept`, `only_by_four`,
--         `first_sessions_kept`: so do those of the first edition, which had no marks, and `markless_as_before`,
--         `mark_turned_away`: its reader takes a file of today's without marks, and turns one with a mark away by 4
--         (request A2); `lines_stand`: what became of any session's lines by either request
--     "A run moves the lowest relay that can move until it is idle or must stop."
--         `runs`; `meetings`: from one state there is one first meeting, `buzzes`: a run is buzz exactly if some state
--         comes twice within the log, `found`: and it tells the first meeting, and `never_spent`: with room for 2 to
--         the R moves it is never spent, `unspent`: nor in a session with up to 12 relays (request A8); `fresh`: in the
--         fresh state of a board exactly the relays are drawn that it marks (request A2); and what a session prints of
--         its runs, from that state on: `lines`, `all_lines`, in buffers `filled`, `all_filled`; `events`, `closed`,
--         `drawn`. All these go by sets that are kept beside the state (request A5): `belong`, after any calls they are
--         those worked out from board and state; `only_at_ends`, `only_ends`: a move or a button changes only the sets
--         at the ends of that relay's contacts or that button's parts
-- Each field is put into words in the file that defines it. `paths`, `carrying`, `winding`, `sorts`, `wound`,
-- `undivided`, `served`, `serves` and `links` are of boards and states, `events`, `closed` and `drawn` of the session's
-- lines; those of requests A1 and A2 from `files_kept` to `lines_stand` are of the definitions at two editions; the
-- others are over the calls.
--     AsTheModelSays    the demand
use Rattle.number.specs.NumberTrip.{NumberWrittenRead, NumberReadWritten}
use Rattle.board.specs.SameExactly.{SameExactly}
use Rattle.board.specs.BreaksNoRule.{EveryRelaySort}
use Rattle.state.specs.FreshFollows.{FreshFollows}
use Rattle.file_means.specs.RoundTrip.{WriteThenRead, RestStays, ReadThenWrite}
use Rattle.file_means.specs.BytesAfter.{BytesAfter}
use Rattle.file_means.specs.FileRefusals.{FileAccepted}
use Rattle.file_means.specs.FilesKept.{FilesKept, OnlyByTwo}
use Rattle.file_means.specs.SecondEdition.{FirstFilesKept, OnlyByFour, MarklessAsBefore, MarkTurnedAway}
use Rattle.kept.specs.OnlyEnds.{OnlyEnds}
use Rattle.judge.specs.Judging.{Judges}
use Rattle.judge_means.specs.Circuits.{PathsAreChains, LiveIsCarrying}
use Rattle.judge_means.specs.Exactness.{ShuntedDead, AsPublished}
use Rattle.judge_means.specs.Eleven.{TheWinding, EveryRelayWound}
use Rattle.judge_means.specs.Dividing.{ShownUndivided, ServedExactly, LinkedExactly, LiveServed, ToldExactly}
use Rattle.judge_means.specs.Dividing.{CheckedExactly}
use Rattle.moves_means.specs.SingleMoves.{MoveExactly}
use Rattle.moves_means.specs.ByChains.{EveryRelayMoves}
use Rattle.moves_means.specs.OneRelay.{ChangesOneRelay}
use Rattle.moves_means.specs.AsTold.{TakenAsTold, RegularAsTold, SteelAsTold}
use Rattle.runs_means.specs.Courses.{RunExactly, MeetingUnique, BuzzExactly, MeetingFound, NeverSpent}
use Rattle.runs_means.specs.KeptSets.{OnlyAtEnds, BelongAlways}
use Rattle.session_means.specs.HandedLines.{LinesHandedOut, AllHandedOut}
use Rattle.session_means.specs.FilledBuffers.{BuffersFilled, AllFilled}
use Rattle.session_means.specs.EventRefusals.{EventsRefused, EventsClosed}
use Rattle.session_means.specs.LinesDrawn.{LinesDrawn}
use Rattle.session_means.specs.UnspentSessions.{SessionsUnspent}
use Rattle.session_means.specs.SessionsKept.{SessionsKept, FirstSessionsKept, LinesStand}

pub record AsTheModelSays : Type 0 where
  -- the chains to minus are the published model's paths, and one shows a winding exactly if it is current carrying
  pub paths : PathsAreChains
  pub carrying : LiveIsCarrying
  -- the winding judged is exactly the relay's; it is called live or dead exactly by that current, within the allowance,
  -- unless it is shunted: then it is called dead, at every allowance
  pub winding : TheWinding
  pub current : AsPublished Judges
  pub shunted : ShuntedDead Judges
  -- each relay is regular or steel-core and not both, and has the windings of its sort
  pub sorts : EveryRelaySort
  pub wound : EveryRelayWound
  -- every relay of an accepted board and state draws, drops, rests or is in conflict, exactly by its windings, each
  -- live, by a chain and not shunted, or dead; which is exactly by the published guards, where a shunted winding counts
  -- for one without current
  pub relays : EveryRelayMoves
  pub moves : MoveExactly
  -- so it is without listing chains: a chain shows a winding exactly if no terminal divides it; the judge that goes by
  -- this says live, shunted, or dead with the lowest terminal that divides, exactly; a terminal handed in is accepted
  -- exactly if it divides; a winding that is not shunted is live exactly if both its ends are served, and a look works
  -- out exactly the served terminals and the linked ones; so a relay moves by what that judge says
  pub undivided : ShownUndivided
  pub told : ToldExactly
  pub checked : CheckedExactly
  pub served : LiveServed
  pub serves : ServedExactly
  pub links : LinkedExactly
  pub taken : TakenAsTold
  pub regular_told : RegularAsTold
  pub steel_told : SteelAsTold
  -- a move changes that relay and nothing else
  pub changes : ChangesOneRelay
  -- a run makes the lowest relay's move, again and again, until it is idle or must stop; from one state there is one
  -- first meeting; a run is buzz exactly if some state comes twice within the log, and tells that meeting; with room
  -- for 2 to the R moves a run is never spent, nor is one of a session with up to 12 relays
  pub runs : RunExactly
  pub meetings : MeetingUnique
  pub buzzes : BuzzExactly
  pub found : MeetingFound
  pub never_spent : NeverSpent
  pub unspent : SessionsUnspent
  -- in a fresh state exactly the relays that the board marks are drawn
  pub fresh : FreshFollows
  -- after any calls the kept sets are those of board and state; a push, a release or a move changes only those at its
  -- ends
  pub belong : BelongAlways
  pub only_at_ends : OnlyAtEnds
  pub only_ends : OnlyEnds
  -- board files keep their meaning
  pub written_read : WriteThenRead
  pub read_written : ReadThenWrite
  pub rest_stays : RestStays
  pub file_read : FileAccepted
  pub bytes_after : BytesAfter
  -- boards are compared by their counts and first C parts
  pub same : SameExactly
  -- numbers keep their value both ways, and what was read with numbers of at most three bytes keeps its meaning
  pub number_written_read : NumberWrittenRead
  pub number_read_written : NumberReadWritten
  pub files_kept : FilesKept
  pub only_by_two : OnlyByTwo
  pub sessions_kept : SessionsKept
  -- so does what was read by the first edition; its reader never shows a board with a mark
  pub first_files_kept : FirstFilesKept
  pub only_by_four : OnlyByFour
  pub markless_as_before : MarklessAsBefore
  pub mark_turned_away : MarkTurnedAway
  pub first_sessions_kept : FirstSessionsKept
  pub lines_stand : LinesStand
  -- the lines handed out, one by one or as many as fill a buffer, are the session's lines; its events are refused by 12
  -- alone, it is ended by 1, 2 or 7, and each line prints the sum over the drawn relays
  pub lines : LinesHandedOut
  pub all_lines : AllHandedOut
  pub filled : BuffersFilled
  pub all_filled : AllFilled
  pub events : EventsRefused
  pub closed : EventsClosed
  pub drawn : LinesDrawn
