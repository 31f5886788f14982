-- Demand 2: each field is a theorem of a wing.
use Rattle.number.proofs.NumberTrip.{number_written_back, number_read_back}
use Rattle.board.proofs.SameExactly.{same_exactly}
use Rattle.board.proofs.BreaksNoRule.{every_relay_sort}
use Rattle.state.proofs.FreshFollows.{fresh_follows}
use Rattle.file_means.proofs.RoundTrip.{write_then_read, rest_stays, read_then_write}
use Rattle.file_means.proofs.BytesAfter.{bytes_after}
use Rattle.file_means.proofs.FileRefusals.{file_accepted}
use Rattle.file_means.proofs.FilesKept.{files_kept, only_by_two}
use Rattle.file_means.proofs.SecondEdition.{first_files_kept, only_by_four, markless_as_before, mark_turned_away}
use Rattle.judge_means.proofs.Circuits.{paths_are_chains, live_is_carrying}
use Rattle.judge_means.proofs.Exactness.{judges_keep, shunted_dead, as_published}
use Rattle.judge_means.proofs.Eleven.{the_winding, every_relay_wound}
use Rattle.judge_means.proofs.Dividing.{shown_undivided, served_exactly_on, linked_exactly, live_served, told_exactly}
use Rattle.judge_means.proofs.Dividing.{checked_exactly}
use Rattle.moves_means.proofs.SingleMoves.{move_exactly}
use Rattle.moves_means.proofs.ByChains.{every_relay_moves}
use Rattle.moves_means.proofs.OneRelay.{changes_one_relay}
use Rattle.moves_means.proofs.AsTold.{taken_as_told, regular_as_told, steel_as_told}
use Rattle.runs_means.proofs.Courses.{run_exactly, meeting_is_unique, buzz_exactly, meeting_found, never_spent}
use Rattle.runs_means.proofs.KeptSets.{only_at_ends, belong_always}
use Rattle.kept.proofs.OnlyEnds.{only_ends}
use Rattle.session_means.proofs.HandedLines.{lines_handed_out, all_handed_out}
use Rattle.session_means.proofs.FilledBuffers.{buffers_filled, all_filled}
use Rattle.session_means.proofs.EventRefusals.{events_refused, events_closed}
use Rattle.session_means.proofs.LinesDrawn.{lines_drawn}
use Rattle.session_means.proofs.UnspentSessions.{sessions_unspent}
use Rattle.session_means.proofs.SessionsKept.{sessions_kept, first_sessions_kept, lines_stand}
use Rattle.demands.specs.AsTheModelSays.{AsTheModelSays}

pub as_the_model_says : AsTheModelSays
as_the_model_says = record {
  paths = paths_are_chains;
  carrying = live_is_carrying;
  winding = the_winding;
  current = as_published _ judges_keep;
  shunted = shunted_dead _ judges_keep;
  sorts = every_relay_sort;
  wound = every_relay_wound;
  relays = every_relay_moves;
  moves = move_exactly;
  undivided = shown_undivided;
  told = told_exactly;
  checked = checked_exactly;
  served = live_served;
  serves = served_exactly_on;
  links = linked_exactly;
  taken = taken_as_told;
  regular_told = regular_as_told;
  steel_told = steel_as_told;
  changes = changes_one_relay;
  runs = run_exactly;
  meetings = meeting_is_unique;
  buzzes = buzz_exactly;
  found = meeting_found;
  never_spent = never_spent;
  unspent = sessions_unspent;
  fresh = fresh_follows;
  belong = belong_always;
  only_at_ends = only_at_ends;
  only_ends = only_ends;
  written_read = write_then_read;
  read_written = read_then_write;
  rest_stays = rest_stays;
  file_read = file_accepted;
  bytes_after = bytes_after;
  same = same_exactly;
  number_written_read = number_written_back;
  number_read_written = number_read_back;
  files_kept = files_kept;
  only_by_two = only_by_two;
  sessions_kept = sessions_kept;
  first_files_kept = first_files_kept;
  only_by_four = only_by_four;
  markless_as_before = markless_as_before;
  mark_turned_away = mark_turned_away;
  first_sessions_kept = first_sessions_kept;
  lines_stand = lines_stand;
  lines = lines_handed_out;
  all_lines = all_handed_out;
  filled = buffers_filled;
  all_filled = all_filled;
  events = events_refused;
  closed = events_closed;
  drawn = lines_drawn;
}
