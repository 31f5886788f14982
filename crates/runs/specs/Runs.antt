-- A run, on relays that move as the stepper f says. Rule book: "None: the run is idle. .. conflict: it stops with that
-- word. A move: if the lent log is full the run is spent, otherwise the move is made and logged and the run looks again
-- from 0. The log's length is the move allowance." Request A8: "When the state after some move equals an earlier state
-- of the same run, stop with the word buzz, the moves made up to the earlier state, and the moves between (0 and 0 with
-- other words). The first such meeting is the answer; the log holds the moves up to it. .. The meeting is tested before
-- the full log is. The stopping relay is 255".
--     Ending                 the words that a run ends with
--     no_relay               255
--     Run                    the word, the log bytes of the moves made, the state, "the relay that stopped it (255
--                            for idle)" and for buzz, the moves made up to the earlier state, and the moves between
--     ends e s r             a run that makes no move: it ends in state s with the word e, stopped by relay r, and
--                            tells 0 and 0
--     same_state s t         s and t are the same state
--     met_from d s ts        how many moves ago the state s was met, where the states ts were d moves ago, d + 1, and
--                            so on, d at least 1; 0 if it is none of them
--     met_ago s ss           how many moves ago a run that came through the states ss to s, the last first, was in s; 0
--                            if it was not
--     buzzes ss s d          that run ends with buzz: it was in s d moves ago
--     unless_met d ss s go   it buzzes where d is not 0, and goes on by `go` where d is 0
--     settle l s go          what a look in state s makes of the run; after a move it goes on by `go`
--     turn f k ss s go       one turn of the run that came through the states ss to s, whatever room there is: unless
--                            it met s it looks at k relays from 0 up
--     logged c x             a run that first logs the byte c and then goes on as x
--     run_from f k ss n s    the run of k relays that came through the states ss to s, with room for n moves more
--     run_of f k n s         the run of k relays from state s, with room for n moves
use Rattle.std.specs.Prelude.{ℕ, zero, suc, ◌-◌, Bool, cond, ◌&&◌, List, [], ◌∷◌, eqb, length}
use Rattle.state.specs.declared.State.{State}
use Rattle.moves.specs.Steps.{Move, made}
use Rattle.runs.specs.Looks.{Stepper, Look, quiet, halts, makes, byte_of, look_from}

pub data Ending : Type 0 where
  idle spent conflict buzz : Ending

abbrev pub no_relay : ℕ
no_relay = 255

pub record Run : Type 0 where
  pub word : Ending
  pub bytes : List ℕ
  pub state : State
  pub relay : ℕ
  pub earlier : ℕ
  pub between : ℕ

abbrev pub ends : Ending → State → ℕ → Run
ends e s r = record { word = e; bytes = []; state = s; relay = r; earlier = 0; between = 0 }

unfoldable pub same_state : State → State → Bool
same_state s t = eqb s.drawn t.drawn && eqb s.pushed t.pushed

unfoldable pub met_from : ℕ → State → List State → ℕ
met_from d s [] = 0
met_from d s (t ∷ ts) = cond (same_state t s) d (met_from (suc d) s ts)

abbrev pub met_ago : State → List State → ℕ
met_ago s ss = met_from 1 s ss

abbrev pub buzzes : List State → State → ℕ → Run
buzzes ss s d =
    record { word = buzz; bytes = []; state = s; relay = no_relay; earlier = length ss - d; between = d }

abbrev pub unless_met : ℕ → List State → State → (Unit {0} → Run) → Run
unless_met zero ss s go = go tt
unless_met (suc d) ss s go = buzzes ss s (suc d)

abbrev pub settle : Look → State → (Move → ℕ → Run) → Run
settle quiet s go = ends idle s no_relay
settle (halts r) s go = ends conflict s r
settle (makes m r) s go = go m r

abbrev pub turn : Stepper → ℕ → List State → State → (Move → ℕ → Run) → Run
turn f k ss s go = unless_met (met_ago s ss) ss s (λ u. settle (look_from f s k 0) s go)

abbrev pub logged : ℕ → Run → Run
logged c x =
    record {
      word = x.word;
      bytes = c ∷ x.bytes;
      state = x.state;
      relay = x.relay;
      earlier = x.earlier;
      between = x.between;
    }

unfoldable pub run_from : Stepper → ℕ → List State → ℕ → State → Run
run_from f k ss zero s = turn f k ss s (λ m r. ends spent s r)
run_from f k ss (suc n) s =
    turn f k ss s (λ m r. logged (byte_of r m) (run_from f k (s ∷ ss) n (made s r m)))

abbrev pub run_of : Stepper → ℕ → ℕ → State → Run
run_of f k n s = run_from f k [] n s
