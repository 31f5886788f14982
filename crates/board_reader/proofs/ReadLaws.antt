-- Laws of `reading`: each way out of the reader as an outcome of the definition, and what a refused read returns.
--     board_within e s   what reading the input s by the edition e comes to, before it is answered: 10, or the board
use Prim.Native.Nat.{ℕ, ◌<◌, ◌≤◌}
use mathlib.Core.Path.{◌≡◌, sym, ap, ◌∙◌}
use mathlib.Core.List.{List}
use lib.Dec.{leb}
use lib.ListN.{length}
use borrow.Author.Tests.{le-leb, lt-leb}
use Rattle.refusals.specs.declared.Found.{Found}
use Rattle.refusals.specs.Outcomes.{Outcome, given, refused, found, ◌>>◌, unless}
use mathlib.Core.Bool.{true, false}
use Rattle.refusals.specs.Refusals.{winding_lacking, input_too_long}
use Rattle.windings.specs.declared.WoundSoFar.{WoundSoFar}
use Rattle.windings.specs.Windings.{none_wound, complete}
use Rattle.board.specs.declared.Counts.{Counts}
use Rattle.board.specs.declared.Board.{Board}
use Rattle.board.specs.Parts.{empty_board}
use Rattle.board_reader.specs.Editions.{Edition}
use Rattle.board_reader.specs.Reading.{counts_at, parts_at, board_from, board_at, longest_input, answered, reading}
use Rattle.board_reader.specs.Rows.{row_from}
use Rattle.board_reader.specs.declared.parts.Row.{Row}
use Rattle.refusals.proofs.OutcomeLaws.{refused_never, given_injective}
use Rattle.board_reader.proofs.PartsLaws.{RowFound, row_stopped, row_went, board_refused, board_lacking}
use Rattle.board_reader.proofs.PartsLaws.{board-found}

abbrev pub board_within : Edition → List ℕ → Outcome (Found Board)
board_within e s = unless (leb (length s) longest_input) input_too_long 0 >> board_at e s

pub reading_answers : (e : Edition) (s : List ℕ) {o : Outcome (Found Board)} → board_within e s ≡ o
    → reading e s ≡ answered o
unfolding reading
reading_answers e s is = ap answered is

module _ (e : Edition) (s : List ℕ) where
  pub reading_long : longest_input < length s → answered (refused input_too_long 0) ≡ reading e s
  unfolding reading
  reading_long long = rw (lt-leb (length s) longest_input long)

  reading-board : length s ≤ longest_input → answered (board_at e s) ≡ reading e s
  unfolding reading
  reading-board short = rw (le-leb (length s) longest_input short)

  pub reading_stopped : (k p : ℕ) → length s ≤ longest_input → counts_at e s ≡ refused k p
      → answered (refused k p) ≡ reading e s
  unfolding board_at
  reading_stopped k p short h =
      let stopped : refused k p ≡ board_at e s = rw h in
      ap answered stopped ∙ reading-board short

  reading_went : (c : Counts) (at : ℕ) → length s ≤ longest_input → counts_at e s ≡ found c at
      → answered (board_from c (parts_at e c c.parts none_wound s at)) ≡ reading e s
  unfolding board_at
  reading_went c at short h =
      let went : board_from c (parts_at e c c.parts none_wound s at) ≡ board_at e s = rw h in
      ap answered went ∙ reading-board short

  -- the row of parts after the counts, with the windings and marks w before it, and then 9
  module _ (c : Counts) (at : ℕ) (short : length s ≤ longest_input) (counts : counts_at e s ≡ found c at)
      {w : WoundSoFar} (begins : w ≡ none_wound) where
    pub row_refused : (k p : ℕ) → row_from w (parts_at e c c.parts w s at) ≡ refused k p
        → answered (refused k p) ≡ reading e s
    row_refused k p h =
        ap answered (board_refused c (parts_at e c c.parts none_wound s at) k p
        (row_stopped none_wound (parts_at e c c.parts none_wound s at) k p (rw begins at h)))
        ∙ reading_went c at short counts

    module _ (r : Row) (next : ℕ) (row : row_from w (parts_at e c c.parts w s at) ≡ found r next) where
      read : RowFound none_wound (parts_at e c c.parts none_wound s at) r next
      read = row_went none_wound (parts_at e c c.parts none_wound s at) r next (rw begins at row)

      pub row_lacking : complete c.relays r.windings ≡ false → answered (refused winding_lacking next) ≡ reading e s
      row_lacking off =
          ap answered (board_lacking c (parts_at e c c.parts none_wound s at) r next read off)
          ∙ reading_went c at short counts

      pub row-found : complete c.relays r.windings ≡ true
          → ◌≡◌ {A = Board × Outcome ℕ} (record { counts = c; parts = r.parts; start = r.windings.marked }, given next)
          (reading e s)
      row-found full =
          board-found c (parts_at e c c.parts none_wound s at) r next read full
          ∙ reading_went c at short counts

-- an answer gives what was read, and is refused as that is; and a refused read returns the empty board
pub answered_given : (o : Outcome (Found Board)) (b : Board) (n : ℕ) → answered o ≡ (b, given n) → o ≡ found b n
unfolding answered
answered_given (given f) b n e =
    let place = given_injective f.next n (λ i. (e i).1) in λ i. found (e i).0 (place i)
answered_given (refused k p) b n e = absurd (refused_never k p n (λ i. (e i).1))

pub answered_refused : (o : Outcome (Found Board)) (k p : ℕ) → (answered o).1 ≡ refused k p → o ≡ refused k p
unfolding answered
answered_refused (given f) k p e = absurd (refused_never k p f.next (sym e))
answered_refused (refused m q) k p e = cc

pub reading_refused : (e : Edition) (s : List ℕ) (b : Board) (k p : ℕ) → reading e s ≡ (b, refused k p)
    → b ≡ empty_board
unfolding reading answered
reading_refused e s b k p is =
    sym (λ i. (is i).0)
    ∙ ap (λ (o : Outcome (Found Board)). (answered o).0) (answered_refused (board_within e s) k p (λ i. (is i).1))
