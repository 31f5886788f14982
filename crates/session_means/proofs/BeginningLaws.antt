-- A session that was begun has all its lines still to come, and numbers them as the definition does.
use Prim.Native.Nat.{ℕ, ◌<◌, ◌≤◌}
use native.Mathlib.Omega.{arith}
use mathlib.Core.Path.{◌≡◌, refl, sym, ap, subst, ◌∙◌}
use mathlib.Core.Bool.{Bool, true, false}
use mathlib.Core.List.{List}
use lib.Dec.{leb}
use lib.ListN.{length}
use borrow.Author.Tests.{leb-true, leb-false}
use Rattle.refusals.specs.declared.Found.{Found}
use Rattle.refusals.specs.Outcomes.{Outcome, given, refused}
use Rattle.refusals.specs.Refusals.{input_too_long}
use Rattle.number.specs.Numbers.{current_width, number_at}
use Rattle.refusals.proofs.OutcomeLaws.{refused_never, handed}
use Rattle.board.specs.declared.Board.{Board}
use Rattle.board_reader.specs.Editions.{current_edition}
use Rattle.board_reader.specs.Reading.{longest_input, answered, reading}
use Rattle.board_reader.proofs.ReadLaws.{reading_long}
use Rattle.session.specs.Sessions.{past_allowance, head_at, head_lines, session_lines}
use Rattle.session.specs.declared.Session.{Session}
use Rattle.session.specs.Carried as carried
use Rattle.session.specs.Carried.{begun_from, beginning, Begins}
use Rattle.session.proofs.ToCome.{to_come_at, to_come}
use Rattle.session_means.proofs.StillLaws.{still_at, still, still_in, Numbered, NumberedIn}

begun_still : (o : Outcome (Found Board)) (s : List ℕ)
    → still current_edition (begun_from o).board (begun_from o).ahead s ≡ head_lines current_edition o s
unfolding begun_from head_lines still still_at
begun_still (given h) s = refl
begun_still (refused n p) s = refl

pub beginning_still : (s : List ℕ) (z : Session) → Begins s z → still_in z s ≡ session_lines current_edition s
unfolding beginning session_lines
beginning_still s z begun =
    ap (λ (x : carried.Session). still current_edition x.board x.ahead s) begun
    ∙ begun_still (head_at current_edition s) s

long_refused : (s : List ℕ) → longest_input < length s → (reading current_edition s).1 ≡ refused input_too_long 0
unfolding answered
long_refused s long = ap (λ (x : Board × Outcome ℕ). x.1) (sym (reading_long current_edition s long))

-- an input whose board was read is not too long
read_short : (s : List ℕ) (at : ℕ) → (reading current_edition s).1 ≡ given at → length s ≤ longest_input
read_short s at read = by (leb (length s) longest_input) refl
  where
    by : (t : Bool) → leb (length s) longest_input ≡ t → length s ≤ longest_input
    by true e = leb-true (length s) longest_input e
    by false e =
        absurd (refused_never input_too_long 0 at (sym (long_refused s (leb-false (length s) longest_input e)) ∙ read))

head_short : (s : List ℕ) (h : Found Board) → head_at current_edition s ≡ given h → length s ≤ longest_input
unfolding head_at
head_short s h e =
    let board =
    handed (reading current_edition s).1
    (λ at. past_allowance (reading current_edition s).0 (number_at current_width s at)) h e in
    read_short s board.value board.first

begun_numbered : (o : Outcome (Found Board)) (s : List ℕ)
    → ((h : Found Board) → o ≡ given h → length s ≤ longest_input) → Numbered (begun_from o).ahead s
unfolding begun_from to_come to_come_at
begun_numbered (given h) s short = omega (arith, short h refl)
begun_numbered (refused n p) s short = omega arith

pub beginning_numbered : (s : List ℕ) (z : Session) → Begins s z → NumberedIn z s
unfolding beginning
beginning_numbered s z begun =
    subst (λ (x : carried.Session). Numbered x.ahead s) (sym begun)
    (begun_numbered (head_at current_edition s) s (head_short s))
