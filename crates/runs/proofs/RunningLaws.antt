-- Laws of a run as a call: when nothing stands against it, what it tells by what does, and that an answer is known by
-- what it tells.
use Prim.Native.Nat.{ℕ, ◌≤◌}
use mathlib.Core.Path.{◌≡◌, refl, subst, ◌∙◌}
use mathlib.Core.Bool.{true, false}
use mathlib.Core.List.{List, []}
use lib.ListN.{length}
use lib.Dec.{leb}
use borrow.Author.Tests.{le-leb}
use Rattle.refusals.specs.Outcomes.{Outcome, given, refused}
use Rattle.refusals.specs.Refusals.{number_of, log_too_long}
use Rattle.refusals.specs.declared.No.TheVariants.{StateBeyondBoard, BrokenBoard, ForeignSets, LogTooLong}
use Rattle.refusals.specs.Order.{first_no, answering}
use Rattle.refusals.proofs.OrderLaws.{all_hold}
use Rattle.refusals.proofs.Told.{Told}
use Rattle.refusals.proofs.Tabled.{Tabled, gives, refuses, tabled_given, tabled_refused, TabledLines, tabled_lines}
use Rattle.refusals.proofs.Tabled.{Tells, result-tells_as}
use Rattle.board.specs.declared.Board.{Board}
use Rattle.kept.specs.declared.Kept.{Kept}
use Rattle.kept.specs.Kept.{kept_at, usable_lines, usable}
use Rattle.board.specs.Rules.{most_relays}
use Rattle.board.proofs.FineLaws.{fine_range}
use Rattle.kept.proofs.KeptLaws.{usable_given, usable_lines_lem}
use Rattle.runs.specs.declared.Ending as code-ending
use Rattle.runs.specs.declared.Ending.TheVariants.{Idle, Spent, Conflict, Buzz}
use Rattle.runs.specs.declared.Ran.{Ran}
use Rattle.runs.specs.Runs.{Ending, idle, spent, conflict, buzz}
use Rattle.runs.specs.Running as told
use Rattle.runs.specs.Running.{longest_log, run_lines, runnable, ran, unrun, ran_over, running}
use Rattle.runs.specs.Running.{told_word, told_ending, told_ran}

-- what a run leaves has the sets of its state
abbrev pub LeavesOwn : Board → told.Ran → Type 0
LeavesOwn b x = x.kept ≡ kept_at b x.kept.state

module _ (b : Board) (h : Kept) (log : List ℕ) where
  pub runnable_log : usable b h ≡ given tt → length log ≤ longest_log → runnable b h log ≡ given tt
  unfolding runnable first_no
  runnable_log fine most = rw (usable_lines_lem b h _, fine, le-leb (length log) longest_log most) refl

  -- where a board is run, a call can use it, the state and the sets
  pub runnable_given : runnable b h log ≡ given tt → usable b h ≡ given tt
  unfolding runnable usable
  runnable_given taken = (all_hold (usable_lines b h) _ taken).0

  -- what the call tells goes by what stands against it
  pub running_by : (o : Outcome (Unit {0})) → runnable b h log ≡ o
      → answering o (λ n p. unrun n p h log) (λ u. ran_over b h log) ≡ running b h log
  unfolding running
  running_by o e = rw e refl

  -- sets that belong to the state given belong to the state left
  pub running-kept : h ≡ kept_at b h.state → LeavesOwn b (running b h log)
  unfolding ran
  running-kept own = by (runnable b h log) refl
    where
      by : (o : Outcome (Unit {0})) → runnable b h log ≡ o → LeavesOwn b (running b h log)
      by (given u) taken = subst (LeavesOwn b) (running_by (given u) taken) refl
      by (refused n p) off = subst (LeavesOwn b) (running_by (refused n p) off) own

  -- ---- for the proof of `run`

  -- its line after 15, 14 and 18
  pub runnable_unusable : {k p : ℕ} → usable b h ≡ refused k p → runnable b h log ≡ refused k p
  unfolding runnable
  runnable_unusable off = usable_lines_lem b h _ ∙ rw off refl

  pub runnable_long : usable b h ≡ given tt → leb (length log) longest_log ≡ false
      → runnable b h log ≡ refused log_too_long 0
  unfolding runnable first_no
  runnable_long fine long = rw (usable_lines_lem b h _, fine, long) refl

  pub runnable_short : usable b h ≡ given tt → leb (length log) longest_log ≡ true → runnable b h log ≡ given tt
  unfolding runnable first_no
  runnable_short fine short = rw (usable_lines_lem b h _, fine, short) refl

  -- what `follow` asks for holds where nothing stands against it
  pub runnable-follow : runnable b h log ≡ given tt
      → (b.counts.relays ≤ most_relays) × (h ≡ kept_at b h.state)
  runnable-follow taken =
      let can = usable_given b h (runnable_given taken) in
      ((fine_range b can.0).relays_few, can.2)

  -- a refused run tells the same over every log
  pub running_refused : (r : Ran) (n p : ℕ) → told_ran r [] ≡ unrun n p h [] → runnable b h log ≡ refused n p
      → told_ran r log ≡ running b h log
  running_refused r n p e off =
      (λ i. record {
        word = (e i).word;
        moves = (e i).moves;
        kept = (e i).kept;
        relay = (e i).relay;
        earlier = (e i).earlier;
        between = (e i).between;
        log = log;
      })
      ∙ running_by (refused n p) off

  pub running_ran : (x : told.Ran) → x ≡ ran_over b h log → runnable b h log ≡ given tt → x ≡ running b h log
  running_ran x is taken = is ∙ running_by (given tt) taken

-- ---- answers and what they tell

pub word-told : Told told_word
word-told = record { untold = untold; back = back; onto = onto }
  where
    untold : Ending → code-ending.Ending
    untold idle = Idle
    untold spent = Spent
    untold conflict = Conflict
    untold buzz = Buzz

    back : (x : code-ending.Ending) → untold (told_word x) ≡ x
    back Idle = refl
    back Spent = refl
    back Conflict = refl
    back Buzz = refl

    onto : (y : Ending) → told_word (untold y) ≡ y
    onto idle = refl
    onto spent = refl
    onto conflict = refl
    onto buzz = refl

-- the answer and the log afterwards
pub ran-tells : Tells (λ (y : told.Ran). Tabled y.word) (λ (x : Ran × List ℕ). told_ran x.0 x.1)
ran-tells = record { untold = untold; back = back; onto = onto }
  where
    word : Tells Tabled told_ending
    word = result-tells_as told_word word-told

    untold : told.Ran → Ran × List ℕ
    untold a = (
      record {
        word = word.untold a.word;
        moves = a.moves;
        kept = a.kept;
        relay = a.relay;
        earlier = a.earlier;
        between = a.between;
      },
      a.log,
    )

    back : (x : Ran × List ℕ) → untold (told_ran x.0 x.1) ≡ x
    back (a, l) = λ i. (
      record {
        word = word.back a.word i;
        moves = a.moves;
        kept = a.kept;
        relay = a.relay;
        earlier = a.earlier;
        between = a.between;
      },
      l,
    )

    onto : (y : told.Ran) → Tabled y.word → told_ran (untold y).0 (untold y).1 ≡ y
    onto y tabled =
        λ i. record {
          word = word.onto y.word tabled i;
          moves = y.moves;
          kept = y.kept;
          relay = y.relay;
          earlier = y.earlier;
          between = y.between;
          log = y.log;
        }

-- what a run can be refused by stands in the table
pub running-tabled : (b : Board) (h : Kept) (log : List ℕ) → Tabled (running b h log).word
unfolding runnable TabledLines ran
running-tabled b h log = by (runnable b h log) refl (tabled_lines (run_lines b h log) lines)
  where
    lines : TabledLines (run_lines b h log)
    lines =
        ((BrokenBoard, refl), ((StateBeyondBoard, refl), ((ForeignSets, refl), ((LogTooLong, refl), tt))))

    by : (o : Outcome (Unit {0})) → runnable b h log ≡ o → Tabled o → Tabled (running b h log).word
    by o e (gives u is) =
        subst (λ (x : told.Ran). Tabled x.word) (running_by b h log (given u) (e ∙ is)) (tabled_given _)
    by o e (refuses k p is) =
        subst (λ (x : told.Ran). Tabled x.word) (running_by b h log (refused (number_of k) p) (e ∙ is))
        (tabled_refused k p)
