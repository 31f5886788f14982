-- Lines, answers, and what they tell: each can be had from the other.
use mathlib.Core.Path.{◌≡◌, refl, ap}
use mathlib.Core.List.{List, ◌++◌}
use lib.ListN.{length, drop}
use Prim.Native.Nat.{ℕ}
use Rattle.std.specs.Prelude.{Result, Ok, Err}
use Rattle.refusals.specs.declared.Refusal.{Refusal}
use Rattle.refusals.specs.declared.No.TheVariants.{BufferTooShort}
use Rattle.refusals.specs.Outcomes.{Outcome, given, refused, told, ◌>>◌}
use Rattle.refusals.specs.Order.{first_no, answering}
use Rattle.refusals.proofs.Told.{Told}
use Rattle.refusals.proofs.Tabled.{Tabled, gives, refuses, tabled_given, TabledLines, tabled_lines, Tells, result-tells}
use Rattle.refusals.proofs.OutcomeLaws.{refused_never}
use Rattle.runs.specs.declared.Ending as code-ending
use Rattle.runs.specs.Runs.{Ending}
use Rattle.runs.proofs.RunningLaws.{word-told}
use Rattle.lines.specs.declared.Refused.{Refused}
use Rattle.lines.specs.declared.Line as code
use Rattle.lines.specs.declared.Line.TheVariants.{Event, Closing}
use Rattle.lines.specs.Lines.{Line, event, closing, line_text, line_lines, line_writing, told_came, told_line}

-- a run's word, or what refused it by any number
came-told : Told told_came
came-told = record { untold = untold; back = back; onto = onto }
  where
    untold : Outcome Ending → Result code-ending.Ending Refused
    untold (given e) = Ok (word-told.untold e)
    untold (refused n p) = Err (record { number = n; place = p })

    back : (x : Result code-ending.Ending Refused) → untold (told_came x) ≡ x
    back (Ok e) = λ i. Ok (word-told.back e i)
    back (Err r) = refl

    onto : (y : Outcome Ending) → told_came (untold y) ≡ y
    onto (given e) = λ i. given (word-told.onto e i)
    onto (refused n p) = refl

pub line-told : Told told_line
line-told = record { untold = untold; back = back; onto = onto }
  where
    untold : Line → code.Line
    untold (event e o m d) = Event e (came-told.untold o) m d
    untold (closing n p) = Closing (record { number = n; place = p })

    back : (x : code.Line) → untold (told_line x) ≡ x
    back (Event e w m d) = λ i. Event e (came-told.back w i) m d
    back (Closing r) = refl

    onto : (y : Line) → told_line (untold y) ≡ y
    onto (event e o m d) = λ i. event e (came-told.onto o i) m d
    onto (closing n p) = refl

-- what writing a line answers, and the buffer afterwards
pub written-tells : Tells {B = Outcome ℕ × List ℕ} (λ y. Tabled y.0)
    (λ (x : Result ℕ Refusal × List ℕ). (told x.0, x.1))
written-tells = record { untold = untold; back = back; onto = onto }
  where
    length_tells : Tells Tabled (told {A = ℕ})
    length_tells = result-tells

    untold : Outcome ℕ × List ℕ → Result ℕ Refusal × List ℕ
    untold (o, l) = (length_tells.untold o, l)

    back : (x : Result ℕ Refusal × List ℕ) → untold (told x.0, x.1) ≡ x
    back (a, l) = λ i. (length_tells.back a i, l)

    onto : (y : Outcome ℕ × List ℕ) → Tabled y.0
        → ◌≡◌ {A = Outcome ℕ × List ℕ} (told (untold y).0, (untold y).1) y
    onto (o, l) tabled = λ i. (length_tells.onto o tabled i, l)

-- what writing a line can be refused by stands in the table
pub writing-tabled : (l : Line) (out : List ℕ) → Tabled (line_writing l out).0
unfolding line_writing TabledLines
writing-tabled l out = by (first_no (line_lines out)) (tabled_lines (line_lines out) ((BufferTooShort, refl), tt))
  where
    by : (o : Outcome (Unit {0})) → Tabled o
        → Tabled (answering {A = Outcome ℕ × List ℕ} o (λ n p. (refused n p, out))
        (λ u. (given (length (line_text l)), line_text l ++ drop (length (line_text l)) out))).0
    by (given u) tabled = tabled_given _
    by (refused n p) (gives u is) = absurd (refused_never n p u is)
    by (refused n p) (refuses k q is) = refuses k q (ap (λ (o : Outcome (Unit {0})). o >> given 0) is)
