-- Laws of handing out a line: each way out of `hand_line`, as the definition has it.
use Prim.Native.Nat.{ℕ, ◌<◌, ◌≤◌}
use mathlib.Core.Path.{◌≡◌, sym, ap, ◌∙◌}
use mathlib.Core.List.{List, ◌++◌}
use lib.ListN.{length, drop}
use Rattle.refusals.specs.declared.Refusal.{Refusal}
use Rattle.refusals.specs.Outcomes.{Outcome, given, refused}
use Rattle.refusals.specs.declared.No.{No}
use Rattle.refusals.specs.declared.No.TheVariants.{BufferTooShort}
use Rattle.refusals.specs.Order.{AsksLine}
use Rattle.refusals.proofs.OutcomeLaws.{given_injective, refused_never}
use Rattle.refusals.proofs.LineLaws.{ends_with, line_fails}
use Rattle.std.specs.Result.{IsErr, IsErrAnd}
use Rattle.session.specs.declared.fill.HandedLine.{HandedLine}
use lib.Dec.{leb}
use borrow.Author.Tests.{leb-false}
use Rattle.refusals.specs.Refusals.{buffer_too_short}
use Rattle.board.specs.declared.Board.{Board}
use Rattle.std.specs.Prelude.{Result, Option, Some, None}
use Rattle.board_reader.specs.Editions.{current_edition}
use Rattle.lines.specs.Lines.{longest_line, line_text, line_writing, told_line}
use Rattle.lines.proofs.LineLaws.{line-room, line_short, line_written}
use Rattle.session.specs.declared.next.Next.{Next}
use Rattle.session.specs.Carried.{Ahead, Coming, next_of, told_ahead, told_next}
use Rattle.session.specs.HandingOut.{written, handed_by, line_handed, told_line_handed}

module _ (b : Board) (a : Ahead) (s out : List ℕ) where
  pub line_handed_short : length out < longest_line
      → record { ahead = a; answer = refused buffer_too_short 0; out = out } ≡ line_handed b a s out
  unfolding line_handed
  line_handed_short short = rw (line_short out short)

  pub line_handed-room : longest_line ≤ length out
      → handed_by (next_of current_edition b a s) out ≡ line_handed b a s out
  unfolding line_handed
  line_handed-room room = rw (line-room out room)

  -- the buffer has room, and x is what comes next
  module _ (x : Option Next) (room : longest_line ≤ length out) (next : told_next a x ≡ next_of current_edition b a s)
    where
      line_handed_by : (y : Option Next) → x ≡ y → handed_by (told_next a y) out ≡ line_handed b a s out
      line_handed_by y is =
          ap (λ (z : Ahead × Coming). handed_by z out) (ap (told_next a) (sym is) ∙ next) ∙ line_handed-room room

      pub line_handed_over : x ≡ None → told_line_handed a (Result.Ok None) out ≡ line_handed b a s out
      unfolding handed_by
      line_handed_over is = line_handed_by None is

      module _ (n : Next) (is : x ≡ Some n) (o : Outcome ℕ) (out' : List ℕ)
          (put : ◌≡◌ {A = Outcome ℕ × List ℕ} (o, out') (line_writing (told_line n.line) out)) where
        abbrev text : List ℕ
        text = line_text (told_line n.line)

        put_as : ◌≡◌ {A = Outcome ℕ × List ℕ} (o, out') (given (length text), text ++ drop (length text) out)
        put_as = put ∙ line_written (told_line n.line) out room

        pub line_handed_written : (k : ℕ) → o ≡ given k
            → told_line_handed a (Result.Ok (Some (record { length = k; ahead = n.ahead }))) out'
            ≡ line_handed b a s out
        unfolding handed_by
        line_handed_written k said =
            let long = given_injective _ _ (sym said ∙ ap (λ (y : Outcome ℕ × List ℕ). y.0) put_as) in
            let after = ap (λ (y : Outcome ℕ × List ℕ). y.1) put_as in
            (λ i. record { ahead = told_ahead n.ahead; answer = given (written (long i)); out = after i })
            ∙ line_handed_by (Some n) is

        pub line_never_refused : (m p : ℕ) → o ≡ refused m p → ⊥
        line_never_refused m p said =
            refused_never m p _ (sym said ∙ ap (λ (y : Outcome ℕ × List ℕ). y.0) put_as)

  -- the buffer has no room, as `unless(..)?` ends the call
  pub line_handed_unless : (x : No) (r : Result (Option HandedLine) Refusal)
      → AsksLine (leb longest_line (length out)) BufferTooShort (Result.Err x)
      → IsErr r × IsErrAnd r (λ (y : Refusal). y ≡ record { no = x; place = 0 })
      → told_line_handed a r out ≡ line_handed b a s out
  line_handed_unless x r asked ended =
      let fails = line_fails (leb longest_line (length out)) BufferTooShort x asked in
      rw (ends_with r _ ended, fails.1) (line_handed_short (leb-false longest_line (length out) fails.0))
