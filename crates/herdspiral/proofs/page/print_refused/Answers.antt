-- `herdspiral::page::print_refused` is safe: a buffer for the longest line has room for the line of a refusal.
use Rattle.std.proofs.Common.{ℕ, ◌≡◌, ◌≤◌, List, length, refl, sym, ap, ◌∙◌, rules, arith}
use Rattle.std.specs.Prelude.{Result}
use Rattle.std.specs.Result.{IsOk}
use Rattle.refusals.specs.declared.Refusal.{Refusal}
use Rattle.refusals.specs.Refusals.{number_of}
use Rattle.refusals.specs.Outcomes.{told}
use Rattle.refusals.proofs.OutcomeLaws.{refused_never}
use Rattle.lines.specs.declared.Line as code
use Rattle.lines.specs.declared.Line.TheVariants.{Closing}
use Rattle.lines.specs.Lines.{WritesLine, line_text, longest_line, told_line}
use Rattle.lines.proofs.LineLaws.{line_inside, line_written}
use Rattle.herdspiral.proofs.page.print_refused.Goals as goal

-- with room for the longest line, none is refused
line_some : (l : code.Line) (out : List ℕ) (r : Result ℕ Refusal) (out' : List ℕ) → WritesLine l out r out'
    → longest_line ≤ length out → IsOk r
line_some l out r out' wrote room = by r refl
  where
    by : (x : Result ℕ Refusal) → r ≡ x → IsOk x
    by (Result.Ok n) is = refl
    by (Result.Err q) is =
        let all = wrote ∙ line_written (told_line l) out room in
        absurd (refused_never (number_of q.no) q.place (length (line_text (told_line l)))
        (sym (ap told is) ∙ (λ i. (all i).0)))

pub unwrap-length-requires : goal.unwrap-length-requires
unwrap-length-requires g c = line_some (Closing c.into.result) _ _ _ c.write_line.ensures (omega arith)

pub slice_bounds-line-end : goal.slice_bounds-line-end
slice_bounds-line-end g c =
    line_inside (Closing c.into.result) _ c.write_line.result _ c.write_line.ensures (omega arith) _
    c.unwrap-length.ensures

pub slice_bounds-write_out-end : goal.slice_bounds-write_out-end
slice_bounds-write_out-end g c =
    let fits : c.unwrap-length.result ≤ length c.write_line.new.out =
    line_inside (Closing c.into.result) _ c.write_line.result _ c.write_line.ensures (omega arith) _
    c.unwrap-length.ensures in
    search rules
