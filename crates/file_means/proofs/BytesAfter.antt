-- The theorem on the bytes after a board: a stage that is reached by the numbers of an input is reached, at the same
-- place, in every input that begins with the same bytes up to there.
use Prim.Native.Nat.{ℕ, ◌≤◌}
use native.Mathlib.Omega.{arith}
use mathlib.Core.Path.{◌≡◌, sym, ap, ◌∙◌}
use mathlib.Core.List.{List}
use lib.ListN.{length, take}
use lib.Seq.{take-take}
use Rattle.refusals.specs.Outcomes.{Outcome}
use Rattle.number.proofs.NumberLaws.{number_next_within, number_looks_no_further}
use Rattle.board.specs.declared.Board.{Board}
use Rattle.board.specs.Parts.{parts_of}
use Rattle.board_reader.specs.Editions.{Edition, current_edition}
use Rattle.board_reader.proofs.EditionLaws.{current_known}
use Rattle.kinds.specs.Kinds.{mark_kind}
use Rattle.file_means.specs.FileRefusals.{StandsAt, FileStage, at_T, at_R, at_B, at_C, at_part, at_first}
use Rattle.file_means.specs.FileRefusals.{at_second, at_name, Reached, start, T_fine, R_fine, B_fine, C_fine}
use Rattle.file_means.specs.FileRefusals.{kind_fine, mark_fine, first_fine, second_fine, wire_fine, button_fine}
use Rattle.file_means.specs.FileRefusals.{relay_fine}
use Rattle.file_means.specs.BytesAfter.{BytesAfter}
use Rattle.file_means.proofs.FileRefusals.{reached-reading, table_accepted}

-- a stage is reached within the input
reached-within : (e : Edition) (s : List ℕ) (f : FileStage) (at : ℕ) → Reached e s f at → at ≤ length s
reached-within e s f at start = omega arith
reached-within e s f at (T_fine x stands least most) = (number_next_within e.width s _ _ at stands).0
reached-within e s f at (R_fine x stands most) = (number_next_within e.width s _ _ at stands).0
reached-within e s f at (B_fine x stands most) = (number_next_within e.width s _ _ at stands).0
reached-within e s f at (C_fine x stands most) = (number_next_within e.width s _ _ at stands).0
reached-within e s f at (kind_fine x more stands most joins) = (number_next_within e.width s _ _ at stands).0
reached-within e s f at (mark_fine x more stands known) = (number_next_within e.width s _ _ at stands).0
reached-within e s f at (first_fine x stands below) = (number_next_within e.width s _ _ at stands).0
reached-within e s f at (second_fine x stands below apart) = (number_next_within e.width s _ _ at stands).0
reached-within e s f at (wire_fine x) = reached-within e s _ at x
reached-within e s f at (button_fine x stands below) = (number_next_within e.width s _ _ at stands).0
reached-within e s f at (relay_fine x carries relay stands below untaken once) =
    (number_next_within e.width s _ _ at stands).0

module _ (e : Edition) (s s' : List ℕ) where
  -- a number stands in both, and what stands before it is the same in both
  stands_same : (p v next : ℕ) → take next s' ≡ take next s → StandsAt e s p v next → StandsAt e s' p v next
  stands_same p v next same stands = number_looks_no_further e.width s s' p v next (sym same) stands

  before_same : (p v next : ℕ) → take next s' ≡ take next s → StandsAt e s p v next → take p s' ≡ take p s
  before_same p v next same stands =
      let less : p ≤ next = omega (arith, (number_next_within e.width s p v next stands).1) in
      sym (take-take p next s' less) ∙ ap (take p) same ∙ take-take p next s less

  reached-same : (f : FileStage) (at : ℕ) → take at s' ≡ take at s → Reached e s f at → Reached e s' f at
  reached-same f at same start = start
  reached-same f at same (T_fine {t} {p} x stands least most) =
      T_fine (reached-same at_T p (before_same p t at same stands) x) (stands_same p t at same stands) least most
  reached-same f at same (R_fine {t} {r} {p} x stands most) =
      R_fine (reached-same (at_R t) p (before_same p r at same stands) x) (stands_same p r at same stands) most
  reached-same f at same (B_fine {t} {r} {b} {p} x stands most) =
      B_fine (reached-same (at_B t r) p (before_same p b at same stands) x) (stands_same p b at same stands) most
  reached-same f at same (C_fine {t} {r} {b} {c} {p} x stands most) =
      C_fine (reached-same (at_C t r b) p (before_same p c at same stands) x) (stands_same p c at same stands) most
  reached-same f at same (kind_fine {c} {ps} {k} {p} x more stands most joins) =
      kind_fine (reached-same (at_part c ps) p (before_same p k at same stands) x) more
      (stands_same p k at same stands) most joins
  reached-same f at same (mark_fine {c} {ps} {p} x more stands known) =
      mark_fine (reached-same (at_part c ps) p (before_same p mark_kind at same stands) x) more
      (stands_same p mark_kind at same stands) known
  reached-same f at same (first_fine {c} {ps} {k} {a} {p} x stands below) =
      first_fine (reached-same (at_first c ps k) p (before_same p a at same stands) x)
      (stands_same p a at same stands) below
  reached-same f at same (second_fine {c} {ps} {k} {a} {b} {p} x stands below apart) =
      second_fine (reached-same (at_second c ps k a) p (before_same p b at same stands) x)
      (stands_same p b at same stands) below apart
  reached-same f at same (wire_fine {c} {ps} {a} {b} x) = wire_fine (reached-same (at_name c ps 0 a b) at same x)
  reached-same f at same (button_fine {c} {ps} {a} {b} {v} {p} x stands below) =
      button_fine (reached-same (at_name c ps _ a b) p (before_same p v at same stands) x)
      (stands_same p v at same stands) below
  reached-same f at same (relay_fine {c} {ps} {k} {a} {b} {v} {p} x carries relay stands below untaken once) =
      relay_fine (reached-same (at_name c ps k a b) p (before_same p v at same stands) x) carries relay
      (stands_same p v at same stands) below untaken once

pub bytes_after : BytesAfter
bytes_after s s' r r' n read told =
    let c = r.board.counts in
    let ps = parts_of r.board in
    let was =
    table_accepted current_edition current_known s r.board n
    (sym read ∙ ap (λ (o : Outcome ℕ). (r.board, o)) told) in
    let there = was.1 in (
      reached-within current_edition s (at_part c ps) n there.reached,
      λ short same read'.
          (let first =
          read ∙ reached-reading current_edition current_known s c ps n was.0 there.reached there.counted
          there.all_wound in
          let again =
          read' ∙ reached-reading current_edition current_known s' c ps n short
          (reached-same current_edition s s' (at_part c ps) n same there.reached) there.counted
          there.all_wound in (
            ap (λ (x : Board × Outcome ℕ). x.0) (again ∙ sym first),
            ap (λ (x : Board × Outcome ℕ). x.1) again,
          )),
    )
