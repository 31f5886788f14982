-- `board_reader::read_board` meets its contract: an input that is too long, counts that are refused and a part that is
-- refused leave at once, and 9 is asked after the last part.
use Rattle.std.proofs.Common.{◌∙◌, sym, ap, rules}
use Rattle.refusals.specs.Outcomes.{told}
use Rattle.board.proofs.RuleLaws.{counts-in_range}
use Rattle.board_reader.specs.Editions.{current_edition}
use Rattle.board_reader.specs.Reading.{answered}
use Rattle.board_reader.proofs.CountsLaws.{counts-found, counts-found_fine}
use Rattle.board_reader.proofs.ReadLaws.{reading_long, reading_stopped, row_refused, row_lacking, row-found}
use Rattle.board_reader.proofs.read_board.Goals as goal

pub returns-then-s-gt-LONGEST_INPUT : goal.returns-then-s-gt-LONGEST_INPUT
returns-then-s-gt-LONGEST_INPUT c = search (rules, reading_long)

pub returns-in_default : goal.returns-in_default
returns-in_default c =
    reading_stopped _ _ _ _ c.if-s-gt-LONGEST_INPUT.false
    (sym c.read_counts-read.ensures ∙ ap told c.unwrap_err.ensures)

pub read_parts-read-requires : goal.read_parts-read-requires
read_parts-read-requires c =
    (counts-in_range _ (counts-found_fine current_edition _ _ _ (counts-found _ _ _ _ (sym c.in-Ok.ensures)))).parts_few

pub returns-in_default-read : goal.returns-in_default-read
returns-in_default-read c =
    row_refused _ _ _ _ c.if-s-gt-LONGEST_INPUT.false (sym c.in-Ok.ensures) c.none.ensures _ _
    (sym c.read_parts-read.ensures ∙ ap told c.unwrap_err-in_default-read.ensures)

pub returns-then-not-complete : goal.returns-then-not-complete
returns-then-not-complete c = search (rules, row_lacking)

pub returns : goal.returns
unfolding answered
returns c =
    row-found current_edition _ _ _ c.if-s-gt-LONGEST_INPUT.false (sym c.in-Ok.ensures) c.none.ensures _ _
    (sym c.in-Ok-read.ensures) (sym c.complete.ensures ∙ c.if-not-complete.false)
