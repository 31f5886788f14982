-- `board_writer::push_part` adds a part's bytes: its kind's, then field after field; each has room, since all have.
use Rattle.std.proofs.Common.{◌∙◌, sym, ap, ◌++◌, length, arith, length-append, append_assoc}
use Rattle.number.specs.Numbers.{number_bytes}
use Rattle.kinds.specs.Kinds.{kind_number}
use Rattle.board.specs.Parts.{fields_of}
use Rattle.board_writer.specs.File.{numbers_bytes}
use Rattle.board_writer.proofs.LengthLaws.{part_bytes_sum, part_bytes_are, pushed-on, pushed-room, pushed-none}
use Rattle.board_writer.proofs.LengthLaws.{pushed-all}
use Rattle.board_writer.proofs.push_part.Goals as goal

pub push_number-requires : goal.push_number-requires
push_number-requires c = grind (arith, part_bytes_sum)

pub loop-field-init : goal.loop-field-init
loop-field-init c =
    pushed-none number_bytes c.as_slice-field-items.result.now _
    (c.push_number.ensures ∙ ap (λ v. c.args.file.now.items ++ number_bytes v) c.number.ensures)

pub push_number-requires-in-loop-field : goal.push_number-requires-in-loop-field
push_number-requires-in-loop-field c =
    let same = c.as_slice-field-items.ensures.value ∙ c.fields-fields.ensures in
    rw c.from.ensures
    (pushed-room number_bytes _ _ _ c.loop-field-test.true _ c.loop-field.invariant
    (omega (
      arith,
      c.requires,
      part_bytes_sum c.args.part,
      ap (λ vs. length (numbers_bytes vs)) same,
      length-append c.args.file.now.items (number_bytes (kind_number c.args.part.kind)),
    )))

pub loop-field-preserved : goal.loop-field-preserved
loop-field-preserved c =
    pushed-on number_bytes _ _ _ c.loop-field-test.true _ c.loop-field.invariant
    (c.push_number-in-loop-field.ensures ∙ ap (λ v. c.loop-field.file.items ++ number_bytes v) c.from.ensures)

pub returns : goal.returns
returns c =
    let same = c.as_slice-field-items.ensures.value ∙ c.fields-fields.ensures in
    pushed-all number_bytes _ _ c.loop-field-test.false c.loop-field.invariant
    ∙ ap (λ vs. c.args.file.now.items ++ number_bytes (kind_number c.args.part.kind) ++ numbers_bytes vs) same
    ∙ append_assoc c.args.file.now.items (number_bytes (kind_number c.args.part.kind)) (numbers_bytes
    (fields_of c.args.part))
    ∙ ap (λ l. c.args.file.now.items ++ l) (sym (part_bytes_are c.args.part))
