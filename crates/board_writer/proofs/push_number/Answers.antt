-- `board_writer::push_number` adds a number's bytes: a number of one byte is that byte; five bytes have room for the
-- longest form, and the file for what they hold.
use Rattle.std.proofs.Common.{◌≡◌, ◌∙◌, ◌≤◌, ◌++◌, length, take, ap, sym, length-take-le, arith, refl}
use Rattle.number.specs.Numbers.{number_bytes}
use Rattle.board_writer.proofs.WriteLaws.{number_one, number_first, number_within, number_some}
use Rattle.board_writer.proofs.push_number.Goals as goal

pub overflow_cast-value : goal.overflow_cast-value
overflow_cast-value c =
    let one = number_one c.args.value (sym c.number_length.ensures ∙ c.if-number_length-eq1.true) in
    record { fits = omega (arith, one.0) }

pub returns-then-number_length-eq1 : goal.returns-then-number_length-eq1
returns-then-number_length-eq1 c =
    let one = number_one c.args.value (sym c.number_length.ensures ∙ c.if-number_length-eq1.true) in
    c.push.ensures.items ∙ ap (λ l. c.args.file.now.items ++ l) (sym one.1)

pub unwrap-length-requires : goal.unwrap-length-requires
unwrap-length-requires c = number_some _ _ _ refl _ c.write_number.ensures

pub slice_bounds-bytes-end : goal.slice_bounds-bytes-end
slice_bounds-bytes-end c = number_within _ _ _ refl _ c.write_number.ensures _ c.unwrap-length.ensures

pub slice_bounds-try_extend_from_slice-end : goal.slice_bounds-try_extend_from_slice-end
slice_bounds-try_extend_from_slice-end c =
    let within : c.unwrap-length.result ≤ length c.write_number.new.out =
    number_within _ _ _ refl _ c.write_number.ensures _ c.unwrap-length.ensures in
    sym (length-take-le c.unwrap-length.result c.write_number.new.out within)

pub unwrap-requires : goal.unwrap-requires
unwrap-requires c =
    let first : take c.unwrap-length.result c.write_number.new.out ≡ number_bytes c.args.value =
    number_first _ _ _ refl _ c.write_number.ensures _ c.unwrap-length.ensures in
    c.try_extend_from_slice.ensures.variant.1 (omega (arith, c.requires, ap length first))

pub returns : goal.returns
returns c =
    let first : take c.unwrap-length.result c.write_number.new.out ≡ number_bytes c.args.value =
    number_first _ _ _ refl _ c.write_number.ensures _ c.unwrap-length.ensures in
    grind (arith, first)
