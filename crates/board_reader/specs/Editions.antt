-- Editions of the rule book: what the definitions of reading take from it, so that the reading of two editions is two
-- instances of one definition.
--     Edition             what an edition says of a file: `width`, how wide its numbers are, and `last_kind`, the
--                         highest kind number that it has
--     three_byte_edition  the rule book before request A1: numbers of at most three bytes, kinds 0 to 6
--     first_edition       the rule book before request A2, which makes the second edition of it: numbers as today,
--                         kinds 0 to 6
--     current_edition     the rule book as it stands
use Rattle.std.specs.Prelude.{ℕ}
use Rattle.number.specs.Numbers.{Width, three_bytes, current_width}
use Rattle.kinds.specs.Kinds as kinds

pub record Edition : Type 0 where
  pub width : Width
  pub last_kind : ℕ

abbrev pub three_byte_edition : Edition
three_byte_edition = record { width = three_bytes; last_kind = kinds.dropping_kind }

abbrev pub first_edition : Edition
first_edition = record { width = current_width; last_kind = kinds.dropping_kind }

abbrev pub current_edition : Edition
current_edition = record { width = current_width; last_kind = kinds.last_kind }
