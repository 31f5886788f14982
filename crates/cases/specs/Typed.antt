-- The text of cases, as far as one is typed.
--     most_bytes b        the most bytes of a case, by what its text may hold besides
--     typed_digits n h    how many digits n bytes have, and the byte h that is begun
use Rattle.std.specs.Prelude.{ℕ, ◌+◌, ◌*◌, Option, Some, None}
use Rattle.cases.specs.declared.typed.Besides.{Besides}
use Rattle.cases.specs.declared.typed.Besides.TheVariants.{Sets, Zeros}

abbrev pub most_bytes : Besides → ℕ
most_bytes Sets = 8192
most_bytes Zeros = 65540

abbrev pub typed_digits : ℕ → Option ℕ → ℕ
typed_digits n None = 2 * n
typed_digits n (Some _) = 2 * n + 1
