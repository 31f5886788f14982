-- Tables: what a function makes of one number after the other.
--     table_from f k n   f n, f (n + 1), … (k numbers)
use Rattle.std.specs.Prelude.{ℕ, zero, suc, List, [], ◌∷◌}

unfoldable pub table_from : {A : Type 0} → (ℕ → A) → ℕ → ℕ → List A
table_from f zero n = []
table_from f (suc k) n = f n ∷ table_from f k (suc n)
