-- What the functions of this crate promise each other of one row of sets, which is changed in place. Nothing here is
-- needed to know what `neighbours` and `renew` promise.
--     EachSet near r f      the sets r are as many as `near`, each what f makes of the one there at its terminal
--     only_at at f x k      the set k of terminal x, changed as f says if x is in the set `at`
--     without at x k        the set k of terminal x, without the terminals of the set `at`
--     among at p            both ends of part p are in the set `at`
--     among_by at f p       so it is, and the kind of p passes the test f
--     gathered g ps near    the sets `near`, each with those besides that the parts ps join to its terminal, of them
--                           those that pass the test g
use Rattle.std.specs.Prelude.{ℕ, ◌<◌, ◌≡◌, Bool, cond, ◌&&◌, List, length, get_or}
use Rattle.lists.specs.Tables.{table_from}
use Rattle.bits.specs.Sets.{member, remaining}
use Rattle.kinds.specs.declared.Kind.{Kind}
use Rattle.board.specs.declared.Part.{Part}
use Rattle.board.specs.Rules.{most_terminals}
use Rattle.neighbours.specs.Neighbours.{set_from}

pub record EachSet (near r : List ℕ) (f : ℕ → ℕ → ℕ) : Type 0 where
  pub many : length r ≡ length near
  pub each : (x : ℕ) → x < most_terminals → get_or r x 0 ≡ f x (get_or near x 0)

abbrev pub only_at : ℕ → (ℕ → ℕ → ℕ) → ℕ → ℕ → ℕ
only_at at f x k = cond (member at x) (f x k) k

abbrev pub without : ℕ → ℕ → ℕ → ℕ
without at x k = remaining k at

abbrev pub among : ℕ → Part → Bool
among at p = member at p.a && member at p.b

abbrev pub among_by : ℕ → (Kind → Bool) → Part → Bool
among_by at f p = among at p && f p.kind

unfoldable pub gathered : (Part → Bool) → List Part → List ℕ → List ℕ
gathered g ps near = table_from (λ (x : ℕ). set_from g x (get_or near x 0) ps) most_terminals 0
