-- What a chain is, the order of chains, and what it is to show a winding. Rule book, "Chains and current": "A chain is
-- a list of terminals that begins with 0, holds no terminal twice, and whose neighbours are each joined by a conducting
-- part. A chain that reaches 1 ends there."
--     plus, minus       "Terminal 0 is plus, terminal 1 is minus"
--     steps c           the pairs of terminals that stand side by side in c, each with the later one second
--     steps_from x c    the same of the list that begins with x and goes on as c
--     ending c          the terminal that c ends at
--     ending_from x c   the same of the list that begins with x and goes on as c
--     BeginsAtPlus c    c begins with 0
--     Linked J c        neighbours in c are each joined, where J x y says that x and y are
--     StopsAtMinus c    c ends where it reaches 1: no step leaves 1
--     IsChain J t c     c is a chain on a board of t terminals; its `once` is "holds no terminal twice"
--     Before c d        "Chains are in dictionary order: a chain comes before its extensions, and the lower terminal
--                       number before the higher"
--     Sorted cs         each of cs comes before every later one
--     Shows a b c       c "ends at 1 and has a and b side by side, in either order"
--     Live J t a b      "A winding between a and b is live if some chain" shows it; that it is not shunted besides
--                       (request A4) is asked in `judge_means`
use Rattle.std.specs.Prelude.{ℕ, ◌<◌, ◌≡◌, ◌⊎◌, List, [], ◌∷◌}
use Rattle.lists.specs.Members.{◌∈◌, All, Once}

abbrev pub plus : ℕ
plus = 0

abbrev pub minus : ℕ
minus = 1

abbrev pub steps_from : ℕ → List ℕ → List (ℕ × ℕ)
steps_from x [] = []
steps_from x (y ∷ c) = (x, y) ∷ steps_from y c

abbrev pub steps : List ℕ → List (ℕ × ℕ)
steps [] = []
steps (x ∷ c) = steps_from x c

abbrev pub ending_from : ℕ → List ℕ → ℕ
ending_from x [] = x
ending_from x (y ∷ c) = ending_from y c

abbrev pub ending : List ℕ → ℕ
ending [] = plus
ending (x ∷ c) = ending_from x c

abbrev pub BeginsAtPlus : List ℕ → Type 0
BeginsAtPlus [] = ⊥
BeginsAtPlus (x ∷ c) = x ≡ plus

abbrev pub Linked : (ℕ → ℕ → Type 0) → List ℕ → Type 0
Linked J c = All (λ (s : ℕ × ℕ). J s.0 s.1) (steps c)

abbrev pub StopsAtMinus : List ℕ → Type 0
StopsAtMinus c = All (λ (s : ℕ × ℕ). ¬ (s.0 ≡ minus)) (steps c)

pub record IsChain (J : ℕ → ℕ → Type 0) (t : ℕ) (c : List ℕ) : Type 0 where
  pub begins : BeginsAtPlus c
  pub inside : All (λ (x : ℕ). x < t) c
  pub once : Once c
  pub linked : Linked J c
  pub stops : StopsAtMinus c

abbrev pub Before : List ℕ → List ℕ → Type 0
Before [] [] = ⊥
Before [] (y ∷ d) = Unit {0}
Before (x ∷ c) [] = ⊥
Before (x ∷ c) (y ∷ d) = (x < y) ⊎ ((x ≡ y) × Before c d)

abbrev pub Sorted : List (List ℕ) → Type 0
Sorted [] = Unit {0}
Sorted (c ∷ cs) = All (Before c) cs × Sorted cs

abbrev pub Shows : ℕ → ℕ → List ℕ → Type 0
Shows a b c = (ending c ≡ minus) × (((a, b) ∈ steps c) ⊎ ((b, a) ∈ steps c))

pub record Live (J : ℕ → ℕ → Type 0) (t a b : ℕ) : Type 0 where
  pub chain : List ℕ
  pub is_chain : IsChain J t chain
  pub showing : Shows a b chain
