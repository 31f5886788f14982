-- Members of a list.
--     x ∈ l      x is among the members of l
--     All P l    P holds of every member of l
--     Once l     no member stands twice in l
use Rattle.std.specs.Prelude.{◌≡◌, ◌⊎◌, List, [], ◌∷◌}

infix 20 ◌∈◌
abbrev pub ◌∈◌ : {A : Type 0} → A → List A → Type 0
x ∈ [] = ⊥
x ∈ (y ∷ l) = (x ≡ y) ⊎ (x ∈ l)

abbrev pub All : {A : Type 0} → (A → Type 0) → List A → Type 0
All P [] = Unit {0}
All P (x ∷ l) = P x × All P l

abbrev pub Once : {A : Type 0} → List A → Type 0
Once [] = Unit {0}
Once (x ∷ l) = ¬ (x ∈ l) × Once l
