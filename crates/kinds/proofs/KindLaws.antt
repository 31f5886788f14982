-- Laws of a kind as its number and name: the two determine it, and each kind's number is at most the last. What the
-- reader and the writer of board files need of a part's kind. And of the fields that the table gives a part: how many
-- they are, what they are, and that with the kind's number they determine the kind.
use Prim.Native.Nat.{ℕ, zero, suc, ◌≤◌, ◌<◌}
use native.Mathlib.Omega.{arith}
use mathlib.Core.Path.{◌≡◌, refl, sym, ap₂, ◌∙◌}
use mathlib.Core.List.{List, [], ◌∷◌, ◌++◌}
use mathlib.Core.Bool.{cond}
use lib.Dec.{eqb}
use lib.ListN.{length, get_or}
use Rattle.kinds.specs.declared.Kind.{Kind}
use Rattle.kinds.specs.declared.Kind.TheVariants.{Wire, Upper, Lower, Button, Regular, Drawing, Dropping, Mark}
use Rattle.kinds.specs.Kinds.{wire_kind, upper_kind, lower_kind, button_kind, regular_kind, drawing_kind, dropping_kind}
use Rattle.kinds.specs.Kinds.{mark_kind, last_kind, kind_number, name_of, kind_of, fields, most_fields}

pub kind_of_parts : (k : Kind) → kind_of (kind_number k) (name_of k) ≡ k
unfolding kind_of
kind_of_parts Wire = refl
kind_of_parts (Upper r) = refl
kind_of_parts (Lower r) = refl
kind_of_parts (Button b) = refl
kind_of_parts (Regular r) = refl
kind_of_parts (Drawing r) = refl
kind_of_parts (Dropping r) = refl
kind_of_parts (Mark r) = refl

pub kind_of_wire : (n : ℕ) → kind_of wire_kind n ≡ Wire
unfolding kind_of
kind_of_wire n = refl

-- what holds of each kind's number holds of any number up to the last
up_to_last : (P : ℕ → Type 0) → P wire_kind → P upper_kind → P lower_kind → P button_kind → P regular_kind
    → P drawing_kind
    → P dropping_kind → P mark_kind → (k : ℕ) → k ≤ last_kind → P k
up_to_last P p₀ p₁ p₂ p₃ p₄ p₅ p₆ p₇ zero most = p₀
up_to_last P p₀ p₁ p₂ p₃ p₄ p₅ p₆ p₇ (suc zero) most = p₁
up_to_last P p₀ p₁ p₂ p₃ p₄ p₅ p₆ p₇ (suc (suc zero)) most = p₂
up_to_last P p₀ p₁ p₂ p₃ p₄ p₅ p₆ p₇ (suc (suc (suc zero))) most = p₃
up_to_last P p₀ p₁ p₂ p₃ p₄ p₅ p₆ p₇ (suc (suc (suc (suc zero)))) most = p₄
up_to_last P p₀ p₁ p₂ p₃ p₄ p₅ p₆ p₇ (suc (suc (suc (suc (suc zero))))) most = p₅
up_to_last P p₀ p₁ p₂ p₃ p₄ p₅ p₆ p₇ (suc (suc (suc (suc (suc (suc zero)))))) most = p₆
up_to_last P p₀ p₁ p₂ p₃ p₄ p₅ p₆ p₇ (suc (suc (suc (suc (suc (suc (suc zero))))))) most = p₇
up_to_last P p₀ p₁ p₂ p₃ p₄ p₅ p₆ p₇ (suc (suc (suc (suc (suc (suc (suc (suc k)))))))) most = absurd (omega arith)

pub kind_number_of : (k n : ℕ) → k ≤ last_kind → kind_number (kind_of k n) ≡ k
unfolding kind_of
kind_number_of k n = up_to_last (λ (j : ℕ). kind_number (kind_of j n) ≡ j) refl refl refl refl refl refl refl refl k

pub kind_name_of : (k n : ℕ) → wire_kind < k → k ≤ last_kind → name_of (kind_of k n) ≡ n
unfolding kind_of
kind_name_of k n least most =
    up_to_last (λ (j : ℕ). wire_kind < j → name_of (kind_of j n) ≡ n) (λ none. absurd (omega arith)) (λ _. refl)
    (λ _. refl) (λ _. refl) (λ _. refl) (λ _. refl) (λ _. refl) (λ _. refl) k most least

pub kind_number_most : (k : Kind) → kind_number k ≤ last_kind
kind_number_most Wire = omega arith
kind_number_most (Upper r) = omega arith
kind_number_most (Lower r) = omega arith
kind_number_most (Button b) = omega arith
kind_number_most (Regular r) = omega arith
kind_number_most (Drawing r) = omega arith
kind_number_most (Dropping r) = omega arith
kind_number_most (Mark r) = omega arith

-- ---- the fields

pub fields_few : (k : Kind) (a b : ℕ) → length (fields k a b) ≤ most_fields
fields_few Wire a b = omega arith
fields_few (Upper r) a b = omega arith
fields_few (Lower r) a b = omega arith
fields_few (Button n) a b = omega arith
fields_few (Regular r) a b = omega arith
fields_few (Drawing r) a b = omega arith
fields_few (Dropping r) a b = omega arith
fields_few (Mark r) a b = omega arith

-- both ends, unless the kind is a mark, and then the name, if the kind carries one
abbrev pub end_fields : ℕ → ℕ → ℕ → List ℕ
end_fields k a b = cond (eqb k mark_kind) [] (a ∷ b ∷ [])

abbrev pub name_fields : Kind → List ℕ
name_fields k = cond (eqb (kind_number k) wire_kind) [] (name_of k ∷ [])

pub fields_are : (k : Kind) (a b : ℕ) → fields k a b ≡ end_fields (kind_number k) a b ++ name_fields k
fields_are Wire a b = refl
fields_are (Upper r) a b = refl
fields_are (Lower r) a b = refl
fields_are (Button n) a b = refl
fields_are (Regular r) a b = refl
fields_are (Drawing r) a b = refl
fields_are (Dropping r) a b = refl
fields_are (Mark r) a b = refl

-- with its number a kind's fields determine it: its name is the last of them
abbrev name_among : ℕ → List ℕ → ℕ
name_among k vs = get_or vs (cond (eqb k mark_kind) 0 2) 0

name-among : (k : Kind) (a b : ℕ) → name_among (kind_number k) (fields k a b) ≡ name_of k
name-among Wire a b = refl
name-among (Upper r) a b = refl
name-among (Lower r) a b = refl
name-among (Button n) a b = refl
name-among (Regular r) a b = refl
name-among (Drawing r) a b = refl
name-among (Dropping r) a b = refl
name-among (Mark r) a b = refl

pub fields_kind : (k l : Kind) (a b c d : ℕ) → kind_number k ≡ kind_number l → fields k a b ≡ fields l c d → k ≡ l
fields_kind k l a b c d number same =
    sym (kind_of_parts k)
    ∙ ap₂ kind_of number (sym (name-among k a b) ∙ ap₂ name_among number same ∙ name-among l c d)
    ∙ kind_of_parts l
