-- The two sorts of relay, counted over the parts. Rule book: "Every relay is regular, with exactly one part of kind 4,
-- or steel-core, with exactly one of kind 5 and one of kind 6." And the marks of a relay: "kind 7 with one field, a
-- relay number, says 'starts drawn'" (request A2). No code of this crate goes by these: they say the sentences
-- themselves, and `proofs/WindingLaws.antt` shows that rules 8, 9 and 17 stand for them.
--     carries j r k        kind k has number j and carries relay r
--     count_of j r ps      how many of the parts ps are of kind number j and carry relay r
--     IsRegular r ps       relay r is regular: one part of kind 4, none of 5 and 6
--     IsSteel r ps         relay r is steel-core: one part of kind 5 and one of kind 6, none of 4
--     Wound n ps           every relay below n is regular or steel-core
--     marks_of r ps        how many of the parts ps are marks of relay r
--     MarkedOnce n ps      no relay below n is marked twice
--     IsMarked r ps        relay r is marked
use Rattle.std.specs.Prelude.{ℕ, ◌+◌, ◌≤◌, ◌<◌, ◌≡◌, ◌⊎◌, Bool, cond, ◌&&◌, List, [], ◌∷◌, eqb}
use Rattle.kinds.specs.declared.Kind.{Kind}
use Rattle.kinds.specs.Kinds.{kind_number, name_of, regular_kind, drawing_kind, dropping_kind, mark_kind}
use Rattle.board.specs.declared.Part.{Part}

unfoldable pub carries : ℕ → ℕ → Kind → Bool
carries j r k = eqb (kind_number k) j && eqb (name_of k) r

unfoldable pub count_of : ℕ → ℕ → List Part → ℕ
count_of j r [] = 0
count_of j r (p ∷ ps) = cond (carries j r p.kind) 1 0 + count_of j r ps

abbrev pub IsRegular : ℕ → List Part → Type 0
IsRegular r ps =
    (count_of regular_kind r ps ≡ 1) × (count_of drawing_kind r ps ≡ 0) × (count_of dropping_kind r ps ≡ 0)

abbrev pub IsSteel : ℕ → List Part → Type 0
IsSteel r ps =
    (count_of regular_kind r ps ≡ 0) × (count_of drawing_kind r ps ≡ 1) × (count_of dropping_kind r ps ≡ 1)

abbrev pub Wound : ℕ → List Part → Type 0
Wound n ps = (r : ℕ) → r < n → IsRegular r ps ⊎ IsSteel r ps

abbrev pub marks_of : ℕ → List Part → ℕ
marks_of = count_of mark_kind

abbrev pub MarkedOnce : ℕ → List Part → Type 0
MarkedOnce n ps = (r : ℕ) → r < n → marks_of r ps ≤ 1

abbrev pub IsMarked : ℕ → List Part → Type 0
IsMarked r ps = 1 ≤ marks_of r ps
