-- What a kind of part is. Rule book, "Parts of a board": the table of kinds, and request A2: "kind 7 with one field, a
-- relay number, says 'starts drawn'". Whatever goes by a kind's number, its fields or the relay or button among them
-- goes by these.
--     wire_kind             the number of a wire, the kind that carries no relay or button
--     upper_kind            the number of an upper contact
--     lower_kind            the number of a lower contact
--     button_kind           the number of the kind that carries a button
--     regular_kind          the number of a regular relay's winding
--     drawing_kind          the number of a steel-core relay's drawing winding
--     dropping_kind         the number of a steel-core relay's dropping winding
--     mark_kind             the number of a mark, which says that its relay starts drawn; it has no ends
--     last_kind             the highest kind number
--     kind_number k         the number of a kind in the rule book's table
--     name_of k             the relay or button that a kind carries; 0 for a wire, which carries none
--     kind_of k n           the kind of number k that carries n; above the last kind there is none (4), and it is
--                           taken for a mark
--     fields k a b          the fields that the table gives a part of kind k with the ends a and b, in its order
--     most_fields           the most fields that a part has
--     KindOf k n r          promise: `Kind::of` the number k and the name n answers r
--     KindNumber k r        promise: `number` of kind k answers r
--     KindName k r          promise: `name` of kind k answers r
--     KindFields k a b r    promise: `fields` of kind k on the terminals a and b answers the numbers r
use Rattle.std.specs.Prelude.{ℕ, ◌≡◌, cond, List, [], ◌∷◌, eqb}
use Rattle.kinds.specs.declared.Kind.{Kind}
use Rattle.kinds.specs.declared.Kind.TheVariants.{Wire, Upper, Lower, Button, Regular, Drawing, Dropping, Mark}

abbrev pub wire_kind : ℕ
wire_kind = 0

abbrev pub upper_kind : ℕ
upper_kind = 1

abbrev pub lower_kind : ℕ
lower_kind = 2

abbrev pub button_kind : ℕ
button_kind = 3

abbrev pub regular_kind : ℕ
regular_kind = 4

abbrev pub drawing_kind : ℕ
drawing_kind = 5

abbrev pub dropping_kind : ℕ
dropping_kind = 6

abbrev pub mark_kind : ℕ
mark_kind = 7

abbrev pub last_kind : ℕ
last_kind = mark_kind

abbrev pub kind_number : Kind → ℕ
kind_number Wire = wire_kind
kind_number (Upper r) = upper_kind
kind_number (Lower r) = lower_kind
kind_number (Button b) = button_kind
kind_number (Regular r) = regular_kind
kind_number (Drawing r) = drawing_kind
kind_number (Dropping r) = dropping_kind
kind_number (Mark r) = mark_kind

abbrev pub name_of : Kind → ℕ
name_of Wire = 0
name_of (Upper r) = r
name_of (Lower r) = r
name_of (Button b) = b
name_of (Regular r) = r
name_of (Drawing r) = r
name_of (Dropping r) = r
name_of (Mark r) = r

unfoldable pub kind_of : ℕ → ℕ → Kind
kind_of k n =
    cond (eqb k wire_kind) Wire
    (cond (eqb k upper_kind) (Upper n)
    (cond (eqb k lower_kind) (Lower n)
    (cond (eqb k button_kind) (Button n)
    (cond (eqb k regular_kind) (Regular n)
    (cond (eqb k drawing_kind) (Drawing n)
    (cond (eqb k dropping_kind) (Dropping n)
    (Mark n)))))))

abbrev pub fields : Kind → ℕ → ℕ → List ℕ
fields Wire a b = a ∷ b ∷ []
fields (Upper r) a b = a ∷ b ∷ r ∷ []
fields (Lower r) a b = a ∷ b ∷ r ∷ []
fields (Button n) a b = a ∷ b ∷ n ∷ []
fields (Regular r) a b = a ∷ b ∷ r ∷ []
fields (Drawing r) a b = a ∷ b ∷ r ∷ []
fields (Dropping r) a b = a ∷ b ∷ r ∷ []
fields (Mark r) a b = r ∷ []

abbrev pub most_fields : ℕ
most_fields = 3

abbrev pub KindOf : ℕ → ℕ → Kind → Type 0
KindOf k n r = r ≡ kind_of k n

abbrev pub KindNumber : Kind → ℕ → Type 0
KindNumber k r = r ≡ kind_number k

abbrev pub KindName : Kind → ℕ → Type 0
KindName k r = r ≡ name_of k

abbrev pub KindFields : Kind → ℕ → ℕ → List ℕ → Type 0
KindFields k a b r = r ≡ fields k a b
