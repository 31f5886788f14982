-- How kept sets are kept up. Request A5: "A move or a button changes only the sets at the ends of that relay's contacts
-- or that button's parts."
--     contact_of r k         kind k is a contact of relay r
--     button_of n k          kind k is a part of button n
--     follows c k            kind k goes by what changed, c: a contact of that relay, or a part of that button
--     with_ends c p k        the set k, with both ends of part p besides if it goes by what changed, c
--     changed_ends c ps      the ends of those of the parts ps that go by what changed, c, as a set
--     changed_to h b c t     h after the change c, which leaves the state t: each pair of those ends is joined as board
--                            b has it in state t, and every other pair as it was
--     KeptChanged h b c t r  promise: `changed` of h, for board b, the change c and the next state t, answers r
-- `proofs/UpkeepLaws.antt` shows that sets which belong to a state, kept up so, belong to the next one.
use Rattle.std.specs.Prelude.{ℕ, ◌≡◌, Bool, false, cond, List, [], ◌∷◌, eqb}
use Rattle.bits.specs.Sets.{including}
use Rattle.kinds.specs.declared.Kind.{Kind}
use Rattle.kinds.specs.declared.Kind.TheVariants.{Wire, Upper, Lower, Button, Regular, Drawing, Dropping, Mark}
use Rattle.board.specs.declared.Part.{Part}
use Rattle.board.specs.declared.Board.{Board}
use Rattle.board.specs.Parts.{parts_of}
use Rattle.state.specs.declared.State.{State}
use Rattle.neighbours.specs.Neighbours.{renewed}
use Rattle.kept.specs.declared.Kept.{Kept}
use Rattle.kept.specs.declared.Change.{Change}
use Rattle.kept.specs.declared.Change.TheVariants as of

abbrev pub contact_of : ℕ → Kind → Bool
contact_of r Wire = false
contact_of r (Upper q) = eqb q r
contact_of r (Lower q) = eqb q r
contact_of r (Button _) = false
contact_of r (Regular _) = false
contact_of r (Drawing _) = false
contact_of r (Dropping _) = false
contact_of r (Mark _) = false

abbrev pub button_of : ℕ → Kind → Bool
button_of n Wire = false
button_of n (Upper _) = false
button_of n (Lower _) = false
button_of n (Button m) = eqb m n
button_of n (Regular _) = false
button_of n (Drawing _) = false
button_of n (Dropping _) = false
button_of n (Mark _) = false

abbrev pub follows : Change → Kind → Bool
follows (of.Relay r) k = contact_of r k
follows (of.Button n) k = button_of n k

abbrev pub with_ends : Change → Part → ℕ → ℕ
with_ends c p k = cond (follows c p.kind) (including (including k p.a) p.b) k

unfoldable pub changed_ends : Change → List Part → ℕ
changed_ends c [] = 0
changed_ends c (p ∷ ps) = with_ends c p (changed_ends c ps)

abbrev pub changed_to : Kept → Board → Change → State → Kept
changed_to h b c t = record { state = t; sets = renewed h.sets (changed_ends c (parts_of b)) b t }

abbrev pub KeptChanged : Kept → Board → Change → State → Kept → Type 0
KeptChanged h b c t r = r ≡ changed_to h b c t
