-- What conducts. Rule book, "Parts of a board", the table's last column, a line for each kind in its order; and request
-- A2: a mark "joins nothing and conducts nothing". The code has the same lines (request A3).
--     conducts s k        a part of kind k conducts in state s: `true` is the table's "always", `false` its "never",
--                         and a relay is dropped while it is not drawn
--     winds k             a part of kind k is a winding: regular, drawing or dropping
--     conducts_bare s k   a part of kind k conducts in state s and is no winding. Request A4: "conducting parts none
--                         of which is a winding"
--     Conducts k s r      promise: `conducts` of kind k in state s answers r
-- A contact has no state of its own: it follows its relay (document 002).
use Rattle.std.specs.Prelude.{◌≡◌, Bool, true, false, not, ◌&&◌}
use Rattle.kinds.specs.declared.Kind.{Kind}
use Rattle.kinds.specs.declared.Kind.TheVariants.{Wire, Upper, Lower, Button, Regular, Drawing, Dropping, Mark}
use Rattle.state.specs.declared.State.{State}
use Rattle.state.specs.States.{is_drawn, is_pushed}

abbrev pub conducts : State → Kind → Bool
conducts s Wire = true
conducts s (Upper relay) = is_drawn s relay
conducts s (Lower relay) = not (is_drawn s relay)
conducts s (Button button) = is_pushed s button
conducts s (Regular _) = true
conducts s (Drawing _) = true
conducts s (Dropping _) = true
conducts s (Mark _) = false

abbrev pub winds : Kind → Bool
winds Wire = false
winds (Upper _) = false
winds (Lower _) = false
winds (Button _) = false
winds (Regular _) = true
winds (Drawing _) = true
winds (Dropping _) = true
winds (Mark _) = false

abbrev pub conducts_bare : State → Kind → Bool
conducts_bare s k = not (winds k) && conducts s k

abbrev pub Conducts : Kind → State → Bool → Type 0
Conducts k s r = r ≡ conducts s k
