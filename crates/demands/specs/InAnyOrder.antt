-- Request A9, in the user's own words, and what states each sentence:
--     "In a real hut no one moves the lowest number first."
--         `shows`: where moves leave others movable, and a run ends idle, every order comes to that end, after as many
--         moves. So what the tool prints is what the hut does, in whatever order its relays move
--     "Show this: take a board, a state and fixed buttons, and suppose that in no state reachable by allowed single
--     moves is any relay in conflict, and that making one allowed move there always leaves every other movable relay
--     movable."
--         `holds`, `ends`: so it is of two relays beside each other, which can both move at once
--     "Then if one order reaches idle after n moves, every order can be carried on to idle, ends after exactly n moves,
--     and ends in that same state."
--         `orders`, which holds without the clause on conflict as well; `runs`: with it a run that has room for n moves
--         ends idle after n moves in that state too
--     "Add to the tests a board of two relays, each fed through the other's lower contact, where the supposition
--     fails."
--         `fails`, `endings`: on that board the supposition fails, and two orders end in different states; the starred
--         table has what each call says there
-- Each field is put into words in the file that defines it; all are over the calls.
--     SuppositionHolds    on `pair` of the starred table
--     SuppositionFails    on `crossed` of the starred table
--     InAnyOrder          the request
use Rattle.state.specs.States.{empty_state}
use Rattle.runs_means.specs.Orders.{SingleMove, NoConflict, StaysMovable, OneEnding, TwoEndings, AnyOrder}
use Rattle.runs_means.specs.Orders.{RunInAnyOrder, RunShowsAll}
use Rattle.demands.specs.Starred.{pair, crossed, drawn0, drawn1}

abbrev pub SuppositionHolds : Type 0
SuppositionHolds = NoConflict pair empty_state × StaysMovable (SingleMove pair) empty_state

abbrev pub SuppositionFails : Type 0
SuppositionFails = ¬ (StaysMovable (SingleMove crossed) empty_state)

pub record InAnyOrder : Type 0 where
  -- under the supposition: if some list of n allowed moves ends idle, every list can be carried on to that state, and
  -- every one that ends idle has n moves and ends there; so does a run with room for them; and if a run ends idle, so
  -- does every order
  pub orders : AnyOrder
  pub runs : RunInAnyOrder
  pub shows : RunShowsAll
  -- two relays beside each other: the supposition holds, and every order ends with both drawn after 2 moves
  pub holds : SuppositionHolds
  pub ends : OneEnding pair empty_state 2 (drawn1 (drawn0 empty_state))
  -- two relays, each fed through the other's lower contact: it fails, and there are two endings
  pub fails : SuppositionFails
  pub endings : TwoEndings crossed empty_state
