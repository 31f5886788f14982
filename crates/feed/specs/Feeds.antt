-- What a look at the relays works out once for a state. Request A6, of a terminal x: "with x taken out, no remaining
-- end of the winding reaches a remaining pole over conducting parts". The issue of that request: the served terminals
-- are those which, for every terminal x other than themselves, some remaining pole still reaches with x taken out.
--     poles                    plus and minus, as a set
--     everywhere               all terminals that there can be, as a set
--     alone x                  the set of x alone
--     reached_without near x   the terminals that some remaining pole reaches over the sets `near`, with x taken out
--     lost_without near x s    those of the set s, other than x, that none reaches then
--     served_on near k x s     those of the set s that are left after x, x + 1, … (k terminals) are taken out, each by
--                              itself, and what is lost without it is struck off
--     served near t            of all 64 terminals that there can be those that are left after each of t is taken out;
--                              of more than 64 only these
--     linked_to bare t x       the terminals that are linked to x over the sets `bare`, if x is one of the t terminals
--     linked bare t            those for each of 64 terminals
--     feed_of k t              both, by the sets k of t terminals
--     shunted_by l v           the ends of winding v are linked, where l are those linked to each of 64 terminals
--     live_by s l v            winding v is live, where s are the served terminals and l those linked to each: it is
--                              not shunted, and both its ends are served
--     ReachedWithout near x r
--                              promise: `reached_without` x over the sets `near` answers r
--     Feeds k t r              promise: `feed_by` the sets k of t terminals answers r
--     LiveBy f v r             promise: `is_live` of winding v, by any served and linked terminals f, answers r
-- What the functions of this crate promise each other:
--     LowerKnown bare l x      in l each terminal below x has those that are linked to it
-- `judge_means` shows of a board that breaks no rule that these are the served and the linked terminals, `moves_means`
-- that a winding is live by them exactly if the judge of `divide` says so.
use Rattle.std.specs.Prelude.{ℕ, zero, suc, ◌<◌, ◌≡◌, Bool, not, cond, ◌&&◌, List, ltb, get_or}
use Rattle.lists.specs.Tables.{table_from}
use Rattle.bits.specs.Sets.{member, including, excluding, remaining}
use Rattle.board.specs.Rules.{most_terminals}
use Rattle.neighbours.specs.declared.Sets.{Sets}
use Rattle.neighbours.specs.Neighbours.{joined}
use Rattle.reach.specs.Floods.{flooded}
use Rattle.search.specs.declared.Winding.{Winding}
use Rattle.search.specs.Verdicts.{in_sets}
use Rattle.feed.specs.declared.Feed.{Feed}

abbrev pub poles : ℕ
poles = 3

abbrev pub everywhere : ℕ
everywhere = 18446744073709551615

abbrev pub alone : ℕ → ℕ
alone x = including 0 x

unfoldable pub reached_without : List ℕ → ℕ → ℕ
reached_without near x = flooded near poles (alone x)

abbrev pub lost_without : List ℕ → ℕ → ℕ → ℕ
lost_without near x s = excluding (remaining s (reached_without near x)) x

unfoldable pub served_on : List ℕ → ℕ → ℕ → ℕ → ℕ
served_on near zero x s = s
served_on near (suc k) x s = served_on near k (suc x) (remaining s (lost_without near x s))

unfoldable pub served : List ℕ → ℕ → ℕ
served near t = served_on near (in_sets t) 0 everywhere

unfoldable pub linked_to : List ℕ → ℕ → ℕ → ℕ
linked_to bare t x = cond (ltb x t) (flooded bare (alone x) 0) 0

unfoldable pub linked : List ℕ → ℕ → List ℕ
linked bare t = table_from (linked_to bare t) most_terminals 0

abbrev pub feed_of : Sets → ℕ → Feed
feed_of k t = record { served = served k.near t; linked = linked k.bare t }

unfoldable pub shunted_by : List ℕ → Winding → Bool
shunted_by l v = ltb v.a most_terminals && joined l v.a v.b

unfoldable pub live_by : ℕ → List ℕ → Winding → Bool
live_by s l v = not (shunted_by l v) && member s v.a && member s v.b

abbrev pub LowerKnown : List ℕ → List ℕ → ℕ → Type 0
LowerKnown bare l x = (y : ℕ) → y < x → get_or l y 0 ≡ flooded bare (alone y) 0

abbrev pub ReachedWithout : List ℕ → ℕ → ℕ → Type 0
ReachedWithout near x r = r ≡ reached_without near x

abbrev pub Feeds : Sets → ℕ → Feed → Type 0
Feeds k t r = r ≡ feed_of k t

abbrev pub LiveBy : Feed → Winding → Bool → Type 0
LiveBy f v r = r ≡ live_by f.served f.linked v
