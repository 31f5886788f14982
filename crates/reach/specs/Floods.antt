-- The flood over sets of neighbours, from a set of terminals, with a set of terminals taken out.
--     In s n                          n is in the set s
--     next_seen seen done             the lowest terminal that is seen and not done; where there is none, 64
--     goes_further t go x s           what `go` makes of x if t, else s
--     flood_on near out k done seen   the terminals seen in the end, where those of `seen` are seen by now and those of
--                                     `done` have been looked at, and at most k more are looked at
--     flooded near from out           the terminals reached from those of `from` over the sets `near`, with those of
--                                     `out` taken out: all 64 may be looked at
--     Floods near from out r          promise: `flood` over `near` from `from`, with `out` taken out, answers r
--     FloodReaches                    over the call: of any sets, whatever their places hold, a terminal below 64 is in
--                                     the flood exactly if it is reached (`proofs/ReachedLaws.antt`)
use Rattle.std.specs.Prelude.{ℕ, zero, suc, ◌<◌, ◌≡◌, ◌↔◌, Bool, true, false, List, ltb, get_or}
use Rattle.bits.specs.Sets.{room, member, including, remaining, together, lowest_from}
use Rattle.neighbours.specs.Neighbours.{joined}
use Rattle.chains.specs.ChainList.{Tested}
use Rattle.reach.specs.Links.{Reachable}

abbrev pub In : ℕ → ℕ → Type 0
In s n = member s n ≡ true

unfoldable pub next_seen : ℕ → ℕ → ℕ
next_seen seen done = lowest_from (remaining seen done) 0

abbrev pub goes_further : Bool → (ℕ → ℕ) → ℕ → ℕ → ℕ
goes_further true go x s = go x
goes_further false go x s = s

unfoldable pub flood_on : List ℕ → ℕ → ℕ → ℕ → ℕ → ℕ
flood_on near out zero done seen = seen
flood_on near out (suc k) done seen =
    goes_further (ltb (next_seen seen done) room)
    (λ (x : ℕ). flood_on near out k (including done x) (together seen (remaining (get_or near x 0) out)))
    (next_seen seen done) seen

unfoldable pub flooded : List ℕ → ℕ → ℕ → ℕ
flooded near from out = flood_on near out room 0 (remaining from out)

abbrev pub Floods : List ℕ → ℕ → ℕ → ℕ → Type 0
Floods near from out r = r ≡ flooded near from out

abbrev pub FloodReaches : Type 0
FloodReaches =
    (near : List ℕ) (from out r y : ℕ)
    → Floods near from out r
    → y < room
    → In r y ↔ Reachable (Tested (joined near)) room (In from) (In out) y
