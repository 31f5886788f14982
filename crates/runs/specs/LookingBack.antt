-- Looking back over the log, from the drawn relays of the state that a run came to. Only for inner functions. Each move
-- turned one relay, so its bit, flipped, gives the drawn relays before it; no state is kept. Notches, a bit each, spare
-- looking back: where there is none at the place of the drawn relays, they were not drawn before.
--     relay_of c               the relay of the log byte c
--     back_from log m d i w    where w were drawn after i of the m moves in the log: how many moves ago, from the end
--                              of the m, just the relays d were drawn, looking back from there; 0 if never
--     ago_of n                 the same as the code says it: none for 0
--     most_words               12,500, the most words of notches
--     notch_place n d          the place of the drawn relays d among the notches that n words have room for, the last
--                              left out
--     has_notch ns d           the words ns have a notch at the place of d
--     with_notch ns d          the words ns with a notch there
--     Spares ns log m d        if the words ns have no notch there, looking back over m moves from d meets nothing
use Rattle.std.specs.Prelude.{ℕ, zero, suc, ◌-◌, ◌*◌, ◌/◌, ◌%◌, ◌≡◌, Bool, false, cond, List, eqb, length, get_or, set}
use Rattle.std.specs.Prelude.{Option, Some, None}
use Rattle.bits.specs.Sets.{room, member, including, flipped}
use Rattle.runs.specs.Looks.{draw_mark}

abbrev pub relay_of : ℕ → ℕ
relay_of c = c % draw_mark

unfoldable pub back_from : List ℕ → ℕ → ℕ → ℕ → ℕ → ℕ
back_from log m d zero w = 0
back_from log m d (suc i) w =
    let was = flipped w (relay_of (get_or log i 0)) in
    cond (eqb was d) (m - i) (back_from log m d i was)

abbrev pub ago_of : ℕ → Option ℕ
ago_of zero = None
ago_of (suc n) = Some (suc n)

abbrev pub most_words : ℕ
most_words = 12_500

unfoldable pub notch_place : ℕ → ℕ → ℕ
notch_place n d = d % (room * n - 1)

unfoldable pub has_notch : List ℕ → ℕ → Bool
has_notch ns d = let p = notch_place (length ns) d in member (get_or ns (p / room) 0) (p % room)

unfoldable pub with_notch : List ℕ → ℕ → List ℕ
with_notch ns d =
    let p = notch_place (length ns) d in
    set ns (p / room) (including (get_or ns (p / room) 0) (p % room))

abbrev pub Spares : List ℕ → List ℕ → ℕ → ℕ → Type 0
Spares ns log m d = has_notch ns d ≡ false → back_from log m d m d ≡ 0
