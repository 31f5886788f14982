-- Which windings and which marks the parts so far gave each relay. Rule book: "Every relay is regular, with exactly one
-- part of kind 4, or steel-core, with exactly one of kind 5 and one of kind 6." Request A2: "17, relay marked twice".
--     none_wound             none yet
--     winding_free w k       8 does not hold of a part of kind k: its relay does not have this winding yet, and is not
--                            of the other sort
--     unmarked w k           17 does not hold of a part of kind k: it is no mark, or its relay is not marked yet
--     gained w k             the windings and marks once a part of kind k has come too
--     wound w r              relay r lacks no winding
--     every n f              f holds of each number below n
--     complete n w           9 does not hold of n relays: none of them lacks a winding
--     WoundNone r            promise: `none` answers r
--     WoundFree w k r        promise: `free`, of the windings and marks w and a part of kind k, answers r
--     WoundUnmarked w k r    promise: `unmarked`, likewise
--     WoundWith w k r        promise: `with`, likewise
--     WoundComplete w n r    promise: `complete`, of the windings w and n relays, answers r
use Rattle.std.specs.Prelude.{ℕ, zero, suc, ◌≡◌, Bool, true, not, ◌&&◌, ◌||◌}
use Rattle.bits.specs.Sets.{member, including}
use Rattle.kinds.specs.declared.Kind.{Kind}
use Rattle.kinds.specs.declared.Kind.TheVariants.{Wire, Upper, Lower, Button, Regular, Drawing, Dropping, Mark}
use Rattle.windings.specs.declared.WoundSoFar.{WoundSoFar}

abbrev pub none_wound : WoundSoFar
none_wound = record { regular = 0; drawing = 0; dropping = 0; marked = 0 }

abbrev pub winding_free : WoundSoFar → Kind → Bool
winding_free w Wire = true
winding_free w (Upper r) = true
winding_free w (Lower r) = true
winding_free w (Button b) = true
winding_free w (Regular r) = not (member w.regular r) && (not (member w.drawing r) && not (member w.dropping r))
winding_free w (Drawing r) = not (member w.regular r) && not (member w.drawing r)
winding_free w (Dropping r) = not (member w.regular r) && not (member w.dropping r)
winding_free w (Mark r) = true

abbrev pub unmarked : WoundSoFar → Kind → Bool
unmarked w Wire = true
unmarked w (Upper r) = true
unmarked w (Lower r) = true
unmarked w (Button b) = true
unmarked w (Regular r) = true
unmarked w (Drawing r) = true
unmarked w (Dropping r) = true
unmarked w (Mark r) = not (member w.marked r)

abbrev pub gained : WoundSoFar → Kind → WoundSoFar
gained w Wire = w
gained w (Upper r) = w
gained w (Lower r) = w
gained w (Button b) = w
gained w (Regular r) =
    record { regular = including w.regular r; drawing = w.drawing; dropping = w.dropping; marked = w.marked }
gained w (Drawing r) =
    record { regular = w.regular; drawing = including w.drawing r; dropping = w.dropping; marked = w.marked }
gained w (Dropping r) =
    record { regular = w.regular; drawing = w.drawing; dropping = including w.dropping r; marked = w.marked }
gained w (Mark r) =
    record { regular = w.regular; drawing = w.drawing; dropping = w.dropping; marked = including w.marked r }

abbrev pub wound : WoundSoFar → ℕ → Bool
wound w r = member w.regular r || member w.drawing r && member w.dropping r

unfoldable pub every : ℕ → (ℕ → Bool) → Bool
every zero f = true
every (suc n) f = every n f && f n

unfoldable pub complete : ℕ → WoundSoFar → Bool
complete n w = every n (wound w)

abbrev pub WoundNone : WoundSoFar → Type 0
WoundNone r = r ≡ none_wound

abbrev pub WoundFree : WoundSoFar → Kind → Bool → Type 0
WoundFree w k r = r ≡ winding_free w k

abbrev pub WoundUnmarked : WoundSoFar → Kind → Bool → Type 0
WoundUnmarked w k r = r ≡ unmarked w k

abbrev pub WoundWith : WoundSoFar → Kind → WoundSoFar → Type 0
WoundWith w k r = r ≡ gained w k

abbrev pub WoundComplete : WoundSoFar → ℕ → Bool → Type 0
WoundComplete w n r = r ≡ complete n w
