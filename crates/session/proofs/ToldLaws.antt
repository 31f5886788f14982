-- Sessions, answers, and what they tell: each can be had from the other.
use Prim.Native.Nat.{ℕ}
use mathlib.Core.Path.{◌≡◌, refl}
use mathlib.Core.List.{List}
use Rattle.std.specs.Prelude.{Option, Some, None}
use Rattle.refusals.proofs.Told.{Told}
use Rattle.refusals.proofs.Tabled.{Tabled, Tells, result-tells_as}
use Rattle.session.specs.declared.Stage.{Stage}
use Rattle.session.specs.declared.Stage.TheVariants as stage
use Rattle.session.specs.declared.Ahead.{Ahead}
use Rattle.session.specs.declared.Session.{Session}
use Rattle.session.specs.declared.Handed.{Handed}
use Rattle.session.specs.Carried as carried
use Rattle.session.specs.Carried.{first, events, over, refusing, told_stage, told_ahead, told_session}
use Rattle.session.specs.HandingOut as handing-out
use Rattle.session.specs.HandingOut.{written, nothing, told_out, told_hand_out, told_handed}

stage-told : Told told_stage
stage-told = record { untold = untold; back = back; onto = onto }
  where
    untold : carried.Stage → Stage
    untold first = stage.First
    untold events = stage.Events
    untold over = stage.Over
    untold (refusing n p) = stage.Refused (record { number = n; place = p })

    back : (x : Stage) → untold (told_stage x) ≡ x
    back stage.First = refl
    back stage.Events = refl
    back stage.Over = refl
    back (stage.Refused r) = refl

    onto : (y : carried.Stage) → told_stage (untold y) ≡ y
    onto first = refl
    onto events = refl
    onto over = refl
    onto (refusing n p) = refl

ahead-told : Told told_ahead
ahead-told = record { untold = untold; back = back; onto = onto }
  where
    untold : carried.Ahead → Ahead
    untold a =
        record { kept = a.kept; event = a.event; place = a.place; stage = stage-told.untold a.stage }

    back : (x : Ahead) → untold (told_ahead x) ≡ x
    back x =
        λ i. record {
          kept = x.kept;
          event = x.event;
          place = x.place;
          stage = stage-told.back x.stage i;
        }

    onto : (y : carried.Ahead) → told_ahead (untold y) ≡ y
    onto y =
        λ i. record {
          kept = y.kept;
          event = y.event;
          place = y.place;
          stage = stage-told.onto y.stage i;
        }

pub session-told : Told told_session
session-told = record { untold = untold; back = back; onto = onto }
  where
    untold : carried.Session → Session
    untold z = record { board = z.board; ahead = ahead-told.untold z.ahead }

    back : (x : Session) → untold (told_session x) ≡ x
    back x =
        λ i. record { board = x.board; ahead = ahead-told.back x.ahead i }

    onto : (y : carried.Session) → told_session (untold y) ≡ y
    onto y =
        λ i. record { board = y.board; ahead = ahead-told.onto y.ahead i }

out-told : Told told_out
out-told = record { untold = untold; back = back; onto = onto }
  where
    untold : handing-out.HandOut → Option ℕ
    untold (written n) = Some n
    untold nothing = None

    back : (x : Option ℕ) → untold (told_out x) ≡ x
    back (Some n) = refl
    back None = refl

    onto : (y : handing-out.HandOut) → told_out (untold y) ≡ y
    onto (written n) = refl
    onto nothing = refl

pub hand_out_tells : Tells Tabled told_hand_out
hand_out_tells = result-tells_as told_out out-told

-- the answer and the buffer afterwards
pub handed-tells : Tells (λ y. Tabled y.answer) (λ (x : Handed × List ℕ). told_handed x.0 x.1)
handed-tells = record { untold = untold; back = back; onto = onto }
  where
    untold : handing-out.Handed → Handed × List ℕ
    untold h = (
      record { session = session-told.untold h.session; answer = hand_out_tells.untold h.answer },
      h.out,
    )

    back : (x : Handed × List ℕ) → untold (told_handed x.0 x.1) ≡ x
    back (h, o) = λ i. (
      record { session = session-told.back h.session i; answer = hand_out_tells.back h.answer i },
      o,
    )

    onto : (y : handing-out.Handed) → Tabled y.answer → told_handed (untold y).0 (untold y).1 ≡ y
    onto y good =
        λ i. record {
          session = session-told.onto y.session i;
          answer = hand_out_tells.onto y.answer good i;
          out = y.out;
        }
