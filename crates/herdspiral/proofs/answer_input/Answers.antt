-- `herdspiral::answer_input` meets its contract: what is printed where no page is asked for is the session of what the
-- reader gave.
use Rattle.std.proofs.Common.{◌≡◌, sym, take, length-take, arith}
use Rattle.std.specs.Prelude.{Result, Ok, Err, is_ok, OnOk}
use Rattle.std.proofs.lemmas.Bool.{false≢true}
use Rattle.herdspiral.proofs.answer_input.Goals as goal

-- an answer whose error was made another is `Ok` where it was
ok-kept : {A E F : Type 0} (P Q : Type 0) (r : Result A E) (q : Result A F) → is_ok q ≡ is_ok r → OnOk r P → (P → Q)
    → OnOk q Q
ok-kept P Q (Result.Ok a) (Result.Ok b) same p to = to p
ok-kept P Q (Result.Ok a) (Result.Err f) same p to = tt
ok-kept P Q (Result.Err e) (Result.Ok b) same p to = absurd (false≢true (sym same))
ok-kept P Q (Result.Err e) (Result.Err f) same p to = tt

pub returns-in-Ok-None : goal.returns-in-Ok-None
returns-in-Ok-None g c none =
    ok-kept _ _ _ _ c.map_err.ensures.variant c.run_session.ensures (λ written. (
      take c.in-Ok.read c.read_input.new.buffer,
      c.in-Ok.ensures.bytes,
      (λ few. c.in-Ok.ensures.end (omega (arith, few, length-take c.in-Ok.read c.read_input.new.buffer))),
      written,
    ))
