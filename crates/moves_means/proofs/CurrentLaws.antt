-- Current through a relay's winding is what `judge_means` says of its two ends, `IsLive`: a winding conducts in every
-- state, so its connections are the two ways between its ends, one of which carries, and it is not shunted.
use Prim.Native.Nat.{ℕ}
use mathlib.Core.Path.{◌≡◌, refl, sym, ap, subst, ◌∙◌}
use mathlib.Core.Logic.{◌↔◌, inl, inr}
use mathlib.Core.Bool.{true}
use Rattle.lists.specs.Members.{◌∈◌}
use Rattle.board.specs.declared.Part.{Part}
use Rattle.board.specs.declared.Board.{Board}
use Rattle.board.specs.BreaksNoRule.{BoardFits}
use Rattle.state.specs.declared.State.{State}
use Rattle.neighbours.specs.Conduction.{conducts}
use Rattle.neighbours.specs.Neighbours.{EndsAt}
use Rattle.search.specs.declared.Winding.{Winding}
use Rattle.judge.specs.declared.Which.{Which}
use Rattle.judge.specs.RelayWindings.{ends_of}
use Rattle.judge_means.specs.Circuits.{actual_connections, CurrentCarrying, WindingCarries}
use Rattle.judge_means.specs.Shunts.{Shunted}
use Rattle.judge_means.specs.Exactness.{IsLive}
use Rattle.judge_means.specs.Eleven.{ItsWinding}
use Rattle.judge_means.proofs.Circuits.{connection-ends, ends_connection, live_is_carrying}
use Rattle.judge_means.proofs.Shunts.{winding-conducts}
use Rattle.moves_means.specs.Guards.{CurrentThrough}

-- ---- current through winding n of relay r, whose ends are e

module _ (b : Board) (s : State) (r : ℕ) (n : Which) (e : Winding) (its : ItsWinding b r n e) where
  its-conducts : conducts s its.part.kind ≡ true
  its-conducts = winding-conducts s n r its.part.kind its.is_its_winding

  -- e is the ends of its part
  its-ends : ends_of its.part ≡ e
  its-ends = λ i. record { a = its.ends.0 i; b = its.ends.1 i }

  through-carries : CurrentThrough b s r n → WindingCarries b s e.a e.b
  through-carries c =
      either (connection-ends s its.part c.from c.to
      (subst (λ (p : Part). (c.from, c.to) ∈ actual_connections s p)
      (its.only c.winding c.on_board c.of_relay) c.actual)).1
    where
      either : EndsAt its.part c.from c.to → WindingCarries b s e.a e.b
      either (inl (x, y)) = inl (rw (sym its.ends.0 ∙ x, sym its.ends.1 ∙ y) c.carrying)
      either (inr (x, y)) = inr (rw (sym its.ends.0 ∙ x, sym its.ends.1 ∙ y) c.carrying)

  through_unshunted : CurrentThrough b s r n → ¬ (Shunted b s e)
  through_unshunted c =
      subst (λ (f : Winding). ¬ (Shunted b s f))
      (ap ends_of (its.only c.winding c.on_board c.of_relay) ∙ its-ends) c.unshunted

  through : (x y : ℕ) → (x, y) ∈ actual_connections s its.part → CurrentCarrying b s x y → ¬ (Shunted b s e)
      → CurrentThrough b s r n
  through x y actual carrying apart =
      record {
        winding = its.part;
        on_board = its.on_board;
        of_relay = its.is_its_winding;
        from = x;
        to = y;
        actual = actual;
        carrying = carrying;
        unshunted = subst (λ (f : Winding). ¬ (Shunted b s f)) (sym its-ends) apart;
      }

  carries-through : WindingCarries b s e.a e.b → ¬ (Shunted b s e) → CurrentThrough b s r n
  carries-through (inl c) apart =
      through its.part.a its.part.b (ends_connection s its.part its.part.a its.part.b
      its-conducts (inl (refl, refl))) (rw (its.ends.0, its.ends.1) c) apart
  carries-through (inr c) apart =
      through its.part.b its.part.a (ends_connection s its.part its.part.b its.part.a
      its-conducts (inr (refl, refl))) (rw (its.ends.0, its.ends.1) c) apart

  pub live_current : BoardFits b → IsLive b s e ↔ CurrentThrough b s r n
  live_current fits =
      let agree = live_is_carrying b s e.a e.b fits in (
        λ live. carries-through (agree.0 live.0) live.1,
        λ current. (agree.1 (through-carries current), through_unshunted current),
      )
