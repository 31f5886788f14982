-- Refusal 11, over the call `judge::judge`, whatever it answers under its promise; which winding is judged; and which
-- windings each relay has. Rule book: 11, "no such relay, or a second winding asked of a regular one"; "A number is
-- given exactly when its line holds and none before it in the order does."; "Judging names a relay and either its first
-- winding (the regular or the drawing one) or its second (the dropping one)"; "Every relay is regular, with exactly one
-- part of kind 4, or steel-core, with exactly one of kind 5 and one of kind 6."
--     LineEleven b r n      the line of 11 holds: board b has no relay r, or n is the second winding and r is regular
--     ElevenExactly         `judge` refuses by 11 exactly if none of 15, 14 and 18 holds and the line of 11 does
--     ItsWinding b r n e    a part of board b is winding n of relay r, between the ends of e, and no other part is: its
--                           kind is regular or drawing where n is the first, dropping where n is the second
--                           (`is_winding`), and it carries r
--     TheWinding            the call is not refused and judges e exactly if none of 15, 14 and 18 holds and e is that
--                           winding of the relay
--     RegularWound b r      relay r has a first winding, of kind regular, and no second
--     SteelWound b r        relay r has a first winding, of kind drawing, and a second, of kind dropping
--     EveryRelayWound       each regular relay is wound the one way and each steel-core relay the other
use Rattle.std.specs.Prelude.{ℕ, ◌≤◌, ◌≡◌, ◌⊎◌, ◌↔◌, true}
use Rattle.lists.specs.Members.{◌∈◌}
use Rattle.refusals.specs.Outcomes.{refused, told_as}
use Rattle.refusals.specs.Refusals.{no_such_winding}
use Rattle.kinds.specs.declared.Kind.TheVariants.{Regular, Drawing, Dropping}
use Rattle.board.specs.declared.Part.{Part}
use Rattle.board.specs.declared.Board.{Board}
use Rattle.board.specs.Parts.{parts_of}
use Rattle.board.specs.Sorts.{IsRegular, IsSteel}
use Rattle.kept.specs.declared.Kept.{Kept}
use Rattle.kept.specs.Kept.{CanUse}
use Rattle.search.specs.declared.Winding.{Winding}
use Rattle.search.specs.declared.Verdict.{Verdict}
use Rattle.search.specs.Verdicts.{told_finding}
use Rattle.judge.specs.declared.Which.{Which}
use Rattle.judge.specs.declared.Which.TheVariants.{First, Second}
use Rattle.judge.specs.RelayWindings.{is_winding}
use Rattle.judge.specs.Judging.{Judges}
use Rattle.judge_means.specs.Exactness.{AcceptedWinding}

abbrev pub LineEleven : Board → ℕ → Which → Type 0
LineEleven b r n = (b.counts.relays ≤ r) ⊎ ((n ≡ Second) × IsRegular r (parts_of b))

abbrev pub ElevenExactly : Type 0
ElevenExactly =
    (b : Board) (h : Kept) (r : ℕ) (n : Which) (w : ℕ) (v : Verdict)
    → Judges b h r n w v
    → told_as told_finding v.finding ≡ refused no_such_winding 0
    ↔ CanUse b h × LineEleven b r n

pub record ItsWinding (b : Board) (r : ℕ) (n : Which) (e : Winding) : Type 0 where
  pub part : Part
  pub on_board : part ∈ parts_of b
  pub is_its_winding : is_winding n r part.kind ≡ true
  pub ends : (part.a ≡ e.a) × (part.b ≡ e.b)
  pub only : (p : Part) → p ∈ parts_of b → is_winding n r p.kind ≡ true → p ≡ part

abbrev pub TheWinding : Type 0
TheWinding =
    (b : Board) (h : Kept) (r : ℕ) (n : Which) (e : Winding)
    → AcceptedWinding b h r n e ↔ CanUse b h × ItsWinding b r n e

pub record RegularWound (b : Board) (r : ℕ) : Type 0 where
  pub winding : Winding
  pub first : ItsWinding b r First winding
  pub kind : first.part.kind ≡ Regular r
  pub no_second : (e : Winding) → ¬ (ItsWinding b r Second e)

pub record SteelWound (b : Board) (r : ℕ) : Type 0 where
  pub drawing : Winding
  pub first : ItsWinding b r First drawing
  pub first_kind : first.part.kind ≡ Drawing r
  pub dropping : Winding
  pub second : ItsWinding b r Second dropping
  pub second_kind : second.part.kind ≡ Dropping r

abbrev pub EveryRelayWound : Type 0
EveryRelayWound =
    (b : Board) (r : ℕ)
    → (IsRegular r (parts_of b) → RegularWound b r) × (IsSteel r (parts_of b) → SteelWound b r)
