-- Our chains and the published model's paths agree: of a board whose counts and parts fit, the chains that end at minus
-- are exactly the available paths from pos to neg, and so a winding is live exactly if one of its connections is
-- current carrying.
use Prim.Native.Nat.{ℕ, ◌+◌, ◌-◌, ◌≤◌, ◌<◌}
use native.Mathlib.Omega.{arith}
use mathlib.Core.Path.{◌≡◌, refl, sym, ap, ◌∙◌}
use mathlib.Core.Logic.{inl, inr, ⊎_map, ⊎_elim}
use mathlib.Core.Bool.{Bool, true, false, cond}
use mathlib.Core.List.{List, [], ◌∷◌}
use lib.ListN.{length}
use Rattle.lists.specs.Members.{◌∈◌, All}
use Rattle.lists.proofs.MemberLaws.{all_map}
use Rattle.board.specs.declared.Part.{Part}
use Rattle.board.specs.declared.Board.{Board}
use Rattle.board.specs.BreaksNoRule.{BoardFits}
use Rattle.state.specs.declared.State.{State}
use Rattle.neighbours.specs.Conduction.{conducts}
use Rattle.neighbours.specs.Neighbours.{EndsAt, Joined}
use Rattle.neighbours.proofs.JoinedLaws.{part-joined, joined_inside}
use Rattle.chains.specs.Chains.{minus, steps, ending, Linked, StopsAtMinus, IsChain, Live}
use Rattle.judge_means.specs.Circuits.{pos, neg, place, actual_connections, AreConnected, Available, AvailablePath}
use Rattle.judge_means.specs.Circuits.{CurrentCarrying, WindingCarries, PathsAreChains, LiveIsCarrying}
use Rattle.judge_means.proofs.PathLaws.{once-places, places-once, contains_step, step_contains, steps-placed}
use Rattle.judge_means.proofs.PathLaws.{placed-steps, steps_members, begins-place, place-begins, ending-place}
use Rattle.judge_means.proofs.PathLaws.{apart_long}

-- ---- connected and joined

abbrev both_ways : Part → List (ℕ × ℕ)
both_ways p = (p.a, p.b) ∷ (p.b, p.a) ∷ []

ways-ends : (on : Bool) (p : Part) (x y : ℕ) → ◌∈◌ {A = ℕ × ℕ} (x, y) (cond on (both_ways p) []) → (on ≡ true)
    × EndsAt p x y
ways-ends false p x y m = absurd m
ways-ends true p x y (inl e) = (refl, inl (ap (λ (s : ℕ × ℕ). s.0) (sym e), ap (λ (s : ℕ × ℕ). s.1) (sym e)))
ways-ends true p x y (inr (inl e)) = (refl, inr (ap (λ (s : ℕ × ℕ). s.1) (sym e), ap (λ (s : ℕ × ℕ). s.0) (sym e)))
ways-ends true p x y (inr (inr m)) = absurd m

ends_ways : (p : Part) (x y : ℕ) → EndsAt p x y → (x, y) ∈ both_ways p
ends_ways p x y (inl e) = inl (cc (e.0, e.1))
ends_ways p x y (inr e) = inr (inl (cc (e.0, e.1)))

-- the connections of a part are those between its ends, either way, while it conducts
module _ (s : State) (p : Part) (x y : ℕ) where
  pub connection-ends : (x, y) ∈ actual_connections s p → (conducts s p.kind ≡ true) × EndsAt p x y
  unfolding actual_connections
  connection-ends m = ways-ends (conducts s p.kind) p x y m

  pub ends_connection : conducts s p.kind ≡ true → EndsAt p x y → (x, y) ∈ actual_connections s p
  unfolding actual_connections
  ends_connection on ends = rw on (ends_ways p x y ends)

module _ (b : Board) (s : State) where
  connected-joined : (x y : ℕ) → AreConnected b s x y → Joined b s x y
  connected-joined x y c =
      let made = connection-ends s c.component x y c.connects in
      record { part = c.component; on_board = c.of_network; conducting = made.0; ends = made.1 }

  joined_connected : (x y : ℕ) → Joined b s x y → AreConnected b s x y
  joined_connected x y j =
      record {
        component = j.part;
        of_network = j.on_board;
        connects = ends_connection s j.part x y
            j.conducting j.ends;
      }

  -- ---- paths and chains

  -- the terminals of a path lie inside the board, because each is joined to another
  linked_inside : (p : List ℕ) → BoardFits b → 2 ≤ length p → Linked (Joined b s) p
      → All (λ (x : ℕ). x < b.counts.terminals) p
  linked_inside p fits long linked =
      let T = b.counts.terminals in
      steps_members (λ (x : ℕ). x < T) p long
      (all_map (λ (k : ℕ × ℕ). Joined b s k.0 k.1) (λ (k : ℕ × ℕ). (k.0 < T) × (k.1 < T))
      (λ k j. joined_inside b s k.0 k.1 fits (part-joined b s k.0 k.1 fits j)) (steps p) linked)

  path-linked : (p : List ℕ) → Available b s p → Linked (Joined b s) p
  path-linked p path =
      placed-steps (Joined b s) p (λ i h. connected-joined (place p i) (place p (i + 1)) (path.connected i h))

  -- neg stands only at the end of a path, because nothing repeats
  path_stops : (p : List ℕ) → AvailablePath b s pos neg p → StopsAtMinus p
  path_stops p path =
      placed-steps (λ x y. ¬ (x ≡ minus)) p
      (λ i h e. path.available.no_repetition i (length p - 1) (omega arith)
      (omega (arith, path.available.long)) (omega arith) (e ∙ sym path.ends))

  path_chain : (p : List ℕ) → BoardFits b → AvailablePath b s pos neg p
      → IsChain (Joined b s) b.counts.terminals p × (ending p ≡ minus)
  path_chain p fits path = (
    record {
      begins = place-begins p path.available.long path.starts;
      inside = linked_inside p fits path.available.long (path-linked p path.available);
      once = places-once p path.available.no_repetition;
      linked = path-linked p path.available;
      stops = path_stops p path;
    },
    ending-place p ∙ path.ends,
  )

  -- of every board: a chain that ends at minus has two terminals or more, because plus is not minus
  chain_path : (c : List ℕ) → IsChain (Joined b s) b.counts.terminals c → ending c ≡ minus
      → AvailablePath b s pos neg c
  chain_path c chain ends = record {
    available = record {
      long = apart_long c chain.begins ends;
      connected =
          λ i h. joined_connected (place c i) (place c (i + 1)) (steps-placed (Joined b s) c chain.linked i h);
      no_repetition = once-places c chain.once;
    };
    starts = begins-place c chain.begins;
    ends = sym (ending-place c) ∙ ends;
  }

-- ---- live and current carrying

carrying_live : (b : Board) (s : State) (x y : ℕ) → BoardFits b → CurrentCarrying b s x y
    → Live (Joined b s) b.counts.terminals x y
carrying_live b s x y fits carries =
    let chain = path_chain b s carries.path fits carries.from_pos_to_neg in
    record {
      chain = carries.path;
      is_chain = chain.0;
      showing =
          (chain.1, inl (contains_step carries.path x y carries.contains));
    }

live_turned : (J : ℕ → ℕ → Type 0) (t x y : ℕ) → Live J t x y → Live J t y x
live_turned J t x y live =
    record {
      chain = live.chain;
      is_chain = live.is_chain;
      showing =
          (live.showing.0, ⊎_elim inr inl live.showing.1);
    }

live-carries : (b : Board) (s : State) (x y : ℕ) → Live (Joined b s) b.counts.terminals x y → WindingCarries b s x y
live-carries b s x y live = ⊎_map (carried x y) (carried y x) live.showing.1
  where
    carried : (u v : ℕ) → (u, v) ∈ steps live.chain → CurrentCarrying b s u v
    carried u v m =
        record {
          path = live.chain;
          from_pos_to_neg = chain_path b s live.chain live.is_chain
              live.showing.0;
          contains = step_contains live.chain u v m;
        }

carries_live : (b : Board) (s : State) (x y : ℕ) → BoardFits b → WindingCarries b s x y
    → Live (Joined b s) b.counts.terminals x y
carries_live b s x y fits (inl carries) = carrying_live b s x y fits carries
carries_live b s x y fits (inr carries) =
    live_turned (Joined b s) b.counts.terminals y x (carrying_live b s y x fits carries)

-- ---- the theorems

pub paths_are_chains : PathsAreChains
paths_are_chains b s p fits = (path_chain b s p fits, λ h. chain_path b s p h.0 h.1)

pub live_is_carrying : LiveIsCarrying
live_is_carrying b s x y fits = (live-carries b s x y, carries_live b s x y fits)
