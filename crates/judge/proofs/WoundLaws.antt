-- Laws of how many parts are a relay's winding: of a relay of one sort, and of one that the board has not; and that the
-- winding is found exactly where there is one. So on a board that breaks no rule a relay's windings, found in one scan,
-- are its first and its second winding.
use Prim.Native.Nat.{ℕ, ◌+◌, ◌≤◌}
use native.Mathlib.Omega.{arith}
use mathlib.Core.Path.{◌≡◌, refl, sym, ap, ◌∙◌}
use mathlib.Core.Logic.{◌⊎◌, inl, inr, ⊎_map, ⊎_elim}
use mathlib.Core.Bool.{Bool, true, false}
use mathlib.Core.List.{List, [], ◌∷◌}
use mathlib.Core.Option.{Option, none, some, none-ne-some}
use lib.Dec.{eqb, ltb}
use borrow.Author.Tests.{eqb-true, ne_eqb, ltb-true, ltb-false}
use Rattle.lists.specs.Members.{◌∈◌}
use Rattle.lists.proofs.CountedLaws.{worth, counted, member_counted}
use Rattle.bits.proofs.BoolLaws.{both_true, by_test}
use Rattle.kinds.specs.declared.Kind.{Kind}
use Rattle.kinds.specs.Kinds.{kind_number, regular_kind, drawing_kind, dropping_kind}
use Rattle.board.specs.declared.Part.{Part}
use Rattle.board.specs.declared.Counts.{Counts}
use Rattle.board.specs.declared.Board.{Board}
use Rattle.board.specs.Parts.{parts_of}
use Rattle.board.specs.Rules.{board_fine}
use Rattle.board.specs.Sorts.{carries, count_of, IsRegular, IsSteel}
use Rattle.board.proofs.WindingLaws.{parts_fit, past_none}
use Rattle.board.proofs.FineLaws.{fine_parts_fit, fine_relays_wound}
use Rattle.search.specs.declared.Winding.{Winding}
use Rattle.judge.specs.declared.Which.{Which}
use Rattle.judge.specs.declared.Which.TheVariants.{First, Second}
use Rattle.judge.specs.RelayWindings.{is_first, is_winding, ends_of, winding_of, of_relay, windings_at, winding_named}
use Rattle.judge.proofs.ScannedLaws.{winding_here, winding_past, winding_none}

-- ---- how many parts are winding n of relay r
--     its n r p       part p is it
--     these n r ps    how many of the parts ps are

abbrev pub its : Which → ℕ → Part → Bool
its n r p = is_winding n r p.kind

abbrev pub these : Which → ℕ → List Part → ℕ
these n r ps = counted (its n r) ps

-- a kind has one number, so no part is two of a relay's windings
carries_exclusive : (i j r : ℕ) (k : Kind) → ¬ (i ≡ j) → carries i r k ≡ true → carries j r k ≡ false
unfolding carries
carries_exclusive i j r k differ on =
    let number = eqb-true (kind_number k) i (both_true (eqb (kind_number k) i) _ on).0 in
    rw (ne_eqb (kind_number k) j (λ e. differ (sym number ∙ e))) refl

first_worth : (r : ℕ) (k : Kind)
    → worth (is_first r k) ≡ worth (carries regular_kind r k) + worth (carries drawing_kind r k)
first_worth r k =
    by_test (carries regular_kind r k)
    (λ on. rw (on, carries_exclusive regular_kind drawing_kind r k (λ e. omega (arith, e)) on) refl)
    (λ off. rw off (omega arith))

pub first_sum : (r : ℕ) (ps : List Part) → these First r ps ≡ count_of regular_kind r ps + count_of drawing_kind r ps
unfolding count_of
first_sum r [] = refl
first_sum r (p ∷ ps) = omega (arith, first_worth r p.kind, first_sum r ps)

pub windings_counted : (j r : ℕ) (ps : List Part) → counted (λ (p : Part). carries j r p.kind) ps ≡ count_of j r ps
unfolding count_of
windings_counted j r [] = refl
windings_counted j r (p ∷ ps) = omega (arith, windings_counted j r ps)

pub second_sum : (r : ℕ) (ps : List Part) → these Second r ps ≡ count_of dropping_kind r ps
second_sum r ps = windings_counted dropping_kind r ps

module _ (r : ℕ) (ps : List Part) where
  -- of a relay of one sort each winding is there at most once
  pub sorted_most : (n : Which) → IsRegular r ps ⊎ IsSteel r ps → these n r ps ≤ 1
  sorted_most First (inl (x, y, z)) = omega (arith, first_sum r ps)
  sorted_most First (inr (x, y, z)) = omega (arith, first_sum r ps)
  sorted_most Second (inl (x, y, z)) = omega (arith, second_sum r ps)
  sorted_most Second (inr (x, y, z)) = omega (arith, second_sum r ps)

  -- of the windings of a relay of one sort only the second of a regular one is missing
  pub sorted_none : (n : Which) → IsRegular r ps ⊎ IsSteel r ps → these n r ps ≡ 0 → (n ≡ Second) × IsRegular r ps
  sorted_none First (inl (x, y, z)) no_part = absurd (omega (arith, first_sum r ps))
  sorted_none First (inr (x, y, z)) no_part = absurd (omega (arith, first_sum r ps))
  sorted_none Second (inl regular) no_part = (refl, regular)
  sorted_none Second (inr (x, y, z)) no_part = absurd (omega (arith, second_sum r ps))

  pub regular_second : (n : Which) → (n ≡ Second) × IsRegular r ps → these n r ps ≡ 0
  regular_second n (second, regular) = ap (λ (m : Which). these m r ps) second ∙ second_sum r ps ∙ regular.2

-- ---- a relay that the board has not

pub beyond_none : (c : Counts) (n : Which) (r : ℕ) (ps : List Part) → parts_fit c ps ≡ true → c.relays ≤ r
    → these n r ps ≡ 0
beyond_none c First r ps fit past =
    omega (
      arith,
      first_sum r ps,
      past_none c r regular_kind refl refl ps fit past,
      past_none c r drawing_kind refl refl ps fit past,
    )
beyond_none c Second r ps fit past = second_sum r ps ∙ past_none c r dropping_kind refl refl ps fit past

-- ---- the winding found

module _ (n : Which) (r : ℕ) where
  pub record Found (ps : List Part) : Type 0 where
    pub part : Part
    pub among : part ∈ ps
    pub is_its_winding : its n r part ≡ true
    pub found : winding_of n r ps ≡ some (ends_of part)

  pub record Missing (ps : List Part) : Type 0 where
    pub missing : winding_of n r ps ≡ none
    pub no_part : these n r ps ≡ 0

  -- among the parts the winding is found, or there is none
  pub sought : (ps : List Part) → Found ps ⊎ Missing ps
  sought [] = inr (record { missing = winding_none n r; no_part = refl })
  sought (p ∷ ps) =
      by_test (its n r p)
      (λ on. inl (record { part = p; among = inl refl; is_its_winding = on; found = winding_here n r p ps on }))
      (λ off. ⊎_map
      (λ (f : Found ps). record {
        part = f.part;
        among = inr f.among;
        is_its_winding = f.is_its_winding;
        found =
            winding_past n r p ps off ∙ f.found;
      })
      (λ (m : Missing ps). record {
        missing = winding_past n r p ps off ∙ m.missing;
        no_part =
            omega (arith, ap worth off, m.no_part);
      })
      (sought ps))

  pub missing_counted : (ps : List Part) → winding_of n r ps ≡ none → these n r ps ≡ 0
  missing_counted ps missing =
      ⊎_elim (λ f. absurd (none-ne-some (ends_of f.part) (sym missing ∙ f.found))) (λ m. m.no_part)
      (sought ps)

  pub counted_missing : (ps : List Part) → these n r ps ≡ 0 → winding_of n r ps ≡ none
  counted_missing ps no_part =
      ⊎_elim (λ f. absurd (omega (arith, no_part, member_counted (its n r) ps f.part f.among f.is_its_winding)))
      (λ m. m.missing) (sought ps)

  pub some-found : (ps : List Part) (e : Winding) → winding_of n r ps ≡ some e → Found ps
  some-found ps e answer =
      ⊎_elim (λ f. f) (λ m. absurd (none-ne-some e (sym m.missing ∙ answer))) (sought ps)

-- ---- on a board that breaks no rule a relay's windings are its first and its second

first_named : (o q : Option Winding) → winding_named First (of_relay o q) ≡ o
first_named (some x) (some y) = refl
first_named (some x) none = refl
first_named none q = refl

second_named : (o q : Option Winding) → (o ≡ none → q ≡ none) → winding_named Second (of_relay o q) ≡ q
second_named (some x) (some y) both = refl
second_named (some x) none both = refl
second_named none q both = sym (both refl)

-- a relay without a first winding is not there, and has no second
no-first_no_second : (b : Board) (r : ℕ) → board_fine b ≡ true → winding_of First r (parts_of b) ≡ none
    → winding_of Second r (parts_of b) ≡ none
no-first_no_second b r fine missing =
    by_test (ltb r b.counts.relays)
    (λ below. absurd (let z : ◌≡◌ {A = ℕ} 0 1 = cc (sorted_none r (parts_of b) First
    (fine_relays_wound b fine r (ltb-true r b.counts.relays below))
    (missing_counted First r (parts_of b) missing)).0 in omega arith))
    (λ past. counted_missing Second r (parts_of b)
    (beyond_none b.counts Second r (parts_of b) (fine_parts_fit b fine) (ltb-false r b.counts.relays past)))

pub windings_named : (b : Board) (r : ℕ) (n : Which) → board_fine b ≡ true
    → winding_named n (windings_at r (parts_of b)) ≡ winding_of n r (parts_of b)
unfolding windings_at
windings_named b r First fine = first_named (winding_of First r (parts_of b)) (winding_of Second r (parts_of b))
windings_named b r Second fine =
    second_named (winding_of First r (parts_of b)) (winding_of Second r (parts_of b)) (no-first_no_second b r fine)
