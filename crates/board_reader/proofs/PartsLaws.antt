-- Laws of `parts_at`: reading parts one after the other. The loop of `read_parts` is a walk; each step of it, and each
-- way out, is a law here; and what `read` makes of the row that it gives, with the test of 9.
use Prim.Native.Nat.{ℕ, suc, ◌+◌, ◌-◌, ◌<◌, ◌≤◌}
use native.Mathlib.Omega.{arith}
use mathlib.Core.Path.{◌≡◌, refl, sym, ap, ◌∙◌}
use mathlib.Core.Bool.{true, false}
use mathlib.Core.List.{List, [], ◌∷◌, ◌++◌, append-nil, append_assoc}
use lib.ListN.{length, set, replicate, length-append}
use Rattle.refusals.specs.declared.Found.{Found}
use Rattle.refusals.specs.Outcomes.{Outcome, given, refused, found, ◌>>=◌}
use Rattle.refusals.specs.Refusals.{winding_lacking}
use Rattle.windings.specs.declared.WoundSoFar.{WoundSoFar}
use Rattle.windings.specs.Windings.{none_wound, gained, complete}
use Rattle.board.specs.declared.Counts.{Counts}
use Rattle.board.specs.declared.Part.{Part}
use Rattle.board.specs.declared.Board.{Board}
use Rattle.board.specs.Parts.{most_parts, blank, padded}
use Rattle.board.specs.Rules.{gained_all}
use Rattle.board.proofs.PaddedLaws.{padded_set}
use Rattle.board.proofs.RuleLaws.{gained_more}
use Rattle.refusals.proofs.OutcomeLaws.{refused_never, given_injective, handed}
use Rattle.board_reader.specs.Editions.{Edition}
use Rattle.board_reader.specs.Reading.{part_at, parts_at, board_from, answered}
use Rattle.board_reader.specs.Rows.{row_from}
use Rattle.board_reader.specs.declared.parts.Row.{Row}

-- parts that were read before those of an outcome
abbrev read_after : List Part → Outcome (Found (List Part)) → Outcome (Found (List Part))
read_after ps (given f) = found (ps ++ f.value) f.next
read_after ps (refused k p) = refused k p

read_after_none : (o : Outcome (Found (List Part))) → o ≡ read_after [] o
read_after_none (given f) = refl
read_after_none (refused k p) = refl

read_after_more : (ps : List Part) (p : Part) (o : Outcome (Found (List Part)))
    → read_after ps (o >>= λ f. found (p ∷ f.value) f.next) ≡ read_after (ps ++ (p ∷ [])) o
read_after_more ps p (given f) = ap (λ (l : List Part). found l f.next) (sym (append_assoc ps (p ∷ []) f.value))
read_after_more ps p (refused k q) = refl

module _ (e : Edition) (c : Counts) (n : ℕ) (w : WoundSoFar) (s : List ℕ) (at : ℕ) where
  parts_next : (p : Part) (next : ℕ) → part_at e c w s at ≡ found p next
      → parts_at e c (suc n) w s at ≡ (parts_at e c n (gained w p.kind) s next >>= λ f. found (p ∷ f.value) f.next)
  unfolding parts_at
  parts_next p next h = rw h

  parts_stop : (k p : ℕ) → part_at e c w s at ≡ refused k p → parts_at e c (suc n) w s at ≡ refused k p
  unfolding parts_at
  parts_stop k p h = rw h

parts_done : (e : Edition) (c : Counts) (w : WoundSoFar) (s : List ℕ) (at : ℕ) → parts_at e c 0 w s at ≡ found [] at
unfolding parts_at
parts_done e c w s at = refl

-- all the parts are those read so far, which fill the array and give the windings and marks w after w₀, and then those
-- from `at` on after w
pub record Walk (e : Edition) (c : Counts) (s : List ℕ) (start : ℕ) (w₀ : WoundSoFar) (parts : List Part)
    (w : WoundSoFar) (at i : ℕ) : Type 0 where
  pub so_far : List Part
  pub counted : length so_far ≡ i
  pub array : parts ≡ padded so_far
  pub after : w ≡ gained_all w₀ so_far
  pub rest : parts_at e c c.parts w₀ s start ≡ read_after so_far (parts_at e c (c.parts - i) w s at)

pub walk_start : (e : Edition) (c : Counts) (s : List ℕ) (start : ℕ) (w₀ : WoundSoFar) (p : Part) → p ≡ blank
    → Walk e c s start w₀ (replicate most_parts p) w₀ start 0
unfolding padded gained_all
walk_start e c s start w₀ p filler =
    let whole : c.parts - 0 ≡ c.parts = omega arith in
    record {
      so_far = [];
      counted = refl;
      array = ap (replicate most_parts) filler;
      after = refl;
      rest = rw whole (read_after_none (parts_at e c c.parts w₀ s start));
    }

module _ (e : Edition) (c : Counts) (s : List ℕ) (start : ℕ) (w₀ : WoundSoFar) (parts : List Part) (w : WoundSoFar)
    (at i : ℕ) (walk : Walk e c s start w₀ parts w at i) where
  pub walk_on : (p : Part) (next : ℕ) (w' : WoundSoFar) → i < c.parts → c.parts ≤ most_parts
      → part_at e c w s at ≡ found p next → w' ≡ gained w p.kind
      → Walk e c s start w₀ (set parts i p) w' next (i + 1)
  walk_on p next w' below most here more =
      let ps = walk.so_far in
      let one : c.parts - i ≡ suc (c.parts - (i + 1)) = omega arith in
      let long : length ps ≡ i = walk.counted in
      record {
        so_far = ps ++ (p ∷ []);
        counted = omega (arith, length-append ps (p ∷ []));
        array =
            ap (λ (l : List Part). set l i p) walk.array ∙ ap (λ (n : ℕ). set (padded ps) n p) (sym long)
            ∙ padded_set ps p (omega arith);
        after = more ∙ ap (λ (v : WoundSoFar). gained v p.kind) walk.after ∙ sym (gained_more w₀ ps p);
        rest = walk.rest
            ∙ ap (λ (n : ℕ). read_after ps (parts_at e c n w s at)) one
            ∙ ap (read_after ps) (parts_next e c (c.parts - (i + 1)) w s at p next here)
            ∙ read_after_more ps p (parts_at e c (c.parts - (i + 1)) (gained w p.kind) s next)
            ∙ ap (λ (v : WoundSoFar). read_after (ps ++ (p ∷ [])) (parts_at e c (c.parts - (i + 1)) v s next))
            (sym more);
      }

  pub walk_refused : (k p : ℕ) → i < c.parts → part_at e c w s at ≡ refused k p
      → refused k p ≡ row_from w₀ (parts_at e c c.parts w₀ s start)
  unfolding row_from
  walk_refused k p below here =
      let one : c.parts - i ≡ suc (c.parts - (i + 1)) = omega arith in
      let stopped : parts_at e c c.parts w₀ s start ≡ refused k p =
      walk.rest ∙ ap (λ (n : ℕ). read_after walk.so_far (parts_at e c n w s at)) one
      ∙ ap (read_after walk.so_far) (parts_stop e c (c.parts - (i + 1)) w s at k p here) in
      rw stopped

  pub walk_end : c.parts ≤ i → found (record { parts = parts; windings = w }) at
      ≡ row_from w₀ (parts_at e c c.parts w₀ s start)
  unfolding row_from
  walk_end past =
      let none : c.parts - i ≡ 0 = omega arith in
      let whole : parts_at e c c.parts w₀ s start ≡ found walk.so_far at =
      walk.rest
      ∙ ap (λ (n : ℕ). read_after walk.so_far (parts_at e c n w s at)) none
      ∙ ap (read_after walk.so_far) (parts_done e c w s at)
      ∙ ap (λ (l : List Part). found l at) (append-nil walk.so_far) in
      rw whole (λ j. found (record { parts = walk.array j; windings = walk.after j }) at)

-- what a row that was read says of the outcome on its parts
pub row_stopped : (w : WoundSoFar) (o : Outcome (Found (List Part))) (k p : ℕ) → row_from w o ≡ refused k p
    → o ≡ refused k p
unfolding row_from
row_stopped w (given ps) k p e = absurd (refused_never k p _ (sym e))
row_stopped w (refused m q) k p e = cc

pub record RowFound (w : WoundSoFar) (o : Outcome (Found (List Part))) (r : Row) (next : ℕ) : Type 0 where
  pub row : List Part
  pub read : o ≡ found row next
  pub array : r.parts ≡ padded row
  pub after : r.windings ≡ gained_all w row

pub row_went : (w : WoundSoFar) (o : Outcome (Found (List Part))) (r : Row) (next : ℕ)
    → row_from w o ≡ found r next → RowFound w o r next
unfolding row_from
row_went w o r next e =
    let ps = handed o _ _ e in
    let same = given_injective _ _ ps.then in
    record {
      row = ps.value.value;
      read = ps.first ∙ ap (λ (f : Found Row). found ps.value.value f.next) same;
      array = sym (ap (λ (f : Found Row). f.value.parts) same);
      after = sym (ap (λ (f : Found Row). f.value.windings) same);
    }

-- the outcome on a board, from the outcome on its parts and the test of 9 after them
module _ (c : Counts) (o : Outcome (Found (List Part))) where
  pub board_refused : (k p : ℕ) → o ≡ refused k p → refused k p ≡ board_from c o
  unfolding board_from
  board_refused k p h = rw h

  module _ (r : Row) (next : ℕ) (read : RowFound none_wound o r next) where
    pub board_lacking : complete c.relays r.windings ≡ false → refused winding_lacking next ≡ board_from c o
    unfolding board_from
    board_lacking off =
        let lacks : complete c.relays (gained_all none_wound read.row) ≡ false =
        ap (complete c.relays) (sym read.after) ∙ off in
        rw (read.read, lacks)

    pub board-found : complete c.relays r.windings ≡ true
        → ◌≡◌ {A = Board × Outcome ℕ} (record { counts = c; parts = r.parts; start = r.windings.marked }, given next)
        (answered (board_from c o))
    unfolding board_from answered
    board-found full =
        let whole : complete c.relays (gained_all none_wound read.row) ≡ true =
        ap (complete c.relays) (sym read.after) ∙ full in
        rw (read.read, whole)
        (λ i. (record { counts = c; parts = read.array i; start = (read.after i).marked }, given next))
