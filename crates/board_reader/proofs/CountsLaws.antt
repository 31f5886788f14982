-- Laws of `counts_at`: each way out of reading T, R, B and C as an outcome of the definition, and what counts that were
-- read are.
use Prim.Native.Nat.{ℕ, ◌≤◌}
use mathlib.Core.Path.{◌≡◌, ap, ◌∙◌}
use mathlib.Core.Bool.{true}
use mathlib.Core.List.{List}
use Rattle.refusals.specs.declared.Found.{Found}
use Rattle.refusals.specs.Outcomes.{Outcome, refused, found}
use Rattle.refusals.specs.Refusals.{out_of_range}
use Rattle.board.specs.declared.Counts.{Counts}
use Rattle.board.specs.Parts.{most_parts}
use Rattle.board.specs.Rules.{least_terminals, most_terminals, most_relays, most_buttons, in_range, counts_fine}
use Rattle.bits.proofs.BoolLaws.{true_both}
use Rattle.board_reader.specs.Editions.{Edition}
use Rattle.board_reader.specs.Reading.{wanted, counts_at}
use Rattle.refusals.proofs.OutcomeLaws.{given_injective, handed}
use Rattle.board_reader.proofs.FieldLaws.{wanted-found, range_bounds}

-- a count at a place, from low to high
abbrev pub count_at : Edition → ℕ → ℕ → List ℕ → ℕ → Outcome (Found ℕ)
count_at e low high = wanted e (in_range low high) out_of_range

-- a count that was found is at most its limit
pub count_most : (e : Edition) (low high : ℕ) (s : List ℕ) (at v next : ℕ) → count_at e low high s at ≡ found v next
    → v ≤ high
count_most e low high s at v next h =
    (range_bounds low high v (wanted-found e (in_range low high) out_of_range s at v next h).0).1

module _ (e : Edition) (s : List ℕ) (k p : ℕ) where
  pub terminals_refused : count_at e least_terminals most_terminals s 0 ≡ refused k p → refused k p ≡ counts_at e s
  unfolding counts_at
  terminals_refused t = rw t

  module _ (t rt : ℕ) (terminals : count_at e least_terminals most_terminals s 0 ≡ found t rt) where
    pub relays_refused : count_at e 0 most_relays s rt ≡ refused k p → refused k p ≡ counts_at e s
    unfolding counts_at
    relays_refused r = rw (terminals, r)

    module _ (r rb : ℕ) (relays : count_at e 0 most_relays s rt ≡ found r rb) where
      pub buttons_refused : count_at e 0 most_buttons s rb ≡ refused k p → refused k p ≡ counts_at e s
      unfolding counts_at
      buttons_refused b = rw (terminals, relays, b)

      module _ (b rc : ℕ) (buttons : count_at e 0 most_buttons s rb ≡ found b rc) where
        pub parts_refused : count_at e 0 most_parts s rc ≡ refused k p → refused k p ≡ counts_at e s
        unfolding counts_at
        parts_refused c = rw (terminals, relays, buttons, c)

pub counts_read : (e : Edition) (s : List ℕ) (t rt r rb b rc c next : ℕ)
    → count_at e least_terminals most_terminals s 0 ≡ found t rt
    → count_at e 0 most_relays s rt ≡ found r rb → count_at e 0 most_buttons s rb ≡ found b rc
    → count_at e 0 most_parts s rc ≡ found c next
    → found (record { terminals = t; relays = r; buttons = b; parts = c }) next ≡ counts_at e s
unfolding counts_at
counts_read e s t rt r rb b rc c next terminals relays buttons parts = rw (terminals, relays, buttons, parts)

-- counts that were read, one number after the other
pub record CountsFound (e : Edition) (s : List ℕ) (c : Counts) (next : ℕ) : Type 0 where
  pub relays_at : ℕ
  pub buttons_at : ℕ
  pub parts_place : ℕ
  pub terminals : count_at e least_terminals most_terminals s 0 ≡ found c.terminals relays_at
  pub relays : count_at e 0 most_relays s relays_at ≡ found c.relays buttons_at
  pub buttons : count_at e 0 most_buttons s buttons_at ≡ found c.buttons parts_place
  pub parts : count_at e 0 most_parts s parts_place ≡ found c.parts next

pub counts-found : (e : Edition) (s : List ℕ) (c : Counts) (next : ℕ) → counts_at e s ≡ found c next
    → CountsFound e s c next
unfolding counts_at
counts-found e s c next h =
    let t = handed (count_at e least_terminals most_terminals s 0) _ _ h in
    let r = handed (count_at e 0 most_relays s t.value.next) _ _ t.then in
    let b = handed (count_at e 0 most_buttons s r.value.next) _ _ r.then in
    let p = handed (count_at e 0 most_parts s b.value.next) _ _ b.then in
    let same = given_injective _ _ p.then in
    record {
      relays_at = t.value.next;
      buttons_at = r.value.next;
      parts_place = b.value.next;
      terminals = t.first ∙ ap (λ (f : Found Counts). found f.value.terminals t.value.next) same;
      relays = r.first ∙ ap (λ (f : Found Counts). found f.value.relays r.value.next) same;
      buttons = b.first ∙ ap (λ (f : Found Counts). found f.value.buttons b.value.next) same;
      parts = p.first ∙ ap (λ (f : Found Counts). found f.value.parts f.next) same;
    }

-- counts that were read break no rule of 3
pub counts-found_fine : (e : Edition) (s : List ℕ) (c : Counts) (next : ℕ) → CountsFound e s c next
    → counts_fine c ≡ true
unfolding counts_fine
counts-found_fine e s c next read =
    true_both (true_both (true_both
    (wanted-found e _ _ _ _ _ _ read.terminals).0
    (wanted-found e _ _ _ _ _ _ read.relays).0)
    (wanted-found e _ _ _ _ _ _ read.buttons).0)
    (wanted-found e _ _ _ _ _ _ read.parts).0
