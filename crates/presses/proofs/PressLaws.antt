-- Laws of the calls that push and release a button: that an answer is known by what it tells, when 12 alone can stand
-- against it, and what the proofs of `pressable`, `set`, `push` and `release` need.
use Prim.Native.Nat.{ℕ}
use mathlib.Core.Path.{◌≡◌, refl, ap, ◌∙◌}
use mathlib.Core.Bool.{Bool, true, false}
use Rattle.std.specs.Prelude.{Result, Ok, Err}
use lib.Dec.{ltb}
use Rattle.refusals.specs.declared.Refusal.{Refusal}
use Rattle.refusals.specs.declared.No.TheVariants.{NoSuchName, AlreadySo, StateBeyondBoard, BrokenBoard, ForeignSets}
use Rattle.refusals.specs.Outcomes.{Outcome, given, refused, unless, told}
use Rattle.refusals.specs.Refusals.{no_such_name, already_so}
use Rattle.refusals.specs.Order.{first_no}
use Rattle.refusals.proofs.OrderLaws.{asks_first, first_holds, all_hold}
use Rattle.refusals.proofs.Tabled.{Tabled, TabledLines, tabled_lines, Tells, result-tells, beside-tells}
use Rattle.board.specs.declared.Board.{Board}
use Rattle.state.specs.declared.State.{State}
use Rattle.state.specs.States.{is_drawn, is_pushed, with_pushed, with_released}
use Rattle.state.proofs.StateLaws.{pushed_push_other, drawn_push, pushed_release_other, drawn_release}
use Rattle.kept.specs.declared.Kept.{Kept}
use Rattle.kept.specs.declared.Change.TheVariants.{Button}
use Rattle.kept.specs.Kept.{kept_at, usable_lines, usable, left}
use Rattle.kept.specs.Upkeep.{changed_to}
use Rattle.kept.proofs.KeptLaws.{usable_given, usable_lines_lem}
use Rattle.kept.proofs.UpkeepLaws.{button-kept}
use Rattle.presses.specs.Presses.{press_lines, push_lines, release_lines, pushing, releasing, told_pressed}

-- ---- an answer is known by what it tells, and what it can be refused by stands in the table

pub pressed-tells : Tells {B = Kept × Outcome (Unit {0})} (λ y. Tabled y.1) told_pressed
pressed-tells =
    beside-tells told result-tells (λ h a. record { kept = h; answer = a })
    (λ x. x.kept) (λ x. x.answer) (λ x. refl) (λ s a. refl)

press-tabled : (b : Board) (h : Kept) (n : ℕ) (settable : Bool) → Tabled (first_no (press_lines b h n settable))
unfolding TabledLines
press-tabled b h n settable =
    tabled_lines (press_lines b h n settable) (
      (BrokenBoard, refl),
      ((StateBeyondBoard, refl), ((ForeignSets, refl), ((NoSuchName, refl), ((AlreadySo, refl), tt)))),
    )

left-tabled : (h k : Kept) (o : Outcome (Unit {0})) → Tabled o → Tabled (left h (λ u. k) o).1
unfolding left
left-tabled h k (given u) tabled = tabled
left-tabled h k (refused n p) tabled = tabled

pub pushing-tabled : (b : Board) (h : Kept) (n : ℕ) → Tabled (pushing b h n).1
unfolding pushing
pushing-tabled b h n = left-tabled h _ (first_no (push_lines b h n)) (press-tabled b h n _)

pub releasing-tabled : (b : Board) (h : Kept) (n : ℕ) → Tabled (releasing b h n).1
unfolding releasing
releasing-tabled b h n = left-tabled h _ (first_no (release_lines b h n)) (press-tabled b h n _)

-- ---- the lines of `pressable`: 15, 14 and 18, then 7

pub press_unusable : (b : Board) (h : Kept) (n : ℕ) (settable : Bool) {k p : ℕ} → usable b h ≡ refused k p
    → first_no (press_lines b h n settable) ≡ refused k p
press_unusable b h n settable off = usable_lines_lem b h _ ∙ rw off refl

pub press_lacking : (b : Board) (h : Kept) (n : ℕ) (settable : Bool) → usable b h ≡ given tt
    → ltb n b.counts.buttons ≡ false → first_no (press_lines b h n settable) ≡ refused no_such_name 0
unfolding first_no
press_lacking b h n settable fine past = rw (usable_lines_lem b h _, fine, past) refl

-- ---- what a call can use, with a button that is there: nothing stands against it but 12; and where nothing stands
-- against it at all, the sets belong to the board and the state

pub press_twelve : (b : Board) (h : Kept) (n : ℕ) (settable : Bool) → usable b h ≡ given tt
    → ltb n b.counts.buttons ≡ true → first_no (press_lines b h n settable) ≡ unless settable already_so 0
unfolding first_no
press_twelve b h n settable fine below = rw (usable_lines_lem b h _, fine, below) (asks_first settable already_so)

pub press-usable : (b : Board) (h : Kept) (n : ℕ) (settable : Bool) → first_no (press_lines b h n settable) ≡ given tt
    → (usable b h ≡ given tt) × (ltb n b.counts.buttons ≡ true)
unfolding usable
press-usable b h n settable taken =
    let both = all_hold (usable_lines b h) _ taken in
    (both.0, (first_holds (ltb n b.counts.buttons) no_such_name _ both.1).0)

-- ---- one law for each way out of `set`, and one for `push` and `release`

-- what stands against it, o, by the answer a; it leaves the next, k, if nothing does, else h as given
module _ (h k : Kept) (a : Result Unit Refusal) (o : Outcome (Unit {0})) (asked : told a ≡ o) where
  pub set_done : (u : Unit {0}) (x : Kept) → a ≡ Ok u → x ≡ k
      → told_pressed (record { kept = x; answer = a }) ≡ left h (λ v. k) o
  unfolding left
  set_done u x done next = rw (← asked, done, next) refl

  pub set_refused : (r : Refusal) → a ≡ Err r
      → told_pressed (record { kept = h; answer = a }) ≡ left h (λ v. k) o
  unfolding left
  set_refused r refuses = rw (← asked, refuses) refl

-- what is left by an outcome goes by what is left where nothing stands against it
left-same : (h k l : Kept) (o : Outcome (Unit {0})) → (o ≡ given tt → k ≡ l) → left h (λ u. k) o ≡ left h (λ u. l) o
unfolding left
left-same h k l (given u) same = rw (same refl) refl
left-same h k l (refused n p) same = refl

-- an outcome o that was asked for with the test p, and what is kept after the state u was made, where the definition
-- has the test q and the state t
module _ (b : Board) (h : Kept) (n : ℕ) (t u : State) (made : u ≡ t)
    (pushed : (m : ℕ) → ¬ (m ≡ n) → is_pushed t m ≡ is_pushed h.state m)
    (drawn : (r : ℕ) → is_drawn t r ≡ is_drawn h.state r) where
  kept_next : (k : Kept) → k ≡ changed_to h b (Button n) u → usable b h ≡ given tt → k ≡ kept_at b t
  kept_next k next fine =
      next ∙ ap (changed_to h b (Button n)) made
      ∙ ap (λ (g : Kept). changed_to g b (Button n) t) (usable_given b h fine).2
      ∙ button-kept b h.state t n pushed drawn

  pub left_asked : (k : Kept) (o : Outcome (Unit {0})) (p q : Bool) → k ≡ changed_to h b (Button n) u
      → o ≡ first_no (press_lines b h n p) → p ≡ q
      → left h (λ v. k) o ≡ left h (λ v. kept_at b t) (first_no (press_lines b h n q))
  left_asked k o p q next told same =
      ap (left h (λ v. k)) (told ∙ ap (λ (x : Bool). first_no (press_lines b h n x)) same)
      ∙ left-same h k (kept_at b t) (first_no (press_lines b h n q))
      (λ taken. kept_next k next (press-usable b h n q taken).0)

-- sets that belong to a state belong to the state after the button was set
module _ (b : Board) (h : Kept) (n : ℕ) (settable : Bool) (taken : first_no (press_lines b h n settable) ≡ given tt)
  where
    pub pushed-kept : changed_to h b (Button n) (with_pushed h.state n) ≡ kept_at b (with_pushed h.state n)
    pushed-kept =
        kept_next b h n (with_pushed h.state n) (with_pushed h.state n) refl (pushed_push_other h.state n)
        (drawn_push h.state n) _ refl (press-usable b h n settable taken).0

    pub released-kept : changed_to h b (Button n) (with_released h.state n) ≡ kept_at b (with_released h.state n)
    released-kept =
        kept_next b h n (with_released h.state n) (with_released h.state n) refl (pushed_release_other h.state n)
        (drawn_release h.state n) _ refl (press-usable b h n settable taken).0
