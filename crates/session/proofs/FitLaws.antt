-- Laws of the lines that fit: how `fitting` goes on, and what holds of all that it gives. For the loop that fills a
-- buffer, for programs that ask for buffer after buffer, and for the theorem on all the buffers.
use Prim.Native.Nat.{ℕ, zero, suc, ◌+◌, ◌-◌, ◌<◌, ◌≤◌}
use native.Mathlib.Omega.{arith}
use mathlib.Core.Path.{◌≡◌, refl, sym, ap, subst, ◌∙◌}
use mathlib.Core.List.{List, [], ◌∷◌, ◌++◌, append-nil, append_assoc}
use mathlib.Core.Logic.{inl, inr, ◌⊎◌}
use lib.Dec.{leb}
use lib.ListN.{length, length-append}
use borrow.Author.Tests.{le-leb, lt-leb, leb-true, leb-false}
use Rattle.bits.proofs.BoolLaws.{by_test}
use Rattle.board.specs.declared.Board.{Board}
use Rattle.board_reader.specs.Editions.{current_edition}
use Rattle.lines.specs.Lines.{Line, line_text, longest_line}
use Rattle.lines.proofs.LineLaws.{line-length_some, line-length_most}
use Rattle.session.specs.Sessions.{line_texts, printed}
use Rattle.session.specs.Carried.{Ahead, Coming, line, no_line, next_of}
use Rattle.session.specs.Filling.{fits_on, fitting}
use Rattle.session.proofs.ToCome.{to_come}
use Rattle.session.proofs.ComingLaws.{none-same, next_less}

-- the bytes of lines, one after the other
abbrev pub bytes_of : List Line → List ℕ
bytes_of ls = printed (line_texts ls)

pub bytes-append : (ls ms : List Line) → bytes_of (ls ++ ms) ≡ bytes_of ls ++ bytes_of ms
unfolding line_texts printed
bytes-append [] ms = refl
bytes-append (l ∷ ls) ms =
    ap (λ (x : List ℕ). line_text l ++ x) (bytes-append ls ms)
    ∙ sym (append_assoc (line_text l) (bytes_of ls) (bytes_of ms))

pub bytes_one : (l : Line) → bytes_of (l ∷ []) ≡ line_text l
unfolding line_texts printed
bytes_one l = append-nil (line_text l)

module _ (b : Board) (a : Ahead) (s : List ℕ) (n : ℕ) where
  pub fitting_short : (k : ℕ) → n < longest_line → fitting k b a s n ≡ (a, [])
  unfolding fitting
  fitting_short zero short = refl
  fitting_short (suc k) short = rw (lt-leb longest_line n short) refl

  pub fitting_next : (k : ℕ) → longest_line ≤ n → n ≤ k → (x : Ahead × Coming) → next_of current_edition b a s ≡ x
      → fitting k b a s n ≡ fits_on x (λ y l. fitting (k - 1) b y s (n - length (line_text l)))
  unfolding fitting
  fitting_next zero room enough x is = absurd (omega arith)
  fitting_next (suc k) room enough x is =
      let less : suc k - 1 ≡ k = omega arith in
      rw (le-leb longest_line n room, less, is) refl

-- why no line fits in n bytes where a is ahead: none comes, or the longest line has no room
abbrev pub Stops : Board → List ℕ → Ahead → ℕ → Type 0
Stops b s a n = ((next_of current_edition b a s).1 ≡ no_line) ⊎ (n < longest_line)

-- what holds where no line fits, and goes over from the lines after a line to those from it on, holds of the lines that
-- fit
module _ (b : Board) (s : List ℕ) (P : Ahead → ℕ → Ahead × List Line → Type 0)
    (stops : (a : Ahead) (n : ℕ) → Stops b s a n → P a n (a, []))
    (goes : (a y : Ahead) (l : Line) (n : ℕ) (x : Ahead × List Line) → next_of current_edition b a s ≡ (y, line l)
    → longest_line ≤ n → P y (n - length (line_text l)) x → P a n (x.0, l ∷ x.1)) where
  next_holds : (k : ℕ) (a : Ahead) (n : ℕ) → ((y : Ahead) (m : ℕ) → m ≤ k → P y m (fitting k b y s m)) → n ≤ suc k
      → longest_line ≤ n → (x : Ahead × Coming) → next_of current_edition b a s ≡ x
      → P a n (fits_on x (λ y l. fitting k b y s (n - length (line_text l))))
  next_holds k a n rest enough room (y, line l) is =
      goes a y l n (fitting k b y s (n - length (line_text l))) is room
      (rest y (n - length (line_text l)) (omega (arith, enough, line-length_some l)))
  next_holds k a n rest enough room (y, no_line) is =
      subst (λ (x : Ahead). P a n (x, [])) (sym (none-same current_edition b a y s is))
      (stops a n (inl (ap (λ (x : Ahead × Coming). x.1) is)))

  pub fitting_holds : (k : ℕ) (a : Ahead) (n : ℕ) → n ≤ k → P a n (fitting k b a s n)
  unfolding fitting
  fitting_holds zero a n enough = stops a n (inr (omega (arith, enough)))
  fitting_holds (suc k) a n enough =
      by_test (leb longest_line n)
      (λ room. rw room
      (next_holds k a n (fitting_holds k) enough (leb-true longest_line n room) (next_of current_edition b a s) refl))
      (λ short. rw short (stops a n (inr (leb-false longest_line n short))))

-- the lines that fit have room, and each leaves less to come
abbrev pub Within : List ℕ → Ahead → ℕ → Ahead × List Line → Type 0
Within s a n x = (length (bytes_of x.1) ≤ n) × (to_come x.0 s + length x.1 ≤ to_come a s)

-- no further line fits: none comes after them, or they leave less room than the longest line
abbrev pub Full : Board → List ℕ → ℕ → Ahead × List Line → Type 0
Full b s n x = ((next_of current_edition b x.0 s).1 ≡ no_line) ⊎ (n < length (bytes_of x.1) + longest_line)

module _ (b : Board) (s : List ℕ) where
  within_line : (a y : Ahead) (l : Line) (n : ℕ) (x : Ahead × List Line) → next_of current_edition b a s ≡ (y, line l)
      → longest_line ≤ n → Within s y (n - length (line_text l)) x → Within s a n (x.0, l ∷ x.1)
  unfolding line_texts printed
  within_line a y l n x is room so = (
    omega (arith, length-append (line_text l) (bytes_of x.1), line-length_most l, so.0),
    omega (arith, next_less current_edition b a y s l is, so.1),
  )

  pub fitting-within : (k : ℕ) (a : Ahead) (n : ℕ) → n ≤ k → Within s a n (fitting k b a s n)
  unfolding line_texts printed
  fitting-within = fitting_holds b s (Within s) (λ a n why. (omega arith, omega arith)) within_line

  full_line : (l : Line) (n : ℕ) (x : Ahead × List Line) → Full b s (n - length (line_text l)) x
      → Full b s n (x.0, l ∷ x.1)
  unfolding line_texts printed
  full_line l n x (inl none) = inl none
  full_line l n x (inr less) = inr (omega (arith, less, length-append (line_text l) (bytes_of x.1)))

  pub fitting_full : (k : ℕ) (a : Ahead) (n : ℕ) → n ≤ k → Full b s n (fitting k b a s n)
  unfolding line_texts printed
  fitting_full = fitting_holds b s (λ a. Full b s) (λ a n why. why) (λ a y l n x is room. full_line l n x)
