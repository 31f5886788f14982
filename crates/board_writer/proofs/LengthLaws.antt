-- Laws of the bytes of a row, of a board's counts and of a part: one after the other, and how many they are.
use Rattle.std.proofs.Common.{◌≡◌, ◌∙◌, refl, sym, ap, ℕ, ◌+◌, ◌≤◌, ◌<◌, List, [], ◌∷◌, ◌++◌, length, get_or, take}
use Rattle.std.proofs.Common.{drop}
use Rattle.std.proofs.Common.{append_assoc, append-nil, length-append, take-append-drop, take_all, arith}
use Rattle.std.proofs.lemmas.List.{take_more}
use Rattle.number.specs.Numbers.{number_bytes}
use Rattle.kinds.specs.Kinds.{kind_number}
use Rattle.board.specs.declared.Part.{Part}
use Rattle.board.specs.declared.Counts.{Counts}
use Rattle.board.specs.Parts.{fields_of}
use Rattle.board_writer.specs.File.{row_bytes, numbers_bytes, part_bytes, counts_bytes}

-- ---- a row, one thing after the other

module _ {A : Type 0} (bytes : A → List ℕ) where
  pub row_some : (x : A) (xs : List A) → row_bytes bytes (x ∷ xs) ≡ bytes x ++ row_bytes bytes xs
  unfolding row_bytes
  row_some x xs = refl

  pub row_append : (xs ys : List A) → row_bytes bytes (xs ++ ys) ≡ row_bytes bytes xs ++ row_bytes bytes ys
  unfolding row_bytes
  row_append [] ys = refl
  row_append (x ∷ xs) ys =
      ap (λ l. bytes x ++ l) (row_append xs ys) ∙ sym (append_assoc (bytes x) (row_bytes bytes xs) (row_bytes bytes ys))

-- ---- the counts

pub counts_bytes_sum : (c : Counts) → length (counts_bytes c) ≡ length (number_bytes c.terminals) + length
    (number_bytes c.relays) + length (number_bytes c.buttons) + length (number_bytes c.parts)
unfolding counts_bytes row_bytes
counts_bytes_sum c = simp length-append (omega arith)

-- the counts' numbers, from left to right
pub counts_bytes_are : (c : Counts) → counts_bytes c ≡ number_bytes c.terminals ++ number_bytes c.relays ++ number_bytes
    c.buttons ++ number_bytes c.parts
unfolding counts_bytes row_bytes
counts_bytes_are c = simp (append_assoc, append-nil) refl

-- what pushing them one after the other goes by
pub ruleset counts_pushed = (counts_bytes_sum, counts_bytes_are, length-append, append_assoc)

-- ---- a part

-- a part's bytes are its kind's and then those of its fields
pub part_bytes_are : (p : Part) → part_bytes p ≡ number_bytes (kind_number p.kind) ++ numbers_bytes (fields_of p)
unfolding part_bytes
part_bytes_are p = row_some number_bytes (kind_number p.kind) (fields_of p)

pub part_bytes_sum : (p : Part) → length (part_bytes p) ≡ length (number_bytes (kind_number p.kind)) + length
    (numbers_bytes (fields_of p))
part_bytes_sum p =
    ap length (part_bytes_are p) ∙ length-append (number_bytes (kind_number p.kind)) (numbers_bytes (fields_of p))

-- ---- things pushed one after the other

module _ {A : Type 0} (bytes : A → List ℕ) (i : ℕ) (d : A) (xs : List A) (here : i < length xs) where
  -- the first i things are followed by the next one
  pub row_taken : row_bytes bytes (take (i + 1) xs) ≡ row_bytes bytes (take i xs) ++ bytes (get_or xs i d)
  unfolding row_bytes
  row_taken =
      ap (row_bytes bytes) (take_more xs i d here)
      ∙ row_append bytes (take i xs) (get_or xs i d ∷ [])
      ∙ ap (λ l. row_bytes bytes (take i xs) ++ l) (append-nil (bytes (get_or xs i d)))

  -- so it has room where all have
  pub row_room : length (row_bytes bytes (take i xs)) + length (bytes (get_or xs i d)) ≤ length (row_bytes bytes xs)
  row_room =
      omega (
        arith,
        ap length row_taken,
        length-append (row_bytes bytes (take i xs)) (bytes (get_or xs i d)),
        ap length (row_append bytes (take (i + 1) xs) (drop (i + 1) xs)),
        length-append (row_bytes bytes (take (i + 1) xs)) (row_bytes bytes (drop (i + 1) xs)),
        ap (λ l. length (row_bytes bytes l)) (take-append-drop (i + 1) xs),
      )

  -- what was pushed behind a front that was there
  module _ (front : List ℕ) {now : List ℕ} (so_far : now ≡ front ++ row_bytes bytes (take i xs)) where
    pub pushed-on : {now' : List ℕ} → now' ≡ now ++ bytes (get_or xs i d)
        → now' ≡ front ++ row_bytes bytes (take (i + 1) xs)
    pushed-on next =
        next
        ∙ ap (λ l. l ++ bytes (get_or xs i d)) so_far
        ∙ append_assoc front (row_bytes bytes (take i xs)) (bytes (get_or xs i d))
        ∙ ap (λ l. front ++ l) (sym row_taken)

    pub pushed-room : {m : ℕ} → length front + length (row_bytes bytes xs) ≤ m
        → length now + length (bytes (get_or xs i d)) ≤ m
    pushed-room room = omega (
      arith,
      room,
      row_room,
      ap length so_far,
      length-append front (row_bytes bytes
          (take i xs)),
    )

module _ {A : Type 0} (bytes : A → List ℕ) (xs : List A) (front : List ℕ) {now : List ℕ} where
  pub pushed-none : now ≡ front → now ≡ front ++ row_bytes bytes (take 0 xs)
  unfolding row_bytes
  pushed-none is = is ∙ sym (append-nil front)

  pub pushed-all : {i : ℕ} → length xs ≤ i → now ≡ front ++ row_bytes bytes (take i xs)
      → now ≡ front ++ row_bytes bytes xs
  pushed-all {i} past so_far = so_far ∙ ap (λ l. front ++ row_bytes bytes l) (take_all i xs past)
