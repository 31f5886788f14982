-- Numbers and words as text, each character by its ASCII code.
--     space, newline     what stands between the fields of a line, and at its end
--     digit d            the character of a digit
--     most_digits        20: no 64-bit number has more
--     digits_of k n      the decimal digits of n, highest first, of which there are at most k
--     decimal n          n in decimal, with no zero in front
--     value_of v s       the number that a row of digits stands for, read after v
--     spaced, ended x    x and a space; x and a line end
--     refused_text       the word `refused`
--     word_text w        the word of a run, or `refused`
use Rattle.std.specs.Prelude.{ℕ, zero, suc, ◌+◌, ◌-◌, ◌*◌, ◌/◌, ◌%◌, cond, List, [], ◌∷◌, ◌++◌, ltb}
use Rattle.refusals.specs.Outcomes.{Outcome, given, refused}
use Rattle.runs.specs.Runs.{Ending, idle, spent, conflict, buzz}

abbrev pub space : ℕ
space = 32

abbrev pub newline : ℕ
newline = 10

abbrev pub digit : ℕ → ℕ
digit d = 48 + d

abbrev pub most_digits : ℕ
most_digits = 20

unfoldable pub digits_of : ℕ → ℕ → List ℕ
digits_of zero n = []
digits_of (suc k) n = cond (ltb n 10) (digit n ∷ []) (digits_of k (n / 10) ++ (digit (n % 10) ∷ []))

unfoldable pub decimal : ℕ → List ℕ
decimal n = digits_of most_digits n

unfoldable pub value_of : ℕ → List ℕ → ℕ
value_of v [] = v
value_of v (c ∷ s) = value_of (10 * v + (c - digit 0)) s

abbrev pub spaced : List ℕ → List ℕ
spaced x = x ++ (space ∷ [])

abbrev pub ended : List ℕ → List ℕ
ended x = x ++ (newline ∷ [])

abbrev pub refused_text : List ℕ
refused_text = 114 ∷ 101 ∷ 102 ∷ 117 ∷ 115 ∷ 101 ∷ 100 ∷ []

abbrev pub word_text : Outcome Ending → List ℕ
word_text (given idle) = 105 ∷ 100 ∷ 108 ∷ 101 ∷ []
word_text (given spent) = 115 ∷ 112 ∷ 101 ∷ 110 ∷ 116 ∷ []
word_text (given buzz) = 98 ∷ 117 ∷ 122 ∷ 122 ∷ []
word_text (given conflict) = 99 ∷ 111 ∷ 110 ∷ 102 ∷ 108 ∷ 105 ∷ 99 ∷ 116 ∷ []
word_text (refused n p) = refused_text
