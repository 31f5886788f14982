-- There is one first meeting, where the state before a move tells which it is and where it leads. Nothing here knows
-- what a move is.
use Prim.Native.Nat.{ℕ, ◌-◌, ◌<◌, ◌≤◌}
use native.Mathlib.Omega.{arith}
use mathlib.Core.Path.{◌≡◌, sym, ap, subst, ◌∙◌}
use mathlib.Core.List.{List}
use lib.ListN.{length, take}
use lib.Seq.{take_all, take-take, length-take-le}
use Rattle.bits.proofs.BoolLaws.{by_less}
use Rattle.state.specs.declared.State.{State}
use Rattle.runs_means.specs.Following.{Movement, Follows, SomeTwice, FirstMeeting}
use Rattle.runs_means.proofs.FollowLaws.{OneEnd, OneNumber, follows_unique, follows_first}

pub meeting_twice : {M : Movement} {s t : State} {cs : List ℕ} {i d : ℕ} → FirstMeeting M s cs t i d → SomeTwice M s cs
meeting_twice {t = t} {cs = cs} {i = i} x =
    record {
      some = i;
      more = length cs;
      less = omega (arith, x.moves, x.apart);
      within = omega arith;
      state = t;
      comes = x.comes;
      again = rw (take_all (length cs) cs (omega arith)) x.again;
    }

-- a state that comes twice within the first of some moves comes twice within all of them
pub twice_longer : (M : Movement) (s : State) (cs ds : List ℕ) → cs ≡ take (length cs) ds → length cs ≤ length ds
    → SomeTwice M s cs → SomeTwice M s ds
twice_longer M s cs ds front least x =
    record {
      some = x.some;
      more = x.more;
      less = x.less;
      within = omega (arith, x.within, least);
      state = x.state;
      comes = subst (λ (l : List ℕ). Follows M s l x.state) (first x.some (omega (arith, x.less, x.within)))
          x.comes;
      again = subst (λ (l : List ℕ). Follows M s l x.state) (first x.more x.within) x.again;
    }
  where
    first : (n : ℕ) → n ≤ length cs → take n cs ≡ take n ds
    first n few = ap (take n) front ∙ take-take n (length cs) ds few

-- and within the moves up to where it comes again
pub twice_first : (M : Movement) (s : State) (cs : List ℕ) (x : SomeTwice M s cs) → SomeTwice M s (take x.more cs)
twice_first M s cs x =
    record {
      some = x.some;
      more = x.more;
      less = x.less;
      within = omega (arith, length-take-le x.more cs x.within);
      state = x.state;
      comes = rw (take-take x.some x.more cs (omega (arith, x.less))) x.comes;
      again = rw (take-take x.more x.more cs (omega arith)) x.again;
    }

module _ (M : Movement) (leads : OneEnd M) where
  -- the state at the end did not come after i moves and again after j, more than i: before the end no state came twice
  not-before : (s : State) (cs : List ℕ) (i j : ℕ) (u v : State) → Follows M s (take i cs) u → Follows M s cs u
      → Follows M s (take j cs) v → Follows M s cs v → j < length cs → ¬ (SomeTwice M s (take (length cs - 1) cs))
      → ¬ (i < j)
  not-before s cs i j u v comes end also again inside first less =
      let same = follows_unique M leads s cs v u again end in
      first (record {
        some = i;
        more = j;
        less = less;
        within = omega (arith, inside, length-take-le (length cs - 1) cs (omega arith));
        state = u;
        comes = rw (take-take i (length cs - 1) cs (omega (arith, less, inside))) comes;
        again = rw (take-take j (length cs - 1) cs (omega (arith, inside)))
            (subst (Follows M s (take j cs)) same also);
      })

  numbers_unique : (s : State) (cs : List ℕ) (t u : State) (i d j e : ℕ) → FirstMeeting M s cs t i d
      → FirstMeeting M s cs u j e → (i ≡ j) × (d ≡ e)
  numbers_unique s cs t u i d j e x y =
      let no_less = not-before s cs i j _ _ x.comes x.again y.comes y.again
      (omega (arith, y.moves, y.apart)) x.first in
      let no_more = not-before s cs j i _ _ y.comes y.again x.comes x.again
      (omega (arith, x.moves, x.apart)) y.first in
      let same : i ≡ j =
      by_less i j (λ less. absurd (no_less less))
      (λ least. by_less j i (λ less. absurd (no_more less)) (λ most. omega arith)) in
      (same, omega (arith, same, x.moves, y.moves))

  module _ (logs : OneNumber M) where
    -- the moves to a first meeting are no fewer than those to another: there that one would have come before
    not_fewer : (s : State) (cs ds : List ℕ) (t u : State) (i d j e : ℕ) → FirstMeeting M s cs t i d
        → FirstMeeting M s ds u j e → ¬ (length cs < length ds)
    not_fewer s cs ds t u i d j e x y less =
        let within : length cs ≤ length ds - 1 = omega (arith, less) in
        y.first (twice_longer M s cs (take (length ds - 1) ds)
        (follows_first M leads logs s cs ds t u x.again y.again (omega (arith, less))
        ∙ sym (take-take (length cs) (length ds - 1) ds within))
        (omega (arith, within, length-take-le (length ds - 1) ds (omega arith))) (meeting_twice x))

    pub meeting_unique : (s : State) (cs ds : List ℕ) (t u : State) (i d j e : ℕ) → FirstMeeting M s cs t i d
        → FirstMeeting M s ds u j e → (cs ≡ ds) × (t ≡ u) × (i ≡ j) × (d ≡ e)
    meeting_unique s cs ds t u i d j e x y =
        let long : length cs ≡ length ds =
        by_less (length cs) (length ds) (λ less. absurd (not_fewer s cs ds t u i d j e x y less))
        (λ least. by_less (length ds) (length cs) (λ less. absurd (not_fewer s ds cs u t j e i d y x less))
        (λ most. omega arith)) in
        let same = follows_first M leads logs s cs ds t u x.again y.again (omega (arith, long))
        ∙ take_all (length cs) ds (omega (arith, long)) in
        let also = subst (λ (l : List ℕ). FirstMeeting M s l u j e) (sym same) y in
        let numbers = numbers_unique s cs t u i d j e x also in
        (same, follows_unique M leads s cs t u x.again also.again, numbers.0, numbers.1)
