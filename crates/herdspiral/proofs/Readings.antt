-- Reads into a buffer, one behind the other: what the reader gave stands in its first bytes.
use Rattle.std.proofs.Common.{ℕ, ◌≡◌, ◌+◌, List, ◌++◌, take, drop, sym, ap, subst, ◌∙◌, append_assoc, take-add}
use Rattle.std.specs.declared.option.Option.{Option}
use Rattle.std.specs.Prelude.{None, Some}
use Rattle.std.specs.Io.KnownBytes.{Consumes}

consumes-append : (old mid new : Option (List ℕ)) (xs ys : List ℕ) → Consumes old mid xs → Consumes mid new ys
    → Consumes old new (xs ++ ys)
consumes-append None mid new xs ys a b = tt
consumes-append (Some o) None new xs ys a b = absurd a
consumes-append (Some o) (Some m) None xs ys a b = absurd b
consumes-append (Some o) (Some m) (Some n) xs ys a b =
    a ∙ ap (λ (zs : List ℕ). xs ++ zs) b ∙ sym (append_assoc xs ys n)

-- a read into the rest of the buffer, which keeps what was read before
pub more_read : (old mid new : Option (List ℕ)) (at more : ℕ) (before after : List ℕ)
    → Consumes old mid (take at before) → take at after ≡ take at before
    → Consumes mid new (take more (drop at after)) → Consumes old new (take (at + more) after)
more_read old mid new at more before after so kept next =
    subst (λ (xs : List ℕ). Consumes old new xs) (sym (take-add at more after))
    (consumes-append old mid new (take at after) (take more (drop at after))
    (subst (λ (xs : List ℕ). Consumes old mid xs) (sym kept) so) next)
