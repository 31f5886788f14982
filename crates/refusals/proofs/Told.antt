-- Answers and what is told of them: each can be had from the other. So no two answers are told alike, and whatever can
-- be told is told of one: the front page's `OneAnswer` goes by this, for every crate's answers.
use mathlib.Core.Path.{◌≡◌, refl, sym, ap, ◌∙◌}
use mathlib.Core.List.{List, [], ◌∷◌, map}

pub record Told {A B : Type 0} (told : A → B) : Type 0 where
  pub untold : B → A
  pub back : (x : A) → untold (told x) ≡ x
  pub onto : (y : B) → told (untold y) ≡ y

pub told_injective : {A B : Type 0} (told : A → B) → Told told → (x y : A) → told x ≡ told y → x ≡ y
told_injective told both x y e = sym (both.back x) ∙ ap both.untold e ∙ both.back y

-- answers one after the other
pub list-told : {A B : Type 0} (told : A → B) → Told told → Told (map told)
list-told {A} {B} told both = record { untold = map both.untold; back = back; onto = onto }
  where
    back : (l : List A) → map both.untold (map told l) ≡ l
    back [] = refl
    back (x ∷ l) = λ i. both.back x i ∷ back l i

    onto : (l : List B) → map told (map both.untold l) ≡ l
    onto [] = refl
    onto (y ∷ l) = λ i. both.onto y i ∷ onto l i
