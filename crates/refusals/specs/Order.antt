-- The order in which a call refuses: since request A10 it is 15, 14, 18, 13, 20, 11, 19, 7, 12, 16, those that apply.
-- Rule book: "A number is given exactly when its line holds and none before it in the order does." Each call is defined
-- by its lines in that order.
--     Order                 a call's lines, each a test that must hold and the number for no where it does not
--     first_no ls           what stands against a call of the lines ls: the first of them whose test fails, by its
--                           number at place 0, or nothing
--     answering o r go      what a call answers against which o stands: what r makes of that refusal, or `go` where it
--                           is nothing
--     against o             what stands against a call that came to o: its refusal, or nothing
--     AsksLine t e r        promise: `unless` of a line of the test t, with e said where it does not hold, answers r;
--                           where it is refused, `?` ends the call there, so the first line whose test fails speaks
use Rattle.std.specs.Prelude.{ℕ, ◌≡◌, Bool, cond, Result, List, [], ◌∷◌}
use Rattle.refusals.specs.Outcomes.{Outcome, given, refused}

abbrev pub Order : Type 0
Order = List (Bool × ℕ)

unfoldable pub first_no : Order → Outcome (Unit {0})
first_no [] = given tt
first_no ((t, n) ∷ ls) = cond t (first_no ls) (refused n 0)

abbrev pub answering : {A : Type 0} → Outcome (Unit {0}) → (ℕ → ℕ → A) → (Unit {0} → A) → A
answering (given u) refuse go = go u
answering (refused n p) refuse go = refuse n p

abbrev pub against : {A : Type 0} → Outcome A → Outcome (Unit {0})
against (given a) = given tt
against (refused n p) = refused n p

abbrev pub AsksLine : {E : Type 0} → Bool → E → Result Unit E → Type 0
AsksLine t e r = r ≡ cond t (Result.Ok tt) (Result.Err e)
