-- Answer sets, and a computed list of them.
use Rattle.std.specs.Prelude.{◌≡◌, Bool, true, false, not, ◌&&◌, cond, List, [], ◌∷◌, ℕ, length}
use Rattle.logic.specs.Formula.{Formula, satisfies}
use Rattle.logic.specs.Atoms.{Atoms, proper, reading, all_sets}

-- T, a set of atoms below n, is an answer set of Γ: the reading with 2 on T and 0 elsewhere satisfies,
-- and for every proper subset H of T the one with 2 on H, 1 on the rest of T and 0 elsewhere does not.
pub record AnswerSet (n : ℕ) (Γ : List Formula) (T : Atoms) : Type 0 where
  pub sized : length T ≡ n
  pub satisfied : satisfies (reading T T) Γ ≡ true
  pub minimal : (H : Atoms) → proper H T ≡ true → satisfies (reading H T) Γ ≡ false

-- Each set of the list passes the test.
abbrev pub each : (Atoms → Bool) → List Atoms → Bool
each p [] = true
each p (H ∷ Hs) = p H && each p Hs

-- The sets of the list that pass the test, in the list's order.
abbrev pub those : (Atoms → Bool) → List Atoms → List Atoms
those p [] = []
those p (T ∷ Ts) = cond (p T) (T ∷ those p Ts) (those p Ts)

-- The same by a test of every set of atoms below n.
abbrev pub is_answer_set : ℕ → List Formula → Atoms → Bool
is_answer_set n Γ T = satisfies (reading T T) Γ && each (λ H. not (proper H T && satisfies (reading H T) Γ)) (all_sets n)

-- The answer sets of Γ among the sets of atoms below n, ascending where atom i weighs 2 to the i.
abbrev pub answer_sets : ℕ → List Formula → List Atoms
answer_sets n Γ = those (is_answer_set n Γ) (all_sets n)
