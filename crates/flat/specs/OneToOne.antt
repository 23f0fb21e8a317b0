-- When the answer sets of a program match those of a book one to one by dropping labels.
use Rattle.std.specs.Prelude.{◌≡◌, List, ℕ, take}
use Rattle.logic.specs.Formula.{Formula}
use Rattle.logic.specs.Atoms.{Atoms}
use Rattle.logic.specs.AnswerSet.{AnswerSet}

-- Γ is over A atoms and Δ over B, the A first and then the labels. An answer set of Δ without its labels is one of Γ;
-- each one of Γ comes about so, and from one alone.
pub record OneToOne (A B : ℕ) (Γ Δ : List Formula) : Type 0 where
  pub drops : (U : Atoms) → AnswerSet B Δ U → AnswerSet A Γ (take A U)
  pub reaches : (T : Atoms) → AnswerSet A Γ T → (U : Atoms) × AnswerSet B Δ U × (take A U ≡ T)
  pub alone : (U W : Atoms) → AnswerSet B Δ U → AnswerSet B Δ W → take A U ≡ take A W → U ≡ W
