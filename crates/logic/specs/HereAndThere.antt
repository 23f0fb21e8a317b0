-- The logic of here-and-there as document 000, section 2.2, defines it: the truth value of a formula at a world, HT-models, equilibrium models.
use Rattle.std.specs.Prelude.{◌≡◌, Bool, true, false, not, ◌&&◌, ◌||◌, ℕ, length}
use mathlib.Core.List.{List, Memᴰ}
use Rattle.logic.specs.Formula.{Formula, falsum, verum, atom, neg, conj, disj, impl}
use Rattle.logic.specs.Atoms.{Atoms, member, inside, proper}

-- The two worlds.
pub data World : Type 0 where
  here there : World

-- The order of the worlds: here before there, each before itself.
abbrev pub before : World → World → Bool
before here u = true
before there here = false
before there there = true

-- The test passes at every world u that w is before.
abbrev pub every_from : World → (World → Bool) → Bool
every_from w p = (not (before w here) || p here) && (not (before w there) || p there)

-- In the pair of H and T:
module _ (H T : Atoms) where
  -- The atoms verified at a world, H here and T there.
  abbrev pub verified : World → Atoms
  verified here = H
  verified there = T

  -- The truth value of a formula at a world, by the seven clauses.
  abbrev pub truth : World → Formula → Bool
  truth w verum = true
  truth w falsum = false
  truth w (atom a) = member (verified w) a
  truth w (neg f) = every_from w (λ u. not (truth u f))
  truth w (conj f g) = truth w f && truth w g
  truth w (disj f g) = truth w f || truth w g
  truth w (impl f g) = every_from w (λ u. not (truth u f) || truth u g)

-- The pair of H and T is an HT-interpretation, and each formula of Γ is true in it here.
pub record Model (H T : Atoms) (Γ : List Formula) : Type 0 where
  pub within : inside H T ≡ true
  pub true_here_lem : (f : Formula) → Memᴰ f Γ → truth H T here f ≡ true

-- T, a set of atoms below n, is an equilibrium model of Γ by the two conditions.
pub record Equilibrium (n : ℕ) (Γ : List Formula) (T : Atoms) : Type 0 where
  pub sized : length T ≡ n
  pub model : Model T T Γ
  pub minimal : (J : Atoms) → proper J T ≡ true → Model J T Γ → ⊥
