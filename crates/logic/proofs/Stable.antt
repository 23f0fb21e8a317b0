-- Answer sets as readings: the set T stands as the reading with 2 on T, and the readings of its subsets are those that `up` takes to it.
use mathlib.Core.Path.{◌≡◌, refl, sym, ap, ap₂, subst, ◌∙◌}
use mathlib.Core.Logic.{◌↔◌}
use mathlib.Core.Bool.{Bool, true, false, not, ◌||◌}
use mathlib.Core.List.{List, [], ◌∷◌, map}
use Prim.Native.Nat.{ℕ}
use lib.ListN.{length}
use borrow.Author.Tests.{not-true}
use Rattle.logic.specs.declared.Value.TheVariants.{Neither, There, Both}
use Rattle.logic.specs.Formula.{Formula, Reading, satisfies}
use Rattle.logic.specs.Atoms.{Atoms, inside, proper, mark, reading, here_of, there_of}
use Rattle.logic.specs.AnswerSet.{AnswerSet}
use Rattle.logic.proofs.Bools.{&&_split, &&_join, false_of, not_both}
use Rattle.logic.proofs.Values.{up}
use Rattle.logic.proofs.Sets.{inside_refl, inside_equal, length-reading, reading-pair, pair_inside, here_of-reading}

-- I has no 1 and satisfies, and of the readings that have 1 or 2 where I has 2, and 0 where I has 0, only I does.
pub record Stable (n : ℕ) (Γ : List Formula) (I : Reading) : Type 0 where
  pub sized : length I ≡ n
  pub total : map up I ≡ I
  pub satisfied : satisfies I Γ ≡ true
  pub minimal : (J : Reading) → map up J ≡ I → satisfies J Γ ≡ true → J ≡ I

up_mark : (h t : Bool) → (not h || t) ≡ true → up (mark h t) ≡ mark t t
up_mark true true p = refl
up_mark true false p = cc
up_mark false true p = refl
up_mark false false p = refl

-- There, the pair (H, T) is the pair (T, T).
pub up_reading : (H T : Atoms) → inside H T ≡ true → map up (reading H T) ≡ reading T T
up_reading [] [] p = refl
up_reading [] (t ∷ T) p = cc
up_reading (h ∷ H) [] p = cc
up_reading (h ∷ H) (t ∷ T) p =
    let q = &&_split (not h || t) (inside H T) p in
    ap₂ ◌∷◌ (up_mark h t q.0) (up_reading H T q.1)

there_of_up : (J : Reading) → there_of J ≡ here_of (map up J)
there_of_up [] = refl
there_of_up (Neither ∷ J) = ap (λ l. false ∷ l) (there_of_up J)
there_of_up (There ∷ J) = ap (λ l. true ∷ l) (there_of_up J)
there_of_up (Both ∷ J) = ap (λ l. true ∷ l) (there_of_up J)

-- A reading that `up` takes to (T, T) is (H, T) for a subset H of T.
module _ (T : Atoms) (J : Reading) (u : map up J ≡ reading T T) where
  there_of-below : there_of J ≡ T
  there_of-below = there_of_up J ∙ ap here_of u ∙ here_of-reading T T (inside_refl T)

  below-reading : reading (here_of J) T ≡ J
  below-reading = ap (reading (here_of J)) (sym there_of-below) ∙ reading-pair J

  below-inside : inside (here_of J) T ≡ true
  below-inside = subst (λ S. inside (here_of J) S ≡ true) there_of-below (pair_inside J)

module _ (n : ℕ) (Γ : List Formula) (T : Atoms) where
  only : AnswerSet n Γ T → (J : Reading) → map up J ≡ reading T T → satisfies J Γ ≡ true → J ≡ reading T T
  only s J u h = go (inside T (here_of J)) refl
    where
      go : (b : Bool) → inside T (here_of J) ≡ b → J ≡ reading T T
      go true e = sym (below-reading T J u) ∙ ap (λ H. reading H T) (inside_equal (here_of J) T (below-inside T J u) e)
      go false e = absurd (not_both (s.minimal (here_of J) (&&_join (below-inside T J u) (ap not e))) (ap (λ I. satisfies I Γ) (below-reading T J u) ∙ h))

  fails : Stable n Γ (reading T T) → (H : Atoms) → proper H T ≡ true → satisfies (reading H T) Γ ≡ false
  fails s H p = false_of _ (λ h.
      let q = &&_split (inside H T) (not (inside T H)) p in
      let e : H ≡ T = sym (here_of-reading H T q.0) ∙ ap here_of (s.minimal (reading H T) (up_reading H T q.0) h) ∙ here_of-reading T T (inside_refl T) in
      not_both (not-true _ q.1) (subst (λ S. inside T S ≡ true) (sym e) (inside_refl T)))

  pub stable_iff : AnswerSet n Γ T ↔ Stable n Γ (reading T T)
  stable_iff = (
    λ s. record { sized = length-reading T ∙ s.sized; total = up_reading T T (inside_refl T); satisfied = s.satisfied; minimal = only s },
    λ s. record { sized = sym (length-reading T) ∙ s.sized; satisfied = s.satisfied; minimal = fails s },
  )

-- A reading with no 1 is that of the set where it has 2.
pub total_reading : (I : Reading) → map up I ≡ I → reading (here_of I) (here_of I) ≡ I
total_reading I t = ap (reading (here_of I)) (ap here_of (sym t) ∙ sym (there_of_up I)) ∙ reading-pair I
