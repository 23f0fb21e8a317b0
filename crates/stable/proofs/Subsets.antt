-- The proper subsets of T are those with a number below the full one, by induction on T: each atom of T takes one bit. Assumes nothing.
use mathlib.Core.Path.{◌≡◌, refl, sym, ap, ap₂, subst, ◌∙◌}
use mathlib.Core.Logic.{◌↔◌}
use mathlib.Core.Bool.{true, false, not, cond, ◌||◌, false≢true, or-true, or-false}
use mathlib.Core.List.{List, [], ◌∷◌}
use Prim.Native.Nat.{ℕ, suc, ◌+◌, ◌-◌, ◌*◌, ◌/◌, ◌%◌, ◌^◌, ◌<◌}
use native.Mathlib.Nat.{pow-succ'}
use native.Mathlib.Omega.{arith}
use lib.ListN.{length}
use lib.Pow.{pow_pos}
use borrow.Author.Tests.{eqb-true, eq-eqb, not-true}
use Rattle.logic.specs.Formula.{Formula, satisfies}
use Rattle.logic.specs.Atoms.{Atoms, inside, proper, reading}
use Rattle.logic.specs.AnswerSet.{is_answer_set}
use Rattle.logic.proofs.Bools.{&&_split, &&_join, false_of, not_both}
use Rattle.logic.proofs.Sets.{inside_refl}
use Rattle.logic.proofs.AnswerSets.{is_answer_set_iff}
use Rattle.stable.specs.Subset.{odd, subset}
use Rattle.stable.proofs.Digits.{digit_lt, odd_digit, half_digit}

-- How many atoms the set has.
unfoldable pub size : Atoms → ℕ
size [] = 0
size (true ∷ T) = suc (size T)
size (false ∷ T) = size T

-- Every number gives a subset.
pub subset-inside : (T : Atoms) (m : ℕ) → inside (subset T m) T ≡ true
unfolding subset
subset-inside [] m = refl
subset-inside (true ∷ T) m = &&_join (or-true (not (odd m))) (subset-inside T (m / 2))
subset-inside (false ∷ T) m = subset-inside T m

-- Only the full number gives all of T.
only_full : (T : Atoms) (m : ℕ) → m < 2 ^ size T → inside T (subset T m) ≡ true → m + 1 ≡ 2 ^ size T
unfolding subset size
only_full [] m h p = omega arith
only_full (true ∷ T) m h p =
    let q = &&_split (odd m) (inside T (subset T (m / 2))) p in
    let twice : 2 ^ size (true ∷ T) ≡ 2 * 2 ^ size T = pow-succ' 2 (size T) in
    omega (arith, eqb-true (m % 2) 1 q.0, only_full T (m / 2) (omega arith) q.1)
only_full (false ∷ T) m h p = only_full T m h p

pub subset-proper : (T : Atoms) (m : ℕ) → m < 2 ^ size T - 1 → proper (subset T m) T ≡ true
subset-proper T m h = &&_join (subset-inside T m) (ap not (false_of _ (λ (p : inside T (subset T m) ≡ true). omega (arith, only_full T m (omega arith) p))))

-- The full number gives T itself.
pub subset_full : (T : Atoms) → subset T (2 ^ size T - 1) ≡ T
unfolding subset size
subset_full [] = refl
subset_full (true ∷ T) =
    let last : (2 ^ size (true ∷ T) - 1) % 2 ≡ 1 = omega (arith, pow_pos (size T), pow-succ' 2 (size T)) in
    let rest : (2 ^ size (true ∷ T) - 1) / 2 ≡ 2 ^ size T - 1 = omega (arith, pow_pos (size T), pow-succ' 2 (size T)) in
    ap₂ ◌∷◌ (eq-eqb _ 1 last) (rw rest (subset_full T))
subset_full (false ∷ T) = ap (λ l. false ∷ l) (subset_full T)

-- Every subset of T has a number.
subset-each : (H T : Atoms) → inside H T ≡ true → (m : ℕ) × (m < 2 ^ size T) × (subset T m ≡ H)
unfolding subset size
subset-each [] [] p = (0, omega arith, refl)
subset-each [] (t ∷ T) p = absurd (false≢true p)
subset-each (h ∷ H) [] p = absurd (false≢true p)
subset-each (h ∷ H) (true ∷ T) p =
    let r = subset-each H T (&&_split (not h || true) (inside H T) p).1 in (
      cond h 1 0 + 2 * r.0,
      omega (arith, digit_lt h, r.1, pow-succ' 2 (size T)),
      ap₂ ◌∷◌ (odd_digit h r.0) (rw (half_digit h r.0) r.2),
    )
subset-each (h ∷ H) (false ∷ T) p =
    let q = &&_split (not h || false) (inside H T) p in
    let r = subset-each H T q.1 in
    (r.0, r.1, ap₂ ◌∷◌ (sym (not-true h (rw or-false at q.0))) r.2)

-- Every proper subset of T has a number below the full one.
pub proper-subset : (H T : Atoms) → proper H T ≡ true → (m : ℕ) × (m < 2 ^ size T - 1) × (subset T m ≡ H)
proper-subset H T p =
    let q = &&_split (inside H T) (not (inside T H)) p in
    let r = subset-each H T q.0 in
    let full : r.0 ≡ 2 ^ size T - 1 → ⊥ = λ e. not_both (not-true _ q.1) (subst (λ S. inside T S ≡ true) (sym (subset_full T) ∙ ap (subset T) (sym e) ∙ r.2) (inside_refl T)) in
    (r.0, omega (arith, r.1, full), r.2)

-- T is an answer set exactly if it satisfies and no subset with a number below the full one does.
pub is_answer_set_subsets : (n : ℕ) (Γ : List Formula) (T : Atoms) → length T ≡ n
    → (is_answer_set n Γ T ≡ true) ↔ ((satisfies (reading T T) Γ ≡ true) × ((m : ℕ) → m < 2 ^ size T - 1 → satisfies (reading (subset T m) T) Γ ≡ false))
is_answer_set_subsets n Γ T e = (
  λ h. let s = (is_answer_set_iff n Γ T e).0 h in (s.satisfied, λ m l. s.minimal (subset T m) (subset-proper T m l)),
  λ h. (is_answer_set_iff n Γ T e).1 (record {
    sized = e;
    satisfied = h.0;
    minimal = λ H p. let s = proper-subset H T p in rw s.2 at (h.1 s.0 s.1);
  }),
)
