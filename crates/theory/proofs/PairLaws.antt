-- Laws of a book's pairs: their atoms are the book's, what a pair means by the values of its two atoms, and which answer sets pairs strike out. By induction on the pairs, and by cases on the value.
use mathlib.Core.Path.{◌≡◌, refl, sym, ap, ap₂, ◌∙◌}
use mathlib.Core.Logic.{◌↔◌, ⊎_elim}
use mathlib.Core.Bool.{true, false, not, ◌&&◌, beq}
use mathlib.Core.List.Memᴰ
use mathlib.Core.List.{List, [], ◌∷◌, ◌++◌, map, Memᴰ}
use Prim.Native.Nat.{ℕ, zero, suc, min, ◌<◌}
use native.Mathlib.Omega.{arith}
use lib.Dec.{ltb}
use lib.ListN.{get_or-map}
use borrow.Author.Tests.{ltb-true, not-true}
use Rattle.logic.specs.declared.Value.{Value}
use Rattle.logic.specs.declared.Value.TheVariants.{Neither, There, Both}
use Rattle.logic.specs.Value.{number, smaller, negation, true_here, true_there}
use Rattle.logic.specs.Formula.{Formula, atom, conj, Reading, value_of, value, satisfies}
use Rattle.logic.specs.Atoms.{Atoms, member, reading}
use Rattle.logic.specs.AnswerSet.{AnswerSet}
use Rattle.logic.proofs.Bools.{beq_sound, &&_split, &&_join}
use Rattle.logic.proofs.Finite.{agree₂}
use Rattle.logic.proofs.Values.{smaller-number, up}
use Rattle.logic.proofs.Formulas.{satisfies-append, value_up}
use Rattle.logic.proofs.Sets.{inside_refl, there_of-reading}
use Rattle.logic.proofs.Stable.{Stable, stable_iff}
use Rattle.wire.specs.Sequence.{up_to}
use Rattle.theory.specs.declared.Pair.{Pair}
use Rattle.theory.specs.Book.{pair_fits, pairs_fit, pair_formula}

-- The two atoms of a pair that fits are the book's.
pub pair-below : (A : ℕ) (p : Pair) → pair_fits A p ≡ true → (p.first < A) × (p.second < A)
pair-below A p h =
    let both = &&_split (ltb p.first p.second) (ltb p.second A) h in
    let first = ltb-true p.first p.second both.0 in
    let second = ltb-true p.second A both.1 in
    (omega arith, second)

pairs_fit_more : (A : ℕ) (ps : List Pair) (p : Pair) → pairs_fit A ps ≡ true → pair_fits A p ≡ true → pairs_fit A (ps ++ (p ∷ [])) ≡ true
pairs_fit_more A [] p h f = &&_join f refl
pairs_fit_more A (q ∷ ps) p h f = let both = &&_split (pair_fits A q) (pairs_fit A ps) h in &&_join both.0 (pairs_fit_more A ps p both.1 f)

-- The first pairs of a sequence fit where each does.
pub pairs_fit-up_to : (A : ℕ) (f : ℕ → Pair) (n : ℕ) → ((i : ℕ) → i < n → pair_fits A (f i) ≡ true) → pairs_fit A (up_to f n) ≡ true
unfolding up_to
pairs_fit-up_to A f zero h = refl
pairs_fit-up_to A f (suc n) h = pairs_fit_more A (up_to f n) (f n) (pairs_fit-up_to A f n (λ i l. h i (omega arith))) (h n (omega arith))

-- Not is 2 exactly at 0: as a test,
pub negation_test : (v : Value) → not (true_here (negation v)) ≡ ltb 0 (number v)
negation_test Neither = refl
negation_test There = refl
negation_test Both = refl

-- and as a law.
negation_iff : (v : Value) → (negation v ≡ Both) ↔ (number v ≡ 0)
negation_iff Neither = (λ h. refl, λ h. refl)
negation_iff There = (λ h. cc, λ h. cc)
negation_iff Both = (λ h. cc, λ h. cc)

-- A pair's formula is 2 exactly if the smaller of its two values is 0.
pub pair_iff : (I : Reading) (p : Pair) → (value I (pair_formula p) ≡ Both) ↔ (min (number (value_of I p.first)) (number (value_of I p.second)) ≡ 0)
pair_iff I p = rw (← smaller-number (value_of I p.first) (value_of I p.second)) (negation_iff (value I (conj (atom p.first) (atom p.second))))

-- Which sets hold both atoms of a pair.

both_test : (x y : Value) → true_here (negation (smaller x y)) ≡ not (true_there x && true_there y)
both_test = agree₂ beq beq_sound (λ x y. true_here (negation (smaller x y))) (λ x y. not (true_there x && true_there y)) refl

value-member : (T : Atoms) (a : ℕ) → true_there (value_of (reading T T) a) ≡ member T a
value-member T a = sym (get_or-map true_there (reading T T) a Neither) ∙ ap (λ S. member S a) (there_of-reading T T (inside_refl T))

pair_test : (T : Atoms) (p : Pair) → true_here (value (reading T T) (pair_formula p)) ≡ not (member T p.first && member T p.second)
pair_test T p = rw (← value-member T p.first, ← value-member T p.second) (both_test (value_of (reading T T) p.first) (value_of (reading T T) p.second))

-- A set satisfies the pairs exactly if it holds no two atoms of one.
pairs_iff : (T : Atoms) (ps : List Pair)
    → (satisfies (reading T T) (map pair_formula ps) ≡ true) ↔ ((p : Pair) → Memᴰ p ps → (member T p.first && member T p.second) ≡ false)
pairs_iff T [] = (λ h p m. absurd (Memᴰ.not-nil m), λ h. refl)
pairs_iff T (q ∷ ps) = (
  λ h p m. let s = &&_split (true_here (value (reading T T) (pair_formula q))) (satisfies (reading T T) (map pair_formula ps)) h in
      ⊎_elim (λ e. rw e (not-true _ (sym (pair_test T q) ∙ s.0))) ((pairs_iff T ps).0 s.1 p) (Memᴰ.cases_cons m),
  λ h. &&_join (pair_test T q ∙ ap not (h q (Memᴰ.head refl))) ((pairs_iff T ps).1 (λ p m. h p (Memᴰ.tail m))),
)

-- Pairs ask only what is true there,
negation_there : (v : Value) → true_here (negation v) ≡ true_here (negation (up v))
negation_there Neither = refl
negation_there There = refl
negation_there Both = refl

pairs_there : (J : Reading) (ps : List Pair) → satisfies J (map pair_formula ps) ≡ satisfies (map up J) (map pair_formula ps)
pairs_there J [] = refl
pairs_there J (p ∷ ps) =
    let both : Formula = conj (atom p.first) (atom p.second) in
    ap₂ ◌&&◌ (negation_there (value J both) ∙ ap (λ v. true_here (negation v)) (value_up J both)) (pairs_there J ps)

-- so beside other formulas they strike out the answer sets that do not satisfy them, and no other.
module _ (n : ℕ) (Γ : List Formula) (ps : List Pair) where
  stable_pairs : (I : Reading) → Stable n (Γ ++ map pair_formula ps) I ↔ (Stable n Γ I × (satisfies I (map pair_formula ps) ≡ true))
  stable_pairs I = (
    λ s. let q = &&_split (satisfies I Γ) (satisfies I (map pair_formula ps)) (sym (satisfies-append I Γ (map pair_formula ps)) ∙ s.satisfied) in (
      record {
        sized = s.sized;
        total = s.total;
        satisfied = q.0;
        minimal = λ J u h. s.minimal J u (satisfies-append J Γ (map pair_formula ps) ∙ &&_join h (pairs_there J ps ∙ ap (λ K. satisfies K (map pair_formula ps)) u ∙ q.1));
      },
      q.1,
    ),
    λ s. record {
      sized = s.0.sized;
      total = s.0.total;
      satisfied = satisfies-append I Γ (map pair_formula ps) ∙ &&_join s.0.satisfied s.1;
      minimal = λ J u h. s.0.minimal J u (&&_split (satisfies J Γ) (satisfies J (map pair_formula ps)) (sym (satisfies-append J Γ (map pair_formula ps)) ∙ h)).0;
    },
  )

  pub pairs_strike : (T : Atoms)
      → AnswerSet n (Γ ++ map pair_formula ps) T ↔ (AnswerSet n Γ T × ((p : Pair) → Memᴰ p ps → (member T p.first && member T p.second) ≡ false))
  pairs_strike T = (
    λ s. let q = (stable_pairs (reading T T)).0 ((stable_iff n (Γ ++ map pair_formula ps) T).0 s) in ((stable_iff n Γ T).1 q.0, (pairs_iff T ps).0 q.1),
    λ s. (stable_iff n (Γ ++ map pair_formula ps) T).1 ((stable_pairs (reading T T)).1 ((stable_iff n Γ T).0 s.0, (pairs_iff T ps).1 s.1)),
  )
