-- Answer sets are the equilibrium models, and the computed list has exactly the answer sets: the same two conditions, read at each set.
use mathlib.Core.Path.{◌≡◌, refl, sym, ap, subst, ◌∙◌}
use mathlib.Core.Logic.{◌↔◌, ⊎_elim}
use mathlib.Core.Bool.{Bool, true, false, not, ◌&&◌, cond}
use mathlib.Core.List.Memᴰ
use mathlib.Core.List.{List, [], ◌∷◌, Memᴰ}
use Prim.Native.Nat.{ℕ}
use lib.ListN.{length}
use borrow.Author.Tests.{not-true}
use Rattle.logic.specs.Formula.{Formula, satisfies}
use Rattle.logic.specs.Atoms.{Atoms, inside, proper, reading, all_sets}
use Rattle.logic.specs.HereAndThere.{Equilibrium}
use Rattle.logic.specs.AnswerSet.{AnswerSet, each, those, is_answer_set, answer_sets}
use Rattle.logic.proofs.Bools.{&&_split, &&_join, false_of, not_both}
use Rattle.logic.proofs.Sets.{inside_refl, all_sets-each, each-all_sets, length-inside}
use Rattle.logic.proofs.Worlds.{model_iff}

pub equilibrium_iff : (n : ℕ) (Γ : List Formula) (T : Atoms) → AnswerSet n Γ T ↔ Equilibrium n Γ T
equilibrium_iff n Γ T = (
  λ s. record {
    sized = s.sized;
    model = (model_iff T T Γ (inside_refl T)).0 s.satisfied;
    minimal = λ J p m. not_both (s.minimal J p) ((model_iff J T Γ m.within).1 m);
  },
  λ s. record {
    sized = s.sized;
    satisfied = (model_iff T T Γ (inside_refl T)).1 s.model;
    minimal = λ H p. false_of _ (λ h. s.minimal H p ((model_iff H T Γ (&&_split (inside H T) (not (inside T H)) p).0).0 h));
  },
)

-- The tests over lists of sets.

each_iff : (p : Atoms → Bool) (Hs : List Atoms) → (each p Hs ≡ true) ↔ ((H : Atoms) → Memᴰ H Hs → p H ≡ true)
each_iff p [] = (λ h H m. absurd (Memᴰ.not-nil m), λ h. refl)
each_iff p (G ∷ Hs) = (
  λ h H m. let q = &&_split (p G) (each p Hs) h in ⊎_elim (λ e. rw e q.0) ((each_iff p Hs).0 q.1 H) (Memᴰ.cases_cons m),
  λ h. &&_join (h G (Memᴰ.head refl)) ((each_iff p Hs).1 (λ H m. h H (Memᴰ.tail m))),
)

those_iff : (p : Atoms → Bool) (Ts : List Atoms) (T : Atoms) → Memᴰ T (those p Ts) ↔ (Memᴰ T Ts × (p T ≡ true))
those_iff p [] T = (λ m. absurd (Memᴰ.not-nil m), λ m. absurd (Memᴰ.not-nil m.0))
those_iff p (S ∷ Ts) T = go (p S) refl (those_iff p Ts T)
  where
    go : (b : Bool) → p S ≡ b → Memᴰ T (those p Ts) ↔ (Memᴰ T Ts × (p T ≡ true))
        → Memᴰ T (cond b (S ∷ those p Ts) (those p Ts)) ↔ (Memᴰ T (S ∷ Ts) × (p T ≡ true))
    go true e ih = (
      λ m. ⊎_elim (λ q. (Memᴰ.head q, ap p q ∙ e)) (λ t. (Memᴰ.tail (ih.0 t).0, (ih.0 t).1)) (Memᴰ.cases_cons m),
      λ m. ⊎_elim (λ q. Memᴰ.head q) (λ t. Memᴰ.tail (ih.1 (t, m.1))) (Memᴰ.cases_cons m.0),
    )
    go false e ih = (
      λ m. (Memᴰ.tail (ih.0 m).0, (ih.0 m).1),
      λ m. ⊎_elim (λ q. absurd (not_both e (sym (ap p q) ∙ m.1))) (λ t. ih.1 (t, m.1)) (Memᴰ.cases_cons m.0),
    )

pub is_answer_set_iff : (n : ℕ) (Γ : List Formula) (T : Atoms) → length T ≡ n → (is_answer_set n Γ T ≡ true) ↔ AnswerSet n Γ T
is_answer_set_iff n Γ T e =
    let smaller-fails : Atoms → Bool = λ H. not (proper H T && satisfies (reading H T) Γ) in
    let all = each_iff smaller-fails (all_sets n) in (
      λ h. let q = &&_split (satisfies (reading T T) Γ) (each smaller-fails (all_sets n)) h in
          record {
            sized = e;
            satisfied = q.0;
            minimal = λ H p. false_of _ (λ s. not_both (not-true _ (all.0 q.1 H (subst (λ k. Memᴰ H (all_sets k)) (length-inside H T (&&_split (inside H T) (not (inside T H)) p).0 ∙ e) (all_sets-each H)))) (&&_join p s));
          },
      λ s. &&_join s.satisfied (all.1 (λ H m. ap not (false_of _ (λ h. let q = &&_split (proper H T) (satisfies (reading H T) Γ) h in not_both (s.minimal H q.0) q.1)))),
    )

pub answer_sets_iff : (n : ℕ) (Γ : List Formula) (T : Atoms) → Memᴰ T (answer_sets n Γ) ↔ AnswerSet n Γ T
answer_sets_iff n Γ T =
    let listed = those_iff (is_answer_set n Γ) (all_sets n) T in (
      λ m. let q = listed.0 m in (is_answer_set_iff n Γ T (each-all_sets n T q.0)).0 q.1,
      λ s. listed.1 (subst (λ k. Memᴰ T (all_sets k)) s.sized (all_sets-each T), (is_answer_set_iff n Γ T s.sized).1 s),
    )
