-- Demand 3: what satisfies the flat program is the extension of what satisfies the book, so the answer sets match, whatever formulas over the book's atoms stand beside.
use mathlib.Core.Path.{◌≡◌, refl, sym, ◌∙◌, ap, ap₂, subst}
use mathlib.Core.Logic.{◌↔◌}
use mathlib.Core.Bool.{true, ◌&&◌, and_assoc}
use mathlib.Core.List.{List, [], ◌∷◌, ◌++◌, map}
use Prim.Native.Nat.{ℕ, zero, suc, ◌<◌}
use native.Mathlib.Omega.{arith}
use lib.ListN.{length, take, drop, length-map, take-append-drop}
use lib.Seq.{drop_at, get_or-take, length-take-le}
use Rattle.logic.specs.declared.Value.TheVariants.{Neither}
use Rattle.logic.specs.Value.{true_here}
use Rattle.logic.specs.Formula.{Formula, Reading, value_of, value, satisfies, AllOver}
use Rattle.logic.specs.Atoms.{Atoms, reading, here_of}
use Rattle.logic.specs.AnswerSet.{AnswerSet}
use Rattle.logic.proofs.Bools.{&&_split, &&_join, iff_equal}
use Rattle.logic.proofs.Lists.{take-map}
use Rattle.logic.proofs.Values.{up}
use Rattle.logic.proofs.Formulas.{satisfies-append, satisfies-extended}
use Rattle.logic.proofs.Sets.{inside_refl, here_of-reading, length-reading}
use Rattle.logic.proofs.Stable.{Stable, stable_iff, total_reading}
use Rattle.theory.specs.Book.{Book, WellFormed, formula_at, node_formulas, pair_formula, book_formulas}
use Rattle.program.specs.Program.{satisfies_program, program_formulas}
use Rattle.program.proofs.Rules.{program_value, all_hold-append}
use Rattle.flat.specs.Flat.{rules_from, pair_rule, flat}
use Rattle.flat.specs.Extension.{book_labels, extend, Extends}
use Rattle.flat.specs.OneToOne.{OneToOne}
use Rattle.flat.proofs.Rules.{agree, rules-say, pairs-say}
use Rattle.flat.proofs.Extensions.{agree_iff, extend_up, length-labels, length-extend, take-extend}

take-reading : (n : ℕ) (T : Atoms) → take n (reading T T) ≡ reading (take n T) (take n T)
take-reading zero T = refl
take-reading (suc n) [] = refl
take-reading (suc n) (t ∷ T) = ap₂ ◌∷◌ refl (take-reading n T)

-- The set of a reading (T, T) is T.
set-reading : (T : Atoms) → here_of (reading T T) ≡ T
set-reading T = here_of-reading T T (inside_refl T)

module _ (b : Book) (ok : WellFormed b) where
  -- What satisfies the program is the extension of what satisfies the book.
  program_iff : (J : Reading) → length J ≡ (flat b).size
      → (satisfies_program J (flat b) ≡ true) ↔ ((J ≡ extend b (take b.atoms J)) × (satisfies (take b.atoms J) (book_formulas b) ≡ true))
  program_iff J e =
      let A = b.atoms in
      let I = take A J in
      let vs = map (value I) (book_labels b) in
      let low : (a : ℕ) → a < A → value_of J a ≡ value_of I a = λ a h. sym (get_or-take A J a Neither h) in
      let roots = map (formula_at (node_formulas b)) b.roots in
      let pairs = map pair_formula b.pairs in
      let say : satisfies_program J (flat b) ≡ (agree J A vs && satisfies I (book_formulas b))
      = all_hold-append (value_of J) (rules_from b.roots [] A b.nodes) (map pair_rule b.pairs)
      ∙ ap₂ ◌&&◌ (rules-say A I J low b.roots [] [] refl 0 A b.nodes ok.nodes_fit) (pairs-say A I J low b.pairs ok.pairs_all_fit)
      ∙ and_assoc (agree J A vs) (satisfies I roots) (satisfies I pairs)
      ∙ ap (λ q. agree J A vs && q) (sym (satisfies-append I roots pairs)) in
      let labelled = agree_iff J A vs (omega (arith, length-labels b I)) in (
        λ h. let q = &&_split (agree J A vs) (satisfies I (book_formulas b)) (sym say ∙ h) in
            (sym (take-append-drop A J) ∙ ap (λ l. I ++ l) (labelled.0 q.0), q.1),
        λ h. say ∙ &&_join (labelled.1 (ap (drop A) h.0 ∙ drop_at I vs A (length-take-le A J (omega arith)))) h.1,
      )

  -- A reading satisfies the book exactly if its extension satisfies the program,
  pub extension_satisfies : (I : Reading) → length I ≡ b.atoms → (satisfies_program (extend b I) (flat b) ≡ true) ↔ (satisfies I (book_formulas b) ≡ true)
  extension_satisfies I e =
      let p = program_iff (extend b I) (length-extend b I e) in
      let t = take-extend b I e in
      (λ h. rw t at (p.0 h).1, λ h. p.1 (rw t, rw t h))

  -- and no other extension does.
  pub extension_only : (I J : Reading) → Extends b I J → satisfies_program J (flat b) ≡ true → J ≡ extend b I
  extension_only I J x h = ((program_iff J x.sized).0 h).0 ∙ ap (extend b) x.same_atoms

  pub satisfied_iff : (I : Reading) → length I ≡ b.atoms
      → (satisfies I (book_formulas b) ≡ true) ↔ ((J : Reading) × Extends b I J × (satisfies_program J (flat b) ≡ true))
  satisfied_iff I e = (
    λ h. (extend b I, record { sized = length-extend b I e; same_atoms = take-extend b I e }, (extension_satisfies I e).1 h),
    λ x. rw x.1.same_atoms at ((program_iff x.0 x.1.sized).0 x.2).1,
  )

  -- Beside further formulas over the book's atoms.
  module _ (Γ : List Formula) (over : AllOver b.atoms Γ) where
    both_satisfied : (I : Reading) → length I ≡ b.atoms
        → satisfies (extend b I) (program_formulas (flat b) ++ Γ) ≡ satisfies I (book_formulas b ++ Γ)
    both_satisfied I e = satisfies-append (extend b I) (program_formulas (flat b)) Γ
        ∙ ap₂ ◌&&◌ (program_value (extend b I) (flat b) ∙ iff_equal _ _ (extension_satisfies I e)) (satisfies-extended I (map (value I) (book_labels b)) Γ (rw e over))
        ∙ sym (satisfies-append I (book_formulas b) Γ)

    is_extension : (J : Reading) → length J ≡ (flat b).size → satisfies J (program_formulas (flat b) ++ Γ) ≡ true → J ≡ extend b (take b.atoms J)
    is_extension J e h =
        let q = &&_split (satisfies J (program_formulas (flat b))) (satisfies J Γ) (sym (satisfies-append J (program_formulas (flat b)) Γ) ∙ h) in
        ((program_iff J e).0 (sym (program_value J (flat b)) ∙ q.0)).0

    stable_extend : (I : Reading) → Stable b.atoms (book_formulas b ++ Γ) I → Stable (flat b).size (program_formulas (flat b) ++ Γ) (extend b I)
    stable_extend I s = record {
      sized = length-extend b I s.sized;
      total = extend_up b I ∙ ap (extend b) s.total;
      satisfied = both_satisfied I s.sized ∙ s.satisfied;
      minimal = λ J u h.
          let K = take b.atoms J in
          let e : length J ≡ (flat b).size = sym (length-map J up) ∙ ap length u ∙ length-extend b I s.sized in
          let x : J ≡ extend b K = is_extension J e h in
          let k : satisfies K (book_formulas b ++ Γ) ≡ true
          = sym (both_satisfied K (length-take-le b.atoms J (omega arith))) ∙ subst (λ j. satisfies j (program_formulas (flat b) ++ Γ) ≡ true) x h in
          let t : map up K ≡ I = sym (take-map up b.atoms J) ∙ ap (take b.atoms) u ∙ take-extend b I s.sized in
          x ∙ ap (extend b) (s.minimal K t k);
    }

    stable_drop : (I : Reading) → length I ≡ b.atoms
        → Stable (flat b).size (program_formulas (flat b) ++ Γ) (extend b I) → Stable b.atoms (book_formulas b ++ Γ) I
    stable_drop I e s = record {
      sized = e;
      total = sym (ap (map up) (take-extend b I e)) ∙ sym (take-map up b.atoms (extend b I)) ∙ ap (take b.atoms) s.total ∙ take-extend b I e;
      satisfied = sym (both_satisfied I e) ∙ s.satisfied;
      minimal = λ K u h.
          let k : length K ≡ b.atoms = sym (length-map K up) ∙ ap length u ∙ e in
          let q : extend b K ≡ extend b I = s.minimal (extend b K) (extend_up b K ∙ ap (extend b) u) (both_satisfied K k ∙ h) in
          sym (take-extend b K k) ∙ ap (take b.atoms) q ∙ take-extend b I e;
    }

    -- An answer set of the program is the extension of what it is without its labels.
    set_extends : (U : Atoms) → AnswerSet (flat b).size (program_formulas (flat b) ++ Γ) U
        → reading U U ≡ extend b (reading (take b.atoms U) (take b.atoms U))
    set_extends U s =
        is_extension (reading U U) (length-reading U ∙ s.sized) s.satisfied ∙ ap (extend b) (take-reading b.atoms U)

    drops-labels : (U : Atoms) → AnswerSet (flat b).size (program_formulas (flat b) ++ Γ) U → AnswerSet b.atoms (book_formulas b ++ Γ) (take b.atoms U)
    drops-labels U s =
        let T = take b.atoms U in
        let e : length (reading T T) ≡ b.atoms = length-reading T ∙ length-take-le b.atoms U (omega (arith, s.sized)) in
        (stable_iff b.atoms (book_formulas b ++ Γ) T).1 (stable_drop (reading T T) e
        (subst (Stable (flat b).size (program_formulas (flat b) ++ Γ)) (set_extends U s) ((stable_iff (flat b).size (program_formulas (flat b) ++ Γ) U).0 s)))

    reaches-set : (T : Atoms) → AnswerSet b.atoms (book_formulas b ++ Γ) T
        → (U : Atoms) × AnswerSet (flat b).size (program_formulas (flat b) ++ Γ) U × (take b.atoms U ≡ T)
    reaches-set T s =
        let I = reading T T in
        let st = stable_extend I ((stable_iff b.atoms (book_formulas b ++ Γ) T).0 s) in
        let U = here_of (extend b I) in (
          U,
          (stable_iff (flat b).size (program_formulas (flat b) ++ Γ) U).1
              (subst (Stable (flat b).size (program_formulas (flat b) ++ Γ)) (sym (total_reading (extend b I) st.total)) st),
          take-map true_here b.atoms (extend b I) ∙ ap here_of (take-extend b I (length-reading T ∙ s.sized)) ∙ set-reading T,
        )

    pub one_to_one : OneToOne b.atoms (flat b).size (book_formulas b ++ Γ) (program_formulas (flat b) ++ Γ)
    one_to_one = record {
      drops = drops-labels;
      reaches = reaches-set;
      alone = λ U W s t e.
          sym (set-reading U) ∙ ap here_of (set_extends U s ∙ ap (λ T. extend b (reading T T)) e ∙ sym (set_extends W t)) ∙ set-reading W;
    }
