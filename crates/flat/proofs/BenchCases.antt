-- The flat programs of the bench cases have the answer sets of the one table once their labels are dropped: demand 3 carries the books' claim over. And one program, rule by rule, computed from the definition.
use mathlib.Core.Path.{◌≡◌, refl, ◌∙◌, ap, subst}
use mathlib.Core.Logic.{◌↔◌}
use mathlib.Core.List.Memᴰ
use mathlib.Core.List.{List, [], ◌∷◌, append-nil, Memᴰ}
use Prim.Native.Nat.{ℕ}
use lib.ListN.{take}
use Rattle.logic.specs.Atoms.{Atoms}
use Rattle.logic.specs.AnswerSet.{AnswerSet, answer_sets}
use Rattle.logic.proofs.AnswerSets.{answer_sets_iff}
use Rattle.theory.specs.declared.Kind.{Kind}
use Rattle.theory.specs.declared.Kind.TheVariants.{Atom, Or}
use Rattle.theory.specs.declared.Node.{Node}
use Rattle.theory.specs.Book.{Book, WellFormed, book_formulas}
use Rattle.theory.specs.BenchCases.{BenchCase, bench_cases, atoms_from, sets_of}
use Rattle.theory.proofs.BenchCases.{case-sets, case_well_formed}
use Rattle.program.specs.Rule.{Rule}
use Rattle.program.specs.Program.{program_formulas}
use Rattle.flat.specs.Flat.{flat}
use Rattle.flat.specs.OneToOne.{OneToOne}
use Rattle.flat.proofs.Demand3.{one_to_one}

-- A set of atoms is among those of the book exactly if an answer set of its flat program has it behind its labels.
program_sets : (b : Book) → WellFormed b → (s : List ℕ)
    → Memᴰ s (sets_of b) ↔ ((U : Atoms) × AnswerSet (flat b).size (program_formulas (flat b)) U × (atoms_from 0 (take b.atoms U) ≡ s))
program_sets b ok s =
    let matched : OneToOne b.atoms (flat b).size (book_formulas b) (program_formulas (flat b))
    = rw (append-nil (book_formulas b), append-nil (program_formulas (flat b))) at (one_to_one b ok [] tt) in (
      λ m. let r = Memᴰ.of_map (atoms_from 0) (answer_sets b.atoms (book_formulas b)) m in
          let u = matched.reaches r.0 ((answer_sets_iff b.atoms (book_formulas b) r.0).0 r.1) in
          (u.0, u.1, ap (atoms_from 0) u.2 ∙ r.2),
      λ u. subst (λ l. Memᴰ l (sets_of b)) u.2
          (Memᴰ.map (atoms_from 0) ((answer_sets_iff b.atoms (book_formulas b) (take b.atoms u.0)).1 (matched.drops u.0 u.1))),
    )

pub bench_cases_programs : (c : BenchCase) → Memᴰ c bench_cases → (s : List ℕ)
    → Memᴰ s c.sets
    ↔ ((U : Atoms) × AnswerSet (flat c.theory).size (program_formulas (flat c.theory)) U × (atoms_from 0 (take c.theory.atoms U) ≡ s))
bench_cases_programs c m s = rw (← case-sets c m) (program_sets c.theory (case_well_formed c m) s)

-- P3 with the pair p, q: the rules of its nodes, then the root's fact, then the pair's rule.
abbrev paired_p3 : Book
paired_p3 =
    let node : Kind → ℕ → ℕ → Node = λ k l r. record { kind = k; left = l; right = r } in
    record {
      atoms = 2;
      nodes = node Atom 0 0 ∷ node Atom 1 0 ∷ node Or 0 1 ∷ [];
      roots = 2 ∷ [];
      pairs = record { first = 0; second = 1 } ∷ [];
    }

abbrev rule : (heads positives negatives : List ℕ) → Rule
rule h p n = record { heads = h; positives = p; negatives = n }

pub rules_in_order : (flat paired_p3).rules
    ≡ rule (2 ∷ []) (0 ∷ []) [] ∷ rule (2 ∷ []) (1 ∷ []) [] ∷ rule (0 ∷ 1 ∷ []) (2 ∷ []) [] ∷ rule (2 ∷ []) [] [] ∷ rule [] (0 ∷ 1 ∷ []) [] ∷ []
rules_in_order = refl
