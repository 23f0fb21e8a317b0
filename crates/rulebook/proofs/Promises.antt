-- What is promised, in document 01's order. Each statement uses only definitions of specs/, and each proof cites the law behind it.
use Rattle.std.specs.Prelude.{◌≡◌, ◌↔◌, ◌⊎◌, Bool, true, false, not, ◌&&◌, cond, ℕ, Result, suc, min, max, ◌+◌, ◌/◌, ◌%◌, ◌≤◌, ◌<◌, ltb, leb, eqb, length, get_or, take, drop}
use Rattle.std.proofs.Math.Path.{refl}
use Rattle.std.proofs.Common.{sym, ◌∙◌, arith}
use mathlib.Core.List.{List, ◌∷◌, ◌++◌, map, Memᴰ}
use Rattle.refusal.specs.declared.Answer.{Answer}
use Rattle.refusal.specs.declared.Refusal.{Refusal}
use Rattle.refusal.specs.Limits.{most_atoms, most_nodes, most_roots, most_pairs, most_b, most_rules}
use Rattle.refusal.specs.Table.{Row, accepted, yes, answer, none, unused, Exact}
use Rattle.refusal.specs.Refusal.{answer_of}
use Rattle.refusal.specs.First.{FirstAt}
use Rattle.refusal.specs.Rows.{wrong, row10, argument_rows, reading_rows}
use Rattle.refusal.proofs.Table.{answer-none, answer_exact, answer-unused, none_split}
use Rattle.wire.specs.Wire.{Bytes}
use Rattle.wire.specs.Outcome.{outcome, written}
use Rattle.wire.proofs.Outcome
use Rattle.refusal.proofs.First.{first_is}
use Rattle.refusal.proofs.Outcomes.{answer_of_one}
use Rattle.logic.specs.declared.Value.{Value}
use Rattle.logic.specs.declared.Value.TheVariants.{Both}
use Rattle.logic.specs.Value.{number, smaller, larger, negation, implication}
use Rattle.logic.specs.Formula.{Formula, Reading, reading_of, value_of, value, satisfies, AllOver}
use Rattle.logic.specs.Atoms.{Atoms, member, here_of, there_of}
use Rattle.logic.specs.HereAndThere.{here, there, truth, Equilibrium}
use Rattle.logic.specs.AnswerSet.{AnswerSet, is_answer_set, answer_sets}
use Rattle.logic.proofs.Values
use Rattle.logic.proofs.Worlds
use Rattle.logic.proofs.AnswerSets
use Rattle.theory.specs.declared.Kind.TheVariants.{Implies}
use Rattle.theory.specs.declared.Pair.{Pair}
use Rattle.theory.specs.Book.{Book, node_at, pair_fits, WellFormed, formula_at, node_formulas, pair_formula, book_formulas}
use Rattle.theory.specs.BenchCases.{BenchCase, bench_cases, atoms_from, sets_of, uses_of, use_cases}
use Rattle.theory.specs.Image.{atom_count, node_count, root_count, pair_count, node_section, root_section, pair_section, field_wrong, breaks, root_in, pair_in, book_of}
use Rattle.theory.specs.Used.{operands, used}
use Rattle.theory.specs.Rows.{row6, row7, row13, row15, header_rows, form_rows, theory_rows}
use Rattle.theory.proofs.Rows as Rows
use Rattle.theory.proofs.Rows.{numbered-theory_rows}
use Rattle.theory.proofs.Accepted
use Rattle.theory.proofs.PairLaws
use Rattle.theory.proofs.Used as Uses
use Rattle.theory.proofs.BenchCases as books
use Rattle.program.specs.Rule.{Rule, holds, rule_formula}
use Rattle.program.specs.Program.{Program, satisfies_program, program_formulas}
use Rattle.program.specs.Image.{size_of, rule_count, is_packed, total_of, rule_section, program_of, literal_total, image_length, image_of}
use Rattle.program.specs.Rows.{broken_at, row26, program_rows}
use Rattle.program.specs.Writable.{writable}
use Rattle.program.proofs.Rows.{numbered-program_rows}
use Rattle.program.proofs.Lengths.{length-image_of, length-rules_bytes}
use Rattle.program.proofs.Rules
use Rattle.program.proofs.Reading as ReadingBack
use Rattle.program.proofs.Writing
use Rattle.flat.specs.Table.{label_count}
use Rattle.flat.specs.Flat.{flat, largest_b, largest_k}
use Rattle.flat.specs.Extension.{extend as extension, Extends, first_label}
use Rattle.flat.specs.OneToOne.{OneToOne}
use Rattle.flat.proofs.Sizes
use Rattle.flat.proofs.Extensions
use Rattle.flat.proofs.Demand3
use Rattle.flat.proofs.BenchCases as programs
use Rattle.translation.specs.Outcome.{rule_total, translate_rows, extend_rows}
use Rattle.translation.proofs.Sections
use Rattle.translation.proofs.Writable
use Rattle.translation.proofs.Bytes
use Rattle.translation.proofs.Labels
use Rattle.stable.specs.Subset.{set_of}
use Rattle.stable.specs.Number.{number_of}
use Rattle.stable.specs.Listing.{sets_of as bookSets, sets_rows, listing, Ascending}
use Rattle.stable.proofs.Listings
use Rattle.rulebook.specs.Calls.{check_theory, ChecksTheory, evaluate_theory_rows, evaluate_theory, EvaluatesTheory, check_program, ChecksProgram}
use Rattle.rulebook.specs.Calls.{evaluate_program_rows, evaluate_program, EvaluatesProgram, translate_call_rows, translate, Translates}
use Rattle.rulebook.specs.Calls.{extend_call_rows, extend, ExtendsReading, test_theory_rows, test_theory, TestsTheory}
use Rattle.rulebook.specs.Calls.{test_program_rows, test_program, TestsProgram, list_sets_rows, list_sets, ListsSets}

-- Demand 1: no two outcomes meet a call's contract, and each row's number is given exactly where that row applies and no earlier one does.

outcome_unique : (a b : Result ℕ Refusal) → answer_of a ≡ answer_of b → a ≡ b
outcome_unique = answer_of_one

check_theory_unique : (t : List ℕ) (a b : Answer) → ChecksTheory t a → ChecksTheory t b → a ≡ b
check_theory_unique t a b d e = d ∙ sym e

check_theory_exact : (t : List ℕ) → Exact (theory_rows t) 1 (check_theory t)
check_theory_exact t = answer_exact (theory_rows t) 1 (numbered-theory_rows t)

evaluate_theory_unique : (t r : List ℕ) (a b : Answer) → EvaluatesTheory t r a → EvaluatesTheory t r b → a ≡ b
evaluate_theory_unique t r a b d e = d ∙ sym e

evaluate_theory_exact : (t r : List ℕ) → Exact (evaluate_theory_rows t r) (yes (satisfies (reading_of r) (book_formulas (book_of t)))) (evaluate_theory t r)
evaluate_theory_exact t r = unfold theory_rows form_rows header_rows argument_rows in answer_exact (evaluate_theory_rows t r) _ refl

check_program_unique : (p : List ℕ) (a b : Answer) → ChecksProgram p a → ChecksProgram p b → a ≡ b
check_program_unique p a b d e = d ∙ sym e

check_program_exact : (p : List ℕ) → Exact (program_rows p) 1 (check_program p)
check_program_exact p = answer_exact (program_rows p) 1 (numbered-program_rows p)

evaluate_program_unique : (p r : List ℕ) (a b : Answer) → EvaluatesProgram p r a → EvaluatesProgram p r b → a ≡ b
evaluate_program_unique p r a b d e = d ∙ sym e

evaluate_program_exact : (p r : List ℕ) → Exact (evaluate_program_rows p r) (yes (satisfies_program (reading_of r) (program_of p))) (evaluate_program p r)
evaluate_program_exact p r = unfold program_rows argument_rows in answer_exact (evaluate_program_rows p r) _ refl

translate_unique : (t : List ℕ) (packed : Bool) (o : List ℕ) (a b : Answer) (left right : List ℕ) → Translates t packed o a left → Translates t packed o b right → (a ≡ b) × (left ≡ right)
translate_unique t packed o a b left right d e = Outcome.outcome_both (d ∙ sym e)

translate_exact : (t : List ℕ) (packed : Bool) (o : List ℕ) → Exact (translate_call_rows t packed o) (rule_total t) (translate t packed o).answer
translate_exact t packed o = unfold theory_rows form_rows header_rows translate_rows in answer_exact (translate_call_rows t packed o) _ refl

extend_unique : (t r o : List ℕ) (a b : Answer) (left right : List ℕ) → ExtendsReading t r o a left → ExtendsReading t r o b right → (a ≡ b) × (left ≡ right)
extend_unique t r o a b left right d e = Outcome.outcome_both (d ∙ sym e)

extend_exact : (t r o : List ℕ) → Exact (extend_call_rows t r o) (flat (book_of t)).size (extend t r o).answer
extend_exact t r o = unfold theory_rows form_rows header_rows extend_rows argument_rows in answer_exact (extend_call_rows t r o) _ refl

test_theory_unique : (t c : List ℕ) (a b : Answer) → TestsTheory t c a → TestsTheory t c b → a ≡ b
test_theory_unique t c a b d e = d ∙ sym e

test_theory_exact : (t c : List ℕ) → Exact (test_theory_rows t c) (yes (is_answer_set (atom_count t) (book_formulas (book_of t)) (set_of c))) (test_theory t c)
test_theory_exact t c = unfold theory_rows form_rows header_rows argument_rows in answer_exact (test_theory_rows t c) _ refl

test_program_unique : (p c : List ℕ) (a b : Answer) → TestsProgram p c a → TestsProgram p c b → a ≡ b
test_program_unique p c a b d e = d ∙ sym e

test_program_exact : (p c : List ℕ) → Exact (test_program_rows p c) (yes (is_answer_set (size_of p) (program_formulas (program_of p)) (set_of c))) (test_program p c)
test_program_exact p c = unfold program_rows argument_rows in answer_exact (test_program_rows p c) _ refl

list_sets_unique : (t o : List ℕ) (a b : Answer) (left right : List ℕ) → ListsSets t o a left → ListsSets t o b right → (a ≡ b) × (left ≡ right)
list_sets_unique t o a b left right d e = Outcome.outcome_both (d ∙ sym e)

list_sets_exact : (t o : List ℕ) → Exact (list_sets_rows t o) (length (bookSets t)) (list_sets t o).answer
list_sets_exact t o = unfold theory_rows form_rows header_rows sets_rows in answer_exact (list_sets_rows t o) _ refl

-- A refusal leaves the output as it was; an acceptance writes the bytes and leaves those past them.

translate-refused : (t : List ℕ) (packed : Bool) (o : List ℕ) → ((translate t packed o).answer.number ≡ 0 → ⊥) → (translate t packed o).out ≡ o
translate-refused t packed o = Outcome.written-refused (translate_call_rows t packed o) (rule_total t) (image_of packed (flat (book_of t))) o

translate-accepted : (t : List ℕ) (packed : Bool) (o : List ℕ) → none (translate_call_rows t packed o) ≡ true → let p = image_of packed (flat (book_of t)) in
    (take (length p) (translate t packed o).out ≡ p) × (drop (length p) (translate t packed o).out ≡ drop (length p) o)
translate-accepted t packed o = Outcome.written-accepted (translate_call_rows t packed o) (image_of packed (flat (book_of t))) o

extend-refused : (t r o : List ℕ) → ((extend t r o).answer.number ≡ 0 → ⊥) → (extend t r o).out ≡ o
extend-refused t r o = Outcome.written-refused (extend_call_rows t r o) (flat (book_of t)).size (map number (extension (book_of t) (reading_of r))) o

extend-accepted : (t r o : List ℕ) → none (extend_call_rows t r o) ≡ true → let x = map number (extension (book_of t) (reading_of r)) in
    (take (length x) (extend t r o).out ≡ x) × (drop (length x) (extend t r o).out ≡ drop (length x) o)
extend-accepted t r o = Outcome.written-accepted (extend_call_rows t r o) (map number (extension (book_of t) (reading_of r))) o

list_sets-refused : (t o : List ℕ) → ((list_sets t o).answer.number ≡ 0 → ⊥) → (list_sets t o).out ≡ o
list_sets-refused t o = Outcome.written-refused (list_sets_rows t o) (length (bookSets t)) (listing t) o

list_sets-accepted : (t o : List ℕ) → none (list_sets_rows t o) ≡ true
    → (take (length (listing t)) (list_sets t o).out ≡ listing t) × (drop (length (listing t)) (list_sets t o).out ≡ drop (length (listing t)) o)
list_sets-accepted t o = Outcome.written-accepted (list_sets_rows t o) (listing t) o

-- The place of 6, divided by 8, is the first node that breaks its row; its remainder is the first of that node's four fields that is wrong.
row6-first : (t : List ℕ) → (row6 t).applies ≡ true → let node = (row6 t).place / 8 in
    FirstAt (breaks (atom_count t) (node_section t)) (node_count t) node × FirstAt (field_wrong (atom_count t) (node_section t) node) 4 ((row6 t).place % 8)
row6-first = Rows.row6-first

-- The place of 7 is the first such root, that of 15 the first such pair, that of 13 the first node that is not used, that of 10 the first such index; that of 26 is the first such rule,
-- and K where every rule is sound and bytes are left behind the last.

row7-first : (t : List ℕ) → (row7 t).applies ≡ true → FirstAt (λ i. not (ltb (root_in (root_section t) i) (node_count t))) (root_count t) (row7 t).place
row7-first t = first_is (λ i. not (ltb (root_in (root_section t) i) (node_count t))) (root_count t)

row15-first : (t : List ℕ) → (row15 t).applies ≡ true → FirstAt (λ i. not (pair_fits (atom_count t) (pair_in (pair_section t) i))) (pair_count t) (row15 t).place
row15-first t = first_is (λ i. not (pair_fits (atom_count t) (pair_in (pair_section t) i))) (pair_count t)

row13-first : (t : List ℕ) → (row13 t).applies ≡ true → FirstAt (λ k. not (used (book_of t) k)) (node_count t) (row13 t).place
row13-first t = first_is (λ k. not (used (book_of t) k)) (node_count t)

row26-first : (p : List ℕ) → (row26 p).applies ≡ true → FirstAt (broken_at (is_packed p) (size_of p) (rule_count p) (rule_section p)) (rule_count p + 1) (row26 p).place
row26-first p = first_is (broken_at (is_packed p) (size_of p) (rule_count p) (rule_section p)) (rule_count p + 1)

row10-first : (candidate : Bool) (r : List ℕ) → (row10 candidate r).applies ≡ true → FirstAt (λ i. wrong candidate (get_or r i 0)) (length r) (row10 candidate r).place
row10-first candidate r = first_is (λ i. wrong candidate (get_or r i 0)) (length r)

-- An accepted image is a well-formed book.
accepted-book : (t : List ℕ) → none (theory_rows t) ≡ true → WellFormed (book_of t)
accepted-book = Accepted.accepted_well_formed

-- Each of its nodes is used, which is to say that it is a root or an operand of a later node. Demand 3 over the definitions asks for neither: it is of every well-formed book.

accepted-used : (t : List ℕ) → none (theory_rows t) ≡ true → (k : ℕ) → k < node_count t → used (book_of t) k ≡ true
accepted-used = Accepted.accepted-used

used_iff : (b : Book) → WellFormed b → (k : ℕ)
    → (used b k ≡ true) ↔ (Memᴰ k b.roots ⊎ ((j : ℕ) × (k < j) × (j < length b.nodes) × Memᴰ k (operands (node_at b.nodes j))))
used_iff = Uses.used_iff

-- B of a book within the limits is at most 1,024 + 2 * 1,023, which one such book reaches, each of its nodes used; so B of an accepted image is within the program image's limit.

size_bound : (b : Book) → WellFormed b → b.atoms ≤ most_atoms → length b.nodes ≤ most_nodes → (flat b).size ≤ largest_b
size_bound = Sizes.size_bound

size_reached : (b : Book) × WellFormed b × ((k : ℕ) → k < length b.nodes → used b k ≡ true)
    × (b.atoms ≡ most_atoms) × (length b.nodes ≡ most_nodes) × ((flat b).size ≡ largest_b)
size_reached = Sizes.size_reached

accepted-size : (t : List ℕ) → none (theory_rows t) ≡ true → ((flat (book_of t)).size ≤ largest_b) × ((flat (book_of t)).size ≤ most_b)
accepted-size t ok = let h = Writable.accepted-size t ok in (h, omega arith)

-- K of a book within the limits is at most 6 * 1,023 + 256 + 128, that is 6,522, which one such book reaches, each of its nodes used; so K of an accepted image is within the program image's limit.

rules_bound : (b : Book) → WellFormed b → length b.nodes ≤ most_nodes → length b.roots ≤ most_roots → length b.pairs ≤ most_pairs
    → length (flat b).rules ≤ largest_k
rules_bound = Sizes.rules_bound

rules_reached : (b : Book) × WellFormed b × ((k : ℕ) → k < length b.nodes → used b k ≡ true)
    × (length b.nodes ≡ most_nodes) × (length b.roots ≡ most_roots) × (length b.pairs ≡ most_pairs) × (length (flat b).rules ≡ largest_k)
rules_reached = Sizes.rules_reached

accepted-rules : (t : List ℕ) → none (theory_rows t) ≡ true → (rule_total t ≤ largest_k) × (rule_total t ≤ most_rules)
accepted-rules t ok = let h = Sections.accepted_total t ok in (h, omega arith)

-- Refusal 14, for a B over its limit, is gone: no call's answer has the number, and a row that refuses only such a B, behind those of the theory, changes no outcome.

never_14 : (t p r c o : List ℕ) (packed : Bool)
    → ((check_theory t).number ≡ 14 → ⊥) × ((evaluate_theory t r).number ≡ 14 → ⊥) × ((translate t packed o).answer.number ≡ 14 → ⊥)
    × ((extend t r o).answer.number ≡ 14 → ⊥) × ((test_theory t c).number ≡ 14 → ⊥) × ((list_sets t o).answer.number ≡ 14 → ⊥)
    × ((check_program p).number ≡ 14 → ⊥) × ((evaluate_program p r).number ≡ 14 → ⊥) × ((test_program p c).number ≡ 14 → ⊥)
unfolding theory_rows form_rows header_rows program_rows argument_rows translate_rows extend_rows sets_rows
never_14 t p r c o packed =
    let never : (rows : List Row) (x : ℕ) → unused 14 rows ≡ true → (answer rows x).number ≡ 14 → ⊥ = λ rows x h. answer-unused 14 rows x h (λ e. omega arith) in (
      never (theory_rows t) _ refl,
      never (evaluate_theory_rows t r) _ refl,
      never (translate_call_rows t packed o) _ refl,
      never (extend_call_rows t r o) _ refl,
      never (test_theory_rows t c) _ refl,
      never (list_sets_rows t o) _ refl,
      never (program_rows p) _ refl,
      never (evaluate_program_rows p r) _ refl,
      never (test_program_rows p c) _ refl,
    )

module _ (t : List ℕ) (over : Row) (only : over.applies ≡ true → most_b < (flat (book_of t)).size) where
  translate_without : (packed : Bool) (o : List ℕ) → let rows = theory_rows t ++ over ∷ translate_rows packed t (length o) in
      outcome (answer rows (rule_total t)) (written rows (image_of packed (flat (book_of t))) o) ≡ translate t packed o
  translate_without packed o =
      Outcome.outcome_idle (theory_rows t) over (translate_rows packed t (length o)) (rule_total t) (image_of packed (flat (book_of t))) o (λ ok. Writable.over_idle t ok over only)

  extend_without : (r o : List ℕ) → let rows = theory_rows t ++ over ∷ extend_rows t r (length o) in
      outcome (answer rows (flat (book_of t)).size) (written rows (map number (extension (book_of t) (reading_of r))) o) ≡ extend t r o
  extend_without r o = Outcome.outcome_idle (theory_rows t) over (extend_rows t r (length o)) (flat (book_of t)).size (map number (extension (book_of t) (reading_of r))) o (λ ok. Writable.over_idle t ok over only)

-- Demand 2: the four operations by number, truth is here-and-there's, answer sets are the equilibrium models. A book here is one with its pairs, as everywhere below.

and_number : (x y : Value) → number (smaller x y) ≡ min (number x) (number y)
and_number = Values.smaller-number

or_number : (x y : Value) → number (larger x y) ≡ max (number x) (number y)
or_number = Values.larger-number

not_number : (x : Value) → number (negation x) ≡ cond (eqb (number x) 0) 2 0
not_number = Values.negation-number

implies_number : (x y : Value) → number (implication x y) ≡ cond (leb (number x) (number y)) 2 (number y)
implies_number = Values.implication-number

value_here : (I : Reading) (f : Formula) → (value I f ≡ Both) ↔ (truth (here_of I) (there_of I) here f ≡ true)
value_here = Worlds.value_here

value_there : (I : Reading) (f : Formula) → (1 ≤ number (value I f)) ↔ (truth (here_of I) (there_of I) there f ≡ true)
value_there = Worlds.value_there

equilibrium : (n : ℕ) (Γ : List Formula) (T : Atoms) → AnswerSet n Γ T ↔ Equilibrium n Γ T
equilibrium = AnswerSets.equilibrium_iff

-- A pair means not both: its formula has the value 2 exactly if the smaller of the two atoms' values is 0.
pair : (I : Reading) (p : Pair) → (value I (pair_formula p) ≡ Both) ↔ (min (number (value_of I p.first)) (number (value_of I p.second)) ≡ 0)
pair = PairLaws.pair_iff

-- So pairs strike out answer sets, and do nothing else: a book's are those of its roots' formulas that hold no two atoms of a pair.
paired : (b : Book) (T : Atoms) → AnswerSet b.atoms (book_formulas b) T
    ↔ (AnswerSet b.atoms (map (formula_at (node_formulas b)) b.roots) T × ((p : Pair) → Memᴰ p b.pairs → (member T p.first && member T p.second) ≡ false))
paired b = PairLaws.pairs_strike b.atoms (map (formula_at (node_formulas b)) b.roots) b.pairs

rule : (J : Reading) (r : Rule) → (holds (value_of J) r ≡ true) ↔ (value J (rule_formula r) ≡ Both)
rule = Rules.rule_iff

-- In either form: an image that was written is accepted, has that form and is as long as its rules and literals say; reading it gives the same A, B and rules; and writing what was read gives the same bytes.

written-accepted : (packed : Bool) (p : Program) → writable packed p ≡ true → none (program_rows (image_of packed p)) ≡ true
written-accepted = ReadingBack.image_of-accepted

written_form : (packed : Bool) (p : Program) → writable packed p ≡ true → is_packed (image_of packed p) ≡ packed
written_form = ReadingBack.is_packed-image_of

written-length : (packed : Bool) (p : Program) → length (image_of packed p) ≡ image_length packed (length p.rules) (literal_total p.rules)
written-length packed p = length-image_of packed p ∙ length-rules_bytes packed p.rules

read_written : (packed : Bool) (p : Program) → writable packed p ≡ true → program_of (image_of packed p) ≡ p
read_written = ReadingBack.program_of-image_of

written_read : (p : List ℕ) → Bytes p → none (program_rows p) ≡ true → image_of (is_packed p) (program_of p) ≡ p
written_read = Writing.image_of-program_of

-- A candidate test's result, and the listing: exactly the answer sets, ascending by number.

tested : (n : ℕ) (Γ : List Formula) (T : Atoms) → length T ≡ n → (is_answer_set n Γ T ≡ true) ↔ AnswerSet n Γ T
tested = AnswerSets.is_answer_set_iff

listed : (n : ℕ) (Γ : List Formula) (T : Atoms) → Memᴰ T (answer_sets n Γ) ↔ AnswerSet n Γ T
listed = AnswerSets.answer_sets_iff

ascending : (n : ℕ) (Γ : List Formula) → Ascending (map number_of (answer_sets n Γ))
ascending = Listings.answer_sets-ascending

-- Demand 3, over the definitions.

module _ (b : Book) (ok : WellFormed b) where
  satisfied : (I : Reading) → length I ≡ b.atoms
      → (satisfies I (book_formulas b) ≡ true) ↔ ((J : Reading) × Extends b I J × (satisfies_program J (flat b) ≡ true))
  satisfied = Demand3.satisfied_iff b ok

  only_one : (I J : Reading) → Extends b I J → satisfies_program J (flat b) ≡ true → J ≡ extension b I
  only_one = Demand3.extension_only b ok

  label_L : (I : Reading) → length I ≡ b.atoms → (k : ℕ) → k < length b.nodes → 0 < label_count (node_at b.nodes k).kind
      → value_of (extension b I) (first_label b k) ≡ value I (formula_at (node_formulas b) k)
  label_L = Extensions.label_L b ok

  label_M : (I : Reading) → length I ≡ b.atoms → (k : ℕ) → k < length b.nodes → (node_at b.nodes k).kind ≡ Implies
      → value_of (extension b I) (suc (first_label b k)) ≡ negation (value I (formula_at (node_formulas b) (node_at b.nodes k).right))
  label_M = Extensions.label_M b ok

  one_to_one : (Γ : List Formula) → AllOver b.atoms Γ
      → OneToOne b.atoms (flat b).size (book_formulas b ++ Γ) (program_formulas (flat b) ++ Γ)
  one_to_one = Demand3.one_to_one b ok

-- Demand 3 of the bytes, in either form. A translation that no row refuses leaves the program p at the start of its output, as long as its total length field says.

module _ (t : List ℕ) (packed : Bool) (o : List ℕ) (ok : none (translate_call_rows t packed o) ≡ true) where
  abbrev p : List ℕ
  p = let left = (translate t packed o).out in take (total_of left) left

  theory-accepted : none (theory_rows t) ≡ true
  theory-accepted = (none_split (theory_rows t) (translate_rows packed t (length o)) ok).0

  translate_wrote : p ≡ image_of packed (flat (book_of t))
  translate_wrote = Bytes.program_part t theory-accepted packed o _ (Outcome.written_over (translate_call_rows t packed o) (image_of packed (flat (book_of t))) o ok)

  translate-checked : check_program p ≡ accepted 1
  translate-checked = answer-none (program_rows p) 1 (Bytes.program_accepted t theory-accepted packed p translate_wrote)

  translate_read_back : program_of p ≡ flat (book_of t)
  translate_read_back = Bytes.program_read t theory-accepted packed p translate_wrote

  bytes_one_to_one : (Γ : List Formula) → AllOver (atom_count t) Γ
      → OneToOne (atom_count t) (size_of p) (book_formulas (book_of t) ++ Γ) (program_formulas (program_of p) ++ Γ)
  bytes_one_to_one = Bytes.bytes_one_to_one t theory-accepted packed p translate_wrote

  -- An extension that no row refuses leaves the reading x of atoms and labels, B bytes: the program answers on it what the theory answers on r,
  -- and it is the only one that goes on from r and satisfies the program.

  module _ (r e : List ℕ) (fits : none (extend_call_rows t r e) ≡ true) where
    abbrev x : List ℕ
    x = take (extend t r e).answer.result (extend t r e).out

    reading-accepted : none (reading_rows (atom_count t) r) ≡ true
    reading-accepted = Bytes.extend_rows-reading t r (length e) (none_split (theory_rows t) (extend_rows t r (length e)) fits).1

    extend_wrote : x ≡ map number (extension (book_of t) (reading_of r))
    extend_wrote = Outcome.written_part (extend_call_rows t r e) _ e (Labels.length_extension t r theory-accepted reading-accepted) fits

    bytes_satisfied : evaluate_program p x ≡ evaluate_theory t r
    bytes_satisfied = Bytes.bytes_evaluated t theory-accepted packed p translate_wrote r reading-accepted x extend_wrote

    bytes_only_one : (j : List ℕ) → evaluate_program p j ≡ accepted 1 → take (atom_count t) j ≡ r → j ≡ x
    bytes_only_one = Bytes.bytes_only_one t theory-accepted packed p translate_wrote r reading-accepted x extend_wrote

-- The two forms of one book are read as the same program.
forms_alike : (t o w : List ℕ) (fixed : none (translate_call_rows t false o) ≡ true) (packed : none (translate_call_rows t true w) ≡ true)
    → program_of (p t false o fixed) ≡ program_of (p t true w packed)
forms_alike t o w fixed packed = translate_read_back t false o fixed ∙ sym (translate_read_back t true w packed)

-- P1 to P9, and three books with a pair: one table, one claim; and the same of their flat programs, labels dropped.

cases : map (λ c. sets_of c.theory) bench_cases ≡ map (λ c. c.sets) bench_cases
cases = books.bench_cases-sets

program_cases : (c : BenchCase) → Memᴰ c bench_cases → (s : List ℕ)
    → Memᴰ s c.sets
    ↔ ((U : Atoms) × AnswerSet (flat c.theory).size (program_formulas (flat c.theory)) U × (atoms_from 0 (take c.theory.atoms U) ≡ s))
program_cases = programs.bench_cases_programs

-- Which nodes are used, of books that leave some out.
uses : map (λ c. uses_of c.theory) use_cases ≡ map (λ c. c.uses) use_cases
uses = books.use_cases-used
