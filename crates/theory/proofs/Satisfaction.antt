-- Laws of satisfaction by the nodes' values: each root's byte is the value of its formula, so that the roots' bytes and the pairs tell whether a reading satisfies the book. Assumes nothing.
use Rattle.std.proofs.Common.{◌≡◌, refl, sym, ap, ap₂, ◌∙◌, Bool, not, ◌&&◌, List, [], ◌∷◌, ◌++◌, map, add-one, ℕ, zero, suc, ◌+◌, ◌≤◌, ◌<◌, add-zero, zero-add, arith, eqb, length, get_or, drop}
use Rattle.std.specs.List.{list_all, range_with_len}
use Rattle.std.proofs.lemmas.List.FromFn.{map-range_with_len_more}
use lib.Dec.{eqb-suc-suc, eqb-zero-suc}
use lib.ListN.{length-map, get_or-append, get_or-map}
use Rattle.refusal.specs.First.{first}
use Rattle.refusal.proofs.First.{first_le, first_equal}
use Rattle.refusal.proofs.Table.{cases}
use Rattle.logic.specs.declared.Value.{Value}
use Rattle.logic.specs.declared.Value.TheVariants.{Neither, There, Both}
use Rattle.logic.specs.Value.{number, true_here}
use Rattle.logic.specs.Formula.{Formula, falsum, Reading, value, satisfies}
use Rattle.logic.proofs.Formulas.{satisfies-append}
use Rattle.wire.specs.Wire.{over}
use Rattle.wire.specs.Sequence.{up_to}
use Rattle.wire.proofs.Sequence.{length-up_to, map-up_to}
use Rattle.theory.specs.Book.{formula_at, node_formulas, pair_formula, book_formulas}
use Rattle.theory.specs.Image.{node_count, root_count, pair_count, node_section, root_section, pair_section, node_in, root_in, pair_in, book_of}
use Rattle.theory.specs.NodeValues.{node_values}
use Rattle.theory.proofs.Books.{length-formulas}
use Rattle.theory.proofs.Accepted.{Formed}

-- The byte 2 is that of the value that is true here.
eqb_number : (v : Value) → eqb (number v) 2 ≡ true_here v
eqb_number Neither = refl
eqb_number There = refl
eqb_number Both = refl

-- The first items of a sequence are those at the first numbers.
up_to-range : {S : Type 0} (f : ℕ → S) (n : ℕ) → up_to f n ≡ map f (range_with_len 0 n)
unfolding up_to
up_to-range f zero = refl
up_to-range f (suc n) =
    ap (λ l. l ++ (f n ∷ [])) (up_to-range f n) ∙ sym (map-range_with_len_more f 0 n n (zero-add n)) ∙ ap (λ m. map f (range_with_len 0 m)) (add-one n)

-- Formulas are satisfied exactly if each is true here.
satisfies-all : (I : Reading) (g : ℕ → Formula) (xs : List ℕ) → satisfies I (map g xs) ≡ list_all (λ x. true_here (value I (g x))) xs
satisfies-all I g [] = refl
satisfies-all I g (x ∷ xs) = ap (λ b. true_here (value I (g x)) && b) (satisfies-all I g xs)

satisfies-up_to : {S : Type 0} (I : Reading) (g : S → Formula) (f : ℕ → S) (n : ℕ)
    → satisfies I (map g (up_to f n)) ≡ list_all (λ i. true_here (value I (g (f i)))) (range_with_len 0 n)
satisfies-up_to I g f n = rw (map-up_to g f n, up_to-range (λ i. g (f i)) n) (satisfies-all I (λ i. g (f i)) (range_with_len 0 n))

-- Tests that agree at the first numbers hold of all of them alike.
all_equal : (test other : ℕ → Bool) (a n : ℕ) → ((i : ℕ) → i < a + n → test i ≡ other i) → list_all test (range_with_len a n) ≡ list_all other (range_with_len a n)
all_equal test other a zero h = refl
all_equal test other a (suc n) h = ap₂ ◌&&◌ (h a (omega arith)) (all_equal test other (a + 1) n (λ i l. h i (omega arith)))

-- The byte of a node, among the bytes written, is the value of its formula.
number_at : (I : Reading) (fs : List Formula) (old : List ℕ) (k : ℕ) → k < length fs
    → get_or (over (map number (map (value I) fs)) old) k 0 ≡ number (value I (formula_at fs k))
number_at I fs old k h =
    let vs : List Value = map (value I) fs in
    get_or-append (map number vs) (drop (length (map number vs)) old) 0 k (rw (length-map vs number, length-map fs (value I)) h)
    ∙ get_or-map number vs k Neither
    ∙ ap number (get_or-map (value I) fs k falsum)

-- A test of the roots' bytes, among the values written over `old`, says whether a reading satisfies what the roots of an accepted image assert,
roots_tested : (t old : List ℕ) (I : Reading) → Formed t
    → list_all (λ i. eqb (get_or (over (map number (node_values (book_of t) I)) old) (root_in (root_section t) i) 0) 2) (range_with_len 0 (root_count t))
    ≡ satisfies I (map (formula_at (node_formulas (book_of t))) (book_of t).roots)
unfolding book_of
roots_tested t old I a =
    let fs : List Formula = node_formulas (book_of t) in
    let long : length fs ≡ node_count t = omega (arith, length-formulas [] (book_of t).nodes, length-up_to (node_in (node_section t)) (node_count t)) in
    all_equal _ _ 0 (root_count t) (λ i l.
    let root : ℕ = root_in (root_section t) i in
    ap (λ b. eqb b 2) (number_at I fs old root (omega (arith, a.roots-below i (omega arith)))) ∙ eqb_number (value I (formula_at fs root)))
    ∙ sym (satisfies-up_to I (formula_at fs) (root_in (root_section t)) (root_count t))

-- one of the pairs, whether it satisfies what they assert,
pairs_tested : (t : List ℕ) (I : Reading)
    → list_all (λ i. true_here (value I (pair_formula (pair_in (pair_section t) i)))) (range_with_len 0 (pair_count t)) ≡ satisfies I (map pair_formula (book_of t).pairs)
unfolding book_of
pairs_tested t I = sym (satisfies-up_to I pair_formula (pair_in (pair_section t)) (pair_count t))

-- and both, whether it satisfies the book.
pub satisfies-each : (t old : List ℕ) (I : Reading) → Formed t
    → (list_all (λ i. eqb (get_or (over (map number (node_values (book_of t) I)) old) (root_in (root_section t) i) 0) 2) (range_with_len 0 (root_count t))
    && list_all (λ i. true_here (value I (pair_formula (pair_in (pair_section t) i)))) (range_with_len 0 (pair_count t)))
    ≡ satisfies I (book_formulas (book_of t))
satisfies-each t old I a =
    ap₂ ◌&&◌ (roots_tested t old I a) (pairs_tested t I)
    ∙ sym (satisfies-append I (map (formula_at (node_formulas (book_of t))) (book_of t).roots) (map pair_formula (book_of t).pairs))

-- The same by the first root whose byte, among the values written over `old`, is not 2,
abbrev pub untrue_root : (t old : List ℕ) → Reading → ℕ
untrue_root t old I = first (λ i. not (eqb (get_or (over (map number (node_values (book_of t) I)) old) (root_in (root_section t) i) 0) 2)) (root_count t)

pub untrue_root_le : (t old : List ℕ) (I : Reading) → untrue_root t old I ≤ root_count t
untrue_root_le t old I = first_le _ (root_count t)

-- and the first pair whose formula is not 2:
abbrev pub untrue_pair : (t : List ℕ) → Reading → ℕ
untrue_pair t I = first (λ i. not (true_here (value I (pair_formula (pair_in (pair_section t) i))))) (pair_count t)

-- a scan for the first that fails says whether all pass,
scanned : (test : ℕ → Bool) (a n : ℕ) → eqb (first (λ i. not (test (a + i))) n) n ≡ list_all test (range_with_len a n)
unfolding first
scanned test a zero = refl
scanned test a (suc n) = cases (test a)
    (λ t. rw (add-zero, t) (eqb-suc-suc _ n ∙ ap (λ m. eqb m n) (first_equal (λ i. not (test (a + suc i))) (λ i. not (test (a + 1 + i))) n (λ i l. ap (λ j. not (test j)) (omega arith))) ∙ scanned test (a + 1) n))
    (λ t. rw (add-zero, t) (eqb-zero-suc n))

scanned-all : (test : ℕ → Bool) (n : ℕ) → eqb (first (λ i. not (test i)) n) n ≡ list_all test (range_with_len 0 n)
scanned-all test n = ap (λ m. eqb m n) (first_equal (λ i. not (test i)) (λ i. not (test (0 + i))) n (λ i l. ap (λ j. not (test j)) (sym (zero-add i)))) ∙ scanned test 0 n

-- so a reading satisfies the book where there is neither.
pub satisfies-book : (t old : List ℕ) (I : Reading) → Formed t
    → (eqb (untrue_root t old I) (root_count t) && eqb (untrue_pair t I) (pair_count t)) ≡ satisfies I (book_formulas (book_of t))
satisfies-book t old I a = ap₂ ◌&&◌ (scanned-all _ (root_count t)) (scanned-all _ (pair_count t)) ∙ satisfies-each t old I a
