-- The bench cases P1 to P9, and three with a pair: each book beside its answer sets. And books with nodes that are not used.
use Rattle.std.specs.Prelude.{Bool, true, false, cond, List, [], ◌∷◌, map, ℕ, suc, length}
use Rattle.logic.specs.Atoms.{Atoms}
use Rattle.logic.specs.AnswerSet.{answer_sets}
use Rattle.wire.specs.Sequence.{up_to}
use Rattle.theory.specs.declared.Kind.{Kind}
use Rattle.theory.specs.declared.Kind.TheVariants.{False, Atom, Not, And, Or, Implies}
use Rattle.theory.specs.declared.Node.{Node}
use Rattle.theory.specs.Book.{Book, book_formulas}
use Rattle.theory.specs.Used.{used}

-- The atoms of a set, ascending, the first of the list being atom k.
abbrev pub atoms_from : (k : ℕ) → Atoms → List ℕ
atoms_from k [] = []
atoms_from k (t ∷ T) = let rest = atoms_from (suc k) T in cond t (k ∷ rest) rest

-- The answer sets of a book, each by its atoms.
abbrev pub sets_of : Book → List (List ℕ)
sets_of b = map (atoms_from 0) (answer_sets b.atoms (book_formulas b))

abbrev node : Kind → ℕ → ℕ → Node
node k l r = record { kind = k; left = l; right = r }

abbrev book : ℕ → List Node → List ℕ → Book
book A ns rs = record { atoms = A; nodes = ns; roots = rs; pairs = [] }

-- A book over p and q beside which q is the strong negation of p.
abbrev paired : List Node → List ℕ → Book
paired ns rs = record { atoms = 2; nodes = ns; roots = rs; pairs = record { first = 0; second = 1 } ∷ [] }

abbrev p : Node
p = node Atom 0 0

abbrev q : Node
q = node Atom 1 0

abbrev r : Node
r = node Atom 2 0

-- A bench case: a book, and the answer sets that it is to have.
pub record BenchCase : Type 0 where
  pub theory : Book
  pub sets : List (List ℕ)

abbrev case : Book → List (List ℕ) → BenchCase
case b s = record { theory = b; sets = s }

abbrev pub bench_cases : List BenchCase
bench_cases =
    -- P1: p or not p
    case (book 1 (p ∷ node Not 0 0 ∷ node Or 0 1 ∷ []) (2 ∷ [])) ([] ∷ (0 ∷ []) ∷ []) ∷
    -- P2: not not p
    case (book 1 (p ∷ node Not 0 0 ∷ node Not 1 0 ∷ []) (2 ∷ [])) [] ∷
    -- P3: p or q
    case (book 2 (p ∷ q ∷ node Or 0 1 ∷ []) (2 ∷ [])) ((0 ∷ []) ∷ (1 ∷ []) ∷ []) ∷
    -- P4: (r implies q) implies p
    case (book 3 (p ∷ q ∷ r ∷ node Implies 2 1 ∷ node Implies 3 0 ∷ []) (4 ∷ [])) ((0 ∷ []) ∷ []) ∷
    -- P5: p implies false
    case (book 1 (p ∷ node False 0 0 ∷ node Implies 0 1 ∷ []) (2 ∷ [])) ([] ∷ []) ∷
    -- P6: no atoms, the root false
    case (book 0 (node False 0 0 ∷ []) (0 ∷ [])) [] ∷
    -- P7: no nodes, no roots
    case (book 1 [] []) ([] ∷ []) ∷
    -- P8: p or q; not q implies p; not p implies q
    case
    (book 2 (p ∷ q ∷ node Or 0 1 ∷ node Not 1 0 ∷ node Implies 3 0 ∷ node Not 0 0 ∷ node Implies 5 1 ∷ []) (2 ∷ 4 ∷ 6 ∷ []))
    ((0 ∷ []) ∷ (1 ∷ []) ∷ []) ∷
    -- P9: p or q; q implies p; p implies q
    case (book 2 (p ∷ q ∷ node Or 0 1 ∷ node Implies 1 0 ∷ node Implies 0 1 ∷ []) (2 ∷ 3 ∷ 4 ∷ [])) ((0 ∷ 1 ∷ []) ∷ []) ∷
    -- the pair alone
    case (paired [] []) ([] ∷ []) ∷
    -- P9 with the pair
    case (paired (p ∷ q ∷ node Or 0 1 ∷ node Implies 1 0 ∷ node Implies 0 1 ∷ []) (2 ∷ 3 ∷ 4 ∷ [])) [] ∷
    -- p or not p; q or not q; with the pair
    case
    (paired (p ∷ q ∷ node Not 0 0 ∷ node Or 0 2 ∷ node Not 1 0 ∷ node Or 1 4 ∷ []) (3 ∷ 5 ∷ []))
    ([] ∷ (0 ∷ []) ∷ (1 ∷ []) ∷ []) ∷
    []

-- Of each node of a book, whether it is used.
abbrev pub uses_of : Book → List Bool
uses_of b = up_to (used b) (length b.nodes)

-- A book, and which of its nodes are to be used.
pub record UseCase : Type 0 where
  pub theory : Book
  pub uses : List Bool

abbrev use_case : List Node → List ℕ → List Bool → UseCase
use_case ns rs u = record { theory = book 2 ns rs; uses = u }

abbrev pub use_cases : List UseCase
use_cases =
    -- the first is not: an atom's left, 0, is no use of node 0
    use_case (p ∷ p ∷ []) (1 ∷ []) (false ∷ true ∷ []) ∷
    -- nor is the right of not, which is 0
    use_case (p ∷ q ∷ node Not 1 0 ∷ []) (2 ∷ []) (false ∷ true ∷ true ∷ []) ∷
    -- one in the middle is not, and what it alone uses is
    use_case (p ∷ node Not 0 0 ∷ q ∷ []) (2 ∷ []) (true ∷ false ∷ true ∷ []) ∷
    -- the last is not
    use_case (p ∷ q ∷ node And 0 1 ∷ []) (0 ∷ []) (true ∷ true ∷ false ∷ []) ∷
    -- none is
    use_case (p ∷ q ∷ []) [] (false ∷ false ∷ []) ∷
    -- each is: as a left, as a right, as a root
    use_case (p ∷ q ∷ node Implies 0 1 ∷ []) (2 ∷ []) (true ∷ true ∷ true ∷ []) ∷
    []
