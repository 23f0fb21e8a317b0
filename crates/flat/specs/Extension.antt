-- What the labels stand for, and the extension of a reading to them.
use Rattle.std.specs.Prelude.{◌≡◌, List, [], ◌∷◌, ◌++◌, map, ℕ, ◌+◌, length, take}
use Rattle.logic.specs.Formula.{Formula, neg, Reading, value}
use Rattle.theory.specs.declared.Kind.{Kind}
use Rattle.theory.specs.declared.Kind.TheVariants.{False, True, Atom, Not, And, Or, Implies}
use Rattle.theory.specs.declared.Node.{Node}
use Rattle.theory.specs.Book.{Book, formula_at, formula}
use Rattle.flat.specs.Flat.{label_total, flat}

-- J is an extension of I, a reading of the book's atoms, to the labels.
pub record Extends (b : Book) (I J : Reading) : Type 0 where
  pub sized : length J ≡ (flat b).size
  pub same_atoms : take b.atoms J ≡ I

-- The first label of node k, its L; M is the next.
abbrev pub first_label : Book → (k : ℕ) → ℕ
first_label b k = b.atoms + label_total (take k b.nodes)

-- What the labels of a kind stand for, where the node has the formula f and its right side g: L for f, M for the negation of g.
abbrev pub meanings : Kind → (f g : Formula) → List Formula
meanings False f g = []
meanings True f g = []
meanings Atom f g = []
meanings Not f g = f ∷ []
meanings And f g = f ∷ []
meanings Or f g = f ∷ []
meanings Implies f g = f ∷ neg g ∷ []

-- What the labels of a node stand for, where the nodes before it have the formulas fs.
abbrev pub labels : List Formula → Node → List Formula
labels fs n = meanings n.kind (formula fs n) (formula_at fs n.right)

-- What the labels of all nodes stand for, in the order of their numbers.
abbrev pub labels_from : List Formula → List Node → List Formula
labels_from fs [] = []
labels_from fs (n ∷ ns) = labels fs n ++ labels_from (fs ++ (formula fs n ∷ [])) ns

abbrev pub book_labels : Book → List Formula
book_labels b = labels_from [] b.nodes

-- The reading of the book's atoms, and then each label's value: that of the formula which it stands for.
abbrev pub extend : Book → Reading → Reading
extend b I = I ++ map (value I) (book_labels b)
