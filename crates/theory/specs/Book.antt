-- A rule book: atoms, nodes, roots and pairs, and the formulas that it stands for. A kind of node, a node and a pair are the types of the code.
use Rattle.std.specs.Prelude.{◌≡◌, Bool, true, ◌&&◌, List, [], ◌∷◌, ◌++◌, map, ℕ, suc, ltb, get_or, length}
use Rattle.wire.specs.Wire.{all_below}
use Rattle.logic.specs.Formula.{Formula, falsum, verum, atom, neg, conj, disj, impl}
use Rattle.theory.specs.declared.Kind.{Kind}
use Rattle.theory.specs.declared.Kind.TheVariants.{False, True, Atom, Not, And, Or, Implies}
use Rattle.theory.specs.declared.Node.{Node}
use Rattle.theory.specs.declared.Pair.{Pair}

-- Node k of a list of nodes.
abbrev pub node_at : List Node → ℕ → Node
node_at ns k = get_or ns k (record { kind = False; left = 0; right = 0 })

-- A book has atoms 0 to A - 1, nodes, roots and pairs.
pub record Book : Type 0 where
  pub atoms : ℕ
  pub nodes : List Node
  pub roots : List ℕ
  pub pairs : List Pair

-- What left has to be below, in node k of a book with A atoms: 0 is below 1, an atom below A, an earlier node below k.
abbrev pub left_limit : (A k : ℕ) → Kind → ℕ
left_limit A k False = 1
left_limit A k True = 1
left_limit A k Atom = A
left_limit A k Not = k
left_limit A k And = k
left_limit A k Or = k
left_limit A k Implies = k

-- What right has to be below.
abbrev pub right_limit : (k : ℕ) → Kind → ℕ
right_limit k False = 1
right_limit k True = 1
right_limit k Atom = 1
right_limit k Not = 1
right_limit k And = k
right_limit k Or = k
right_limit k Implies = k

-- Left of node k is one that its kind's row allows,
abbrev pub left_fits : (A k : ℕ) → Node → Bool
left_fits A k n = ltb n.left (left_limit A k n.kind)

-- so is right,
abbrev pub right_fits : (k : ℕ) → Node → Bool
right_fits k n = ltb n.right (right_limit k n.kind)

-- and so are both: node k keeps to its kind's row.
abbrev pub fits : (A k : ℕ) → Node → Bool
fits A k n = left_fits A k n && right_fits k n

-- So do all nodes, numbered from k on.
abbrev pub all_fit : (A k : ℕ) → List Node → Bool
all_fit A k [] = true
all_fit A k (n ∷ ns) = fits A k n && all_fit A (suc k) ns

-- A pair is of two atoms below A, the smaller first.
abbrev pub pair_fits : (A : ℕ) → Pair → Bool
pair_fits A p = ltb p.first p.second && ltb p.second A

-- So is each of a list.
abbrev pub pairs_fit : (A : ℕ) → List Pair → Bool
pairs_fit A [] = true
pairs_fit A (p ∷ ps) = pair_fits A p && pairs_fit A ps

-- A book whose nodes keep to their rows, whose roots are nodes, and whose pairs are of its atoms, the smaller first.
pub record WellFormed (b : Book) : Type 0 where
  pub nodes_fit : all_fit b.atoms 0 b.nodes ≡ true
  pub roots-below : all_below (length b.nodes) b.roots ≡ true
  pub pairs_all_fit : pairs_fit b.atoms b.pairs ≡ true

-- What a kind says of the atom that left names, or of the formulas of left and right.
abbrev pub say : Kind → (left : ℕ) → (f g : Formula) → Formula
say False a f g = falsum
say True a f g = verum
say Atom a f g = atom a
say Not a f g = neg f
say And a f g = conj f g
say Or a f g = disj f g
say Implies a f g = impl f g

-- The formula of node k of a list.
abbrev pub formula_at : List Formula → ℕ → Formula
formula_at fs k = get_or fs k falsum

-- The formula of a node, where the nodes before it have the formulas fs.
abbrev pub formula : List Formula → Node → Formula
formula fs n = say n.kind n.left (formula_at fs n.left) (formula_at fs n.right)

-- fs, and then the formula of each of the nodes.
abbrev pub formulas : List Formula → List Node → List Formula
formulas fs [] = fs
formulas fs (n ∷ ns) = formulas (fs ++ (formula fs n ∷ [])) ns

-- The formulas of all nodes of a book.
abbrev pub node_formulas : Book → List Formula
node_formulas b = formulas [] b.nodes

-- What a pair means: not both.
abbrev pub pair_formula : Pair → Formula
pair_formula p = neg (conj (atom p.first) (atom p.second))

-- The formulas that a book asserts: one for each root, and then one for each pair.
abbrev pub book_formulas : Book → List Formula
book_formulas b = map (formula_at (node_formulas b)) b.roots ++ map pair_formula b.pairs
