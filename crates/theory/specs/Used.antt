-- Which nodes of a book are used: an operand of some node is, and so is a root.
use Rattle.std.specs.Prelude.{Bool, false, ◌||◌, List, [], ◌∷◌, ◌++◌, ℕ, eqb}
use Rattle.theory.specs.declared.Kind.{Kind}
use Rattle.theory.specs.declared.Kind.TheVariants.{False, True, Atom, Not, And, Or, Implies}
use Rattle.theory.specs.declared.Node.{Node}
use Rattle.theory.specs.Book.{Book}

-- The operands of a kind: left of not, left and right of and, or and implies. What an atom's left names is no node.
abbrev pub operands_of : Kind → (left right : ℕ) → List ℕ
operands_of False l r = []
operands_of True l r = []
operands_of Atom l r = []
operands_of Not l r = l ∷ []
operands_of And l r = l ∷ r ∷ []
operands_of Or l r = l ∷ r ∷ []
operands_of Implies l r = l ∷ r ∷ []

abbrev pub operands : Node → List ℕ
operands n = operands_of n.kind n.left n.right

-- The operands of all nodes of a list.
abbrev pub all_operands : List Node → List ℕ
all_operands [] = []
all_operands (n ∷ ns) = operands n ++ all_operands ns

-- k is among some numbers.
abbrev pub among : (k : ℕ) → List ℕ → Bool
among k [] = false
among k (j ∷ js) = eqb k j || among k js

-- Node k is used: it is an operand of some node, be that one used or not, or a root.
abbrev pub used : Book → (k : ℕ) → Bool
used b k = among k (all_operands b.nodes) || among k b.roots
