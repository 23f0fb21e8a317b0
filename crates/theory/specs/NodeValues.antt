-- The values of a book's nodes under a reading, each from the values of earlier nodes.
use Rattle.std.specs.Prelude.{List, [], map, ℕ}
use Rattle.logic.specs.declared.Value.{Value}
use Rattle.logic.specs.declared.Value.TheVariants.{Neither, Both}
use Rattle.logic.specs.Value.{smaller, larger, negation, implication}
use Rattle.logic.specs.Formula.{Reading, value, value_of}
use Rattle.wire.specs.Sequence.{up_to}
use Rattle.theory.specs.declared.Kind.{Kind}
use Rattle.theory.specs.declared.Kind.TheVariants.{False, True, Atom, Not, And, Or, Implies}
use Rattle.theory.specs.declared.Node.{Node}
use Rattle.theory.specs.Book.{Book, formulas, node_formulas}
use Rattle.theory.specs.Image.{node_in}

-- What a kind is worth, by the value of the atom that left names and the values of the nodes left and right.
abbrev pub worth : Kind → (a x y : Value) → Value
worth False a x y = Neither
worth True a x y = Both
worth Atom a x y = a
worth Not a x y = negation x
worth And a x y = smaller x y
worth Or a x y = larger x y
worth Implies a x y = implication x y

-- The value of a node, where the nodes before it have the values vs.
abbrev pub value_from : Reading → (vs : List Value) → Node → Value
value_from I vs n = worth n.kind (value_of I n.left) (value_of vs n.left) (value_of vs n.right)

-- The values of all nodes of a book.
abbrev pub node_values : Book → Reading → List Value
node_values b I = map (value I) (node_formulas b)

-- The values of the first k nodes of a nodes' section.
abbrev pub values_to : Reading → (s : List ℕ) → (k : ℕ) → List Value
values_to I s k = map (value I) (formulas [] (up_to (node_in s) k))
