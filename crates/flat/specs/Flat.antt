-- The flat program of a book.
use Rattle.std.specs.Prelude.{Bool, true, false, ◌||◌, cond, List, [], ◌∷◌, ◌++◌, map, ℕ, suc, ◌+◌, ◌*◌, ◌-◌, get_or}
use Rattle.refusal.specs.Limits.{most_atoms, most_nodes, most_roots, most_pairs}
use Rattle.theory.specs.declared.Kind.{Kind}
use Rattle.theory.specs.declared.Kind.TheVariants.{False, True, Atom, Not, And, Or, Implies}
use Rattle.theory.specs.declared.Node.{Node}
use Rattle.theory.specs.declared.Pair.{Pair}
use Rattle.theory.specs.Book.{Book}
use Rattle.program.specs.Rule.{RuleOf, Rule}
use Rattle.program.specs.Program.{Program}
use Rattle.flat.specs.Table.{Slot, x, y, L, M, rows, label_count}

-- What stands for a node in rules: an atom's number, a label's, or a constant.
pub data Term : Type 0 where
  constant : Bool → Term
  name : ℕ → Term

-- Constants in rules.

-- Is the constant b among the terms?
abbrev pub has : Bool → List Term → Bool
has b [] = false
has true (constant true ∷ ts) = true
has true (constant false ∷ ts) = has true ts
has false (constant true ∷ ts) = has false ts
has false (constant false ∷ ts) = true
has b (name a ∷ ts) = has b ts

-- The terms that are no constants, by number.
abbrev pub names : List Term → List ℕ
names [] = []
names (constant b ∷ ts) = names ts
names (name a ∷ ts) = a ∷ names ts

-- True in a head, false in a body and `not` true remove the rule;
abbrev pub removes : RuleOf Term → Bool
removes r = has true r.heads || has false r.positives || has true r.negatives

-- every other constant is dropped.
abbrev pub reduce : RuleOf Term → Rule
reduce r = record { heads = names r.heads; positives = names r.positives; negatives = names r.negatives }

abbrev pub simplify : RuleOf Term → List Rule
simplify r = cond (removes r) [] (reduce r ∷ [])

-- The rules of a node.

-- What stands in the slots: the terms of left and right, and the labels from `next` on.
abbrev pub fill : (left right : Term) (next : ℕ) → Slot → Term
fill left right next x = left
fill left right next y = right
fill left right next L = name next
fill left right next M = name (suc next)

-- A row with its slots filled.
abbrev pub map_rule : {S T : Type 0} → (S → T) → RuleOf S → RuleOf T
map_rule f r = record { heads = map f r.heads; positives = map f r.positives; negatives = map f r.negatives }

-- The rules of all rows, constants gone.
abbrev pub instances : (Slot → Term) → List (RuleOf Slot) → List Rule
instances f [] = []
instances f (r ∷ rs) = simplify (map_rule f r) ++ instances f rs

-- The term of node k, of nodes with the terms ts.
abbrev pub term_at : List Term → ℕ → Term
term_at ts k = get_or ts k (constant false)

-- The rules of a node whose labels start at `next`, where the nodes before it have the terms ts.
abbrev pub node_rules : List Term → (next : ℕ) → Node → List Rule
node_rules ts next n = instances (fill (term_at ts n.left) (term_at ts n.right) next) (rows n.kind)

-- The term of a node whose labels start at `next`: a constant, its atom or its label L.
abbrev pub term_of : (next : ℕ) → Kind → (left : ℕ) → Term
term_of next False a = constant false
term_of next True a = constant true
term_of next Atom a = name a
term_of next Not a = name next
term_of next And a = name next
term_of next Or a = name next
term_of next Implies a = name next

abbrev pub term : (next : ℕ) → Node → Term
term next n = term_of next n.kind n.left

-- The whole program.

-- A fact that holds a term.
abbrev pub fact : Term → RuleOf Term
fact t = record { heads = t ∷ []; positives = []; negatives = [] }

-- One fact for each root, holding the root's term.
abbrev pub facts : List Term → (roots : List ℕ) → List Rule
facts ts [] = []
facts ts (k ∷ ks) = simplify (fact (term_at ts k)) ++ facts ts ks

-- The rules of the nodes in their order, then the roots' facts; the nodes before have the terms ts, and labels go on from `next`.
abbrev pub rules_from : (roots : List ℕ) → List Term → (next : ℕ) → List Node → List Rule
rules_from roots ts next [] = facts ts roots
rules_from roots ts next (n ∷ ns) = node_rules ts next n ++ rules_from roots (ts ++ (term next n ∷ [])) (next + label_count n.kind) ns

-- How many labels the nodes take.
abbrev pub label_total : List Node → ℕ
label_total [] = 0
label_total (n ∷ ns) = label_count n.kind + label_total ns

-- The rule of a pair: ← first, second.
abbrev pub pair_rule : Pair → Rule
pair_rule p = record { heads = []; positives = p.first ∷ p.second ∷ []; negatives = [] }

-- The flat program: labels are numbered from A upward in node order, B counts all atoms, and after the rules of nodes and roots comes one for each pair.
abbrev pub flat : Book → Program
flat b = record {
  atoms = b.atoms;
  size = b.atoms + label_total b.nodes;
  rules = rules_from b.roots [] b.atoms b.nodes ++ map pair_rule b.pairs;
}

-- The most that B is within the limits of A and N, 1,024 + 2 * 1,023: node 0 has no earlier node and so takes no label, each other node takes at most two.
abbrev pub largest_b : ℕ
largest_b = most_atoms + 2 * (most_nodes - 1)

-- The most that K is within the limits of N, R and P, 6 * 1,023 + 256 + 128: node 0 has no rule either, each other node at most six, each root one fact and each pair one rule.
abbrev pub largest_k : ℕ
largest_k = 6 * (most_nodes - 1) + most_roots + most_pairs
