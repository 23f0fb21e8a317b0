-- What the loops over an image's nodes, roots and pairs have after so many turns: notes on the code, which no public promise names.
use Rattle.std.specs.Prelude.{◌≡◌, false, List, [], ◌∷◌, ◌++◌, map, ℕ, zero, suc, ◌+◌, ◌*◌, ◌≤◌, ◌<◌, length, get_or, take}
use Rattle.refusal.specs.Limits.{most_atoms, most_nodes, most_roots}
use Rattle.wire.specs.Sequence.{up_to}
use Rattle.logic.specs.Value.{number, of_byte, negation}
use Rattle.theory.specs.declared.Kind.{Kind}
use Rattle.theory.specs.declared.Node.{Node}
use Rattle.theory.specs.Image.{atom_count, node_count, root_count, pair_count, node_section, root_section, pair_section, node_in, breaks, root_in, pair_in}
use Rattle.program.specs.Rule.{Rule}
use Rattle.program.specs.Image.{literal_total}
use Rattle.flat.specs.Table.{rows, label_count}
use Rattle.flat.specs.Flat.{Term, term, instances, node_rules, fact, simplify, pair_rule, label_total}
use Rattle.table.specs.Shapes.{shape_rule, kind_shapes}
use Rattle.table.specs.OneRule.{code, decode, filled}

-- The nodes' section of an image that the check accepts, with A atoms and N nodes.
pub record Nodes (A : ℕ) (s : List ℕ) (N : ℕ) : Type 0 where
  pub few-atoms : A ≤ most_atoms
  pub few : N ≤ most_nodes
  pub long : N * 6 ≤ length s
  pub keep : (k : ℕ) → k < N → breaks A s k ≡ false

-- The roots' section of one with N nodes and R roots.
pub record Roots (N : ℕ) (s : List ℕ) (R : ℕ) : Type 0 where
  pub few : R ≤ most_roots
  pub long : R * 2 ≤ length s
  pub below : (i : ℕ) → i < R → root_in s i < N

-- The terms ts, and then the term of each of the nodes, whose labels go on from `next`.
abbrev pub terms_from : List Term → (next : ℕ) → List Node → List Term
terms_from ts next [] = ts
terms_from ts next (n ∷ ns) = terms_from (ts ++ (term next n ∷ [])) (next + label_count n.kind) ns

-- The rules of the nodes, where the nodes before have the terms ts.
abbrev pub nodes_rules : List Term → (next : ℕ) → List Node → List Rule
nodes_rules ts next [] = []
nodes_rules ts next (n ∷ ns) = node_rules ts next n ++ nodes_rules (ts ++ (term next n ∷ [])) (next + label_count n.kind) ns

-- Of the first k nodes of a section, with A atoms: the next label behind theirs,
unfoldable pub next_to : (A : ℕ) → List ℕ → (k : ℕ) → ℕ
next_to A s k = A + label_total (up_to (node_in s) k)

-- their terms,
unfoldable pub terms_to : (A : ℕ) → List ℕ → (k : ℕ) → List Term
terms_to A s k = terms_from [] A (up_to (node_in s) k)

-- and their rules.
unfoldable pub rules_to : (A : ℕ) → List ℕ → (k : ℕ) → List Rule
rules_to A s k = nodes_rules [] A (up_to (node_in s) k)

-- The facts of the first i roots of a section, where f gives the term of a node.
unfoldable pub facts_to : (f : ℕ → Term) → List ℕ → (i : ℕ) → List Rule
facts_to f s zero = []
facts_to f s (suc i) = facts_to f s i ++ simplify (fact (f (root_in s i)))

-- The rules of the first i pairs of a section.
abbrev pub pairs_to : List ℕ → (i : ℕ) → List Rule
pairs_to s = up_to (λ j. pair_rule (pair_in s j))

-- The term of a node by its number in a scratch.
abbrev pub scratch_term : (scratch : List ℕ) → ℕ → Term
scratch_term scratch k = decode (get_or scratch k 0)

-- The rules of all nodes of a theory image,
abbrev pub rules_of_nodes : (t : List ℕ) → List Rule
rules_of_nodes t = rules_to (atom_count t) (node_section t) (node_count t)

-- the facts of its roots, where the terms' numbers stand in a scratch,
abbrev pub facts_of_roots : (scratch t : List ℕ) → List Rule
facts_of_roots scratch t = facts_to (scratch_term scratch) (root_section t) (root_count t)

-- and the rules of its pairs.
abbrev pub rules_of_pairs : (t : List ℕ) → List Rule
rules_of_pairs t = pairs_to (pair_section t) (pair_count t)

-- The numbers of x, y, L and M of a node whose labels start at `next`, where the terms' numbers stand in a scratch, and behind them 0.
abbrev pub slot_terms : (scratch : List ℕ) → (next : ℕ) → Node → List ℕ
slot_terms scratch next n = get_or scratch n.left 0 ∷ get_or scratch n.right 0 ∷ next ∷ (next + 1) ∷ 0 ∷ []

-- The rules of a kind where x, y, L and M have these numbers,
abbrev pub kind_rules : (terms : List ℕ) → Kind → List Rule
kind_rules terms kind = instances (filled terms) (rows kind)

-- and those of its first j rows.
unfoldable pub rows_to : (terms : List ℕ) → Kind → (j : ℕ) → List Rule
rows_to terms kind j = instances (filled terms) (up_to (λ i. shape_rule (get_or (kind_shapes kind) i [])) j)

-- So many rules with so many literals are those of a list, three literals a rule at most.
pub record Counted (rs : List Rule) (rules literals : ℕ) : Type 0 where
  pub all : rules ≡ length rs
  pub each : literals ≡ literal_total rs
  pub few : literals ≤ rules * 3

-- The numbers of the first N nodes' terms stand in a scratch,
abbrev pub NumberedTo : (A : ℕ) → List ℕ → (N : ℕ) → (scratch : List ℕ) → Type 0
NumberedTo A s N scratch = take N scratch ≡ map code (terms_to A s N)

-- and those of all nodes of a theory image.
abbrev pub Numbered : (t scratch : List ℕ) → Type 0
Numbered t scratch = NumberedTo (atom_count t) (node_section t) (node_count t) scratch

-- The bytes of the labels of node k, where the nodes' values stand in a scratch: L holds the node's value, and M that of not its right side.
abbrev pub label_bytes : (values : List ℕ) → (s : List ℕ) → (k : ℕ) → List ℕ
label_bytes values s k =
    take (label_count (node_in s k).kind) (get_or values k 0 ∷ number (negation (of_byte (get_or values (node_in s k).right 0))) ∷ [])

-- Those of the labels of the first k nodes.
unfoldable pub labels_to : (values : List ℕ) → (s : List ℕ) → (k : ℕ) → List ℕ
labels_to values s zero = []
labels_to values s (suc k) = labels_to values s k ++ label_bytes values s k

-- and those of the labels of all nodes of a theory image.
abbrev pub label_values : (values t : List ℕ) → List ℕ
label_values values t = labels_to values (node_section t) (node_count t)
