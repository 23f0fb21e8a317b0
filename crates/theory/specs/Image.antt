-- The theory image: where its numbers stand, and the book that it is.
use Rattle.std.specs.Prelude.{Bool, false, cond, not, List, [], ◌∷◌, ℕ, ◌+◌, ◌*◌, eqb, ltb, get_or, drop, Option, Some, None}
use Rattle.refusal.specs.declared.Field.{Field}
use Rattle.refusal.specs.Refusal.{field_number}
use Rattle.refusal.specs.First.{first}
use Rattle.wire.specs.Wire.{u16_at}
use Rattle.wire.specs.Sequence.{up_to}
use Rattle.theory.specs.declared.Kind.{Kind}
use Rattle.theory.specs.declared.Kind.TheVariants.{False, True, Atom, Not, And, Or, Implies}
use Rattle.theory.specs.declared.Node.{Node}
use Rattle.theory.specs.declared.Pair.{Pair}
use Rattle.theory.specs.Book.{Book, left_fits, right_fits}

-- A, N, R and P of the header.
abbrev pub atom_count : List ℕ → ℕ
atom_count t = u16_at t 0

abbrev pub node_count : List ℕ → ℕ
node_count t = u16_at t 2

abbrev pub root_count : List ℕ → ℕ
root_count t = u16_at t 4

abbrev pub pair_count : List ℕ → ℕ
pair_count t = u16_at t 6

-- Nodes start at 16, roots at 16 + 6N, pairs at 16 + 6N + 2R, and the image is exactly 16 + 6N + 2R + 4P bytes long.
abbrev pub roots_start : (N : ℕ) → ℕ
roots_start N = 16 + N * 6

abbrev pub pairs_start : (N R : ℕ) → ℕ
pairs_start N R = roots_start N + R * 2

abbrev pub image_length : (N R P : ℕ) → ℕ
image_length N R P = pairs_start N R + P * 4

-- The part of the image that starts at the nodes' offset, the part that starts at the roots', and the part that starts at the pairs'.
abbrev pub node_section : List ℕ → List ℕ
node_section t = drop 16 t

abbrev pub root_section : List ℕ → List ℕ
root_section t = drop (roots_start (node_count t)) t

abbrev pub pair_section : List ℕ → List ℕ
pair_section t = drop (pairs_start (node_count t) (root_count t)) t

-- The kind of a node's first byte; row 6 refuses a byte over 6.
abbrev pub kind_of : ℕ → Kind
kind_of byte =
    cond (eqb byte 0) False
    (cond (eqb byte 1) True
    (cond (eqb byte 2) Atom
    (cond (eqb byte 3) Not
    (cond (eqb byte 4) And
    (cond (eqb byte 5) Or Implies)))))

-- Node k of the nodes' section: kind, zero byte, left, right.
abbrev pub node_in : List ℕ → ℕ → Node
node_in s k = record { kind = kind_of (get_or s (k * 6) 0); left = u16_at s (k * 6 + 2); right = u16_at s (k * 6 + 4) }

-- The four fields of node k in their order, each with whether it is wrong: a kind over 6, a zero byte that is not 0, a left and a right that the kind's row does not allow.
abbrev pub wrong_fields : (A : ℕ) → List ℕ → (k : ℕ) → List Bool
wrong_fields A s k = ltb 6 (get_or s (k * 6) 0) ∷ not (eqb (get_or s (k * 6 + 1) 0) 0) ∷ not (left_fits A k (node_in s k)) ∷ not (right_fits k (node_in s k)) ∷ []

-- Field f of node k is wrong.
abbrev pub field_wrong : (A : ℕ) → List ℕ → (k f : ℕ) → Bool
field_wrong A s k f = get_or (wrong_fields A s k) f false

-- The first field of node k that is wrong, and 4 where none is.
abbrev pub first_wrong : (A : ℕ) → List ℕ → (k : ℕ) → ℕ
first_wrong A s k = first (field_wrong A s k) 4

-- A field that is wrong by its number, and 4 for none.
abbrev pub wrong_number : Option Field → ℕ
wrong_number None = 4
wrong_number (Some field) = field_number field

-- Where it stands among the fields of all nodes, eight numbers to a node.
abbrev pub wrong_place : (A : ℕ) → List ℕ → (k : ℕ) → ℕ
wrong_place A s k = k * 8 + first_wrong A s k

-- Node k breaks its row: one of its fields is wrong.
abbrev pub breaks : (A : ℕ) → List ℕ → (k : ℕ) → Bool
breaks A s k = ltb (first_wrong A s k) 4

-- Root i of the roots' section.
abbrev pub root_in : List ℕ → ℕ → ℕ
root_in s i = u16_at s (i * 2)

-- Pair i of the pairs' section.
abbrev pub pair_in : List ℕ → ℕ → Pair
pair_in s i = record { first = u16_at s (i * 4); second = u16_at s (i * 4 + 2) }

-- The book of an image.
unfoldable pub book_of : List ℕ → Book
book_of t = record {
  atoms = atom_count t;
  nodes = up_to (node_in (node_section t)) (node_count t);
  roots = up_to (root_in (root_section t)) (root_count t);
  pairs = up_to (pair_in (pair_section t)) (pair_count t);
}
