-- Rows 1, 2, 4 to 7, 13 and 15 of the refusal table: what a theory image is refused for.
use Rattle.std.specs.Prelude.{not, ◌||◌, List, [], ◌∷◌, ◌++◌, ℕ, eqb, ltb, length}
use Rattle.refusal.specs.Table.{Row}
use Rattle.refusal.specs.First.{first_placed, first_such}
use Rattle.refusal.specs.Limits.{most_atoms, most_nodes, most_roots, most_pairs}
use Rattle.wire.specs.Wire.{u32_at}
use Rattle.theory.specs.Book.{pair_fits}
use Rattle.theory.specs.Image.{atom_count, node_count, root_count, pair_count, roots_start, image_length, node_section, root_section, pair_section, wrong_place, breaks, root_in, pair_in, book_of}
use Rattle.theory.specs.Used.{used}

-- Row 1: the theory is shorter than 16 bytes.
abbrev pub row1 : List ℕ → Row
row1 t = record { number = 1; applies = ltb (length t) 16; place = 0 }

-- Row 2: A, N, R or P is over its limit.
abbrev pub row2 : List ℕ → Row
row2 t = record {
  number = 2;
  applies = ltb most_atoms (atom_count t) || (ltb most_nodes (node_count t) || (ltb most_roots (root_count t) || ltb most_pairs (pair_count t)));
  place = 0;
}

-- Row 4: an offset differs.
abbrev pub row4 : List ℕ → Row
row4 t = record { number = 4; applies = not (eqb (u32_at t 8) 16) || not (eqb (u32_at t 12) (roots_start (node_count t))); place = 0 }

-- Row 5: the image's length differs; its place is the length wanted.
abbrev pub row5 : List ℕ → Row
row5 t = record {
  number = 5;
  applies = not (eqb (length t) (image_length (node_count t) (root_count t) (pair_count t)));
  place = image_length (node_count t) (root_count t) (pair_count t);
}

-- Row 6: a node breaks its row, or its zero byte is not 0; its place is eight times the first such node plus its first wrong field.
abbrev pub row6 : List ℕ → Row
row6 t = first_placed 6 (wrong_place (atom_count t) (node_section t)) (breaks (atom_count t) (node_section t)) (node_count t)

-- Row 7: a root is not below N; its place is the first such root's index.
abbrev pub row7 : List ℕ → Row
row7 t = first_such 7 (λ i. not (ltb (root_in (root_section t) i) (node_count t))) (root_count t)

-- Row 15: a pair is not of two atoms below A, the smaller first; its place is the first such pair's index.
abbrev pub row15 : List ℕ → Row
row15 t = first_such 15 (λ i. not (pair_fits (atom_count t) (pair_in (pair_section t) i))) (pair_count t)

-- Row 13: a node is not used; its place is the first such node.
abbrev pub row13 : List ℕ → Row
row13 t = first_such 13 (λ k. not (used (book_of t) k)) (node_count t)

-- The rows on the header.
unfoldable pub header_rows : List ℕ → List Row
header_rows t = row1 t ∷ row2 t ∷ row4 t ∷ row5 t ∷ []

-- The rows that leave a well-formed book.
unfoldable pub form_rows : List ℕ → List Row
form_rows t = header_rows t ++ row6 t ∷ row7 t ∷ row15 t ∷ []

-- The rows of a theory image, in the order tested.
unfoldable pub theory_rows : List ℕ → List Row
theory_rows t = form_rows t ++ row13 t ∷ []
