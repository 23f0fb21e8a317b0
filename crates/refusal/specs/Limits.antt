-- The limits of document 01, with the pairs of request 4, each named once.
use Rattle.std.specs.Prelude.{ℕ}

-- A of a book is at most this,
abbrev pub most_atoms : ℕ
most_atoms = 1024

-- N at most this,
abbrev pub most_nodes : ℕ
most_nodes = 1024

-- R at most this,
abbrev pub most_roots : ℕ
most_roots = 256

-- and P at most this.
abbrev pub most_pairs : ℕ
most_pairs = 128

-- B of a program is at most this,
abbrev pub most_b : ℕ
most_b = 3072

-- and K at most this.
abbrev pub most_rules : ℕ
most_rules = 6528

-- A candidate that is tested has at most this many true atoms.
abbrev pub most_true : ℕ
most_true = 16

-- A theory that is listed has at most this many atoms.
abbrev pub most_listed : ℕ
most_listed = 12
