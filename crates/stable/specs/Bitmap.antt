-- An implementation note, on which no promise rests: the search for the listing keeps a bitmap with a bit for each set of atoms, by its number.
use Rattle.std.specs.Prelude.{◌≡◌, Bool, cond, List, [], ◌∷◌, ◌++◌, ℕ, zero, suc, ◌+◌, ◌/◌, ◌%◌, ◌^◌, ◌≤◌, length, get_or}
use Rattle.wire.specs.Sequence.{up_to}
use Rattle.refusal.specs.Limits.{most_nodes, most_listed}
use Rattle.logic.specs.AnswerSet.{is_answer_set}
use Rattle.theory.specs.Book.{book_formulas}
use Rattle.theory.specs.Image.{atom_count, book_of}
use Rattle.stable.specs.Subset.{odd}
use Rattle.stable.specs.Number.{number_of, set_of_number}

-- Bit c of a bitmap, eight bits to a byte.
abbrev pub bit_at : List ℕ → ℕ → Bool
bit_at bitmap c = odd (get_or bitmap (c / 8) 0 / 2 ^ (c % 8))

-- The numbers below n that pass a test, ascending.
unfoldable pub passing : (ℕ → Bool) → ℕ → List ℕ
passing test zero = []
passing test (suc n) = passing test n ++ cond (test n) (n ∷ []) []

-- The eight bits of a test from a number on, as a byte.
unfoldable pub eight_of : (ℕ → Bool) → ℕ → ℕ
eight_of test from = number_of (up_to (λ j. test (from + j)) 8)

-- The set with the number c is an answer set of the theory.
unfoldable pub is_listed : List ℕ → ℕ → Bool
is_listed theory c = is_answer_set (atom_count theory) (book_formulas (book_of theory)) (set_of_number (atom_count theory) c)

-- The theory has few atoms, and there is room for a reading of it and for the values of nodes.
pub record Listable (theory reading values : List ℕ) : Type 0 where
  pub few : atom_count theory ≤ most_listed
  pub sized : length reading ≡ atom_count theory
  pub long : most_nodes ≤ length values
