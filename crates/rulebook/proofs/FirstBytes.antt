-- What a node's first byte says, and where the rows of a kind stand: laws that the notes of the landings name. By cases on the byte and on the kind. Assumes nothing.
use Rattle.std.proofs.Common.{◌≡◌, false, List, ℕ, zero, suc, ◌+◌, ◌*◌, ◌<◌, ◌≤◌, arith, eqb, length, get_or}
use borrow.Author.Tests.{ltb-false, ne_eqb}
use Rattle.refusal.proofs.First.{first-none}
use Rattle.theory.specs.declared.Kind.{Kind}
use Rattle.theory.specs.declared.Kind.TheVariants.{False, True, Atom, Not, And, Or, Implies}
use Rattle.theory.specs.Image.{kind_of, field_wrong, breaks}
use Rattle.flat.specs.Table.{rows}
use Rattle.table.specs.Shapes.{first_row}
use Rattle.translation.specs.Turns.{Nodes}

-- A byte over 5 is that of the last kind.
pub kind_of_last : (b : ℕ) → 5 < b → kind_of b ≡ Implies
kind_of_last b h =
    let other : (n : ℕ) → n < b → eqb b n ≡ false = λ n l. ne_eqb b n (λ e. omega arith) in
    simp (other 0 (omega arith), other 1 (omega arith), other 2 (omega arith), other 3 (omega arith), other 4 (omega arith), other 5 (omega arith))

-- What holds of the bytes 0 to 5 with their kinds, and of every byte over 5 with the last kind, holds of every byte with its kind.
pub by_byte : (P : ℕ → Kind → Type 0) → P 0 False → P 1 True → P 2 Atom → P 3 Not → P 4 And → P 5 Or
    → ((b : ℕ) → 5 < b → P b Implies) → (b : ℕ) → P b (kind_of b)
by_byte P p₀ p₁ p₂ p₃ p₄ p₅ over zero = p₀
by_byte P p₀ p₁ p₂ p₃ p₄ p₅ over (suc zero) = p₁
by_byte P p₀ p₁ p₂ p₃ p₄ p₅ over (suc (suc zero)) = p₂
by_byte P p₀ p₁ p₂ p₃ p₄ p₅ over (suc (suc (suc zero))) = p₃
by_byte P p₀ p₁ p₂ p₃ p₄ p₅ over (suc (suc (suc (suc zero)))) = p₄
by_byte P p₀ p₁ p₂ p₃ p₄ p₅ over (suc (suc (suc (suc (suc zero))))) = p₅
by_byte P p₀ p₁ p₂ p₃ p₄ p₅ over (suc (suc (suc (suc (suc (suc b)))))) =
    let byte : ℕ = suc (suc (suc (suc (suc (suc b))))) in
    rw (kind_of_last byte (omega arith)) (over byte (omega arith))

-- A node that keeps its row has a known kind,
pub kept_known : (A : ℕ) (s : List ℕ) (k : ℕ) → breaks A s k ≡ false → get_or s (k * 6) 0 < 7
kept_known A s k kept = omega (arith, ltb-false 6 (get_or s (k * 6) 0) ((first-none (field_wrong A s k) 4).0 kept 0 (omega arith)))

-- and so has each node of an accepted image's section.
pub kind-known : (A : ℕ) (s : List ℕ) (N : ℕ) → Nodes A s N → (k : ℕ) → k < N → get_or s (k * 6) 0 < 7
kind-known A s N ok k h = kept_known A s k (ok.keep k h)

-- The rows of a kind stand in the table, which has fourteen.
pub kind-within : (kind : Kind) → first_row kind + length (rows kind) ≤ 14
kind-within False = omega arith
kind-within True = omega arith
kind-within Atom = omega arith
kind-within Not = omega arith
kind-within And = omega arith
kind-within Or = omega arith
kind-within Implies = omega arith
