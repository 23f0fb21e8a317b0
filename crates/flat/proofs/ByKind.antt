-- What holds of every kind by the rule table, kind by kind. Assumes nothing.
use mathlib.Core.Path.{◌≡◌, refl}
use mathlib.Core.Logic.{◌⊎◌, inl, inr}
use mathlib.Core.List.{[]}
use Prim.Native.Nat.{ℕ, ◌≤◌, ◌<◌}
use native.Mathlib.Omega.{arith}
use lib.ListN.{length}
use Rattle.theory.specs.declared.Kind.{Kind}
use Rattle.theory.specs.declared.Kind.TheVariants.{False, True, Atom, Not, And, Or, Implies}
use Rattle.theory.specs.Book.{left_limit, right_limit}
use Rattle.flat.specs.Table.{rows, label_count}

-- A kind takes at most two labels.
pub label_count_le : (k : Kind) → label_count k ≤ 2
label_count_le False = omega arith
label_count_le True = omega arith
label_count_le Atom = omega arith
label_count_le Not = omega arith
label_count_le And = omega arith
label_count_le Or = omega arith
label_count_le Implies = omega arith

-- A kind has at most six rows.
pub rows_le : (k : Kind) → length (rows k) ≤ 6
rows_le False = omega arith
rows_le True = omega arith
rows_le Atom = omega arith
rows_le Not = omega arith
rows_le And = omega arith
rows_le Or = omega arith
rows_le Implies = omega arith

-- A kind has no rules and no labels, or its operands are earlier nodes.
pub operands : (A k : ℕ) (kind : Kind) (left right : ℕ) → left < left_limit A k kind → right < right_limit k kind → ((rows kind ≡ []) × (label_count kind ≡ 0)) ⊎ ((left < k) × (right < k))
operands A k False left right h l = inl (refl, refl)
operands A k True left right h l = inl (refl, refl)
operands A k Atom left right h l = inl (refl, refl)
operands A k Not left right h l = inr (h, omega arith)
operands A k And left right h l = inr (h, l)
operands A k Or left right h l = inr (h, l)
operands A k Implies left right h l = inr (h, l)
