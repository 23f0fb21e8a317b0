-- The code's rule table is the definitions' rule table, and each of its rows can be filled: the rows of each kind are computed and compared. Assumes nothing.
use mathlib.Core.Path.{◌≡◌, refl}
use mathlib.Core.Bool.{Bool, true, ◌&&◌, beq}
use mathlib.Core.List.{List, [], map}
use Prim.Native.Nat.{ℕ, ◌+◌, ◌<◌}
use lib.Dec.{leb, ltb}
use lib.ListN.{length, get_or}
use borrow.Author.Tests.{leb-true, ltb-true}
use Rattle.logic.proofs.Bools.{&&_split, beq_sound}
use Rattle.logic.proofs.Finite.{all, all_at}
use Rattle.wire.specs.Sequence.{up_to}
use Rattle.theory.specs.declared.Kind.{Kind}
use Rattle.theory.specs.declared.Kind.TheVariants.{False, True, Atom, Not, And, Or, Implies}
use Rattle.flat.specs.Table.{rows}
use Rattle.table.specs.Shapes.{kind_shapes, used_by, shape_rule, Fillable}

-- The rows of a kind say what its rules are.
pub shapes-rows : (kind : Kind) → map shape_rule (kind_shapes kind) ≡ rows kind
unfolding up_to
shapes-rows False = refl
shapes-rows True = refl
shapes-rows Atom = refl
shapes-rows Not = refl
shapes-rows And = refl
shapes-rows Or = refl
shapes-rows Implies = refl

-- A row that passes these tests can be filled,
module _ (s : List ℕ) where
  abbrev named : ℕ → Bool
  named j = ltb (get_or s j 0) 5

  abbrev used : ℕ → Bool
  used j = beq (ltb (get_or s (3 + j) 0) 4) (ltb j (used_by s))

  abbrev fillable : Bool
  fillable = all named 6 && (leb (used_by s) 3 && all used 3)

  fillable_sound : fillable ≡ true → Fillable s
  fillable_sound h =
      let t = &&_split (all named 6) _ h in
      let u = &&_split (leb (used_by s) 3) _ t.1 in
      record {
        named = λ j l. ltb-true _ _ (all_at named 6 t.0 j l);
        few = leb-true _ _ u.0;
        slots = λ j l. beq_sound _ _ (all_at used 3 u.1 j l);
      }

-- and each row of a kind does.
abbrev kind_test : Kind → ℕ → Bool
kind_test kind j = fillable (get_or (kind_shapes kind) j [])

kind_tests : (kind : Kind) → all (kind_test kind) (length (kind_shapes kind)) ≡ true
kind_tests False = refl
kind_tests True = refl
kind_tests Atom = refl
kind_tests Not = refl
kind_tests And = refl
kind_tests Or = refl
kind_tests Implies = refl

pub kind_fillable : (kind : Kind) (j : ℕ) → j < length (kind_shapes kind) → Fillable (get_or (kind_shapes kind) j [])
kind_fillable kind j h = fillable_sound _ (all_at (kind_test kind) (length (kind_shapes kind)) (kind_tests kind) j h)
