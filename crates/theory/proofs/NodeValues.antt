-- Laws of the nodes' values: a node's value is made of those before it, as its formula is made of their formulas. By cases on the kind.
use mathlib.Core.Path.{◌≡◌, refl, ap, ◌∙◌}
use mathlib.Core.List.{List, [], ◌∷◌, ◌++◌, map, map-append}
use Prim.Native.Nat.{ℕ, ◌+◌, ◌<◌}
use native.Mathlib.Nat.{zero-add}
use lib.ListN.{length, take, set, length-map, get_or-map}
use lib.Seq.{take_at}
use Rattle.logic.specs.Value.{number}
use Rattle.logic.specs.Formula.{Formula, falsum, Reading, reading_of, value, value_of}
use Rattle.logic.proofs.Formulas.{reading_of-number}
use Rattle.wire.specs.Wire.{over}
use Rattle.wire.specs.Sequence.{up_to}
use Rattle.wire.proofs.Laws.{over_store}
use Rattle.wire.proofs.Sequence.{up_to-none, length-up_to}
use Rattle.theory.specs.declared.Kind.{Kind}
use Rattle.theory.specs.declared.Kind.TheVariants.{False, True, Atom, Not, And, Or, Implies}
use Rattle.theory.specs.declared.Node.{Node}
use Rattle.theory.specs.Book.{say, formula, formulas}
use Rattle.theory.specs.Image.{node_count, node_section, node_in, book_of}
use Rattle.theory.specs.NodeValues.{worth, value_from, values_to, node_values}
use Rattle.theory.proofs.Books.{length-formulas, formulas-up_to}

value-say : (I : Reading) (k : Kind) (a : ℕ) (f g : Formula) → value I (say k a f g) ≡ worth k (value_of I a) (value I f) (value I g)
value-say I False a f g = refl
value-say I True a f g = refl
value-say I Atom a f g = refl
value-say I Not a f g = refl
value-say I And a f g = refl
value-say I Or a f g = refl
value-say I Implies a f g = refl

pub value-formula : (I : Reading) (fs : List Formula) (n : Node) → value I (formula fs n) ≡ value_from I (map (value I) fs) n
value-formula I fs n =
    rw (get_or-map (value I) fs n.left falsum, get_or-map (value I) fs n.right falsum) (value-say I n.kind n.left _ _)

-- The values of the first nodes: as many as nodes, and one more from those before.
pub length-values_to : (I : Reading) (s : List ℕ) (k : ℕ) → length (values_to I s k) ≡ k
length-values_to I s k = length-map (formulas [] (up_to (node_in s) k)) (value I) ∙ length-formulas [] (up_to (node_in s) k) ∙ zero-add _ ∙ length-up_to (node_in s) k

pub values_to-none : (I : Reading) (s : List ℕ) → values_to I s 0 ≡ []
values_to-none I s = rw up_to-none

pub values_to_more : (I : Reading) (s : List ℕ) (k : ℕ) → values_to I s (k + 1) ≡ values_to I s k ++ (value_from I (values_to I s k) (node_in s k) ∷ [])
values_to_more I s k =
    let fs : List Formula = formulas [] (up_to (node_in s) k) in
    rw (formulas-up_to, map-append) (ap (λ v. map (value I) fs ++ (v ∷ [])) (value-formula I fs (node_in s k)))

-- What a writer of values has written so far, as it reads it back and after one store more.
module _ (I : Reading) (s old : List ℕ) (k : ℕ) where
  long : length (map number (values_to I s k)) ≡ k
  long = length-map (values_to I s k) number ∙ length-values_to I s k

  pub values_to_read : reading_of (take k (over (map number (values_to I s k)) old)) ≡ values_to I s k
  values_to_read = rw (take_at (map number (values_to I s k)) _ k long) (reading_of-number (values_to I s k))

  pub values_to_store : k < length old
      → set (over (map number (values_to I s k)) old) k (number (value_from I (values_to I s k) (node_in s k))) ≡ over (map number (values_to I s (k + 1))) old
  values_to_store h = rw (values_to_more I s k, map-append) (over_store (map number (values_to I s k)) old k _ long h)

-- The values of an image's book are those of its nodes' section.
pub node_values-book_of : (t : List ℕ) (I : Reading) → node_values (book_of t) I ≡ values_to I (node_section t) (node_count t)
unfolding book_of
node_values-book_of t I = refl
