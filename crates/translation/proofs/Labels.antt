-- The bytes that the code writes for labels are those of the extension: L's from the node's value, M's from the right side's. By the rows of the kinds and induction on the nodes. Assumes nothing.
use mathlib.Core.Path.{◌≡◌, refl, sym, ap, ap₂, ◌∙◌}
use mathlib.Core.Logic.{⊎_elim}
use mathlib.Core.Bool.{true, false, or-false}
use mathlib.Core.List.{List, [], ◌∷◌, ◌++◌, map, map-append, append_assoc, append-nil}
use Prim.Native.Nat.{ℕ, zero, suc, ◌+◌, ◌≤◌, ◌<◌}
use native.Mathlib.Decide.{le_ind}
use native.Mathlib.Numerals.{add-one}
use native.Mathlib.Omega.{arith}
use lib.ListN.{get_or, length, take, length-map, get_or-append, get_or-map}
use lib.Seq.{get_or-take, get_or_at, take_at}
use borrow.Author.Tests.{ltb-false}
use Rattle.refusal.specs.Table.{none}
use Rattle.refusal.specs.Rows.{wrong, reading_rows}
use Rattle.refusal.proofs.Rows.{none-argument_rows}
use Rattle.wire.specs.Wire.{over}
use Rattle.wire.specs.Sequence.{up_to}
use Rattle.wire.proofs.Sequence.{up_to-none, up_to_more}
use Rattle.logic.specs.declared.Value.TheVariants.{Neither}
use Rattle.logic.specs.Value.{number, of_byte, negation}
use Rattle.logic.specs.Formula.{Formula, falsum, Reading, reading_of, value}
use Rattle.logic.proofs.Values.{of_byte-number, number-of_byte}
use Rattle.theory.specs.declared.Kind.{Kind}
use Rattle.theory.specs.declared.Kind.TheVariants.{False, True, Atom, Not, And, Or, Implies}
use Rattle.theory.specs.declared.Node.{Node}
use Rattle.theory.specs.Book.{formula_at, formula, formulas}
use Rattle.theory.specs.Image.{atom_count, node_count, node_section, node_in, book_of}
use Rattle.theory.specs.Rows.{theory_rows}
use Rattle.theory.specs.NodeValues.{values_to, node_values}
use Rattle.theory.proofs.NodeValues.{value-formula, length-values_to, values_to_more, node_values-book_of}
use Rattle.flat.specs.Table.{label_count}
use Rattle.flat.specs.Extension.{meanings, labels, labels_from, extend}
use Rattle.flat.proofs.ByKind.{operands}
use Rattle.flat.proofs.Extensions.{length-extend}
use Rattle.translation.specs.Outcome.{size_of}
use Rattle.translation.specs.Turns.{Nodes, label_bytes, labels_to}
use Rattle.translation.proofs.Sections.{nodes-accepted}
use Rattle.translation.proofs.Turns.{labels_to-none, labels_grow}
use Rattle.translation.proofs.NodeTerms.{node-fits}

-- ---- one node more

labels_from_more : (fs : List Formula) (ns : List Node) (n : Node) → labels_from fs (ns ++ (n ∷ [])) ≡ labels_from fs ns ++ labels (formulas fs ns) n
labels_from_more fs [] n = append-nil _
labels_from_more fs (m ∷ ns) n = rw append_assoc (ap (λ l. labels fs m ++ l) (labels_from_more (fs ++ (formula fs m ∷ [])) ns n))

-- The bytes of what a kind's labels stand for.
meanings_bytes : (I : Reading) (k : Kind) (f g : Formula)
    → map number (map (value I) (meanings k f g)) ≡ take (label_count k) (number (value I f) ∷ number (negation (value I g)) ∷ [])
meanings_bytes I False f g = refl
meanings_bytes I True f g = refl
meanings_bytes I Atom f g = refl
meanings_bytes I Not f g = refl
meanings_bytes I And f g = refl
meanings_bytes I Or f g = refl
meanings_bytes I Implies f g = refl

-- ---- the values in the scratch

-- Later nodes leave the values of earlier ones.
values_keep : (I : Reading) (s : List ℕ) (k n : ℕ) → k ≤ n → (j : ℕ) → j < k → get_or (values_to I s n) j Neither ≡ get_or (values_to I s k) j Neither
values_keep I s k n h j l =
    le_ind (λ m. get_or (values_to I s m) j Neither ≡ get_or (values_to I s k) j Neither) refl
    (λ m g e. rw (← add-one, values_to_more) (get_or-append (values_to I s m) _ Neither j (omega (arith, length-values_to I s m)) ∙ e)) n h

module _ (A : ℕ) (s : List ℕ) (N : ℕ) (ok : Nodes A s N) (I : Reading) (values : List ℕ) (valued : take N values ≡ map number (values_to I s N)) where
  value_at : (j : ℕ) → j < N → get_or values j 0 ≡ number (get_or (values_to I s N) j Neither)
  value_at j h =
      sym (get_or-take N values j 0 h) ∙ ap (λ l. get_or l j 0) valued ∙ get_or-map number (values_to I s N) j Neither

  -- A node's value stands at its number,
  own_value : (k : ℕ) → k < N → get_or values k 0 ≡ number (value I (formula (formulas [] (up_to (node_in s) k)) (node_in s k)))
  own_value k h =
      value_at k h ∙ ap number (values_keep I s (k + 1) N (omega arith) k (omega arith)
      ∙ rw values_to_more (get_or_at (values_to I s k) _ [] Neither k (length-values_to I s k))
      ∙ sym (value-formula I (formulas [] (up_to (node_in s) k)) (node_in s k)))

  -- and that of an earlier node at its.
  earlier_value : (k j : ℕ) → k ≤ N → j < k → of_byte (get_or values j 0) ≡ value I (formula_at (formulas [] (up_to (node_in s) k)) j)
  earlier_value k j h l =
      ap of_byte (value_at j (omega arith)) ∙ of_byte-number _ ∙ values_keep I s k N h j l ∙ get_or-map (value I) (formulas [] (up_to (node_in s) k)) j falsum

  node-labels : (k : ℕ) → k < N → label_bytes values s k ≡ map number (map (value I) (labels (formulas [] (up_to (node_in s) k)) (node_in s k)))
  node-labels k h =
      let n = node_in s k in
      let fs = formulas [] (up_to (node_in s) k) in
      let fit = node-fits A s N ok k h in
      rw (meanings_bytes I n.kind (formula fs n) (formula_at fs n.right))
      (⊎_elim (λ e. rw e.1) (λ l. rw (own_value k h, earlier_value k n.right (omega arith) l.1))
      (operands A k n.kind n.left n.right fit.0 fit.1))

  pub labels_bytes : (k : ℕ) → k ≤ N → labels_to values s k ≡ map number (map (value I) (labels_from [] (up_to (node_in s) k)))
  labels_bytes zero h = rw (labels_to-none, up_to-none)
  labels_bytes (suc k) h =
      rw (← add-one, (labels_grow _ _).more, up_to_more, labels_from_more, map-append, map-append)
      (ap₂ ◌++◌ (labels_bytes k (omega arith)) (node-labels k h))

-- The bytes of a reading are its values' numbers, if none is over 2.
pub reading_bytes : (bytes : List ℕ) → ((i : ℕ) → i < length bytes → wrong false (get_or bytes i 0) ≡ false) → map number (reading_of bytes) ≡ bytes
reading_bytes [] h = refl
reading_bytes (b ∷ bytes) h =
    ap₂ ◌∷◌ (number-of_byte b (ltb-false 2 b (rw or-false at (h 0 (omega arith))))) (reading_bytes bytes (λ i l. h (suc i) (omega arith)))

-- ---- the whole extension

pub atoms-book_of : (t : List ℕ) → (book_of t).atoms ≡ atom_count t
unfolding book_of
atoms-book_of t = refl

module _ (t reading : List ℕ) (ok : none (theory_rows t) ≡ true) (fine : none (reading_rows (atom_count t) reading) ≡ true) where
  pub reading-long : length reading ≡ atom_count t
  reading-long = (none-argument_rows false (atom_count t) reading fine).0

  pub reading_of-long : length (reading_of reading) ≡ (book_of t).atoms
  reading_of-long = length-map reading of_byte ∙ reading-long ∙ sym (atoms-book_of t)

  -- The nodes' values, as they are written over a scratch.
  pub scratch_values : (scratch old : List ℕ) → scratch ≡ over (map number (node_values (book_of t) (reading_of reading))) old
      → take (node_count t) scratch ≡ map number (values_to (reading_of reading) (node_section t) (node_count t))
  scratch_values scratch old e =
      let vs = values_to (reading_of reading) (node_section t) (node_count t) in
      rw (e, node_values-book_of t (reading_of reading)) (take_at (map number vs) _ (node_count t) (length-map vs number ∙ length-values_to (reading_of reading) (node_section t) (node_count t)))

  -- The extension's bytes: the reading, then the labels.
  pub extension_bytes : (scratch : List ℕ) → take (node_count t) scratch ≡ map number (values_to (reading_of reading) (node_section t) (node_count t))
      → map number (extend (book_of t) (reading_of reading)) ≡ reading ++ labels_to scratch (node_section t) (node_count t)
  unfolding book_of
  extension_bytes scratch valued =
      map-append number (reading_of reading) _
      ∙ ap₂ ◌++◌ (reading_bytes reading (none-argument_rows false (atom_count t) reading fine).1)
      (sym (labels_bytes (atom_count t) (node_section t) (node_count t) (nodes-accepted t ok) (reading_of reading) scratch valued (node_count t) (omega arith)))

  -- They are B bytes.
  pub length_extension : length (map number (extend (book_of t) (reading_of reading))) ≡ size_of t
  length_extension = length-map (extend (book_of t) (reading_of reading)) number ∙ length-extend (book_of t) (reading_of reading) reading_of-long
