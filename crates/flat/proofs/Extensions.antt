-- Laws of the extension: its length, what dropping the labels gives, and that each label holds the value it stands for.
use mathlib.Core.Path.{◌≡◌, refl, sym, ◌∙◌, ap, ap₂}
use mathlib.Core.Logic.{◌↔◌}
use mathlib.Core.Bool.{true}
use mathlib.Core.List.{List, [], ◌∷◌, ◌++◌, map, map-append}
use Prim.Native.Nat.{ℕ, zero, suc, ◌+◌, ◌<◌}
use native.Mathlib.Nat.{add-zero, zero-add, add_assoc}
use native.Mathlib.Omega.{arith}
use lib.Dec.{ltb}
use lib.ListN.{get_or, length, take, drop, length-map, length-append, drop_of_length-le, get_or-append, get_or-map}
use lib.Seq.{drop-cons, take_at, get_or-append-add, length-take-le}
use borrow.Author.Tests.{ltb-true}
use Rattle.logic.specs.declared.Value.{Value}
use Rattle.logic.specs.declared.Value.TheVariants.{Neither}
use Rattle.logic.specs.Value.{negation}
use Rattle.logic.specs.Formula.{Formula, falsum, Reading, value_of, value}
use Rattle.logic.proofs.Bools.{&&_split}
use Rattle.logic.proofs.Finite.{same, same_sound, same_refl}
use Rattle.logic.proofs.Values.{up}
use Rattle.logic.proofs.Formulas.{values_up}
use Rattle.theory.specs.declared.Kind.{Kind}
use Rattle.theory.specs.declared.Kind.TheVariants.{False, True, Atom, Not, And, Or, Implies}
use Rattle.theory.specs.declared.Node.{Node}
use Rattle.theory.specs.Book.{node_at, Book, left_limit, right_limit, WellFormed, formula_at, formula, formulas, node_formulas}
use Rattle.theory.proofs.Books.{all_fit_at, length-formulas, formulas-keep, formulas_split, formulas_at}
use Rattle.flat.specs.Table.{label_count}
use Rattle.flat.specs.Flat.{label_total, flat}
use Rattle.flat.specs.Extension.{meanings, labels, labels_from, book_labels, extend, first_label}
use Rattle.flat.proofs.Rules.{agree, length-meanings}

-- J has the values vs from place n to its end exactly if they are what is left of it there.
pub agree_iff : (J : Reading) (n : ℕ) (vs : List Value) → length J ≡ n + length vs → (agree J n vs ≡ true) ↔ (drop n J ≡ vs)
agree_iff J n [] e = (λ h. drop_of_length-le J {i = n} (omega arith), λ h. refl)
agree_iff J n (v ∷ vs) e =
    let ih = agree_iff J (suc n) vs (omega arith) in
    let split : drop n J ≡ get_or J n Neither ∷ drop (suc n) J = drop-cons J n Neither (omega arith) in (
      λ h. let q = &&_split (same (value_of J n) v) (agree J (suc n) vs) h in split ∙ ap₂ ◌∷◌ (same_sound (value_of J n) v q.0) (ih.0 q.1),
      λ h. let a : value_of J n ≡ v = cc in let b : drop (suc n) J ≡ vs = cc in rw (a, same_refl v) (ih.1 b),
    )

length-labels_from : (fs : List Formula) (ns : List Node) → length (labels_from fs ns) ≡ label_total ns
length-labels_from fs [] = refl
length-labels_from fs (n ∷ ns) = rw (length-append, length-meanings, length-labels_from (fs ++ (formula fs n ∷ [])) ns)

module _ (b : Book) where
  pub extend_up : (I : Reading) → map up (extend b I) ≡ extend b (map up I)
  extend_up I = map-append up I (map (value I) (book_labels b)) ∙ ap (λ l. map up I ++ l) (values_up I (book_labels b))

  pub length-labels : (I : Reading) → length (map (value I) (book_labels b)) ≡ label_total b.nodes
  length-labels I = length-map (book_labels b) (value I) ∙ length-labels_from [] b.nodes

  pub length-extend : (I : Reading) → length I ≡ b.atoms → length (extend b I) ≡ (flat b).size
  length-extend I e = rw (length-append, length-labels I, e)

  pub take-extend : (I : Reading) → length I ≡ b.atoms → take b.atoms (extend b I) ≡ I
  take-extend I e = take_at I (map (value I) (book_labels b)) b.atoms e

  -- Label i, counted from A on, holds the value of what it stands for.
  label_value : (I : Reading) → length I ≡ b.atoms → (i : ℕ) → value_of (extend b I) (b.atoms + i) ≡ value I (get_or (book_labels b) i falsum)
  label_value I e i = rw (← e) (get_or-append-add I (map (value I) (book_labels b)) i Neither ∙ get_or-map (value I) (book_labels b) i falsum)

-- The labels of node k stand behind those of the nodes before it.
labels_at : (fs : List Formula) (ns : List Node) (k i : ℕ) → k < length ns → i < label_count (node_at ns k).kind
    → get_or (labels_from fs ns) (label_total (take k ns) + i) falsum ≡ get_or (labels (formulas fs (take k ns)) (node_at ns k)) i falsum
labels_at fs [] k i h l = absurd (omega arith)
labels_at fs (n ∷ ns) zero i h l = rw zero-add
    (get_or-append (labels fs n) (labels_from (fs ++ (formula fs n ∷ [])) ns) falsum i
    (rw (length-meanings n.kind (formula fs n) (formula_at fs n.right)) l))
labels_at fs (n ∷ ns) (suc k) i h l =
    let fs' = fs ++ (formula fs n ∷ []) in
    let e = length-meanings n.kind (formula fs n) (formula_at fs n.right) in
    rw (add_assoc, ← e) (get_or-append-add (labels fs n) (labels_from fs' ns) (label_total (take k ns) + i) falsum ∙ labels_at fs' ns k i (omega arith) l)

meaning_L : (k : Kind) (f g : Formula) → 0 < label_count k → get_or (meanings k f g) 0 falsum ≡ f
meaning_L False f g h = absurd (omega arith)
meaning_L True f g h = absurd (omega arith)
meaning_L Atom f g h = absurd (omega arith)
meaning_L Not f g h = refl
meaning_L And f g h = refl
meaning_L Or f g h = refl
meaning_L Implies f g h = refl

module _ (b : Book) (ok : WellFormed b) (I : Reading) (e : length I ≡ b.atoms) (k : ℕ) (h : k < length b.nodes) where
  -- L of a node that takes labels holds the node's value.
  pub label_L : 0 < label_count (node_at b.nodes k).kind → value_of (extend b I) (first_label b k) ≡ value I (formula_at (node_formulas b) k)
  label_L l =
      let fs = formulas [] (take k b.nodes) in
      let n = node_at b.nodes k in
      label_value b I e (label_total (take k b.nodes))
      ∙ ap (λ j. value I (get_or (book_labels b) j falsum)) (sym (add-zero _))
      ∙ ap (value I) (labels_at [] b.nodes k 0 h l ∙ meaning_L n.kind (formula fs n) (formula_at fs n.right) l
      ∙ sym (formulas_at [] b.nodes k h) ∙ ap (formula_at (node_formulas b)) (zero-add k))

  -- M of an implication holds the value of not its right side.
  pub label_M : (node_at b.nodes k).kind ≡ Implies
      → value_of (extend b I) (suc (first_label b k)) ≡ negation (value I (formula_at (node_formulas b) (node_at b.nodes k).right))
  label_M m =
      let fs = formulas [] (take k b.nodes) in
      let n = node_at b.nodes k in
      let two : label_count n.kind ≡ 2 = ap label_count m in
      let place : suc (first_label b k) ≡ b.atoms + (label_total (take k b.nodes) + 1) = omega arith in
      let fit = (&&_split (ltb n.left (left_limit b.atoms (0 + k) n.kind)) (ltb n.right (right_limit (0 + k) n.kind))
      (all_fit_at b.atoms 0 b.nodes ok.nodes_fit k h)).1 in
      let right-earlier : n.right < k = rw (m, zero-add) at (ltb-true n.right (right_limit (0 + k) n.kind) fit) in
      let length-fs : length fs ≡ k = length-formulas [] (take k b.nodes) ∙ zero-add _ ∙ length-take-le k b.nodes (omega arith) in
      let same-right : formula_at (node_formulas b) n.right ≡ formula_at fs n.right
      = ap (λ l. formula_at l n.right) (formulas_split [] b.nodes k) ∙ formulas-keep fs (drop k b.nodes) n.right (omega arith) in
      rw (place, same-right)
      (label_value b I e (label_total (take k b.nodes) + 1)
      ∙ ap (value I) (labels_at [] b.nodes k 1 h (omega arith) ∙ ap (λ t. get_or (meanings t (formula fs n) (formula_at fs n.right)) 1 falsum) m))
