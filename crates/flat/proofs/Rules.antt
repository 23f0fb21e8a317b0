-- What the flat program says of a reading J: its labels have their values, and the roots and the pairs are satisfied. By induction on the nodes and on the pairs, with J fixed.
use mathlib.Core.Path.{◌≡◌, refl, sym, ◌∙◌, ap, ap₂}
use mathlib.Core.Bool.{Bool, true, false, ◌&&◌, and-true, and_assoc, beq}
use mathlib.Core.List.{List, [], ◌∷◌, ◌++◌, map, map-append}
use Prim.Native.Nat.{ℕ, suc, ◌+◌, ◌<◌}
use native.Mathlib.Nat.{add-zero, add-suc, suc-add}
use lib.Dec.{leb, ltb}
use lib.ListN.{get_or, length, length-map, get_or-map}
use borrow.Author.Tests.{ltb-true}
use Rattle.logic.specs.declared.Value.{Value}
use Rattle.logic.specs.declared.Value.TheVariants.{Neither, Both}
use Rattle.logic.specs.Value.{number, smaller, larger, negation, true_here}
use Rattle.logic.specs.Formula.{Formula, falsum, neg, Reading, value_of, value, satisfies}
use Rattle.logic.proofs.Bools.{beq_sound, &&_split, &&_if}
use Rattle.logic.proofs.Finite.{same, same_sound, agree₁, agree₂}
use Rattle.theory.specs.declared.Kind.{Kind}
use Rattle.theory.specs.declared.Kind.TheVariants.{False, True, Atom, Not, And, Or, Implies}
use Rattle.theory.specs.declared.Node.{Node}
use Rattle.theory.specs.declared.Pair.{Pair}
use Rattle.theory.specs.Book.{left_limit, left_fits, right_fits, fits, all_fit, pair_fits, pairs_fit, say, formula_at, formula, formulas, pair_formula}
use Rattle.theory.proofs.PairLaws.{pair-below}
use Rattle.program.specs.Rule.{all_hold}
use Rattle.program.proofs.Rules.{all_hold-append}
use Rattle.flat.specs.Table.{label_count}
use Rattle.flat.specs.Flat.{Term, constant, simplify, term_at, node_rules, term_of, term, fact, facts, pair_rule, rules_from}
use Rattle.flat.specs.Extension.{meanings, labels, labels_from}
use Rattle.flat.proofs.Simplify.{term_value, simplify-holds}
use Rattle.flat.proofs.OneNode.{labelled, one_node}

-- J has the values vs from place n on.
abbrev pub agree : Reading → ℕ → List Value → Bool
agree J n [] = true
agree J n (v ∷ vs) = same (value_of J n) v && agree J (suc n) vs

agree_append : (J : Reading) (n : ℕ) (us vs : List Value) → agree J n (us ++ vs) ≡ (agree J n us && agree J (n + length us) vs)
agree_append J n [] vs = rw add-zero
agree_append J n (u ∷ us) vs = rw (agree_append J (suc n) us vs, add-suc, suc-add) (sym (and_assoc (same (value_of J n) u) _ _))

agree_first : (J : Reading) (n : ℕ) (v : Value) (vs : List Value) → agree J n (v ∷ vs) ≡ true → value_of J n ≡ v
agree_first J n v vs h = same_sound (value_of J n) v (&&_split (same (value_of J n) v) (agree J (suc n) vs) h).0

-- A fact holds exactly if its head has the value 2.
fact-value : (a : Value) → leb 2 (number (larger a Neither)) ≡ true_here a
fact-value = agree₁ beq beq_sound (λ a. leb 2 (number (larger a Neither))) true_here refl

-- A pair's rule holds exactly if not both has the value 2.
pair-value : (a b : Value) → leb (number (smaller (smaller a (smaller b Both)) Both)) 0 ≡ true_here (negation (smaller a b))
pair-value = agree₂ beq beq_sound (λ a b. leb (number (smaller (smaller a (smaller b Both)) Both)) 0) (λ a b. true_here (negation (smaller a b))) refl

pub length-meanings : (k : Kind) (f g : Formula) → length (meanings k f g) ≡ label_count k
length-meanings False f g = refl
length-meanings True f g = refl
length-meanings Atom f g = refl
length-meanings Not f g = refl
length-meanings And f g = refl
length-meanings Or f g = refl
length-meanings Implies f g = refl

-- I reads the book's A atoms as J does.
module _ (A : ℕ) (I J : Reading) (low : (a : ℕ) → a < A → value_of J a ≡ value_of I a) where
  labelled_agree : (k : Kind) (a next : ℕ) (f g : Formula)
      → labelled k (value I f) (value I g) (value_of J next) (value_of J (suc next)) ≡ agree J next (map (value I) (meanings k (say k a f g) g))
  labelled_agree False a next f g = refl
  labelled_agree True a next f g = refl
  labelled_agree Atom a next f g = refl
  labelled_agree Not a next f g = sym (and-true _)
  labelled_agree And a next f g = sym (and-true _)
  labelled_agree Or a next f g = sym (and-true _)
  labelled_agree Implies a next f g = simp and-true

  term-value : (k : Kind) (a i next : ℕ) (f g : Formula) → ltb a (left_limit A i k) ≡ true
      → agree J next (map (value I) (meanings k (say k a f g) g)) ≡ true → term_value J (term_of next k a) ≡ value I (say k a f g)
  term-value False a i next f g ok h = refl
  term-value True a i next f g ok h = refl
  term-value Atom a i next f g ok h = low a (ltb-true a A ok)
  term-value Not a i next f g ok h = agree_first J next (value I (neg f)) [] h
  term-value And a i next f g ok h = agree_first J next (value I (say And a f g)) [] h
  term-value Or a i next f g ok h = agree_first J next (value I (say Or a f g)) [] h
  term-value Implies a i next f g ok h = agree_first J next (value I (say Implies a f g)) (value I (neg g) ∷ []) h

  -- The terms have the values of the formulas.
  abbrev Sound : List Term → List Formula → Type 0
  Sound ts fs = map (term_value J) ts ≡ map (value I) fs

  sound_at : (ts : List Term) (fs : List Formula) → Sound ts fs → (k : ℕ) → term_value J (term_at ts k) ≡ value I (formula_at fs k)
  sound_at ts fs s k = sym (get_or-map (term_value J) ts k (constant false)) ∙ ap (λ l. get_or l k Neither) s ∙ get_or-map (value I) fs k falsum

  node-say : (ts : List Term) (fs : List Formula) → Sound ts fs → (next : ℕ) (n : Node)
      → all_hold (value_of J) (node_rules ts next n) ≡ agree J next (map (value I) (labels fs n))
  node-say ts fs s next n = one_node J n.kind (term_at ts n.left) (term_at ts n.right) next
      ∙ rw (sound_at ts fs s n.left, sound_at ts fs s n.right)
      (labelled_agree n.kind n.left next (formula_at fs n.left) (formula_at fs n.right))

  facts-say : (ts : List Term) (fs : List Formula) → Sound ts fs → (roots : List ℕ)
      → all_hold (value_of J) (facts ts roots) ≡ satisfies I (map (formula_at fs) roots)
  facts-say ts fs s [] = refl
  facts-say ts fs s (k ∷ ks) =
      all_hold-append (value_of J) (simplify (fact (term_at ts k))) (facts ts ks)
      ∙ ap₂ ◌&&◌ (simplify-holds J (fact (term_at ts k)) ∙ fact-value (term_value J (term_at ts k)) ∙ ap true_here (sound_at ts fs s k)) (facts-say ts fs s ks)

  pub rules-say : (roots : List ℕ) (ts : List Term) (fs : List Formula) → Sound ts fs → (i next : ℕ) (ns : List Node) → all_fit A i ns ≡ true
      → all_hold (value_of J) (rules_from roots ts next ns)
      ≡ (agree J next (map (value I) (labels_from fs ns)) && satisfies I (map (formula_at (formulas fs ns)) roots))
  rules-say roots ts fs s i next [] ok = facts-say ts fs s roots
  rules-say roots ts fs s i next (n ∷ ns) ok =
      let ts' = ts ++ (term next n ∷ []) in
      let fs' = fs ++ (formula fs n ∷ []) in
      let rest = rules_from roots ts' (next + label_count n.kind) ns in
      let now = agree J next (map (value I) (labels fs n)) in
      let later = agree J (next + label_count n.kind) (map (value I) (labels_from fs' ns)) in
      let asserted = satisfies I (map (formula_at (formulas fs' ns)) roots) in
      let fit = &&_split (fits A i n) (all_fit A (suc i) ns) ok in
      let left-fits = (&&_split (left_fits A i n) (right_fits i n) fit.0).0 in
      let sound : now ≡ true → Sound ts' fs'
      = λ h. rw (map-append (term_value J) ts (term next n ∷ []), map-append (value I) fs (formula fs n ∷ []), s, term-value n.kind n.left i next (formula_at fs n.left) (formula_at fs n.right) left-fits h) in
      all_hold-append (value_of J) (node_rules ts next n) rest
      ∙ ap (λ q. q && all_hold (value_of J) rest) (node-say ts fs s next n)
      ∙ &&_if now (all_hold (value_of J) rest) (later && asserted) (λ h. rules-say roots ts' fs' (sound h) (suc i) (next + label_count n.kind) ns fit.1)
      ∙ sym (and_assoc now later asserted)
      ∙ rw (map-append, agree_append J next, length-map, length-meanings)

  -- The pairs' rules say what the pairs' formulas say.
  pub pairs-say : (ps : List Pair) → pairs_fit A ps ≡ true → all_hold (value_of J) (map pair_rule ps) ≡ satisfies I (map pair_formula ps)
  pairs-say [] ok = refl
  pairs-say (p ∷ ps) ok =
      let fit = &&_split (pair_fits A p) (pairs_fit A ps) ok in
      let below = pair-below A p fit.0 in
      rw (low p.first below.0, low p.second below.1) (ap₂ ◌&&◌ (pair-value (value_of I p.first) (value_of I p.second)) (pairs-say ps fit.1))
