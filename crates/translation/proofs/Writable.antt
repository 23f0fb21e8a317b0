-- The flat program of an accepted image passes 22 and 26: its rules have at most three literals, and its names are below B. By the rows of the kinds and induction. Assumes nothing.
use mathlib.Core.Path.{◌≡◌, refl}
use mathlib.Core.Bool.{Bool, true, false, ◌&&◌}
use mathlib.Core.List.{List, [], ◌∷◌, ◌++◌, map}
use Prim.Native.Nat.{ℕ, zero, suc, ◌+◌, ◌≤◌, ◌<◌}
use native.Mathlib.Decide.{le_ind}
use native.Mathlib.Numerals.{add-one}
use native.Mathlib.Omega.{arith}
use lib.Dec.{leb, ltb}
use lib.ListN.{length, take, length-append, length-map}
use borrow.Author.Tests.{lt-ltb, le-ltb, le-leb, leb-true}
use Rattle.refusal.specs.Limits.{most_atoms, most_b, most_rules}
use Rattle.refusal.specs.Table.{Row, none}
use Rattle.refusal.proofs.Table.{cases}
use Rattle.logic.proofs.Bools.{&&_split, &&_join}
use Rattle.theory.specs.declared.Kind.{Kind}
use Rattle.theory.specs.declared.Kind.TheVariants.{False, True, Atom, Not, And, Or, Implies}
use Rattle.theory.specs.Book.{pair_fits}
use Rattle.theory.specs.Image.{atom_count, node_count, root_count, pair_count, node_section, root_section, pair_section, node_in, root_in, pair_in, book_of}
use Rattle.theory.specs.Rows.{theory_rows}
use Rattle.theory.proofs.Accepted.{accepted, accepted_well_formed}
use Rattle.theory.proofs.PairLaws.{pair-below}
use Rattle.program.specs.Rule.{RuleOf, Rule}
use Rattle.program.specs.Image.{total_of, most_literals, program_of, literals, image_of}
use Rattle.program.specs.Rows.{outside, program_rows}
use Rattle.wire.specs.Sequence.{up_to}
use Rattle.wire.specs.Wire.{all_below}
use Rattle.wire.proofs.Sequence.{length-up_to}
use Rattle.program.specs.Writable.{rule_writable, rules_writable, writable}
use Rattle.program.proofs.Reading.{image_of-accepted, program_of-image_of, image_of_part}
use Rattle.flat.specs.Table.{Slot, x, y, L, M, rows, label_count}
use Rattle.flat.specs.Flat.{Term, constant, name, names, removes, reduce, simplify, fill, fact, map_rule, instances, term_at, pair_rule, flat, largest_b}
use Rattle.flat.proofs.Sizes.{size_bound}
use Rattle.table.proofs.OneRule.{Below, length-names}
use Rattle.translation.specs.Outcome.{size_of, rule_total}
use Rattle.translation.specs.Turns.{Nodes, next_to, terms_to, rules_to, facts_to, pairs_to}
use Rattle.translation.proofs.Turns.{next_to-none, next_to_more, rules_to-none, rules_grow, facts_to-none, facts_grow, flat-size, flat-rules}
use Rattle.translation.proofs.NodeTerms.{below_le, terms_below}
use Rattle.translation.proofs.Sections.{nodes-accepted, accepted_total}

-- ---- lists of atoms, and of rules

all_below-append : (B : ℕ) (l m : List ℕ) → all_below B l ≡ true → all_below B m ≡ true → all_below B (l ++ m) ≡ true
all_below-append B [] m h k = k
all_below-append B (a ∷ l) m h k = let s = &&_split (ltb a B) (all_below B l) h in &&_join s.0 (all_below-append B l m s.1 k)

rules_writable-append : (packed : Bool) (B : ℕ) (rs qs : List Rule) → rules_writable packed B rs ≡ true → rules_writable packed B qs ≡ true → rules_writable packed B (rs ++ qs) ≡ true
rules_writable-append packed B [] qs h k = k
rules_writable-append packed B (r ∷ rs) qs h k =
    let s = &&_split (rule_writable packed B r) (rules_writable packed B rs) h in
    &&_join s.0 (rules_writable-append packed B rs qs s.1 k)

-- ---- one rule

-- Either form allows three literals.
three_allowed : (packed : Bool) (n : ℕ) → n ≤ 3 → n ≤ most_literals packed
three_allowed true n h = omega arith
three_allowed false n h = h

-- Each term of the list that is a name is below B.
abbrev AllBelow : ℕ → List Term → Type 0
AllBelow B [] = Unit {0}
AllBelow B (t ∷ ts) = Below B t × AllBelow B ts

names-below : (B : ℕ) (ts : List Term) → AllBelow B ts → all_below B (names ts) ≡ true
names-below B [] h = refl
names-below B (constant b ∷ ts) h = names-below B ts h.1
names-below B (name a ∷ ts) h = &&_join (lt-ltb a B h.0) (names-below B ts h.1)

simplify-writable : (packed : Bool) (B : ℕ) (r : RuleOf Term) → length r.heads + (length r.positives + length r.negatives) ≤ 3
    → AllBelow B r.heads → AllBelow B r.positives → AllBelow B r.negatives → rules_writable packed B (simplify r) ≡ true
simplify-writable packed B r few h p n =
    let short : length (literals (reduce r)) ≤ 3
    = simp length-append (omega (arith, length-names r.heads, length-names r.positives, length-names r.negatives)) in
    let below = all_below-append B (names r.heads) _ (names-below B r.heads h)
    (all_below-append B (names r.positives) (names r.negatives) (names-below B r.positives p) (names-below B r.negatives n)) in
    cases (removes r) (λ t. rw t) (λ f. rw f (&&_join (&&_join (le-leb _ _ (three_allowed packed _ short)) below) refl))

-- ---- the rows of a kind

map_below : (B : ℕ) (f : Slot → Term) → ((s : Slot) → Below B (f s)) → (l : List Slot) → AllBelow B (map f l)
map_below B f h [] = tt
map_below B f h (s ∷ l) = (h s, map_below B f h l)

-- Each row has at most three literals.
abbrev rows_few : List (RuleOf Slot) → Bool
rows_few [] = true
rows_few (r ∷ rs) = leb (length r.heads + (length r.positives + length r.negatives)) 3 && rows_few rs

instances-writable : (packed : Bool) (B : ℕ) (f : Slot → Term) → ((s : Slot) → Below B (f s)) → (rs : List (RuleOf Slot)) → rows_few rs ≡ true → rules_writable packed B (instances f rs) ≡ true
instances-writable packed B f h [] few = refl
instances-writable packed B f h (r ∷ rs) few =
    let s = &&_split (leb (length r.heads + (length r.positives + length r.negatives)) 3) (rows_few rs) few in
    rules_writable-append packed B (simplify (map_rule f r)) (instances f rs)
    (simplify-writable packed B (map_rule f r) (simp length-map (leb-true _ _ s.0)) (map_below B f h r.heads) (map_below B f h r.positives) (map_below B f h r.negatives))
    (instances-writable packed B f h rs s.1)

module _ (B next : ℕ) (left right : Term) (l : Below B left) (r : Below B right) where
  -- Only implies has M.
  abbrev without_m : Slot → Term
  without_m x = left
  without_m y = right
  without_m L = name next
  without_m M = left

  without_m_below : next < B → (s : Slot) → Below B (without_m s)
  without_m_below h x = l
  without_m_below h y = r
  without_m_below h L = h
  without_m_below h M = l

  fill-below : suc next < B → (s : Slot) → Below B (fill left right next s)
  fill-below h x = l
  fill-below h y = r
  fill-below h L = omega arith
  fill-below h M = h

  kind-writable : (packed : Bool) (k : Kind) → next + label_count k ≤ B → rules_writable packed B (instances (fill left right next) (rows k)) ≡ true
  kind-writable packed False h = refl
  kind-writable packed True h = refl
  kind-writable packed Atom h = refl
  kind-writable packed Not h = instances-writable packed B without_m (without_m_below (omega arith)) (rows Not) refl
  kind-writable packed And h = instances-writable packed B without_m (without_m_below (omega arith)) (rows And) refl
  kind-writable packed Or h = instances-writable packed B without_m (without_m_below (omega arith)) (rows Or) refl
  kind-writable packed Implies h = instances-writable packed B (fill left right next) (fill-below (omega arith)) (rows Implies) refl

-- ---- the whole program

module _ (A : ℕ) (s : List ℕ) (N : ℕ) (ok : Nodes A s N) where
  next_up : (k n : ℕ) → k ≤ n → next_to A s k ≤ next_to A s n
  next_up k n h = le_ind (λ m. next_to A s k ≤ next_to A s m) (omega arith) (λ m l e. rw (← add-one, next_to_more) (omega arith)) n h

  rules_to-writable : (packed : Bool) (k : ℕ) → k ≤ N → rules_writable packed (next_to A s N) (rules_to A s k) ≡ true
  rules_to-writable packed zero h = rw rules_to-none
  rules_to-writable packed (suc k) h =
      let n = node_in s k in
      let B = next_to A s N in
      let term_in : (j : ℕ) → Below B (term_at (terms_to A s k) j)
      = λ j. below_le (next_to A s k) B (next_up k N (omega arith)) (term_at (terms_to A s k) j) (terms_below A s N ok k (omega arith) j) in
      let room : next_to A s k + label_count n.kind ≤ B = rw next_to_more at (next_up (k + 1) N (omega arith)) in
      rw (← add-one, (rules_grow _ _).more)
      (rules_writable-append packed B (rules_to A s k) _ (rules_to-writable packed k (omega arith))
      (kind-writable B (next_to A s k) _ _ (term_in n.left) (term_in n.right) packed n.kind room))

  facts_to-writable : (packed : Bool) (roots : List ℕ) (i : ℕ) → rules_writable packed (next_to A s N) (facts_to (term_at (terms_to A s N)) roots i) ≡ true
  facts_to-writable packed roots zero = rw facts_to-none
  facts_to-writable packed roots (suc i) =
      let B = next_to A s N in
      rw (← add-one, (facts_grow _ _).more)
      (rules_writable-append packed B (facts_to (term_at (terms_to A s N)) roots i) _ (facts_to-writable packed roots i)
      (simplify-writable packed B (fact (term_at (terms_to A s N) (root_in roots i))) (omega arith) (terms_below A s N ok N (omega arith) (root_in roots i), tt) tt tt))

-- A pair's rule has two literals, both atoms of the book.
pairs_to-writable : (packed : Bool) (A B : ℕ) → A ≤ B → (s : List ℕ) (n : ℕ) → ((i : ℕ) → i < n → pair_fits A (pair_in s i) ≡ true) → rules_writable packed B (pairs_to s n) ≡ true
unfolding up_to
pairs_to-writable packed A B le s zero h = refl
pairs_to-writable packed A B le s (suc n) h =
    let p = pair_in s n in
    let below = pair-below A p (h n (omega arith)) in
    rules_writable-append packed B (pairs_to s n) (pair_rule p ∷ []) (pairs_to-writable packed A B le s n (λ i l. h i (omega arith)))
    (rw (le-leb 2 (most_literals packed) (three_allowed packed 2 (omega arith)), lt-ltb p.first B (omega arith), lt-ltb p.second B (omega arith)))

module _ (t : List ℕ) (ok : none (theory_rows t) ≡ true) where
  abbrev terms : List Term
  terms = terms_to (atom_count t) (node_section t) (node_count t)

  -- B is at most 1,024 + 2 * 1,023, as of every book within the limits.
  pub accepted-size : size_of t ≤ largest_b
  unfolding book_of
  accepted-size =
      let header = (accepted t ok).header in
      size_bound (book_of t) (accepted_well_formed t ok) header.few-atoms (rw (length-up_to (node_in (node_section t)) (node_count t)) header.few-nodes)

  -- So a row that applies only where B is over the program's limit does not apply.
  pub over_idle : (r : Row) → (r.applies ≡ true → most_b < size_of t) → r.applies ≡ false
  over_idle r over = cases r.applies (λ a. absurd (omega (arith, accepted-size, over a))) (λ a. a)

  rules-writable : (packed : Bool) → rules_writable packed (size_of t) (flat (book_of t)).rules ≡ true
  rules-writable packed =
      let s = node_section t in
      let nodes = nodes-accepted t ok in
      rw (flat-size t, flat-rules t (term_at terms) (λ i h. refl))
      (rules_writable-append packed _ (rules_to (atom_count t) s (node_count t) ++ _) _
      (rules_writable-append packed _ (rules_to (atom_count t) s (node_count t)) _
      (rules_to-writable (atom_count t) s (node_count t) nodes packed (node_count t) (omega arith))
      (facts_to-writable (atom_count t) s (node_count t) nodes packed (root_section t) (root_count t)))
      (pairs_to-writable packed (atom_count t) _ (rw next_to-none at (next_up (atom_count t) s (node_count t) nodes 0 (node_count t) (omega arith))) (pair_section t) (pair_count t) (accepted t ok).pairs_all_fit))

  within : outside (book_of t).atoms (size_of t) (rule_total t) ≡ false
  unfolding book_of
  within =
      let few = (nodes-accepted t ok).few-atoms in
      rw (le-ltb most_atoms (atom_count t) few, le-ltb (size_of t) (atom_count t) (omega arith), le-ltb most_b (size_of t) (omega (arith, accepted-size)), le-ltb most_rules (rule_total t) (omega (arith, accepted_total t ok)))

  pub flat-writable : (packed : Bool) → writable packed (flat (book_of t)) ≡ true
  flat-writable packed = rw within (rules-writable packed)

  -- What is written in either form passes the program's check, is read back as the flat program, and ends where its total says.
  module _ (packed : Bool) where
    pub translated-accepted : none (program_rows (image_of packed (flat (book_of t)))) ≡ true
    translated-accepted = image_of-accepted packed (flat (book_of t)) (flat-writable packed)

    pub translated_read : program_of (image_of packed (flat (book_of t))) ≡ flat (book_of t)
    translated_read = program_of-image_of packed (flat (book_of t)) (flat-writable packed)

    pub translated_part : (rest : List ℕ) → let p = image_of packed (flat (book_of t)) in take (total_of (p ++ rest)) (p ++ rest) ≡ p
    translated_part = image_of_part packed (flat (book_of t)) (flat-writable packed)
