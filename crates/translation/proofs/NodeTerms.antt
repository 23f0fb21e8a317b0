-- A node's operands stand before it, so the terms that the code has numbered by then give its rules. By the rows of the kinds and induction on the nodes. Assumes nothing.
use mathlib.Core.Path.{◌≡◌, refl, sym, ap, ◌∙◌, fun_ext}
use mathlib.Core.Logic.{⊎_elim}
use mathlib.Core.Bool.{true, false}
use mathlib.Core.List.{List, [], ◌∷◌, ◌++◌, map}
use Prim.Native.Nat.{ℕ, zero, suc, ◌+◌, ◌*◌, ◌≤◌, ◌<◌}
use native.Mathlib.Decide.{le_ind}
use native.Mathlib.Numerals.{add-one}
use native.Mathlib.Omega.{arith}
use lib.ListN.{get_or, length, length-map, get_or-append, get_or-map}
use lib.Seq.{get_or-take}
use Rattle.refusal.specs.Limits.{most_atoms, most_nodes, most_b}
use Rattle.wire.specs.Sequence.{up_to}
use Rattle.wire.proofs.Sequence.{length-up_to}
use Rattle.theory.specs.declared.Kind.{Kind}
use Rattle.theory.specs.declared.Kind.TheVariants.{False, True, Atom, Not, And, Or, Implies}
use Rattle.theory.specs.declared.Node.{Node}
use Rattle.theory.specs.Book.{left_limit, right_limit}
use Rattle.theory.specs.Image.{node_in}
use Rattle.theory.proofs.Books.{fits-left, fits-right}
use Rattle.theory.proofs.Accepted.{kept_fits}
use Rattle.flat.specs.Table.{Slot, x, y, L, M, rows, label_count}
use Rattle.flat.specs.Flat.{Term, constant, name, fill, instances, term_at, node_rules, term_of, term}
use Rattle.flat.proofs.ByKind.{label_count_le, operands}
use Rattle.flat.proofs.Sizes.{label_total_le}
use Rattle.table.specs.OneRule.{false_term, code, decode, filled}
use Rattle.table.proofs.OneRule.{Below, decode-code}
use Rattle.translation.specs.Turns.{Nodes, next_to, terms_to, slot_terms, kind_rules, NumberedTo}
use Rattle.translation.proofs.Turns.{next_to_more, terms_to-none, terms_to_more, length-terms_to}

-- ---- by kind

limits_small : (A k : ℕ) (kind : Kind) → A ≤ most_atoms → k < most_nodes → (left_limit A k kind ≤ most_nodes) × (right_limit k kind ≤ most_nodes)
limits_small A k False h l = omega arith
limits_small A k True h l = omega arith
limits_small A k Atom h l = omega arith
limits_small A k Not h l = omega arith
limits_small A k And h l = omega arith
limits_small A k Or h l = omega arith
limits_small A k Implies h l = omega arith

-- The term of a node is below the next label.
term-below : (A k next : ℕ) (kind : Kind) (left : ℕ) → left < left_limit A k kind → A ≤ next → Below (next + label_count kind) (term_of next kind left)
term-below A k next False left h l = tt
term-below A k next True left h l = tt
term-below A k next Atom left h l = omega arith
term-below A k next Not left h l = omega arith
term-below A k next And left h l = omega arith
term-below A k next Or left h l = omega arith
term-below A k next Implies left h l = omega arith

pub below_le : (B C : ℕ) → B ≤ C → (t : Term) → Below B t → Below C t
below_le B C h (constant b) l = tt
below_le B C h (name a) l = omega arith

code_below : (B : ℕ) (t : Term) → B ≤ 65536 → Below B t → code t < 65536
code_below B (constant false) h l = omega arith
code_below B (constant true) h l = omega arith
code_below B (name a) h l = omega arith

below_more : (B : ℕ) (ts : List Term) (t : Term) → ((j : ℕ) → Below B (term_at ts j)) → Below B t → (j : ℕ) → Below B (term_at (ts ++ (t ∷ [])) j)
below_more B [] t h l zero = l
below_more B [] t h l (suc j) = tt
below_more B (u ∷ ts) t h l zero = h 0
below_more B (u ∷ ts) t h l (suc j) = below_more B ts t (λ i. h (suc i)) l j

-- ---- of an accepted image

-- The first nodes of such a section are one.
pub nodes-first : (A : ℕ) (s : List ℕ) (k N : ℕ) → k ≤ N → Nodes A s N → Nodes A s k
nodes-first A s k N h ok = record { few-atoms = ok.few-atoms; few = omega (arith, ok.few); long = omega (arith, ok.long); keep = λ i l. ok.keep i (omega arith) }

module _ (A : ℕ) (s : List ℕ) (N : ℕ) (ok : Nodes A s N) where
  pub node-fits : (k : ℕ) → k < N → ((node_in s k).left < left_limit A k (node_in s k).kind) × ((node_in s k).right < right_limit k (node_in s k).kind)
  node-fits k h =
      let fit = kept_fits A s k (ok.keep k h) in
      (fits-left A k (node_in s k) fit, fits-right A k (node_in s k) fit)

  -- Operands are below the scratch's length.
  pub operands_small : (k : ℕ) → k < N → ((node_in s k).left < most_nodes) × ((node_in s k).right < most_nodes)
  operands_small k h =
      let small = limits_small A k (node_in s k).kind ok.few-atoms (omega (arith, ok.few)) in
      (omega (arith, node-fits k h), omega (arith, node-fits k h))

  -- Labels only go up, two a node at most.
  next_le : (k : ℕ) → (A ≤ next_to A s k) × (next_to A s k ≤ A + k * 2)
  unfolding next_to
  next_le k = omega (arith, label_total_le (up_to (node_in s) k), length-up_to (node_in s) k)

  -- So there is room for them.
  pub next_low : (k : ℕ) → k ≤ N → next_to A s k ≤ most_b
  next_low k h = omega (arith, next_le k, ok.few, ok.few-atoms)

  -- What a turn's node and its next label are below.
  pub turn_small : (k : ℕ) → k < N → {n : Node} {next : ℕ} → n ≡ node_in s k → next ≡ next_to A s k → (n.left < most_nodes) × (n.right < most_nodes) × (next < 65536)
  turn_small k h e f = let small = operands_small k h in rw (e, f) (small.0, small.1, omega (arith, next_low k (omega arith)))

  -- A node's term has a number of two bytes.
  pub code_small : (k : ℕ) → k < N → code (term (next_to A s k) (node_in s k)) < 65536
  code_small k h = code_below (next_to A s k + label_count (node_in s k).kind) (term (next_to A s k) (node_in s k))
      (omega (arith, next_le k, label_count_le (node_in s k).kind, ok.few, ok.few-atoms))
      (term-below A k (next_to A s k) (node_in s k).kind (node_in s k).left (node-fits k h).0 (next_le k).0)

  -- Names are below the next label.
  pub terms_below : (k : ℕ) → k ≤ N → (j : ℕ) → Below (next_to A s k) (term_at (terms_to A s k) j)
  terms_below zero h j = rw terms_to-none tt
  terms_below (suc k) h j =
      rw (← add-one, terms_to_more, next_to_more)
      (below_more _ (terms_to A s k) _ (λ i. below_le (next_to A s k) (next_to A s k + label_count (node_in s k).kind) (omega arith) (term_at (terms_to A s k) i) (terms_below k (omega arith) i))
      (term-below A k (next_to A s k) (node_in s k).kind (node_in s k).left (node-fits k h).0 (next_le k).0) j)

  -- Later nodes leave the terms of earlier ones.
  pub terms_keep : (k n : ℕ) → k ≤ n → (j : ℕ) → j < k → term_at (terms_to A s n) j ≡ term_at (terms_to A s k) j
  terms_keep k n h j l =
      le_ind (λ m. term_at (terms_to A s m) j ≡ term_at (terms_to A s k) j) refl
      (λ m g e. rw (← add-one, terms_to_more) (get_or-append (terms_to A s m) _ (constant false) j (omega (arith, length-terms_to A s m)) ∙ e)) n h

-- Within a list the default does not matter.
pub get_d_within : {S : Type 0} (l : List S) (i : ℕ) (d e : S) → i < length l → get_or l i d ≡ get_or l i e
get_d_within [] i d e h = absurd (omega arith)
get_d_within (s ∷ l) zero d e h = refl
get_d_within (s ∷ l) (suc i) d e h = get_d_within l i d e (omega arith)

-- The numbers of the first N terms stand in the scratch.
module _ (A : ℕ) (s : List ℕ) (N : ℕ) (ok : Nodes A s N) (scratch : List ℕ) (numbered : NumberedTo A s N scratch) where
  pub scratch_at : (j : ℕ) → j < N → get_or scratch j 0 ≡ code (term_at (terms_to A s N) j)
  scratch_at j h =
      sym (get_or-take N scratch j 0 h) ∙ ap (λ l. get_or l j 0) numbered
      ∙ get_d_within (map code (terms_to A s N)) j 0 (code (constant false)) (rw (length-map, length-terms_to) h)
      ∙ get_or-map code (terms_to A s N) j (constant false)

  pub scratch_term_lem : (j : ℕ) → j < N → decode (get_or scratch j 0) ≡ term_at (terms_to A s N) j
  scratch_term_lem j h =
      rw (scratch_at j h)
      (decode-code (term_at (terms_to A s N) j) (below_le (next_to A s N) false_term (omega (arith, next_le A s N ok N, ok.few, ok.few-atoms)) (term_at (terms_to A s N) j) (terms_below A s N ok N (omega arith) j)))

-- The terms that fill a node's slots.
filled-fill : (a b next : ℕ) (left right : Term) → decode a ≡ left → decode b ≡ right → suc next < false_term
    → filled (a ∷ b ∷ next ∷ (next + 1) ∷ 0 ∷ []) ≡ fill left right next
filled-fill a b next left right e f h = fun_ext each
  where
    each : (i : Slot) → filled (a ∷ b ∷ next ∷ (next + 1) ∷ 0 ∷ []) i ≡ fill left right next i
    each x = e
    each y = f
    each L = decode-code (name next) (omega arith)
    each M = rw add-one (decode-code (name (suc next)) (omega arith))

module _ (A : ℕ) (s : List ℕ) (N : ℕ) (ok : Nodes A s N) (scratch : List ℕ) (numbered : NumberedTo A s N scratch) where
  -- The rules of node k, from the numbers in the scratch.
  pub node-rules : (k : ℕ) → k < N
      → let n = node_in s k in let next = next_to A s k in
      instances (filled (slot_terms scratch next n)) (rows n.kind) ≡ node_rules (terms_to A s k) next n
  node-rules k h =
      let n = node_in s k in
      let next = next_to A s k in
      let at : (j : ℕ) → j < k → decode (get_or scratch j 0) ≡ term_at (terms_to A s k) j
      = λ j l. scratch_term_lem A s N ok scratch numbered j (omega arith) ∙ terms_keep A s N ok k N (omega arith) j l in
      ⊎_elim (λ e. rw e.0)
      (λ l. ap (λ f. instances f (rows n.kind))
      (filled-fill _ _ next _ _ (at n.left l.0) (at n.right l.1) (omega (arith, next_le A s N ok k, ok.few, ok.few-atoms))))
      (operands A k n.kind n.left n.right (node-fits A s N ok k h).0 (node-fits A s N ok k h).1)

  -- The same as a turn has them: from the node, the next label and the numbers that fill the slots.
  pub turn_rules : (k : ℕ) → k < N → {n : Node} {next : ℕ} {terms : List ℕ} → n ≡ node_in s k → next ≡ next_to A s k → terms ≡ slot_terms scratch next n
      → kind_rules terms n.kind ≡ node_rules (terms_to A s k) (next_to A s k) (node_in s k)
  turn_rules k h e f g = rw (g, f, e) (node-rules k h)
