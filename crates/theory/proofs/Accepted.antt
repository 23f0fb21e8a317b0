-- What an image that no row refuses is like: each row that does not apply gives its fact. Those of the form make the book well formed, and by the last every node is used.
use mathlib.Core.Path.{◌≡◌}
use mathlib.Core.Bool.{true, false}
use mathlib.Core.List.{List, [], ◌∷◌}
use Prim.Native.Nat.{ℕ, ◌-◌, ◌≤◌, ◌<◌}
use native.Mathlib.Nat.{zero-add}
use native.Mathlib.Omega.{arith}
use lib.ListN.{length, take, drop}
use borrow.Author.Tests.{ltb-true, ltb-false, eqb-true, not-false}
use Rattle.refusal.specs.Limits.{most_atoms, most_nodes, most_roots, most_pairs}
use Rattle.refusal.specs.Table.{none}
use Rattle.refusal.proofs.Table.{none_at, none_split}
use Rattle.refusal.proofs.First.{first-none}
use Rattle.logic.proofs.Bools.{&&_join, ||-split}
use Rattle.wire.specs.Sequence.{up_to}
use Rattle.wire.proofs.Laws.{part_from, all_below-each}
use Rattle.wire.proofs.Sequence.{length-up_to, get_d_up_to}
use Rattle.theory.specs.declared.Kind.{Kind}
use Rattle.theory.specs.declared.Kind.TheVariants.{False, True, Atom, Not, And, Or, Implies}
use Rattle.theory.specs.declared.Node.{Node}
use Rattle.theory.specs.Book.{WellFormed, left_limit, right_limit, left_fits, right_fits, fits, pair_fits}
use Rattle.theory.specs.Image.{atom_count, node_count, root_count, pair_count, image_length, node_section, root_section, pair_section, node_in, field_wrong, breaks, root_in, pair_in, book_of}
use Rattle.theory.specs.Used.{used}
use Rattle.theory.specs.Rows.{row6, row7, row13, row15, header_rows, form_rows, theory_rows}
use Rattle.theory.proofs.Books.{fits-left, fits-right, all_fit-each}
use Rattle.theory.proofs.PairLaws.{pairs_fit-up_to}

-- A part of an image, from where a section starts to the end, is that section.
pub section_from : (t : List ℕ) (n m : ℕ) → n ≡ m → take (length t - n) (drop n t) ≡ drop m t
section_from t n m e = rw (part_from, e)

-- What the rows on the header leave.
pub record Header (t : List ℕ) : Type 0 where
  pub long : 16 ≤ length t
  pub few-atoms : atom_count t ≤ most_atoms
  pub few-nodes : node_count t ≤ most_nodes
  pub few-roots : root_count t ≤ most_roots
  pub few-pairs : pair_count t ≤ most_pairs
  pub whole : length t ≡ image_length (node_count t) (root_count t) (pair_count t)

-- What the rows of the form leave.
pub record Formed (t : List ℕ) : Type 0 where
  pub header : Header t
  pub nodes-keep : (k : ℕ) → k < node_count t → breaks (atom_count t) (node_section t) k ≡ false
  pub roots-below : (i : ℕ) → i < root_count t → root_in (root_section t) i < node_count t
  pub pairs_all_fit : (i : ℕ) → i < pair_count t → pair_fits (atom_count t) (pair_in (pair_section t) i) ≡ true

-- A node that keeps its row, so that none of its fields is wrong: its kind is known, and it fits.
module _ (A : ℕ) (s : List ℕ) (k : ℕ) (kept : breaks A s k ≡ false) where
  none-wrong : (f : ℕ) → f < 4 → field_wrong A s k f ≡ false
  none-wrong = (first-none (field_wrong A s k) 4).0 kept

  pub kept_fits : fits A k (node_in s k) ≡ true
  kept_fits = &&_join (not-false (left_fits A k (node_in s k)) (none-wrong 2 (omega arith))) (not-false (right_fits k (node_in s k)) (none-wrong 3 (omega arith)))

pub header-accepted : (t : List ℕ) → none (header_rows t) ≡ true → Header t
unfolding header_rows
header-accepted t h =
    let clear = none_at (header_rows t) h in
    let limits = ||-split _ _ (clear 1) in
    let others = ||-split _ _ limits.1 in
    let last = ||-split _ _ others.1 in
    record {
      long = ltb-false _ _ (clear 0);
      few-atoms = ltb-false _ _ limits.0;
      few-nodes = ltb-false _ _ others.0;
      few-roots = ltb-false _ _ last.0;
      few-pairs = ltb-false _ _ last.1;
      whole = eqb-true _ _ (not-false _ (clear 3));
    }

pub formed : (t : List ℕ) → none (form_rows t) ≡ true → Formed t
unfolding form_rows
formed t h =
    let parts = none_split (header_rows t) (row6 t ∷ row7 t ∷ row15 t ∷ []) h in
    let clear = none_at (row6 t ∷ row7 t ∷ row15 t ∷ []) parts.1 in
    record {
      header = header-accepted t parts.0;
      nodes-keep = (first-none _ _).0 (clear 0);
      roots-below = λ i l. ltb-true _ _ (not-false _ ((first-none _ _).0 (clear 1) i l));
      pairs_all_fit = λ i l. not-false _ ((first-none _ _).0 (clear 2) i l);
    }

pub formed_well_formed : (t : List ℕ) → none (form_rows t) ≡ true → WellFormed (book_of t)
unfolding book_of
formed_well_formed t h =
    let a = formed t h in
    let N : ℕ = node_count t in
    let ns : List Node = up_to (node_in (node_section t)) N in
    let rs : List ℕ = up_to (root_in (root_section t)) (root_count t) in
    let counted : length ns ≡ N = length-up_to (node_in (node_section t)) N in
    record {
      nodes_fit = all_fit-each (atom_count t) 0 ns
          (λ k l. let b : k < N = omega arith in
          rw (zero-add k, get_d_up_to (node_in (node_section t)) N k _ b) (kept_fits (atom_count t) (node_section t) k (a.nodes-keep k b)));
      roots-below = all_below-each (length ns) rs
          (λ i l. let b : i < root_count t = omega (arith, length-up_to (root_in (root_section t)) (root_count t)) in
          rw (counted, get_d_up_to (root_in (root_section t)) (root_count t) i 0 b) (a.roots-below i b));
      pairs_all_fit = pairs_fit-up_to (atom_count t) (pair_in (pair_section t)) (pair_count t) a.pairs_all_fit;
    }

-- What all rows leave.
module _ (t : List ℕ) (ok : none (theory_rows t) ≡ true) where
  parts : (none (form_rows t) ≡ true) × (none (row13 t ∷ []) ≡ true)
  unfolding theory_rows
  parts = none_split (form_rows t) (row13 t ∷ []) ok

  pub accepted : Formed t
  accepted = formed t parts.0

  pub accepted_well_formed : WellFormed (book_of t)
  accepted_well_formed = formed_well_formed t parts.0

  pub accepted-used : (k : ℕ) → k < node_count t → used (book_of t) k ≡ true
  accepted-used k l = not-false _ ((first-none _ _).0 (none_at (row13 t ∷ []) parts.1 0) k l)

-- What left and right have to be below is no more than an image has, of atoms or of nodes.
limits_small : (A k : ℕ) (kind : Kind) → A ≤ most_nodes → k < most_nodes → (left_limit A k kind ≤ most_nodes) × (right_limit k kind ≤ most_nodes)
limits_small A k False h l = (omega arith, omega arith)
limits_small A k True h l = (omega arith, omega arith)
limits_small A k Atom h l = (h, omega arith)
limits_small A k Not h l = (omega arith, omega arith)
limits_small A k And h l = (omega arith, omega arith)
limits_small A k Or h l = (omega arith, omega arith)
limits_small A k Implies h l = (omega arith, omega arith)

-- So left and right are small.
pub operands_small : (t : List ℕ) → none (theory_rows t) ≡ true → (k : ℕ) → k < node_count t
    → ((node_in (node_section t) k).left < most_nodes) × ((node_in (node_section t) k).right < most_nodes)
operands_small t ok k l =
    let a = accepted t ok in
    let n = node_in (node_section t) k in
    let fit = kept_fits (atom_count t) (node_section t) k (a.nodes-keep k l) in
    let small = limits_small (atom_count t) k n.kind a.header.few-atoms (omega (arith, a.header)) in
    (omega (arith, small, fits-left (atom_count t) k n fit), omega (arith, small, fits-right (atom_count t) k n fit))

-- Facts that tactics are given, where no row on the header applies.
module _ (t : List ℕ) (ok : none (header_rows t) ≡ true) where
  pub header_long : 16 ≤ length t
  header_long = (header-accepted t ok).long

  pub header_whole : length t ≡ image_length (node_count t) (root_count t) (pair_count t)
  header_whole = (header-accepted t ok).whole

  pub header_atoms : atom_count t ≤ most_atoms
  header_atoms = (header-accepted t ok).few-atoms

  pub header_nodes : node_count t ≤ most_nodes
  header_nodes = (header-accepted t ok).few-nodes

  pub header_roots : root_count t ≤ most_roots
  header_roots = (header-accepted t ok).few-roots

  pub header_pairs : pair_count t ≤ most_pairs
  header_pairs = (header-accepted t ok).few-pairs

pub ruleset header_facts = (header_long, header_whole, header_atoms, header_nodes, header_roots, header_pairs)

-- None does where none of all applies.
pub theory_header : (t : List ℕ) → none (theory_rows t) ≡ true → none (header_rows t) ≡ true
unfolding form_rows
theory_header t ok = (none_split (header_rows t) (row6 t ∷ row7 t ∷ row15 t ∷ []) (parts t ok).0).0
