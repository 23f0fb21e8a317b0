-- What it is for an image to be accepted, and for a rule to keep to its form: each test that fails, or passes, is a fact. Assumes nothing.
use mathlib.Core.Path.{◌≡◌, ap}
use mathlib.Core.Bool.{Bool, true, false, not}
use mathlib.Core.List.{List}
use Prim.Native.Nat.{ℕ, ◌+◌, ◌≤◌, ◌<◌}
use native.Mathlib.Omega.{arith}
use lib.Dec.{ltb}
use lib.ListN.{get_or, length}
use borrow.Author.Tests.{ltb-true, ltb-false, leb-true, eqb-true, not-false, lt-ltb, le-ltb, eq-eqb}
use Rattle.refusal.specs.Limits.{most_atoms, most_b, most_rules}
use Rattle.refusal.specs.Table.{none}
use Rattle.refusal.proofs.Table.{cases, none_at}
use Rattle.refusal.proofs.First.{first-none}
use Rattle.wire.specs.Wire.{u16_at, u32_at}
use Rattle.logic.proofs.Bools.{&&_split, ||-split}
use Rattle.program.specs.Image.{atom_count, size_of, rule_count, is_packed, header_length, rule_section, most_literals, slot_count, used_at, slot_at, length_at, behind, slot_keeps, rule_keeps}
use Rattle.program.specs.Literals.{Named}
use Rattle.program.specs.Rows.{outside, total_keeps, broken_at, row22, row24, row25, row26, header_rows, program_rows}
use Rattle.program.proofs.Slots.{slots_keep_at}

-- ---- the rows

-- A, B and K are inside their limits.
pub record Inside (A B K : ℕ) : Type 0 where
  pub atoms : A ≤ most_atoms
  pub within : A ≤ B
  pub size : B ≤ most_b
  pub count : K ≤ most_rules

pub outside_false : (A B K : ℕ) → outside A B K ≡ false → Inside A B K
outside_false A B K h =
    let one = ||-split _ _ h in
    let two = ||-split _ _ one.1 in
    let three = ||-split _ _ two.1 in
    record { atoms = ltb-false _ _ one.0; within = ltb-false _ _ two.0; size = ltb-false _ _ three.0; count = ltb-false _ _ three.1 }

-- The rules of a section are K that keep to their form, and nothing else.
pub record Whole (packed : Bool) (B K : ℕ) (s : List ℕ) : Type 0 where
  pub keeps : (k : ℕ) → k < K → rule_keeps packed B (behind packed s k) ≡ true
  pub ends : length (behind packed s K) ≡ 0

-- An image that no row refuses.
pub record Accepted (p : List ℕ) : Type 0 where
  pub long : header_length ≤ length p
  pub inside : Inside (atom_count p) (size_of p) (rule_count p)
  pub form : u16_at p 6 ≤ 1
  pub offset : u32_at p 8 ≡ header_length
  pub total : total_keeps (is_packed p) (rule_count p) (u32_at p 12) ≡ true
  pub exact : length p ≡ u32_at p 12
  pub rules : Whole (is_packed p) (size_of p) (rule_count p) (rule_section p)

module _ (packed : Bool) (B K : ℕ) (s : List ℕ) where
  not_broken : ((k : ℕ) → k < K + 1 → broken_at packed B K s k ≡ false) → Whole packed B K s
  not_broken h = record {
    keeps = λ k l. not-false _ (rw (lt-ltb k K l) at (h k (omega arith)));
    ends = omega (arith, ltb-false 0 (length (behind packed s K)) (rw (le-ltb K K (omega arith)) at (h K (omega arith))));
  }

  whole_kept : Whole packed B K s → (k : ℕ) → k < K + 1 → broken_at packed B K s k ≡ false
  whole_kept w k l = cases (ltb k K)
      (λ t. rw t (ap not (w.keeps k (ltb-true k K t))))
      (λ t. let e : k ≡ K = omega (arith, ltb-false k K t) in rw (t, e, w.ends))

pub none-program_rows : (p : List ℕ) → none (program_rows p) ≡ true → Accepted p
unfolding program_rows
none-program_rows p h =
    let clear = none_at (program_rows p) h in
    let fields = ||-split _ _ (clear 3) in
    record {
      long = ltb-false _ _ (clear 0);
      inside = outside_false _ _ _ (clear 1);
      form = ltb-false _ _ (clear 2);
      offset = eqb-true _ _ (not-false _ fields.0);
      total = not-false _ fields.1;
      exact = eqb-true _ _ (not-false _ (clear 4));
      rules = not_broken _ _ _ _ ((first-none _ _).0 (clear 5));
    }

-- It has its header where none of the header's rows applies,
pub header_long : (p : List ℕ) → none (header_rows p) ≡ true → header_length ≤ length p
header_long p h = ltb-false _ _ (none_at (header_rows p) h 0)

-- and where it is accepted, with its numbers inside their limits.
pub accepted_long : (p : List ℕ) → none (program_rows p) ≡ true → header_length ≤ length p
accepted_long p h = (none-program_rows p h).long

pub accepted_atoms : (p : List ℕ) → none (program_rows p) ≡ true → atom_count p ≤ most_atoms
accepted_atoms p h = (none-program_rows p h).inside.atoms

pub accepted_size : (p : List ℕ) → none (program_rows p) ≡ true → size_of p ≤ most_b
accepted_size p h = (none-program_rows p h).inside.size

pub program_rows-none : (p : List ℕ) → Accepted p → none (program_rows p) ≡ true
unfolding program_rows
program_rows-none p a =
    let inside = a.inside in
    let r22 : (row22 p).applies ≡ false
    = rw (le-ltb _ _ inside.atoms, le-ltb _ _ inside.within, le-ltb _ _ inside.size, le-ltb _ _ inside.count) in
    let r24 : (row24 p).applies ≡ false = rw (eq-eqb _ _ a.offset, a.total) in
    let r25 : (row25 p).applies ≡ false = rw (eq-eqb _ _ a.exact) in
    let r26 : (row26 p).applies ≡ false = (first-none _ _).1 (whole_kept (is_packed p) (size_of p) (rule_count p) (rule_section p) a.rules) in
    rw (le-ltb _ _ a.long, r22, le-ltb _ _ a.form, r24, r25, r26)

-- ---- a rule

-- The rule at the start of a slice keeps to its form.
pub record Kept (packed : Bool) (B : ℕ) (s : List ℕ) : Type 0 where
  pub few : used_at s ≤ most_literals packed
  pub whole : length_at packed s ≤ length s
  pub zero_byte : get_or s 3 0 ≡ 0
  pub slots : (i : ℕ) → i < slot_count packed (used_at s) → slot_keeps B (used_at s) i (slot_at s i) ≡ true

pub rule_keeps_true : (packed : Bool) (B : ℕ) (s : List ℕ) → rule_keeps packed B s ≡ true → Kept packed B s
rule_keeps_true packed B s h =
    let count = &&_split _ _ h in
    let inside = &&_split _ _ count.1 in
    let rest = &&_split _ _ inside.1 in
    record {
      few = leb-true _ _ count.0;
      whole = leb-true _ _ inside.0;
      zero_byte = eqb-true _ _ rest.0;
      slots = slots_keep_at B (used_at s) (slot_at s) (slot_count packed (used_at s)) rest.1;
    }

-- A slot that is used holds an atom below B, and one that is not holds 0.
pub used_slot : (B used i a : ℕ) → slot_keeps B used i a ≡ true → i < used → a < B
used_slot B used i a h l = ltb-true _ _ (rw (lt-ltb i used l) at h)

pub unused_slot : (B used i a : ℕ) → slot_keeps B used i a ≡ true → used ≤ i → a ≡ 0
unused_slot B used i a h l = eqb-true _ _ (rw (le-ltb i used l) at h)

-- A rule that keeps to its form has a slot for each literal.
pub slots_enough : (packed : Bool) (used : ℕ) → used ≤ most_literals packed → used ≤ slot_count packed used
slots_enough true used l = omega arith
slots_enough false used l = l

-- So all its literals are there, each below B.
pub kept_named : (packed : Bool) (B : ℕ) (s : List ℕ) → Kept packed B s → Named s B
kept_named packed B s k = record {
  few = few packed k.few;
  whole = omega (arith, k.whole, enough);
  below = λ i l. used_slot B (used_at s) i (slot_at s i) (k.slots i (omega (arith, enough))) l;
}
  where
    enough : used_at s ≤ slot_count packed (used_at s)
    enough = slots_enough packed (used_at s) k.few

    few : (packed : Bool) → used_at s ≤ most_literals packed → used_at s ≤ most_literals true
    few true l = l
    few false l = omega arith
