-- The sections of an image that the check accepts keep what the loops over them ask. From what each row leaves. Assumes nothing.
use mathlib.Core.Path.{◌≡◌}
use mathlib.Core.Bool.{Bool, true}
use mathlib.Core.List.{List, ◌++◌}
use Prim.Native.Nat.{ℕ, ◌+◌, ◌*◌, ◌≤◌}
use native.Mathlib.Omega.{arith}
use lib.ListN.{length, length-drop, length-append}
use Rattle.refusal.specs.Limits.{most_nodes}
use Rattle.refusal.specs.Table.{none}
use Rattle.theory.specs.Image.{atom_count, node_count, root_count, pair_count, node_section, root_section, pair_section, node_in, root_in, pair_in, book_of}
use Rattle.theory.specs.Rows.{theory_rows}
use Rattle.program.specs.Image.{rules_bytes}
use Rattle.program.proofs.Lengths.{rules_bytes-append}
use Rattle.theory.proofs.Accepted.{accepted, accepted_well_formed}
use Rattle.flat.specs.Flat.{flat, largest_k}
use Rattle.flat.proofs.Sizes.{rules_bound}
use Rattle.translation.specs.Outcome.{rule_total}
use Rattle.translation.specs.Turns.{Nodes, Roots, rules_to, facts_to, pairs_to, scratch_term, Numbered}
use Rattle.translation.proofs.Turns.{flat-rules}
use Rattle.translation.proofs.NodeTerms.{scratch_term_lem}
use Rattle.wire.proofs.Sequence.{length-up_to}

module _ (t : List ℕ) (ok : none (theory_rows t) ≡ true) where
  pub nodes-accepted : Nodes (atom_count t) (node_section t) (node_count t)
  nodes-accepted =
      let a = accepted t ok in
      record { few-atoms = a.header.few-atoms; few = a.header.few-nodes; long = rw length-drop (omega (arith, a.header.whole)); keep = a.nodes-keep }

  pub roots-accepted : Roots (node_count t) (root_section t) (root_count t)
  roots-accepted =
      let a = accepted t ok in
      record { few = a.header.few-roots; long = rw length-drop (omega (arith, a.header.whole)); below = a.roots-below }

  -- A root's term stands in the scratch.
  pub roots-within : Roots most_nodes (root_section t) (root_count t)
  roots-within =
      let r = roots-accepted in
      record { few = r.few; long = r.long; below = λ i h. omega (arith, r.below i h, nodes-accepted.few) }

  pub pairs-long : pair_count t * 4 ≤ length (pair_section t)
  pairs-long = rw length-drop (omega (arith, (accepted t ok).header.whole))

  -- The rules of the program are those of the nodes, the facts of the roots, by the terms in the scratch, and those of the pairs.
  pub accepted-rules : (scratch : List ℕ) → Numbered t scratch
      → (flat (book_of t)).rules
      ≡ (rules_to (atom_count t) (node_section t) (node_count t) ++ facts_to (scratch_term scratch) (root_section t) (root_count t)) ++ pairs_to (pair_section t) (pair_count t)
  accepted-rules scratch numbered =
      flat-rules t (scratch_term scratch)
      (λ i h. scratch_term_lem (atom_count t) (node_section t) (node_count t) nodes-accepted scratch numbered (root_in (root_section t) i) (roots-accepted.below i h))

  -- K is at most 6 * 1,023 + 256 + 128, as of every book within the limits.
  pub accepted_total : rule_total t ≤ largest_k
  unfolding book_of
  accepted_total =
      let header = (accepted t ok).header in
      rules_bound (book_of t) (accepted_well_formed t ok)
      (rw (length-up_to (node_in (node_section t)) (node_count t)) header.few-nodes)
      (rw (length-up_to (root_in (root_section t)) (root_count t)) header.few-roots)
      (rw (length-up_to (pair_in (pair_section t)) (pair_count t)) header.few-pairs)

  -- Their bytes, one part behind the other.
  pub accepted_bytes : (packed : Bool) (scratch : List ℕ) → Numbered t scratch
      → rules_bytes packed (flat (book_of t)).rules
      ≡ (rules_bytes packed (rules_to (atom_count t) (node_section t) (node_count t)) ++ rules_bytes packed (facts_to (scratch_term scratch) (root_section t) (root_count t)))
      ++ rules_bytes packed (pairs_to (pair_section t) (pair_count t))
  accepted_bytes packed scratch numbered = rw (accepted-rules scratch numbered, rules_bytes-append, rules_bytes-append)

  pub accepted_fit : (packed : Bool) (scratch : List ℕ) → Numbered t scratch → (room : ℕ) → length (rules_bytes packed (flat (book_of t)).rules) ≤ room
      → length (rules_bytes packed (rules_to (atom_count t) (node_section t) (node_count t))) + length (rules_bytes packed (facts_to (scratch_term scratch) (root_section t) (root_count t)))
      + length (rules_bytes packed (pairs_to (pair_section t) (pair_count t))) ≤ room
  accepted_fit packed scratch numbered room h = rw (length-append, length-append) at (rw (accepted_bytes packed scratch numbered) at h)
