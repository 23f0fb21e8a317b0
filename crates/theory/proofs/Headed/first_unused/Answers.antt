-- `first_unused` gives the first node that is not used: what is marked in the end are the operands of all nodes and the roots. Assumes nothing.
use Rattle.std.proofs.Common.{◌≡◌, List, ℕ, ◌≤◌, arith, length, replicate, position, eqb, take, not}
use lib.ListN.{length-replicate}
use Rattle.refusal.specs.Limits.{most_nodes}
use Rattle.refusal.specs.First.{found}
use Rattle.wire.specs.Sequence.{up_to}
use Rattle.theory.specs.Image.{atom_count, node_count, root_count, node_section, root_section, node_in, root_in, book_of}
use Rattle.theory.specs.Used.{all_operands, used}
use Rattle.theory.specs.Marks.{marked}
use Rattle.theory.proofs.Used.{operands-within, unmarked_unused}
use Rattle.theory.proofs.Accepted.{formed, kept_fits}
use Rattle.theory.proofs.Headed.first_unused.Goals as goal

-- There is a mark for each node.
marks-long : {marks : List ℕ} → marks ≡ replicate most_nodes 0 → length marks ≡ most_nodes
marks-long e = rw e (length-replicate {A = ℕ} most_nodes 0)

-- The first that is not marked is the first that is not used.
unused : (t : List ℕ) → node_count t ≤ most_nodes
    → position (λ mark. eqb mark 0) (take (node_count t) (marked (up_to (root_in (root_section t)) (root_count t)) (marked (all_operands (up_to (node_in (node_section t)) (node_count t))) (replicate most_nodes 0))))
    ≡ found (λ k. not (used (book_of t) k)) (node_count t)
unfolding book_of
unused t few = unmarked_unused (all_operands (up_to (node_in (node_section t)) (node_count t))) (up_to (root_in (root_section t)) (root_count t)) most_nodes (node_count t) few

pub mark_nodes-requires : goal.mark_nodes-requires
mark_nodes-requires c =
    let t = c.args.self.now.image.now in
    let a = formed t c.requires.form in
    λ k l. operands-within (atom_count t) k _ (node_in (node_section t) k) (omega (arith, a.header, marks-long c.requires.marks_value)) (kept_fits (atom_count t) (node_section t) k (a.nodes-keep k l))

pub mark_roots-requires : goal.mark_roots-requires
mark_roots-requires c =
    let a = formed c.args.self.now.image.now c.requires.form in
    λ i l. omega (arith, a.roots-below i l, a.header, marks-long c.requires.marks_value)

pub first_unmarked-requires : goal.first_unmarked-requires
first_unmarked-requires c = omega (arith, (formed c.args.self.now.image.now c.requires.form).header, marks-long c.requires.marks_value)

pub returns : goal.returns
returns c =
    rw (c.first_unmarked.ensures, c.mark_roots.ensures, c.mark_nodes.ensures, c.requires.marks_value, c.nodes.ensures.0)
    (unused c.args.self.now.image.now (formed c.args.self.now.image.now c.requires.form).header.few-nodes)
