-- Where node k has a wrong field, it is the first that breaks its row, and that field its first. Assumes nothing.
use Rattle.std.proofs.Common.{◌≡◌, ap, List, [], ◌∷◌, ℕ, ◌+◌, ◌*◌, ◌<◌, ◌≤◌, arith, lt-ltb, le-ltb}
use Rattle.refusal.specs.declared.Field.{Field}
use Rattle.refusal.specs.declared.Field.TheVariants.{Kind, Zero, Left, Right}
use Rattle.refusal.specs.declared.Refusal.TheVariants.{Node}
use Rattle.refusal.specs.Table.{refused, answer}
use Rattle.refusal.specs.First.{first}
use Rattle.refusal.specs.Refusal.{refused_for, field_number}
use Rattle.refusal.proofs.Table.{reached_first}
use Rattle.refusal.proofs.First.{first_here, first_on, first-refused}
use Rattle.theory.specs.Image.{atom_count, node_count, node_section, first_wrong, wrong_place, breaks}
use Rattle.theory.specs.Rows.{row6}
use Rattle.theory.proofs.Headed.check_nodes.Goals as goal

field_below : (f : Field) → field_number f < 4
field_below Kind = omega arith
field_below Zero = omega arith
field_below Left = omega arith
field_below Right = omega arith

module _ (t s : List ℕ) (A N k : ℕ) (s-is : s ≡ node_section t) (A-is : A ≡ atom_count t) (N-is : N ≡ node_count t)
    (passed : k ≤ first (breaks (atom_count t) (node_section t)) (node_count t)) (within : k < N) where
  refuses : (f : Field) → field_number f ≡ first_wrong A s k → refused_for (Node k f) ≡ answer (row6 t ∷ []) 0
  refuses f e =
      let wrong : field_number f ≡ first_wrong (atom_count t) (node_section t) k = rw (s-is, A-is) at e in
      let breaks-k = lt-ltb (first_wrong (atom_count t) (node_section t) k) 4 (omega (arith, field_below f)) in
      first-refused 6 (wrong_place (atom_count t) (node_section t)) _ (node_count t) k (first_here _ (node_count t) k passed breaks-k)
      (reached_first (row6 t ∷ []) 0) (omega arith) (ap (λ n. refused 6 (k * 8 + n)) wrong)

  goes_on : 4 ≡ first_wrong A s k → k + 1 ≤ first (breaks (atom_count t) (node_section t)) (node_count t)
  goes_on e = first_on _ (node_count t) k passed (omega arith) (le-ltb _ 4 (omega (arith, rw (s-is, A-is) at e)))

pub returns-in-Some : goal.returns-in-Some
returns-in-Some c =
    refuses c.args.self.now.image.now _ _ _ _ c.node_section-section.ensures.value c.atoms-atoms.ensures.0 c.nodes-node-end.ensures.0 c.loop-node.invariant c.loop-node-test.true c.in-Some.field c.in-Some.ensures

pub loop-node-preserved : goal.loop-node-preserved
loop-node-preserved c =
    goes_on c.args.self.now.image.now _ _ _ _ c.node_section-section.ensures.value c.atoms-atoms.ensures.0 c.nodes-node-end.ensures.0 c.loop-node.invariant c.loop-node-test.true c.in_default.ensures
