-- `write_rules` writes the rules of the nodes, the facts of the roots into the rest, and the rules of the pairs into what is left, which together are the program's rules. Assumes nothing.
use Rattle.std.proofs.Common.{◌≡◌, Bool, true, List, ◌++◌, ℕ, ◌+◌, ◌-◌, ◌≤◌, arith, length, take, drop, length-append}
use borrow.Rule.Slice.PartMut.{put_mid}
use Rattle.refusal.specs.Table.{none}
use Rattle.wire.specs.Wire.{over}
use Rattle.wire.proofs.Laws.{Written, turn_room, turn}
use Rattle.theory.specs.Image.{book_of}
use Rattle.theory.specs.Rows.{theory_rows}
use Rattle.program.specs.Image.{rules_bytes}
use Rattle.flat.specs.Flat.{flat}
use Rattle.translation.specs.Turns.{rules_of_nodes, facts_of_roots, rules_of_pairs, Numbered}
use Rattle.translation.proofs.Writing.{written-first}
use Rattle.translation.proofs.Sections.{accepted_bytes, accepted_fit}
use Rattle.translation.proofs.NumberedTheory.write_rules.Goals as goal

-- The bytes of the three parts of an accepted image's rules, which fit into an output.
module _ (p : Bool) (t scratch old : List ℕ) (ok : none (theory_rows t) ≡ true) (numbered : Numbered t scratch) (room : length (rules_bytes p (flat (book_of t)).rules) ≤ length old) where
  abbrev nodes-bytes : List ℕ
  nodes-bytes = rules_bytes p (rules_of_nodes t)

  abbrev facts-bytes : List ℕ
  facts-bytes = rules_bytes p (facts_of_roots scratch t)

  abbrev pairs-bytes : List ℕ
  pairs-bytes = rules_bytes p (rules_of_pairs t)

  fit : length nodes-bytes + length facts-bytes + length pairs-bytes ≤ length old
  fit = accepted_fit t ok p scratch numbered _ room

  fit-pairs : length (nodes-bytes ++ facts-bytes) + length pairs-bytes ≤ length old
  fit-pairs = rw length-append fit

  -- The nodes' rules are written,
  wrote-nodes : {at : ℕ} {out : List ℕ} → at ≡ length nodes-bytes → out ≡ over nodes-bytes old → Written nodes-bytes old out at
  wrote-nodes h i = written-first _ old _ _ (omega (arith, fit)) h i

  -- then the roots' facts are written too,
  wrote-facts : {out : List ℕ} {at : ℕ} → Written nodes-bytes old out at → {n : ℕ} {back : List ℕ} → n ≡ length facts-bytes → back ≡ over facts-bytes (take (length out - at) (drop at out))
      → Written (nodes-bytes ++ facts-bytes) old (put_mid at (length out - at) out back) (at + n)
  wrote-facts w g h = turn w facts-bytes (omega (arith, fit)) g h

  -- and at last the pairs' rules.
  wrote-pairs : {out : List ℕ} {at : ℕ} → Written (nodes-bytes ++ facts-bytes) old out at → {n : ℕ} {back : List ℕ} → n ≡ length pairs-bytes → back ≡ over pairs-bytes (take (length out - at) (drop at out))
      → Written ((nodes-bytes ++ facts-bytes) ++ pairs-bytes) old (put_mid at (length out - at) out back) (at + n)
  wrote-pairs w g h = turn w pairs-bytes fit-pairs g h

pub write_nodes-at-requires : goal.write_nodes-at-requires
write_nodes-at-requires c =
    let room = fit c.args.packed _ _ _ c.args.self.now.theory.checked c.args.self.now.numbered c.requires in
    omega arith

pub write_facts-requires : goal.write_facts-requires
write_facts-requires c =
    let ok = c.args.self.now.theory.checked in
    let room = fit c.args.packed _ _ _ ok c.args.self.now.numbered c.requires in
    turn_room (wrote-nodes c.args.packed _ _ _ ok c.args.self.now.numbered c.requires c.write_nodes-at.ensures.value c.write_nodes-at.ensures.out_after) (omega arith)

pub write_pairs-requires : goal.write_pairs-requires
write_pairs-requires c =
    let ok = c.args.self.now.theory.checked in
    let nodes = wrote-nodes c.args.packed _ _ _ ok c.args.self.now.numbered c.requires c.write_nodes-at.ensures.value c.write_nodes-at.ensures.out_after in
    let facts = wrote-facts c.args.packed _ _ _ ok c.args.self.now.numbered c.requires nodes c.write_facts.ensures.value c.write_facts.ensures.out_after in
    turn_room facts (fit-pairs c.args.packed _ _ _ ok c.args.self.now.numbered c.requires)

pub returns : goal.returns
returns c =
    let ok = c.args.self.now.theory.checked in
    let nodes = wrote-nodes c.args.packed _ _ _ ok c.args.self.now.numbered c.requires c.write_nodes-at.ensures.value c.write_nodes-at.ensures.out_after in
    let facts = wrote-facts c.args.packed _ _ _ ok c.args.self.now.numbered c.requires nodes c.write_facts.ensures.value c.write_facts.ensures.out_after in
    let w = wrote-pairs c.args.packed _ _ _ ok c.args.self.now.numbered c.requires facts c.write_pairs.ensures.value c.write_pairs.ensures.out_after in
    rw (accepted_bytes _ ok c.args.packed c.args.self.now.terms.now c.args.self.now.numbered) (record { value = w.end; out_after = w.bytes })
