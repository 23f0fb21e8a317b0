-- `count` counts all rules: those of the nodes, the facts of the roots and one for each pair are the rules of the program. Assumes nothing.
use Rattle.std.proofs.Common.{◌≡◌, refl, List, ℕ, ◌+◌, ◌*◌, ◌≤◌, true, arith}
use Rattle.refusal.specs.Table.{none}
use Rattle.theory.specs.Image.{pair_count, pair_section, book_of}
use Rattle.theory.specs.Rows.{theory_rows}
use Rattle.flat.specs.Flat.{flat, largest_k}
use Rattle.translation.specs.Turns.{rules_of_nodes, facts_of_roots, rules_of_pairs, Counted, Numbered}
use Rattle.translation.proofs.Counting.{counted_more, counted_pairs}
use Rattle.translation.proofs.Sections.{accepted-rules, accepted_total}
use Rattle.translation.proofs.NumberedTheory.count.Goals as goal

-- With the pairs' all rules are counted, and they are few.
total : (t scratch : List ℕ) → none (theory_rows t) ≡ true → Numbered t scratch → {rules literals a m n : ℕ}
    → Counted (rules_of_nodes t) rules literals → Counted (facts_of_roots scratch t) a m → n ≡ pair_count t
    → Counted (flat (book_of t)).rules (rules + a + n) (literals + m + n * 2) × (rules + a + n ≤ largest_k)
total t scratch ok numbered {n = n} nodes roots g =
    let pairs : Counted (rules_of_pairs t) n (n * 2) = rw g (counted_pairs (pair_section t) (pair_count t)) in
    let all = counted_more (counted_more nodes roots refl) pairs (accepted-rules t ok scratch numbered) in
    (all, omega (arith, all.all, accepted_total t ok))

pub and-requires : goal.and-requires
and-requires c =
    let all = total _ _ c.args.self.now.theory.checked c.args.self.now.numbered c.requires c.count_facts-facts.ensures c.pairs-pairs.ensures.0 in
    (omega arith, omega arith)

pub and-requires-2 : goal.and-requires-2
and-requires-2 c =
    let all = total _ _ c.args.self.now.theory.checked c.args.self.now.numbered c.requires c.count_facts-facts.ensures c.pairs-pairs.ensures.0 in
    (omega arith, omega arith)

pub returns : goal.returns
returns c =
    let all = total _ _ c.args.self.now.theory.checked c.args.self.now.numbered c.requires c.count_facts-facts.ensures c.pairs-pairs.ensures.0 in
    rw (c.and-2.ensures.0, c.and-2.ensures.1, c.and.ensures.0, c.and.ensures.1) (all.0, omega arith)
