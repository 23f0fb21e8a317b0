use Rattle.std.proofs.Common.{◌≡◌, sym, ap, ◌∙◌, List, ◌++◌, ℕ, ◌+◌, ◌<◌, add-one, arith, length, set, take-suc-set}
use mathlib.Core.List.{map-append}
use Rattle.theory.specs.Image.{atom_count, node_count, node_section, node_in}
use Rattle.flat.specs.Flat.{term}
use Rattle.flat.proofs.Sizes.{kind-rules}
use Rattle.table.specs.OneRule.{code, filled}
use Rattle.translation.specs.Turns.{next_to, rules_to, NumberedTo}
use Rattle.translation.proofs.Turns.{next_to-none, next_more, terms_to-none, terms_to_more, rules_to-none, rules_grow, flat-size}
use Rattle.translation.proofs.Counting.{counted_none, counted_more}
use Rattle.translation.proofs.NodeTerms.{nodes-first, next_low, code_small, turn_small, turn_rules}
use Rattle.translation.proofs.Sections.{nodes-accepted}
use Rattle.translation.proofs.measure.Goals as goal

-- Where the number of a node's term is stored behind those of the nodes before it, the node is numbered too.
numbered_more : (A : ℕ) (s : List ℕ) (k n : ℕ) (scratch : List ℕ) → NumberedTo A s k scratch → k < length scratch → n ≡ code (term (next_to A s k) (node_in s k))
    → NumberedTo A s (k + 1) (set scratch k n)
numbered_more A s k n scratch before h e = rw (terms_to_more A s k, map-append, ← before, ← e) (rw add-one (take-suc-set scratch k n h))

pub loop-k-init : goal.loop-k-init
loop-k-init c = record { numbered = rw terms_to-none; next = c.atoms-all.ensures.0 ∙ sym (next_to-none _ _); counted = counted_none (rules_to-none _ _); few = omega arith }

pub slot_terms-requires : goal.slot_terms-requires
slot_terms-requires c = turn_small _ _ _ (nodes-accepted _ c.args.theory.now.checked) _ (omega arith) c.node-node.ensures.value c.loop-k.invariant.next

pub overflow_cast-terms : goal.overflow_cast-terms
overflow_cast-terms c =
    let is = rw (c.loop-k.invariant.next, c.node-node.ensures.value) at c.term_of.ensures in
    record { fits = rw is (code_small _ _ _ (nodes-accepted _ c.args.theory.now.checked) _ (omega arith)) }

pub and-counts-requires : goal.and-counts-requires
and-counts-requires c =
    let few = kind-rules (filled c.slot_terms.result.numbers) c.node-node.result.kind in
    (omega (arith, few, c.count_node.ensures.all), omega (arith, few, c.count_node.ensures.all))

pub overflow_add-all : goal.overflow_add-all
overflow_add-all c = omega (arith, next_low _ _ _ (nodes-accepted _ c.args.theory.now.checked) c.loop-k.k (omega arith))

pub loop-k-preserved : goal.loop-k-preserved
loop-k-preserved c =
    let t = c.args.theory.now.image.now in
    let A = atom_count t in
    let s = node_section t in
    let k = c.loop-k.k in
    let inv = c.loop-k.invariant in
    let node = c.node-node.ensures.value in
    let is = rw (inv.next, node) at c.term_of.ensures in
    let numbered = numbered_more A s k _ c.loop-k.terms inv.numbered (omega arith) is in
    let first = nodes-first A s (k + 1) (node_count t) (omega arith) (nodes-accepted t c.args.theory.now.checked) in
    let same = turn_rules A s (k + 1) first _ numbered k (omega arith) node inv.next c.slot_terms.ensures in
    record {
      numbered = numbered;
      next = next_more A s k inv.next node c.label_count-all.ensures.0;
      counted = rw (c.and-counts.ensures.0, c.and-counts.ensures.1) (counted_more inv.counted c.count_node.ensures ((rules_grow A s).more k ∙ ap (λ l. rules_to A s k ++ l) (sym same)));
      few = omega (arith, kind-rules (filled c.slot_terms.result.numbers) c.node-node.result.kind, c.count_node.ensures.all);
    }

pub returns : goal.returns
returns c =
    let e : c.loop-k.k ≡ node_count c.args.theory.now.image.now = omega arith in
    let inv = c.loop-k.invariant in
    record { all_value = rw e at inv.next ∙ sym (flat-size _); counted = rw e at inv.counted; numbered = rw e at inv.numbered }
