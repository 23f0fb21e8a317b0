use Rattle.std.proofs.Common.{◌≡◌, arith, Bool, List, ℕ, get_or, Option}
use Rattle.theory.specs.Image.{root_section, root_in}
use Rattle.program.specs.Literals.{Slotted}
use Rattle.program.specs.Image.{rules_bytes}
use Rattle.flat.specs.Flat.{fact, simplify}
use Rattle.table.specs.OneRule.{decode, made_of, made_bytes}
use Rattle.translation.specs.Turns.{scratch_term}
use Rattle.translation.proofs.Turns.{facts_to-none, facts_grow}
use Rattle.translation.proofs.Writing.{written_no_rules, bytes_grow, part_fits, part_written}
use Rattle.table.proofs.OneRule.{fact-few, made_bytes-made_of}
use Rattle.translation.proofs.Sections.{nodes-accepted}
use Rattle.translation.proofs.NumberedTheory.write_facts.Goals as goal

-- What was made is the root's fact.
bytes-are : (p : Bool) (terms s : List ℕ) (i root term : ℕ) {made : Option Slotted} → root ≡ root_in s i → term ≡ get_or terms root 0 → made ≡ made_of (fact (decode term))
    → made_bytes p made ≡ rules_bytes p (simplify (fact (scratch_term terms (root_in s i))))
bytes-are p terms s i root term e f g = rw (g, f, e) (made_bytes-made_of p _ (fact-few _))

pub loop-root-init : goal.loop-root-init
loop-root-init c = written_no_rules _ _ _ (facts_to-none _ _)

pub put_rule-at-requires : goal.put_rule-at-requires
put_rule-at-requires c =
    part_fits (bytes_grow c.args.packed (facts_grow _ _)) c.loop-root.invariant (omega arith) c.requires
    (bytes-are c.args.packed c.args.self.now.terms.now (root_section c.args.self.now.theory.image.now) c.loop-root.root _ _ c.root.ensures.0 c.from.ensures c.fact_of.ensures)

pub loop-root-preserved : goal.loop-root-preserved
loop-root-preserved c =
    part_written (bytes_grow c.args.packed (facts_grow _ _)) c.loop-root.invariant (omega arith) c.requires
    (bytes-are c.args.packed c.args.self.now.terms.now (root_section c.args.self.now.theory.image.now) c.loop-root.root _ _ c.root.ensures.0 c.from.ensures c.fact_of.ensures)
    c.put_rule-at.ensures.value c.put_rule-at.ensures.out_after

pub bounds-self-root : goal.bounds-self-root
bounds-self-root c = omega (arith, (nodes-accepted _ c.args.self.now.theory.checked).few)

pub offset_bounds-self-root : goal.offset_bounds-self-root
offset_bounds-self-root c = record { fits = omega (arith, (nodes-accepted _ c.args.self.now.theory.checked).few) }
