-- What a counter of rules needs of a list of rules that grows by a part at each turn: rules and literals add up. Assumes nothing.
use mathlib.Core.Path.{◌≡◌, refl, sym, ap, ◌∙◌}
use mathlib.Core.Bool.{Bool, true}
use mathlib.Core.List.{List, [], ◌∷◌, ◌++◌}
use Prim.Native.Nat.{ℕ, zero, suc, ◌+◌, ◌*◌, ◌≤◌}
use native.Mathlib.Nat.{add_assoc}
use native.Mathlib.Omega.{arith}
use lib.ListN.{length, length-append}
use Rattle.wire.specs.Sequence.{up_to}
use Rattle.theory.specs.declared.Kind.{Kind}
use Rattle.theory.specs.declared.Kind.TheVariants.{False, True, Atom, Not, And, Or, Implies}
use Rattle.theory.specs.Image.{pair_in}
use Rattle.std.specs.Prelude.{Option}
use Rattle.program.specs.Literals.{Slotted}
use Rattle.program.specs.Rule.{RuleOf, Rule}
use Rattle.program.specs.Program.{Program}
use Rattle.program.specs.Image.{literals, literal_total, image_length, image_of}
use Rattle.program.proofs.Lengths.{length-rules_bytes, length-image_of}
use Rattle.flat.specs.Table.{Slot, rows}
use Rattle.flat.specs.Flat.{Term, simplify, map_rule, instances, pair_rule}
use Rattle.table.specs.Shapes.{rows_literals}
use Rattle.table.specs.OneRule.{filled, all_names, made_of, made_count, made_literals}
use Rattle.table.proofs.OneRule.{made_count-made_of, made_literals-made_of}
use Rattle.table.proofs.Names.{removes-filled, literals-filled}
use Rattle.translation.specs.Turns.{pairs_to, kind_rules, Counted}

literal_total-append : (rs qs : List Rule) → literal_total (rs ++ qs) ≡ literal_total rs + literal_total qs
literal_total-append [] qs = omega arith
literal_total-append (r ∷ rs) qs = rw (literal_total-append rs qs) (sym (add_assoc (length (literals r)) (literal_total rs) (literal_total qs)))

-- No rule is counted yet.
pub counted_none : {rs : List Rule} → rs ≡ [] → Counted rs 0 0
counted_none e = record { all = rw e; each = rw e; few = omega arith }

-- A part more.
pub counted_more : {rs qs whole : List Rule} {a b m n : ℕ} → Counted rs a m → Counted qs b n → whole ≡ rs ++ qs → Counted whole (a + b) (m + n)
counted_more {rs} {qs} c d e = record {
  all = rw (e, length-append) (omega arith);
  each = rw (e, literal_total-append rs qs) (omega arith);
  few = omega arith;
}

-- A rule that was made more, if it stays.
pub counted_made : {rs whole : List Rule} {a b m n : ℕ} {made : Option Slotted} (r : RuleOf Term) → Counted rs a m → made ≡ made_of r → made_literals made ≤ made_count made * 3
    → b ≡ a + made_count made → n ≡ m + made_literals made → whole ≡ rs ++ simplify r → Counted whole b n
counted_made r c is few e f g =
    let part : Counted (simplify r) (made_count (made_of r)) (made_literals (made_of r)) = record { all = made_count-made_of r; each = made_literals-made_of r; few = rw is at few } in
    rw (e, f, is) (counted_more c part g)

-- Where x, y, L and M are all names every row's rule stays with all its literals: a kind has as many as its rows.
module _ (terms : List ℕ) (all : all_names terms ≡ true) where
  counted_rows : (rs : List (RuleOf Slot)) → (length (instances (filled terms) rs) ≡ length rs) × (literal_total (instances (filled terms) rs) ≡ rows_literals rs)
  counted_rows [] = (refl, refl)
  counted_rows (r ∷ rs) =
      let more = counted_rows rs in
      (rw (removes-filled terms all r) (ap suc more.0), literal_total-append (simplify (map_rule (filled terms) r)) (instances (filled terms) rs) ∙ omega (arith, literals-filled terms all r, more.1))

  pub counted_names : (kind : Kind) → Counted (kind_rules terms kind) (length (rows kind)) (rows_literals (rows kind))
  counted_names kind = let same = counted_rows (rows kind) in record { all = sym same.0; each = sym same.1; few = few kind }
    where
      few : (kind : Kind) → rows_literals (rows kind) ≤ length (rows kind) * 3
      few False = omega arith
      few True = omega arith
      few Atom = omega arith
      few Not = omega arith
      few And = omega arith
      few Or = omega arith
      few Implies = omega arith

-- A pair's rule has two literals.
pub counted_pairs : (s : List ℕ) (n : ℕ) → Counted (pairs_to s n) n (n * 2)
unfolding up_to
counted_pairs s zero = record { all = refl; each = refl; few = omega arith }
counted_pairs s (suc n) =
    let one : Counted (pair_rule (pair_in s n) ∷ []) 1 2 = record { all = refl; each = refl; few = omega arith } in
    let more = counted_more (counted_pairs s n) one refl in
    record { all = omega (arith, more.all); each = omega (arith, more.each); few = omega arith }

-- The length of an image by what was counted of its rules.
pub counted_length : (packed : Bool) (p : Program) {rules literals needed : ℕ} → Counted p.rules rules literals → needed ≡ image_length packed rules literals → needed ≡ length (image_of packed p)
counted_length packed p c e = e ∙ rw (c.all, c.each) (sym (length-rules_bytes packed p.rules)) ∙ sym (length-image_of packed p)
