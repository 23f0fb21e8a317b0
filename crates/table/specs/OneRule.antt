-- One rule as the code makes it: terms as numbers, and literals added one by one. Notes on the code, which no public promise names.
use Rattle.std.specs.Prelude.{Bool, true, false, ◌&&◌, ◌||◌, cond, List, [], ◌∷◌, ℕ, zero, suc, ◌+◌, eqb, ltb, get_or, length, set, Option, Some, None}
use Rattle.program.specs.Rule.{RuleOf, Rule}
use Rattle.program.specs.Literals.{Slotted, slotted_used, slotted_bytes}
use Rattle.program.specs.Image.{literals}
use Rattle.flat.specs.Table.{Slot}
use Rattle.flat.specs.Flat.{Term, constant, name, map_rule, removes, reduce}
use Rattle.table.specs.declared.Literals.{Literals}
use Rattle.table.specs.Shapes.{slot_number, shape_rule}

-- The numbers of the two constants, above every name's.
abbrev pub false_term : ℕ
false_term = 65534

abbrev pub true_term : ℕ
true_term = 65535

-- The number of a term: a name's is its own.
abbrev pub code : Term → ℕ
code (constant false) = false_term
code (constant true) = true_term
code (name a) = a

-- The term of a number.
abbrev pub decode : ℕ → Term
decode n = cond (eqb n false_term) (constant false) (cond (eqb n true_term) (constant true) (name n))

-- What stands in the slots where x, y, L and M have these numbers.
abbrev pub filled : List ℕ → Slot → Term
filled terms s = decode (get_or terms (slot_number s) 0)

-- The rule of a row with its slots filled.
abbrev pub rule_in : (s terms : List ℕ) → RuleOf Term
rule_in s terms = map_rule (filled terms) (shape_rule s)

-- Are the terms of x, y, L and M all names?
abbrev pub all_names : List ℕ → Bool
all_names terms = is_name 0 && (is_name 1 && (is_name 2 && is_name 3))
  where
    is_name : ℕ → Bool
    is_name j = ltb (get_or terms j 0) false_term

-- No literals yet,
abbrev pub no_literals : Literals
no_literals = record { used = 0; slots = 0 ∷ 0 ∷ 0 ∷ [] }

-- and one literal more: the constant `removing` removes the rule, any other constant is dropped, and a name takes the next slot.
abbrev pub added : Literals → (removing term : ℕ) → Option Literals
added l removing term =
    cond (eqb term removing) None (Some (cond (eqb term false_term || eqb term true_term) l (record { used = l.used + 1; slots = set l.slots l.used term })))

-- The same of a rule that may be removed already,
abbrev pub added_if : Option Literals → (removing term : ℕ) → Option Literals
added_if None removing term = None
added_if (Some l) removing term = added l removing term

-- and the terms f 0, f 1, .. and so on: n literals more.
unfoldable pub added_to : Literals → (removing : ℕ) → (ℕ → ℕ) → (n : ℕ) → Option Literals
added_to l removing f zero = Some l
added_to l removing f (suc n) = added_if (added_to l removing f n) removing (f n)

-- The first three of a list, 0 where it ends.
abbrev pub first_three : List ℕ → List ℕ
first_three l = get_or l 0 0 ∷ get_or l 1 0 ∷ get_or l 2 0 ∷ []

-- A rule in its slots,
abbrev pub slotted : Rule → Slotted
slotted r = record { heads = length r.heads; positives = length r.positives; negatives = length r.negatives; slots = first_three (literals r) }

-- and a rule with its constants gone, if it stays.
unfoldable pub made_of : RuleOf Term → Option Slotted
made_of r = cond (removes r) None (Some (slotted (reduce r)))

-- How many rules stay of one: it, or none;
abbrev pub made_count : Option Slotted → ℕ
made_count None = 0
made_count (Some m) = 1

-- how many literals,
abbrev pub made_literals : Option Slotted → ℕ
made_literals None = 0
made_literals (Some m) = slotted_used m

-- and the bytes of what stays.
abbrev pub made_bytes : (packed : Bool) → Option Slotted → List ℕ
made_bytes packed None = []
made_bytes packed (Some m) = slotted_bytes packed m
