-- The programs that round trips are promised for: their numbers and rules pass 22 and 26 of a form.
use Rattle.std.specs.Prelude.{Bool, true, not, ◌&&◌, List, [], ◌∷◌, ℕ, leb, length}
use Rattle.wire.specs.Wire.{all_below}
use Rattle.program.specs.Rule.{Rule}
use Rattle.program.specs.Program.{Program}
use Rattle.program.specs.Image.{most_literals, literals}
use Rattle.program.specs.Rows.{outside}

-- A rule has no more literals than the form allows, all below B.
abbrev pub rule_writable : (packed : Bool) → (B : ℕ) → Rule → Bool
rule_writable packed B r = leb (length (literals r)) (most_literals packed) && all_below B (literals r)

-- Each rule of the list is so.
abbrev pub rules_writable : (packed : Bool) → (B : ℕ) → List Rule → Bool
rules_writable packed B [] = true
rules_writable packed B (r ∷ rs) = rule_writable packed B r && rules_writable packed B rs

-- A, B and the number of rules are inside their limits, and each rule is so.
abbrev pub writable : (packed : Bool) → Program → Bool
writable packed p = not (outside p.atoms p.size (length p.rules)) && rules_writable packed p.size p.rules
