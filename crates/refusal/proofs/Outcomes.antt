-- No two outcomes have one answer: its number, place and result give the outcome back. Assumes nothing.
use Rattle.std.proofs.Common.{◌≡◌, ◌∙◌, refl, sym, ap, ap₂, arith, cond, ℕ, ◌+◌, ◌*◌, ◌/◌, ◌%◌, ◌<◌, eqb, ne_eqb, Result, Ok, Err}
use Rattle.refusal.specs.declared.Field.{Field}
use Rattle.refusal.specs.declared.Field.TheVariants.{Kind, Zero, Left, Right}
use Rattle.refusal.specs.declared.Refusal.{Refusal}
use Rattle.refusal.specs.declared.Refusal.TheVariants.{TheoryHeader, TheoryLimits, TheoryOffsets, TheoryLength, Node, Root, Room, ArgumentLength, ArgumentByte, TooManyAtoms, UnusedNode, Pair, ProgramHeader, ProgramLimits, ProgramForm, ProgramOffsets, ProgramLength, Rule}
use Rattle.refusal.specs.declared.Answer.{Answer}
use Rattle.refusal.specs.Refusal.{field_number, number, place, answer_of}
use Rattle.refusal.proofs.Decided.{number-some}

-- the field of a number,
abbrev field_of : ℕ → Field
field_of n = cond (eqb n 0) Kind (cond (eqb n 1) Zero (cond (eqb n 2) Left Right))

-- the refusal of a number and a place,
abbrev refusal_of : (number place : ℕ) → Refusal
refusal_of n p =
    cond (eqb n 1) TheoryHeader (cond (eqb n 2) TheoryLimits (cond (eqb n 4) TheoryOffsets (cond (eqb n 5) (TheoryLength p)
    (cond (eqb n 6) (Node (p / 8) (field_of (p % 8))) (cond (eqb n 7) (Root p) (cond (eqb n 8) (Room p) (cond (eqb n 9) (ArgumentLength p)
    (cond (eqb n 10) (ArgumentByte p) (cond (eqb n 11) (TooManyAtoms p) (cond (eqb n 13) (UnusedNode p) (cond (eqb n 15) (Pair p)
    (cond (eqb n 21) ProgramHeader (cond (eqb n 22) ProgramLimits (cond (eqb n 23) ProgramForm (cond (eqb n 24) ProgramOffsets
    (cond (eqb n 25) (ProgramLength p) (Rule p)))))))))))))))))

-- and the outcome of an answer
abbrev outcome_of : Answer → Result ℕ Refusal
outcome_of a = cond (eqb a.number 0) (Ok a.result) (Err (refusal_of a.number a.place))

-- each of the three gives back what it was made from
field_back : (f : Field) → (field_number f < 8) × (field_of (field_number f) ≡ f)
field_back Kind = (omega arith, refl)
field_back Zero = (omega arith, refl)
field_back Left = (omega arith, refl)
field_back Right = (omega arith, refl)

place_parts : (k field : ℕ) → field < 8 → ((k * 8 + field) / 8 ≡ k) × ((k * 8 + field) % 8 ≡ field)
place_parts k field few = (omega arith, omega arith)

node_back : (k : ℕ) (f : Field) → Node ((k * 8 + field_number f) / 8) (field_of ((k * 8 + field_number f) % 8)) ≡ Node k f
node_back k f = let p = place_parts k (field_number f) (field_back f).0 in ap₂ Node p.0 (ap field_of p.1 ∙ (field_back f).1)

refusal_back : (why : Refusal) → refusal_of (number why) (place why) ≡ why
refusal_back TheoryHeader = refl
refusal_back TheoryLimits = refl
refusal_back TheoryOffsets = refl
refusal_back (TheoryLength wanted) = refl
refusal_back (Node node field) = node_back node field
refusal_back (Root index) = refl
refusal_back (Room needed) = refl
refusal_back (ArgumentLength wanted) = refl
refusal_back (ArgumentByte index) = refl
refusal_back (TooManyAtoms atoms) = refl
refusal_back (UnusedNode node) = refl
refusal_back (Pair index) = refl
refusal_back ProgramHeader = refl
refusal_back ProgramLimits = refl
refusal_back ProgramForm = refl
refusal_back ProgramOffsets = refl
refusal_back (ProgramLength wanted) = refl
refusal_back (Rule index) = refl

outcome_back : (outcome : Result ℕ Refusal) → outcome_of (answer_of outcome) ≡ outcome
outcome_back (Ok result) = refl
outcome_back (Err why) = rw (ne_eqb (number why) 0 (number-some why)) (ap Err (refusal_back why))

-- two outcomes of one answer are the same
pub answer_of_one : (a b : Result ℕ Refusal) → answer_of a ≡ answer_of b → a ≡ b
answer_of_one a b e = sym (outcome_back a) ∙ ap outcome_of e ∙ outcome_back b
