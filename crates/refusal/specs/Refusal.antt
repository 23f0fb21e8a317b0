-- Why a call refuses, in the numbers of document 01: of each refusal its row's number and its place; and the answer of an outcome.
use Rattle.std.specs.Prelude.{◌≡◌, true, List, ℕ, ◌+◌, ◌*◌, Result, Ok, Err}
use Rattle.refusal.specs.declared.Field.{Field}
use Rattle.refusal.specs.declared.Field.TheVariants.{Kind, Zero, Left, Right}
use Rattle.refusal.specs.declared.Refusal.{Refusal}
use Rattle.refusal.specs.declared.Refusal.TheVariants.{TheoryHeader, TheoryLimits, TheoryOffsets, TheoryLength, Node, Root, Room, ArgumentLength, ArgumentByte, TooManyAtoms, UnusedNode, Pair, ProgramHeader, ProgramLimits, ProgramForm, ProgramOffsets, ProgramLength, Rule}
use Rattle.refusal.specs.declared.Answer.{Answer}
use Rattle.refusal.specs.Table.{Row, refused, accepted, answer, none}

-- the fields of a node: 0 kind, 1 zero byte, 2 left, 3 right
abbrev pub field_number : Field → ℕ
field_number Kind = 0
field_number Zero = 1
field_number Left = 2
field_number Right = 3

-- the number of the row
abbrev pub number : Refusal → ℕ
number TheoryHeader = 1
number TheoryLimits = 2
number TheoryOffsets = 4
number (TheoryLength wanted) = 5
number (Node node field) = 6
number (Root index) = 7
number (Room needed) = 8
number (ArgumentLength wanted) = 9
number (ArgumentByte index) = 10
number (TooManyAtoms atoms) = 11
number (UnusedNode node) = 13
number (Pair index) = 15
number ProgramHeader = 21
number ProgramLimits = 22
number ProgramForm = 23
number ProgramOffsets = 24
number (ProgramLength wanted) = 25
number (Rule index) = 26

-- the place: of row 6 eight times the node plus the field
abbrev pub place : Refusal → ℕ
place TheoryHeader = 0
place TheoryLimits = 0
place TheoryOffsets = 0
place (TheoryLength wanted) = wanted
place (Node node field) = node * 8 + field_number field
place (Root index) = index
place (Room needed) = needed
place (ArgumentLength wanted) = wanted
place (ArgumentByte index) = index
place (TooManyAtoms atoms) = atoms
place (UnusedNode node) = node
place (Pair index) = index
place ProgramHeader = 0
place ProgramLimits = 0
place ProgramForm = 0
place ProgramOffsets = 0
place (ProgramLength wanted) = wanted
place (Rule index) = index

-- the answer that refuses for this reason
abbrev pub refused_for : Refusal → Answer
refused_for why = refused (number why) (place why)

-- the answer of an outcome: its result is accepted, or it is refused
abbrev pub answer_of : Result ℕ Refusal → Answer
answer_of (Ok result) = accepted result
answer_of (Err why) = refused_for why

-- an outcome is what some rows decide: it is well only where none of them applies, and its refusal is that of the first that does
abbrev pub Decides : {A : Type 0} → List Row → Result A Refusal → Type 0
Decides rows (Ok x) = none rows ≡ true
Decides rows (Err why) = refused_for why ≡ answer rows 0
