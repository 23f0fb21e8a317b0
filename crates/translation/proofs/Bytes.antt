-- Demand 3 of the bytes: the flat program of an accepted image passes the program check and reads back, so what was proved of book and program holds of the images and of the extension's bytes.
use mathlib.Core.Path.{◌≡◌, refl, sym, ap, ◌∙◌}
use mathlib.Core.Bool.{Bool, true, false}
use mathlib.Core.List.{List, [], ◌∷◌, ◌++◌, map}
use Prim.Native.Nat.{ℕ}
use lib.ListN.{length, get_or, take, drop, length-map, get_or-map}
use borrow.Author.Tests.{le-ltb}
use Rattle.refusal.specs.Table.{none, yes, answer, accepted}
use Rattle.refusal.specs.Rows.{wrong, row8, argument_rows, reading_rows}
use Rattle.refusal.proofs.Table.{answer_both, answer-yes, none_split}
use Rattle.refusal.proofs.Rows.{none-argument_rows, argument_rows-none}
use Rattle.wire.specs.Wire.{over}
use Rattle.logic.specs.declared.Value.TheVariants.{Neither}
use Rattle.logic.specs.Value.{number, of_byte}
use Rattle.logic.specs.Formula.{Formula, Reading, reading_of, satisfies, AllOver}
use Rattle.logic.proofs.Bools.{iff_equal}
use Rattle.logic.proofs.Values.{number_small}
use Rattle.theory.specs.Book.{book_formulas}
use Rattle.theory.specs.Image.{atom_count, book_of}
use Rattle.theory.specs.Rows.{theory_rows}
use Rattle.theory.proofs.Accepted
use Rattle.logic.proofs.Formulas.{reading_of-number}
use Rattle.logic.proofs.Lists.{take-map}
use Rattle.program.specs.Program.{Program, satisfies_program, program_formulas}
use Rattle.program.specs.Image.{size_of, total_of, program_of, image_of}
use Rattle.program.specs.Rows.{program_rows}
use Rattle.flat.specs.Flat.{flat}
use Rattle.flat.specs.Extension.{extend, Extends}
use Rattle.flat.specs.OneToOne.{OneToOne}
use Rattle.flat.proofs.Extensions.{length-extend}
use Rattle.flat.proofs.Demand3.{extension_satisfies, extension_only, one_to_one}
use Rattle.translation.specs.Outcome.{extend_rows}
use Rattle.translation.proofs.Labels.{reading_bytes, atoms-book_of, reading_of-long}
use Rattle.translation.proofs.Writable.{translated-accepted, translated_read, translated_part}

-- Bytes of readings.

number-right : (I : Reading) (i : ℕ) → wrong false (get_or (map number I) i 0) ≡ false
number-right I i = rw (get_or-map number I i Neither, le-ltb 2 (number (get_or I i Neither)) (number_small (get_or I i Neither)))

reading-accepted : (I : Reading) (n : ℕ) → length I ≡ n → none (reading_rows n (map number I)) ≡ true
reading-accepted I n e = argument_rows-none false n (map number I) (length-map I number ∙ e) (λ i l. number-right I i)

-- An extension that is not refused has a reading that is not refused.
pub extend_rows-reading : (t r : List ℕ) (room : ℕ) → none (extend_rows t r room) ≡ true → none (reading_rows (atom_count t) r) ≡ true
unfolding extend_rows
extend_rows-reading t r room h = (none_split (reading_rows (atom_count t) r) (row8 (flat (book_of t)).size room ∷ []) h).0

-- Of an output over whose start the program of an accepted theory image was written, the image's part is as long as its total says.
pub program_part : (t : List ℕ) → none (theory_rows t) ≡ true → (packed : Bool) (o left : List ℕ) → left ≡ over (image_of packed (flat (book_of t))) o
    → take (total_of left) left ≡ image_of packed (flat (book_of t))
program_part t ok packed o left e = rw e (translated_part t ok packed (drop (length (image_of packed (flat (book_of t)))) o))

-- A theory image that the check accepts, and the image of its program in either form.
module _ (t : List ℕ) (ok : none (theory_rows t) ≡ true) (packed : Bool) (p : List ℕ) (wrote : p ≡ image_of packed (flat (book_of t))) where
  -- The program's check accepts it, and reading it gives the flat program.
  pub program_accepted : none (program_rows p) ≡ true
  program_accepted = rw wrote (translated-accepted t ok packed)

  pub program_read : program_of p ≡ flat (book_of t)
  program_read = rw wrote (translated_read t ok packed)

  size_is : size_of p ≡ (flat (book_of t)).size
  unfolding program_of
  size_is = ap (λ (q : Program). q.size) program_read

  -- The answer sets match one to one beside further formulas over the theory's atoms.
  pub bytes_one_to_one : (Γ : List Formula) → AllOver (atom_count t) Γ
      → OneToOne (atom_count t) (size_of p) (book_formulas (book_of t) ++ Γ) (program_formulas (program_of p) ++ Γ)
  bytes_one_to_one Γ over = rw (size_is, program_read, ← atoms-book_of t) (one_to_one (book_of t) (Accepted.accepted_well_formed t ok) Γ (rw atoms-book_of over))

  -- A reading of the theory's atoms, and its extension.
  module _ (r : List ℕ) (read : none (reading_rows (atom_count t) r) ≡ true) (x : List ℕ) (extended : x ≡ map number (extend (book_of t) (reading_of r))) where
    accepted-x : none (reading_rows (size_of p) x) ≡ true
    accepted-x = rw (extended, size_is) (reading-accepted (extend (book_of t) (reading_of r)) (flat (book_of t)).size (length-extend (book_of t) (reading_of r) (reading_of-long t r ok read)))

    satisfied-x : satisfies_program (reading_of x) (program_of p) ≡ satisfies (reading_of r) (book_formulas (book_of t))
    satisfied-x = rw (extended, reading_of-number (extend (book_of t) (reading_of r)), program_read)
        (iff_equal _ _ (extension_satisfies (book_of t) (Accepted.accepted_well_formed t ok) (reading_of r) (reading_of-long t r ok read)))

    -- The program answers on the extension what the theory answers on the reading,
    pub bytes_evaluated : answer (program_rows p ++ reading_rows (size_of p) x) (yes (satisfies_program (reading_of x) (program_of p)))
        ≡ answer (theory_rows t ++ reading_rows (atom_count t) r) (yes (satisfies (reading_of r) (book_formulas (book_of t))))
    bytes_evaluated =
        answer_both (program_rows p) _ _ program_accepted accepted-x
        ∙ ap (λ b. accepted (yes b)) satisfied-x
        ∙ sym (answer_both (theory_rows t) (reading_rows (atom_count t) r) _ ok read)

    -- and no other reading of its atoms and labels that goes on from this one satisfies it.
    pub bytes_only_one : (j : List ℕ) → answer (program_rows p ++ reading_rows (size_of p) j) (yes (satisfies_program (reading_of j) (program_of p))) ≡ accepted 1
        → take (atom_count t) j ≡ r → j ≡ x
    unfolding program_rows argument_rows
    bytes_only_one j says e =
        let both = answer-yes (program_rows p ++ reading_rows (size_of p) j) (satisfies_program (reading_of j) (program_of p)) refl says in
        let right = none-argument_rows false (size_of p) j (none_split (program_rows p) (reading_rows (size_of p) j) both.0).1 in
        let extends : Extends (book_of t) (reading_of r) (reading_of j)
        = record { sized = length-map j of_byte ∙ right.0 ∙ size_is; same_atoms = rw atoms-book_of (take-map of_byte (atom_count t) j ∙ ap reading_of e) } in
        sym (reading_bytes j right.1)
        ∙ ap (map number) (extension_only (book_of t) (Accepted.accepted_well_formed t ok) (reading_of r) (reading_of j) extends (rw program_read at both.1))
        ∙ sym extended
