-- `list_sets` tests the rows in order, and writes only where none applies: the bitmap has the answer sets' numbers. Assumes nothing.
use Rattle.std.proofs.Common.{◌≡◌, ap, ◌∙◌, ℕ, List, ◌*◌, ◌^◌, ◌≤◌, ◌<◌, arith, length, pow_mono}
use Rattle.std.specs.List.{range_with_len, count_by}
use Rattle.refusal.specs.Limits.{most_listed}
use Rattle.refusal.specs.Table.{refused, accepted}
use Rattle.wire.specs.Wire.{over}
use Rattle.theory.specs.Image.{atom_count}
use Rattle.stable.specs.Listing.{numbers_bytes, sets_of}
use Rattle.stable.specs.Bitmap.{bit_at, passing, is_listed}
use Rattle.stable.proofs.Listings.{length-passing, passing-count_by, found_numbers, found_count, listed_many, listed_short, listed-whole}
use Rattle.stable.proofs.list_sets.Goals as goal

-- the number of sets is 2 to the A, and A is small
power : {atoms count sets : ℕ} → atoms ≡ count → atoms ≤ most_listed → sets ≡ 2 ^ atoms → (sets ≡ 2 ^ count) × (sets ≤ 4096) × (count ≤ most_listed)
power e few s = (s ∙ ap (λ n. 2 ^ n) e, rw s (pow_mono {j = 12} few), omega arith)

-- the count is the number of answer sets
counted : (theory found : List ℕ) {sets count : ℕ} → ((c : ℕ) → c < 2 ^ atom_count theory → bit_at found c ≡ is_listed theory c)
    → sets ≡ 2 ^ atom_count theory → count ≡ count_by (bit_at found) (range_with_len 0 sets) → count ≡ length (sets_of theory)
counted theory found right e h = h ∙ passing-count_by (bit_at found) _ ∙ ap (λ n. length (passing (bit_at found) n)) e ∙ found_count theory found right

pub returns-then-atoms-gt-MOST_LISTED : goal.returns-then-atoms-gt-MOST_LISTED
returns-then-atoms-gt-MOST_LISTED c =
    let atoms = c.atoms-atoms.ensures.0 in
    let many = listed_many c.args.theory.now.image.now c.args.out.now (omega (arith, atoms)) in
    record { value = ap (refused 11) atoms ∙ many.0; out_after = many.1 }

pub count_set-count-requires : goal.count_set-count-requires
count_set-count-requires c = omega (arith, power c.atoms-atoms.ensures.0 (omega arith) c.two_to-sets.ensures.0)

pub overflow_mul-count : goal.overflow_mul-count
overflow_mul-count c = omega (arith, rw passing-count_by at c.count_set-count.ensures, length-passing, power c.atoms-atoms.ensures.0 (omega arith) c.two_to-sets.ensures.0)

pub overflow_mul-result : goal.overflow_mul-result
overflow_mul-result c = omega (arith, rw passing-count_by at c.count_set-count.ensures, length-passing, power c.atoms-atoms.ensures.0 (omega arith) c.two_to-sets.ensures.0)

pub returns-then-out-count : goal.returns-then-out-count
returns-then-out-count c =
    let sets = power c.atoms-atoms.ensures.0 (omega arith) c.two_to-sets.ensures.0 in
    let number = counted c.args.theory.now.image.now c.find_sets.new.found c.find_sets.ensures sets.0 c.count_set-count.ensures in
    let short = listed_short c.args.theory.now.image.now c.args.out.now sets.2 (omega (arith, c.if-out-count.true, number)) in
    record { value = ap (λ n. refused 8 (2 * n)) number ∙ short.0; out_after = short.1 }

pub write_set-requires-clause-n_in_bounds : goal.write_set-requires-clause-n_in_bounds
write_set-requires-clause-n_in_bounds c = omega (arith, rw passing-count_by at c.count_set-count.ensures)

pub write_set-requires-clause-n_bound : goal.write_set-requires-clause-n_bound
write_set-requires-clause-n_bound c = omega (arith, power c.atoms-atoms.ensures.0 (omega arith) c.two_to-sets.ensures.0)

pub returns : goal.returns
returns c =
    let theory = c.args.theory.now.image.now in
    let sets = power c.atoms-atoms.ensures.0 (omega arith) c.two_to-sets.ensures.0 in
    let found = c.find_sets.new.found in
    let number = counted theory found c.find_sets.ensures sets.0 c.count_set-count.ensures in
    let whole = listed-whole theory c.args.out.now sets.2 (omega (arith, c.if-out-count.false, number)) in
    let bytes : List ℕ → List ℕ = λ l. over (numbers_bytes l) c.args.out.now in record {
      value = ap accepted number ∙ whole.0;
      out_after = c.write_set.ensures ∙ ap (λ n. bytes (passing (bit_at found) n)) sets.0 ∙ ap bytes (found_numbers theory found c.find_sets.ensures) ∙ whole.1;
    }
