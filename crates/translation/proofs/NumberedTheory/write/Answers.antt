-- `write` writes the image: the rules behind the first 16 bytes, and then the header over these. Assumes nothing.
use Rattle.std.proofs.Common.{◌≡◌, ap, ap₂, ◌∙◌, Bool, List, ℕ, ◌+◌, ◌≤◌, arith, length, take, length-take-le}
use Rattle.wire.proofs.Laws.{turn_room, turn, written_past}
use Rattle.theory.specs.Image.{atom_count, book_of}
use Rattle.program.specs.Image.{header, rules_bytes, image_of}
use Rattle.program.proofs.Lengths.{length-header, length-image_of}
use Rattle.flat.specs.Flat.{flat}
use Rattle.translation.specs.Outcome.{size_of, rule_total}
use Rattle.translation.proofs.Writing.{over_last}
use Rattle.translation.proofs.NumberedTheory.write.Goals as goal

-- The total is the length of the header and the rules, so the rules fit behind the header.
fit : (p : Bool) (t old : List ℕ) {total : ℕ} → total ≡ length (image_of p (flat (book_of t))) → total ≤ length old
    → (total ≡ 16 + length (rules_bytes p (flat (book_of t)).rules)) × (16 ≤ length old) × (length (take 16 old) + length (rules_bytes p (flat (book_of t)).rules) ≤ length old)
fit p t old e h =
    let is = e ∙ length-image_of p (flat (book_of t)) in
    (is, omega arith, omega (arith, length-take-le 16 old (omega arith)))

pub slice_bounds-write_rules-count : goal.slice_bounds-write_rules-count
slice_bounds-write_rules-count c = (fit c.args.packed _ c.args.out.now c.requires.2 c.requires.3).1

pub slice_bounds-write_rules-start : goal.slice_bounds-write_rules-start
slice_bounds-write_rules-start c = (fit c.args.packed _ c.args.out.now c.requires.2 c.requires.3).1

pub write_rules-requires : goal.write_rules-requires
write_rules-requires c =
    let room = fit c.args.packed _ c.args.out.now c.requires.2 c.requires.3 in
    turn_room (written_past 16 c.args.out.now room.1) room.2

pub put-requires : goal.put-requires
put-requires c =
    let room = fit c.args.packed _ c.args.out.now c.requires.2 c.requires.3 in
    omega arith

pub returns : goal.returns
unfolding image_of book_of
returns c =
    let p = c.args.packed in
    let t = c.args.self.now.theory.image.now in
    let old = c.args.out.now in
    let room = fit p t old c.requires.2 c.requires.3 in
    let rules = rules_bytes p (flat (book_of t)).rules in
    let put = c.write_rules.ensures in
    let w = turn (written_past 16 old room.1) rules room.2 put.value put.out_after in
    let head = header p (atom_count t) (size_of t) (rule_total t) (16 + length rules) in
    let e : length head ≡ 16 = length-header p (atom_count t) (size_of t) (rule_total t) (16 + length rules) in
    let h : c.header_bytes-header.result ≡ head = c.header_bytes-header.ensures
    ∙ ap (λ a. header p a c.args.size c.args.rules c.args.total) c.atoms.ensures.0
    ∙ ap₂ (λ b k. header p (atom_count t) b k c.args.total) c.requires.0 c.requires.1
    ∙ ap (header p (atom_count t) (size_of t) (rule_total t)) room.0 in
    c.put.ensures.out_after ∙ rw h (over_last head rules old _ (omega (arith, e, room.1)) (rw e w.bytes))
