-- Laws of sets of atoms: inclusion is an order, pairs (H, T) with H inside T are the readings, and `all_sets` has each set. By induction on the lists.
use mathlib.Core.Path.{◌≡◌, refl, sym, ap, ap₂, ◌∙◌}
use mathlib.Core.Logic.{⊎_elim}
use mathlib.Core.Bool.{Bool, true, false, not, ◌||◌, not-or_self}
use mathlib.Core.List.Memᴰ
use mathlib.Core.List.{List, [], ◌∷◌, Memᴰ}
use Prim.Native.Nat.{ℕ, zero, suc}
use lib.ListN.{length}
use Rattle.logic.specs.declared.Value.{Value}
use Rattle.logic.specs.declared.Value.TheVariants.{Neither, There, Both}
use Rattle.logic.specs.Value.{true_here, true_there}
use Rattle.logic.specs.Formula.{Reading}
use Rattle.logic.specs.Atoms.{Atoms, inside, mark, reading, here_of, there_of, with_and_without, all_sets}
use Rattle.logic.proofs.Bools.{&&_split, &&_join}

-- Inclusion.

within_equal : (h t : Bool) → (not h || t) ≡ true → (not t || h) ≡ true → h ≡ t
within_equal true true p q = refl
within_equal true false p q = sym p
within_equal false true p q = q
within_equal false false p q = refl

pub inside_refl : (T : Atoms) → inside T T ≡ true
inside_refl [] = refl
inside_refl (t ∷ T) = &&_join (not-or_self t) (inside_refl T)

pub inside_equal : (H T : Atoms) → inside H T ≡ true → inside T H ≡ true → H ≡ T
inside_equal [] [] p q = refl
inside_equal [] (t ∷ T) p q = cc
inside_equal (h ∷ H) [] p q = cc
inside_equal (h ∷ H) (t ∷ T) p q =
    let p2 = &&_split (not h || t) (inside H T) p in
    let q2 = &&_split (not t || h) (inside T H) q in
    ap₂ ◌∷◌ (within_equal h t p2.0 q2.0) (inside_equal H T p2.1 q2.1)

pub length-inside : (H T : Atoms) → inside H T ≡ true → length H ≡ length T
length-inside [] [] p = refl
length-inside [] (t ∷ T) p = cc
length-inside (h ∷ H) [] p = cc
length-inside (h ∷ H) (t ∷ T) p = ap suc (length-inside H T (&&_split (not h || t) (inside H T) p).1)

-- Pairs and readings.

pub length-reading : (T : Atoms) → length (reading T T) ≡ length T
length-reading [] = refl
length-reading (t ∷ T) = ap suc (length-reading T)

mark-pair : (v : Value) → mark (true_here v) (true_there v) ≡ v
mark-pair Neither = refl
mark-pair There = refl
mark-pair Both = refl

here_there : (v : Value) → (not (true_here v) || true_there v) ≡ true
here_there Neither = refl
here_there There = refl
here_there Both = refl

mark_here : (h t : Bool) → true_here (mark h t) ≡ h
mark_here true t = refl
mark_here false true = refl
mark_here false false = refl

mark_there : (h t : Bool) → (not h || t) ≡ true → true_there (mark h t) ≡ t
mark_there true t p = sym p
mark_there false true p = refl
mark_there false false p = refl

-- A reading is the reading of its pair, whose first set is inside its second.
pub reading-pair : (I : Reading) → reading (here_of I) (there_of I) ≡ I
reading-pair [] = refl
reading-pair (v ∷ I) = ap₂ ◌∷◌ (mark-pair v) (reading-pair I)

pub pair_inside : (I : Reading) → inside (here_of I) (there_of I) ≡ true
pair_inside [] = refl
pair_inside (v ∷ I) = &&_join (here_there v) (pair_inside I)

-- The pair of a pair's reading is that pair.
pub here_of-reading : (H T : Atoms) → inside H T ≡ true → here_of (reading H T) ≡ H
here_of-reading [] T p = refl
here_of-reading (h ∷ H) [] p = cc
here_of-reading (h ∷ H) (t ∷ T) p = ap₂ ◌∷◌ (mark_here h t) (here_of-reading H T (&&_split (not h || t) (inside H T) p).1)

pub there_of-reading : (H T : Atoms) → inside H T ≡ true → there_of (reading H T) ≡ T
there_of-reading [] [] p = refl
there_of-reading [] (t ∷ T) p = cc
there_of-reading (h ∷ H) [] p = cc
there_of-reading (h ∷ H) (t ∷ T) p =
    let q = &&_split (not h || t) (inside H T) p in
    ap₂ ◌∷◌ (mark_there h t q.0) (there_of-reading H T q.1)

-- The list of all sets.

with_each : (Ts : List Atoms) (T : Atoms) (b : Bool) → Memᴰ T Ts → Memᴰ (b ∷ T) (with_and_without Ts)
with_each [] T b m = absurd (Memᴰ.not-nil m)
with_each (S ∷ Ts) T b m = ⊎_elim (λ e. one b e) (λ t. Memᴰ.tail (Memᴰ.tail (with_each Ts T b t))) (Memᴰ.cases_cons m)
  where
    one : (b : Bool) → T ≡ S → Memᴰ (b ∷ T) ((false ∷ S) ∷ (true ∷ S) ∷ with_and_without Ts)
    one true e = Memᴰ.tail (Memᴰ.head (ap (λ l. true ∷ l) e))
    one false e = Memᴰ.head (ap (λ l. false ∷ l) e)

each_with : (Ts : List Atoms) (n : ℕ) (T : Atoms) → ((S : Atoms) → Memᴰ S Ts → length S ≡ n) → Memᴰ T (with_and_without Ts) → length T ≡ suc n
each_with [] n T h m = absurd (Memᴰ.not-nil m)
each_with (S ∷ Ts) n T h m =
    let long : (b : Bool) → T ≡ b ∷ S → length T ≡ suc n = λ b e. ap length e ∙ ap suc (h S (Memᴰ.head refl)) in
    ⊎_elim (long false)
    (λ t. ⊎_elim (long true) (each_with Ts n T (λ R r. h R (Memᴰ.tail r))) (Memᴰ.cases_cons t))
    (Memᴰ.cases_cons m)

pub all_sets-each : (T : Atoms) → Memᴰ T (all_sets (length T))
all_sets-each [] = Memᴰ.head refl
all_sets-each (b ∷ T) = with_each (all_sets (length T)) T b (all_sets-each T)

pub each-all_sets : (n : ℕ) (T : Atoms) → Memᴰ T (all_sets n) → length T ≡ n
each-all_sets zero T m = ap length (Memᴰ.eq_of_singleton m)
each-all_sets (suc n) T m = each_with (all_sets n) n T (each-all_sets n) m
