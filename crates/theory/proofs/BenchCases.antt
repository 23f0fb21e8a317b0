-- The bench cases have the answer sets of their table, are well formed, and use every node; the others use the nodes that their table says. All computed from the definitions.
use mathlib.Core.Path.{◌≡◌, refl}
use mathlib.Core.Logic.{⊎_elim}
use mathlib.Core.Bool.{Bool, true, ◌&&◌}
use mathlib.Core.List.Memᴰ
use mathlib.Core.List.{List, [], ◌∷◌, map, Memᴰ}
use lib.ListN.{length}
use Rattle.logic.proofs.Bools.{&&_split}
use Rattle.wire.specs.Wire.{all_below}
use Rattle.wire.specs.Sequence.{up_to}
use Rattle.theory.specs.Book.{all_fit, pairs_fit, WellFormed}
use Rattle.theory.specs.BenchCases.{BenchCase, bench_cases, sets_of, uses_of, use_cases}

-- The one claim over the one table.
pub bench_cases-sets : map (λ c. sets_of c.theory) bench_cases ≡ map (λ c. c.sets) bench_cases
bench_cases-sets = refl

-- The bench cases use every node, and the others those of their table.
pub bench_cases-used : map (λ c. uses_of c.theory) bench_cases ≡ map (λ c. map (λ n. true) c.theory.nodes) bench_cases
unfolding up_to
bench_cases-used = refl

pub use_cases-used : map (λ c. uses_of c.theory) use_cases ≡ map (λ c. c.uses) use_cases
unfolding up_to
use_cases-used = refl

-- Where two functions give equal lists, they are equal at each element.
map_at : {S T : Type 0} (f g : S → T) (l : List S) → map f l ≡ map g l → (s : S) → Memᴰ s l → f s ≡ g s
map_at f g [] e s m = absurd (Memᴰ.not-nil m)
map_at f g (t ∷ l) e s m =
    let here : f t ≡ g t = cc in
    let later : map f l ≡ map g l = cc in
    ⊎_elim (λ (p : s ≡ t). rw p here) (map_at f g l later s) (Memᴰ.cases_cons m)

pub case-sets : (c : BenchCase) → Memᴰ c bench_cases → sets_of c.theory ≡ c.sets
case-sets = map_at (λ c. sets_of c.theory) (λ c. c.sets) bench_cases bench_cases-sets

pub case_well_formed : (c : BenchCase) → Memᴰ c bench_cases → WellFormed c.theory
case_well_formed c m =
    let fit : BenchCase → Bool = λ c. all_fit c.theory.atoms 0 c.theory.nodes in
    let below : BenchCase → Bool = λ c. all_below (length c.theory.nodes) c.theory.roots in
    let smaller-first : BenchCase → Bool = λ c. pairs_fit c.theory.atoms c.theory.pairs in
    let all = &&_split (fit c) (below c && smaller-first c) (map_at (λ c. fit c && (below c && smaller-first c)) (λ c. true) bench_cases refl c m) in
    let others = &&_split (below c) (smaller-first c) all.1 in
    record { nodes_fit = all.0; roots-below = others.0; pairs_all_fit = others.1 }
