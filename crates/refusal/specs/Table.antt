-- The refusal table: its rows in the order tested, the answer that they give, and what it is for an answer to be exact.
use Rattle.std.specs.Prelude.{◌≡◌, ◌↔◌, Bool, true, false, cond, not, ◌&&◌, List, [], ◌∷◌, ◌++◌, ℕ, eqb}
use Rattle.refusal.specs.declared.Answer.{Answer}

-- a row: its number, whether it applies, and its place
pub record Row : Type 0 where
  pub number : ℕ
  pub applies : Bool
  pub place : ℕ

-- on refusal: a number, a place, and the result 0
abbrev pub refused : ℕ → ℕ → Answer
refused number place = record { number = number; place = place; result = 0 }

-- on acceptance: the number 0, the place 0, and a result
abbrev pub accepted : ℕ → Answer
accepted result = record { number = 0; place = 0; result = result }

-- the result of a question: yes is 1, no is 0
abbrev pub yes : Bool → ℕ
yes true = 1
yes false = 0

-- the first row that applies refuses; where none does, the result is accepted
abbrev pub answer : List Row → ℕ → Answer
answer [] result = accepted result
answer (r ∷ rs) result = cond r.applies (refused r.number r.place) (answer rs result)

-- no row applies
abbrev pub none : List Row → Bool
none [] = true
none (r ∷ rs) = not r.applies && none rs

-- no row has this number
abbrev pub unused : ℕ → List Row → Bool
unused n [] = true
unused n (r ∷ rs) = not (eqb n r.number) && unused n rs

-- the rows' numbers are all different, and none is 0
abbrev pub numbered : List Row → Bool
numbered [] = true
numbered (r ∷ rs) = not (eqb 0 r.number) && (unused r.number rs && numbered rs)

-- An answer that is exact for some rows and a result.
pub record Exact (rows : List Row) (result : ℕ) (a : Answer) : Type 0 where
  -- a row's number is given exactly if that row applies and no row before it does
  pub refuses : (before : List Row) (r : Row) (after : List Row) → rows ≡ before ++ r ∷ after → (a.number ≡ r.number) ↔ ((none before ≡ true) × (r.applies ≡ true))
  -- and then with that row's place, and the result 0
  pub refusal : (before : List Row) (r : Row) (after : List Row) → rows ≡ before ++ r ∷ after → a.number ≡ r.number → a ≡ refused r.number r.place
  -- the number is 0 exactly if no row applies
  pub accepts : (a.number ≡ 0) ↔ (none rows ≡ true)
  -- and then the place is 0, and the result is the one wanted
  pub acceptance : a.number ≡ 0 → a ≡ accepted result
