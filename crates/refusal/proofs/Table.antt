-- Laws of an answer, by induction on the rows: it looks at one row after the other and stops at the first that applies. Assumes nothing.
use mathlib.Core.Path.{◌≡◌, refl, sym, ap, ◌∙◌}
use mathlib.Core.Bool.{Bool, true, false, not, ◌&&◌, and-eq-true_iff}
use mathlib.Core.List.{List, [], ◌∷◌, ◌++◌, append-nil}
use Prim.Native.Nat.{ℕ, zero, suc}
use lib.Dec.{eqb}
use lib.ListN.{get_or}
use borrow.Author.Tests.{not-true, eqb-false}
use Rattle.refusal.specs.declared.Answer.{Answer}
use Rattle.refusal.specs.Table.{Row, refused, accepted, yes, answer, none, unused, numbered, Exact}

-- what follows where a test holds, and where it fails, follows
pub cases : {P : Type 0} (b : Bool) → (b ≡ true → P) → (b ≡ false → P) → P
cases true f g = f refl
cases false f g = g refl

-- where `not a && b` holds, a does not and b does
clear : (a b : Bool) → (not a && b) ≡ true → (a ≡ false) × (b ≡ true)
clear a b h = let t = (and-eq-true_iff (not a) b).0 h in (not-true a t.0, t.1)

-- where no row applies, the first does not, and none behind it does
none-cons : (r : Row) (rs : List Row) → none (r ∷ rs) ≡ true → (r.applies ≡ false) × (none rs ≡ true)
none-cons r rs = clear r.applies (none rs)

-- and the one at each index does not
pub none_at : (rs : List Row) → none rs ≡ true → (i : ℕ) → (get_or rs i (record { number = 0; applies = false; place = 0 })).applies ≡ false
none_at [] h i = refl
none_at (r ∷ rs) h zero = (none-cons r rs h).0
none_at (r ∷ rs) h (suc i) = none_at rs (none-cons r rs h).1 i

-- a number that no row has is not the first row's, and none behind has it
unused-cons : (n : ℕ) (r : Row) (rs : List Row) → unused n (r ∷ rs) ≡ true → (n ≡ r.number → ⊥) × (unused n rs ≡ true)
unused-cons n r rs h = let t = clear (eqb n r.number) (unused n rs) h in (eqb-false n r.number t.0, t.1)

-- the first of rows with numbers of their own has one that is not 0 and that none behind has
numbered-cons : (r : Row) (rs : List Row) → numbered (r ∷ rs) ≡ true → (0 ≡ r.number → ⊥) × (unused r.number rs ≡ true) × (numbered rs ≡ true)
numbered-cons r rs h =
    let t = clear (eqb 0 r.number) (unused r.number rs && numbered rs) h in
    let u = (and-eq-true_iff (unused r.number rs) (numbered rs)).0 t.1 in
    (eqb-false 0 r.number t.0, u.0, u.1)

-- rows of which none applies leave the answer to those behind
pub answer_past : (rs qs : List Row) (x : ℕ) → none rs ≡ true → answer (rs ++ qs) x ≡ answer qs x
answer_past [] qs x h = refl
answer_past (r ∷ rs) qs x h = let t = none-cons r rs h in rw t.0 (answer_past rs qs x t.1)

-- where no row applies, the result is accepted
pub answer-none : (rs : List Row) (x : ℕ) → none rs ≡ true → answer rs x ≡ accepted x
answer-none rs x h = rw append-nil at (answer_past rs [] x h)

-- a row that applies behind rows that do not is the one that refuses
pub answer_at : (before : List Row) (r : Row) (after : List Row) (x : ℕ) → none before ≡ true → r.applies ≡ true
    → answer (before ++ r ∷ after) x ≡ refused r.number r.place
answer_at before r after x h t = answer_past before (r ∷ after) x h ∙ rw t

-- rows of which none applies leave it to those behind whether one does
pub none_past : (rs qs : List Row) → none rs ≡ true → none (rs ++ qs) ≡ none qs
none_past [] qs n = refl
none_past (r ∷ rs) qs n = let t = none-cons r rs n in rw t.0 (none_past rs qs t.1)

-- A walk along the rows that has come to `rest`: the rows before leave the answer to these, and whether one applies.
pub record Reached (rows : List Row) (x : ℕ) (rest : List Row) : Type 0 where
  pub same : answer rows x ≡ answer rest x
  pub clear : none rows ≡ none rest

-- it begins at the first
pub reached_first : (rows : List Row) (x : ℕ) → Reached rows x rows
reached_first rows x = record { same = refl; clear = refl }

module _ {rows rest : List Row} {x : ℕ} {r : Row} (at : Reached rows x (r ∷ rest)) where
  -- a row that does not apply leaves the answer to those behind it,
  pub reached_next : r.applies ≡ false → Reached rows x rest
  reached_next h = record { same = at.same ∙ rw h; clear = at.clear ∙ rw h }

  -- and one that applies refuses
  pub reached_refused : r.applies ≡ true → {a : Answer} → a ≡ refused r.number r.place → a ≡ answer rows x
  reached_refused h e = e ∙ sym (at.same ∙ rw h)

-- behind the last, none of the rows applies
pub reached_none : {rows : List Row} {x : ℕ} → Reached rows x [] → none rows ≡ true
reached_none at = at.clear

-- a refusal by the first rows stands, whatever rows are behind
pub answer-refused : (rs qs : List Row) (x y : ℕ) {a : Answer} → a ≡ answer rs x → (a.number ≡ 0 → ⊥) → a ≡ answer (rs ++ qs) y
answer-refused [] qs x y e h = absurd (h (ap (λ (b : Answer). b.number) e))
answer-refused (r ∷ rs) qs x y e h = cases r.applies (λ t. rw t (rw t at e)) (λ t. rw t (answer-refused rs qs x y (rw t at e) h))

-- a refusal is the same whatever result was wanted
answer_any : (rs : List Row) (x y : ℕ) {a : Answer} → a ≡ answer rs x → (a.number ≡ 0 → ⊥) → a ≡ answer rs y
answer_any rs x y e h = rw append-nil at (answer-refused rs [] x y e h)

-- a refusal by later rows stands, where none of the first applies
pub answer_later : (rs qs : List Row) (x y : ℕ) → none rs ≡ true → {a : Answer} → a ≡ answer qs x → (a.number ≡ 0 → ⊥) → a ≡ answer (rs ++ qs) y
answer_later rs qs x y n e h = answer_any qs x y e h ∙ sym (answer_past rs qs y n)

-- where no row of two lists applies, none of either does
pub none_split : (rs qs : List Row) → none (rs ++ qs) ≡ true → (none rs ≡ true) × (none qs ≡ true)
none_split [] qs h = (refl, h)
none_split (r ∷ rs) qs h =
    let first = none-cons r (rs ++ qs) h in
    let rest = none_split rs qs first.1 in
    (rw first.0 rest.0, rest.1)

-- where the answer refuses, some row applies
pub none-refused : (rs : List Row) (x : ℕ) {a : Answer} → a ≡ answer rs x → (a.number ≡ 0 → ⊥) → none rs ≡ false
none-refused rs x e h = cases (none rs) (λ n. absurd (h (ap (λ (b : Answer). b.number) (e ∙ answer-none rs x n)))) (λ n. n)

-- where none of the first and none of the later rows applies, the result is accepted
pub answer_both : (rs qs : List Row) (x : ℕ) → none rs ≡ true → none qs ≡ true → answer (rs ++ qs) x ≡ accepted x
answer_both rs qs x n m = answer_past rs qs x n ∙ answer-none qs x m

-- a row that does not apply where no row before it does decides nothing: without it the answer is the same, and so is whether a row applies
pub idle_row : (before : List Row) (r : Row) (after : List Row) (x : ℕ) → (none before ≡ true → r.applies ≡ false)
    → (answer (before ++ r ∷ after) x ≡ answer (before ++ after) x) × (none (before ++ r ∷ after) ≡ none (before ++ after))
idle_row [] r after x h = rw (h refl) (refl, refl)
idle_row (b ∷ before) r after x h = cases b.applies (λ t. rw t (refl, refl)) (λ t. rw t (idle_row before r after x (λ n. h (rw t n))))

-- where rows with numbers of their own give the number 0, none of them applies
pub none-accepted : (rs : List Row) (x : ℕ) → numbered rs ≡ true → {a : Answer} → a ≡ answer rs x → a.number ≡ 0 → none rs ≡ true
none-accepted [] x h e z = refl
none-accepted (r ∷ rs) x h e z =
    let own = numbered-cons r rs h in
    cases r.applies (λ t. absurd (own.0 (sym z ∙ ap (λ (b : Answer). b.number) (rw t at e)))) (λ t. rw t (none-accepted rs x own.2 (rw t at e) z))

-- a question that is answered yes is not refused, and its answer is yes
pub answer-yes : (rs : List Row) (b : Bool) → numbered rs ≡ true → answer rs (yes b) ≡ accepted 1 → (none rs ≡ true) × (b ≡ true)
answer-yes rs b h e =
    let n = none-accepted rs (yes b) h (sym e) refl in
    (n, is_yes b (ap (λ (a : Answer). a.result) (sym (answer-none rs (yes b) n) ∙ e)))
  where
    is_yes : (b : Bool) → yes b ≡ 1 → b ≡ true
    is_yes true e = refl
    is_yes false e = cc

-- a number that no row has is not given
pub answer-unused : (n : ℕ) (rs : List Row) (x : ℕ) → unused n rs ≡ true → (0 ≡ n → ⊥) → (answer rs x).number ≡ n → ⊥
answer-unused n [] x h z e = z e
answer-unused n (r ∷ rs) x h z e =
    let u = unused-cons n r rs h in
    cases r.applies (λ t. u.0 (sym (rw t at e))) (λ t. answer-unused n rs x u.1 z (rw t at e))

-- a number that no row has is not that of a row among them
unused_at : (n : ℕ) (before : List Row) (r : Row) (after : List Row) → unused n (before ++ r ∷ after) ≡ true → n ≡ r.number → ⊥
unused_at n [] r after h = (unused-cons n r after h).0
unused_at n (b ∷ before) r after h = unused_at n before r after (unused-cons n b (before ++ r ∷ after) h).1

-- a row whose number is given applies, and no row before it does
answer-number : (before : List Row) (r : Row) (after : List Row) (x : ℕ) → numbered (before ++ r ∷ after) ≡ true
    → (answer (before ++ r ∷ after) x).number ≡ r.number → (none before ≡ true) × (r.applies ≡ true)
answer-number [] r after x h e =
    let own = numbered-cons r after h in
    cases r.applies (λ t. (refl, t)) (λ t. absurd (answer-unused r.number after x own.1 own.0 (rw t at e)))
answer-number (b ∷ before) r after x h e =
    let own = numbered-cons b (before ++ r ∷ after) h in
    cases b.applies (λ t. absurd (unused_at b.number before r after own.1 (rw t at e))) (λ t. rw t (answer-number before r after x own.2 (rw t at e)))

-- the answer of rows with numbers of their own is exact
pub answer_exact : (rows : List Row) (x : ℕ) → numbered rows ≡ true → Exact rows x (answer rows x)
answer_exact rows x h = record {
  refuses = λ before r after e. rw e (answer-number before r after x (rw e at h), λ t. ap (λ (b : Answer). b.number) (answer_at before r after x t.0 t.1));
  refusal = λ before r after e z. rw e (let t = answer-number before r after x (rw e at h) (rw e at z) in answer_at before r after x t.0 t.1);
  accepts = (none-accepted rows x h refl, λ n. ap (λ (b : Answer). b.number) (answer-none rows x n));
  acceptance = λ z. answer-none rows x (none-accepted rows x h refl z);
}
