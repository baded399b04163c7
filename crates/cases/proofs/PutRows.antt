-- A row put into a table: what its rows say then. Assumes nothing.
use Prim.Native.Nat.{ℕ, ◌+◌, ◌*◌, ◌≤◌, ◌<◌}
use native.Mathlib.Omega.{arith}
use mathlib.Core.Path.{◌≡◌, ◌∙◌}
use mathlib.Core.Logic.{◌⊎◌, inl, inr, ⊎_elim}
use mathlib.Core.List.{List, [], ◌∷◌, ◌++◌, map}
use lib.ListN.{length, get_or, set, length-set}
use lib.Seq.{get_or-set_same, get_or-set_other}
use Rattle.fixpoint.specs.Lists.{up_to}
use Rattle.fixpoint.proofs.Lists.{lt_cases, made_same, made_more}
use Rattle.cases.specs.declared.command.Row.{Row}
use Rattle.cases.specs.Rows.{row_in, put_row}

-- Two stores side by side: half a row, or a noted shape
unfoldable pub two : List ℕ → ℕ → ℕ → ℕ → List ℕ
two t i x y = set (set t i x) (i + 1) y

module _ (t : List ℕ) (i x y : ℕ) where
  pub length_two : length (two t i x y) ≡ length t
  unfolding two
  length_two = simp length-set

  pub two_other : (j : ℕ) → (j < i) ⊎ (i + 2 ≤ j) → get_or (two t i x y) j 0 ≡ get_or t j 0
  unfolding two
  two_other j h =
      get_or-set_other (set t i x) (i + 1) j y 0 (λ e. ⊎_elim (λ l. omega arith) (λ l. omega arith) h)
      ∙ get_or-set_other t i j x 0 (λ e. ⊎_elim (λ l. omega arith) (λ l. omega arith) h)

  module _ (fits : i + 2 ≤ length t) where
    pub two_first : get_or (two t i x y) i 0 ≡ x
    unfolding two
    two_first = get_or-set_other (set t i x) (i + 1) i y 0 (λ e. omega arith) ∙ get_or-set_same t i x 0 (omega arith)

    pub two_second : get_or (two t i x y) (i + 1) 0 ≡ y
    unfolding two
    two_second = get_or-set_same (set t i x) (i + 1) y 0 (omega (arith, length-set t i x))

-- A row put into a table
module _ (t : List ℕ) (n : ℕ) (r : Row) where
  halves : put_row t n r ≡ two (two t (4 * n) r.0 r.1) (4 * n + 2) r.2 r.3
  unfolding put_row two
  halves = let e : 4 * n + 2 + 1 ≡ 4 * n + 3 = omega arith in rw e

  pub length_put_row : length (put_row t n r) ≡ length t
  length_put_row = rw halves (length_two _ _ _ _ ∙ length_two _ _ _ _)

  elsewhere : (j : ℕ) → (j < 4 * n) ⊎ (4 * n + 4 ≤ j) → get_or (put_row t n r) j 0 ≡ get_or t j 0
  elsewhere j h =
      rw halves
      (two_other _ _ _ _ j (⊎_elim (λ l. inl (omega arith)) (λ l. inr (omega arith)) h)
      ∙ two_other _ _ _ _ j (⊎_elim (λ l. inl l) (λ l. inr (omega arith)) h))

  pub put_row_other : (i : ℕ) → (i ≡ n → ⊥) → row_in (put_row t n r) i ≡ row_in t i
  put_row_other i d =
      ⊎_elim
      (λ l. rw (elsewhere (4 * i) (inl (omega arith)), elsewhere (4 * i + 1) (inl (omega arith)), elsewhere (4 * i + 2) (inl (omega arith)), elsewhere (4 * i + 3) (inl (omega arith))))
      (λ l. let m : n < i = ⊎_elim (λ b. b) (λ b. absurd (d (omega arith))) (lt_cases n i) in
      rw (elsewhere (4 * i) (inr (omega arith)), elsewhere (4 * i + 1) (inr (omega arith)), elsewhere (4 * i + 2) (inr (omega arith)), elsewhere (4 * i + 3) (inr (omega arith))))
      (lt_cases i n)

  pub put_row_there : 4 * n + 4 ≤ length t → row_in (put_row t n r) n ≡ r
  put_row_there fits =
      let half = two t (4 * n) r.0 r.1 in
      let l : length half ≡ length t = length_two _ _ _ _ in
      let e : 4 * n + 3 ≡ 4 * n + 2 + 1 = omega arith in
      rw halves
      (rw (
        e,
        two_second half (4 * n + 2) r.2 r.3 (omega arith),
        two_first half (4 * n + 2) r.2 r.3 (omega arith),
        two_other half (4 * n + 2) r.2 r.3 (4 * n) (inl (omega arith)),
        two_other half (4 * n + 2) r.2 r.3 (4 * n + 1) (inl (omega arith)),
        two_first t (4 * n) r.0 r.1 (omega arith),
        two_second t (4 * n) r.0 r.1 (omega arith),
      ))

  -- what the rows of a kind say, n of them at their places: unchanged by a row put elsewhere, and one more by a row put behind them
  module _ {A : Type 0} (f : Row → A) (place : ℕ → ℕ) where
    pub kind_kept : (m : ℕ) → ((i : ℕ) → i < m → place i ≡ n → ⊥) → map (λ i. f (row_in (put_row t n r) (place i))) (up_to m) ≡ map (λ i. f (row_in t (place i))) (up_to m)
    kind_kept m d = made_same _ _ m (λ i h. rw (put_row_other (place i) (d i h)))

    pub kind_more : (m : ℕ) → place m ≡ n → ((i : ℕ) → i < m → place i ≡ n → ⊥) → 4 * n + 4 ≤ length t → {x : A} → f r ≡ x
        → map (λ i. f (row_in (put_row t n r) (place i))) (up_to (m + 1)) ≡ map (λ i. f (row_in t (place i))) (up_to m) ++ (x ∷ [])
    kind_more m e d fits said = made_more _ _ m _ (λ i h. rw (put_row_other (place i) (d i h))) (rw (e, put_row_there fits) said)
