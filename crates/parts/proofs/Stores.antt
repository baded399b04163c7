-- A row put into a table: what its rules are then. Assumes nothing.
use Prim.Native.Nat.{ℕ, ◌+◌, ◌*◌, ◌≤◌, ◌<◌}
use native.Mathlib.Omega.{arith}
use mathlib.Core.Path.{◌≡◌, refl, sym, ap, ◌∙◌}
use mathlib.Core.Logic.{◌⊎◌, inl, inr, ⊎_elim}
use mathlib.Core.List.{List, [], ◌∷◌, ◌++◌, append_assoc}
use lib.ListN.{length, set, length-set, length-append}
use lib.Seq.{get_or-set_same, get_or-set_other, set_at, ext_get_or}
use lib.Dec.{eqb}
use borrow.Author.Tests.{eqb-true, eqb-false}
use Rattle.fixpoint.proofs.Lists.{by_test, length_made, get_d_made, made_more}
use Rattle.cases.specs.declared.command.Row.{Row}
use Rattle.cases.specs.declared.command.ShapeRule.{ShapeRule}
use Rattle.cases.specs.Format.{shape_rule_of}
use Rattle.cases.specs.Rows.{row_in, put_row}
use Rattle.cases.proofs.PutRows.{put_row_other, put_row_there}
use Rattle.parts.specs.Tables.{rules_in}

-- two numbers are equal or not
eq_cases : (a b : ℕ) → (a ≡ b) ⊎ (a ≡ b → ⊥)
eq_cases a b = by_test (eqb a b) (λ e. inl (eqb-true a b e)) (λ e. inr (eqb-false a b e))

-- The rules in a table
pub length_rules_in : (t : List ℕ) (n : ℕ) → length (rules_in t n) ≡ n
unfolding rules_in
length_rules_in t n = length_made _ n

-- a row put into one of them
pub rules_put : (t : List ℕ) (n i : ℕ) (r : Row) → i < n → 4 * i + 4 ≤ length t → rules_in (put_row t i r) n ≡ set (rules_in t n) i (shape_rule_of r)
unfolding rules_in
rules_put t n i r h fits =
    ext_get_or (shape_rule_of r) _ _ (length_made _ n ∙ sym (length-set (rules_in t n) i (shape_rule_of r) ∙ length_made _ n))
    (λ j k.
    let b : j < n = omega (arith, length_rules_in (put_row t i r) n) in
    get_d_made _ n j (shape_rule_of r) b
    ∙ ⊎_elim
    (λ e. rw e (ap shape_rule_of (put_row_there t i r fits) ∙ sym (get_or-set_same (rules_in t n) i (shape_rule_of r) (shape_rule_of r) (omega (arith, length_rules_in t n)))))
    (λ d. ap shape_rule_of (put_row_other t i r j d) ∙ sym (get_or-set_other (rules_in t n) i j (shape_rule_of r) (shape_rule_of r) d ∙ get_d_made _ n j (shape_rule_of r) b))
    (eq_cases j i))

rules_more : (t : List ℕ) (n : ℕ) → rules_in t (n + 1) ≡ rules_in t n ++ (shape_rule_of (row_in t n) ∷ [])
unfolding rules_in
rules_more t n = made_more _ _ n _ (λ i h. refl) refl

-- a row that was taken, and filled when what stands behind it was there
pub rules_filled : (t t' : List ℕ) (n n' : ℕ) (l : List ShapeRule) (r : Row) → 4 * n + 4 ≤ length t' → rules_in t' n' ≡ rules_in t (n + 1) ++ l
    → rules_in (put_row t' n r) n' ≡ rules_in t n ++ (shape_rule_of r ∷ l)
rules_filled t t' n n' l r fits e =
    let x = shape_rule_of (row_in t n) in
    let more : rules_in t' n' ≡ rules_in t n ++ (x ∷ l) = e ∙ rw (rules_more t n) (append_assoc (rules_in t n) (x ∷ []) l) in
    let long : n < n' = omega (arith, ap length more, length_rules_in t' n', length_rules_in t n, length-append (rules_in t n) (x ∷ l)) in
    rules_put t' n' n r long fits ∙ rw more (set_at (rules_in t n) x l (shape_rule_of r) n (length_rules_in t n))
