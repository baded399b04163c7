-- Levels: the support of a pair, when it is justified, and which assignments are accepted with their levels.
-- Document 01, "Levels and stability", first paragraph. Assumes nothing.
use Rattle.std.specs.Prelude.{ℕ, max, Bool, true, ◌&&◌, ◌||◌, List, [], ◌∷◌, map, get_or, eqb, leb, ltb}
use Rattle.fixpoint.specs.Lists.{up_to, all, count, keep, largest, nth_smallest}
use Rattle.cases.specs.Case.{Case, shape_rule}
use Rattle.cases.specs.declared.command.ShapeRule.{ShapeRule}
use Rattle.cases.specs.declared.command.ShapeRule.TheVariants.{Top, Node, And, Or, Not, Same, All, AtLeast}
use Rattle.semantics.specs.Paths.{fillers}
use Rattle.semantics.specs.Values.{pair_count, shape_of, node_of, entry_at, supported}

-- the support of a pair of value w at node a, where v gives the values and l the levels of shapes at nodes. It is meant for a supported
-- pair: both parts of an and, and all fillers of an all, have then no smaller value, and an or's parts no larger one
unfoldable pub rule_support : Case → (ℕ → ℕ → ℕ) → (ℕ → ℕ → ℕ) → ℕ → ShapeRule → ℕ → ℕ
rule_support c v l w Top a = 0
rule_support c v l w (Node b) a = 0
rule_support c v l w (And s t) a = max (l s.0 a) (l t.0 a)
rule_support c v l w (Or s t) a = nth_smallest 1 (map (λ r. l r a) (keep (s.0 ∷ t.0 ∷ []) (λ r. eqb (v r a) w)))
rule_support c v l w (Not s) a = 0
rule_support c v l w (Same p q) a = 0
rule_support c v l w (All p s) a = largest (map (l s.0) (fillers c p.0 a))
rule_support c v l w (AtLeast n p s) a =
    nth_smallest n (map (l s.0) (keep (fillers c p.0 a) (λ b. leb w (v s.0 b))))

-- whether the support of a supported pair is below a bound, by tests alone: S has the pairs of no smaller value, l gives the levels
unfoldable pub support_below : Case → (ℕ → ℕ → Bool) → (ℕ → ℕ → ℕ) → ℕ → ShapeRule → ℕ → Bool
support_below c S l bound Top a = true
support_below c S l bound (Node b) a = true
support_below c S l bound (And s t) a = ltb (l s.0 a) bound && ltb (l t.0 a) bound
support_below c S l bound (Or s t) a = (S s.0 a && ltb (l s.0 a) bound) || (S t.0 a && ltb (l t.0 a) bound)
support_below c S l bound (Not s) a = true
support_below c S l bound (Same p q) a = true
support_below c S l bound (All p s) a = all (fillers c p.0 a) (λ b. ltb (l s.0 b) bound)
support_below c S l bound (AtLeast n p s) a = leb n (count (fillers c p.0 a) (λ b. S s.0 b && ltb (l s.0 b) bound))

-- the support of pair k; v and l are the values and the levels by pair
unfoldable pub pair_support : Case → List ℕ → List ℕ → ℕ → ℕ
pair_support c v l k =
    rule_support c (entry_at c v) (entry_at c l) (get_or v k 0) (shape_rule c (shape_of c k)) (node_of c k)

-- "The pair is justified if its level is above its support." Levels of violated pairs aren't read
unfoldable pub justified_at : Case → List ℕ → List ℕ → ℕ → Bool
justified_at c v l k = eqb (get_or v k 0) 0 || ltb (pair_support c v l k) (get_or l k 0)

-- "Accepted means supported, with each pair of value 1 or 2 justified."
unfoldable pub accepted : Case → List ℕ → List ℕ → Bool
accepted c v l = supported c v && all (up_to (pair_count c)) (justified_at c v l)
