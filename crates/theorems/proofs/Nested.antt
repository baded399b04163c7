-- Rules inside rules over bytes: each written shape has the value that its part's own words give it, in every supported and in every stable
-- assignment, and so in what solving writes; and the values of the written shapes, if they obey these words, decide all others. Document 02,
-- point 2. Assumes nothing.
use Prim.Native.Nat.{ℕ, ◌<◌}
use mathlib.Core.Path.{◌≡◌, refl, sym, ◌∙◌}
use mathlib.Core.Bool.{true, and-eq-true_iff}
use mathlib.Core.List.{List}
use lib.ListN.{length, get_or}
use Rattle.fixpoint.specs.Lists.{all, up_to}
use Rattle.cases.specs.Parts.{Part, expansion}
use Rattle.cases.specs.Reading.{expanded, outcome, parts_of}
use Rattle.cases.proofs.Sound.{parts_known}
use Rattle.semantics.specs.Levels.{justified_at, accepted}
use Rattle.semantics.specs.Nested.{part_value, Obeying, written_values, ExtendsOnce}
use Rattle.semantics.specs.Operations.{case_of, solve_values}
use Rattle.semantics.specs.Solving.{levels_of}
use Rattle.semantics.specs.Stability.{StableAssignment, valid_set, possible_set}
use Rattle.semantics.specs.Values.{pair_count, entry_at, supported}
use Rattle.semantics.proofs.Extending.{cut_obeys, extends_once}
use Rattle.semantics.proofs.Levels.{stable_accepted}
use Rattle.semantics.proofs.Nesting.{part_means}
use Rattle.theorems.specs.Demands.{SolvedCase}
use Rattle.theorems.proofs.Demands.{case_sound, solved_assignment_stable}

-- "Pairs, tables, the count of shapes and stability are those of the expansion"
pub shapes_are_the_expansion : (s : List ℕ) → (case_of s).shapes ≡ expansion (parts_of s)
unfolding case_of outcome expanded parts_of
shapes_are_the_expansion s = refl

-- a stable assignment is supported
stable_supported : (s v : List ℕ) → StableAssignment (case_of s) v → supported (case_of s) v ≡ true
unfolding accepted
stable_supported s v st =
    let c = case_of s in
    let l = levels_of c (valid_set c v) (possible_set c v) in
    ((and-eq-true_iff (supported c v) (all (up_to (pair_count c)) (justified_at c v l))).0 (stable_accepted c (case_sound s) v st)).0

module _ (s : List ℕ) (i a : ℕ) (d : Part) (h : i < length (parts_of s)) (k : a < (case_of s).nodes) where
  pub supported_as_said : (v : List ℕ) → supported (case_of s) v ≡ true → entry_at (case_of s) v i a ≡ part_value (case_of s) (entry_at (case_of s) v) (get_or (parts_of s) i d) a
  supported_as_said v e = part_means (case_of s) (parts_of s) (shapes_are_the_expansion s) v e i a d h k

  pub stable_as_said : (v : List ℕ) → StableAssignment (case_of s) v → entry_at (case_of s) v i a ≡ part_value (case_of s) (entry_at (case_of s) v) (get_or (parts_of s) i d) a
  stable_as_said v st = supported_as_said v (stable_supported s v st)

  -- the value table after solving
  pub solved_as_said : (vt lt dt : List ℕ) → SolvedCase s vt lt dt
      → entry_at (case_of s) (solve_values s vt lt dt) i a ≡ part_value (case_of s) (entry_at (case_of s) (solve_values s vt lt dt)) (get_or (parts_of s) i d) a
  solved_as_said vt lt dt e = stable_as_said (solve_values s vt lt dt) (solved_assignment_stable s vt lt dt e)

-- ---- Values of the written shapes alone

-- a supported assignment, cut to them, obeys the words of the parts
pub cut_as_said : (s v : List ℕ) → length v ≡ pair_count (case_of s) → supported (case_of s) v ≡ true
    → Obeying (case_of s) (parts_of s) (written_values (case_of s) (parts_of s) v)
cut_as_said s v = cut_obeys (case_of s) (parts_of s) (shapes_are_the_expansion s) (parts_known s) v

-- and values that obey them are the cut of exactly one
pub written_exactly : (s u : List ℕ) → Obeying (case_of s) (parts_of s) u → ExtendsOnce (case_of s) (parts_of s) u
written_exactly s u = extends_once (case_of s) (parts_of s) (shapes_are_the_expansion s) (parts_known s) u

-- so stable assignments that agree on the written shapes are the same
pub stable_by_its_cut : (s v w : List ℕ) → length v ≡ pair_count (case_of s) → length w ≡ pair_count (case_of s)
    → StableAssignment (case_of s) v → StableAssignment (case_of s) w → written_values (case_of s) (parts_of s) v ≡ written_values (case_of s) (parts_of s) w → v ≡ w
stable_by_its_cut s v w hv hw sv sw e =
    let once = written_exactly s (written_values (case_of s) (parts_of s) w) (cut_as_said s w hw (stable_supported s w sw)) in
    once.only v (record { whole = hv; is_supported = stable_supported s v sv; cut_is = e })
    ∙ sym (once.only w (record { whole = hw; is_supported = stable_supported s w sw; cut_is = refl }))
