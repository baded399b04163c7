-- Parked edges: a case with other edges, and two cases that solve alike. Document 02, point 4. Assumes nothing.
use Rattle.std.specs.Prelude.{ℕ, ◌≡◌, Bool, ◌&&◌, List, eqb}
use Rattle.fixpoint.specs.Lists.{any}
use Rattle.cases.specs.Case.{Case}
use Rattle.cases.specs.declared.command.Edge.{Edge}
use Rattle.cases.specs.declared.command.ShapeRule.{ShapeRule}
use Rattle.semantics.specs.Paths.{fills, same_fillers}
use Rattle.semantics.specs.Solving.{solved_values, solved_levels, rounds, verdicts}
use Rattle.semantics.specs.Stability.{next_set}
use Rattle.semantics.specs.Values.{rule_value}

-- the case with other edges
unfoldable pub with_edges : Case → List Edge → Case
with_edges c edges = record { nodes = c.nodes; edges = edges; paths = c.paths; shapes = c.shapes; targets = c.targets }

-- what one property's lookup answered before there were parked edges
unfoldable pub linked_before : Case → ℕ → ℕ → ℕ → Bool
linked_before c property a b = any c.edges (λ e. eqb e.property.0 property && (eqb e.subject.0 a && eqb e.object.0 b))

-- "each path, each same and each value above", and all that solving gives
pub record Alike (c d : Case) : Type 0 where
  pub path : (p a b : ℕ) → fills c p a b ≡ fills d p a b
  pub same : (p q a : ℕ) → same_fillers c p q a ≡ same_fillers d p q a
  pub value : (v : ℕ → ℕ → ℕ) (r : ShapeRule) (a : ℕ) → rule_value c v r a ≡ rule_value d v r a
  -- and so C(X) and stability
  pub next : next_set c ≡ next_set d
  pub values : solved_values c ≡ solved_values d
  pub levels : solved_levels c ≡ solved_levels d
  pub round_count : rounds c ≡ rounds d
  pub targets : verdicts c ≡ verdicts d
