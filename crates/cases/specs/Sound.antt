-- What holds of every case that reading gives: operands name what is there, the limits are kept, and of bytes operands fit their bytes.
-- Document 01's refusals 4 to 7 and 9 and document 02's 19, 20 and 22, read as facts about the case. Assumes nothing.
use Rattle.std.specs.Prelude.{ℕ, ◌≤◌, ◌<◌, ◌≡◌, Bool, true, ◌&&◌, ◌||◌, List, [], ◌∷◌, ◌++◌, length, eqb, ltb}
use Rattle.fixpoint.specs.Lists.{all}
use Rattle.cases.specs.Case.{Case, references, path_rule}
use Rattle.cases.specs.Counts.{is_profile, node_limit, edge_limit, path_limit, shape_limit, target_limit}
use Rattle.cases.specs.declared.command.Edge.{Edge}
use Rattle.cases.specs.declared.command.PathRule.{PathRule}
use Rattle.cases.specs.declared.command.PathRule.TheVariants.{Forward, Backward, Union, Sequence, Star}
use Rattle.cases.specs.declared.command.ShapeRule.{ShapeRule}
use Rattle.cases.specs.declared.command.ShapeRule.TheVariants.{Top, Node, And, Or, Not, Same, All, AtLeast}
use Rattle.cases.specs.Faults.{laid, shape_nodes_known, path_paths_earlier, shape_paths_earlier, shape_least_positive}

-- operands name what is there
pub record Sound (c : Case) : Type 0 where
  -- 5
  pub edges_known : all c.edges (λ e. ltb e.subject.0 c.nodes && ltb e.object.0 c.nodes) ≡ true
  pub shapes_known : all c.shapes (shape_nodes_known c.nodes) ≡ true
  pub targets_known : all c.targets (λ t. ltb t.node.0 c.nodes) ≡ true
  -- 6
  pub paths_earlier_holds : (p : ℕ) → p < length c.paths → path_paths_earlier p (path_rule c p) ≡ true
  pub shapes_paths : all c.shapes (shape_paths_earlier (length c.paths)) ≡ true
  -- 7
  pub least_positive_holds : all c.shapes shape_least_positive ≡ true
  -- 9
  pub shapes_named_holds : all c.shapes (λ r. all (references r) (λ s. ltb s (length c.shapes))) ≡ true
  pub targets_named : all c.targets (λ t. ltb t.shape.0 (length c.shapes)) ≡ true

-- 22, 4 and 19: the profile is known, and its limits are kept, by fresh shapes too
pub record Limited (profile : ℕ) (c : Case) : Type 0 where
  pub known : is_profile profile ≡ true
  pub nodes_limited : c.nodes ≤ node_limit profile
  pub edges_limited : length c.edges ≤ edge_limit
  pub paths_limited : length c.paths ≤ path_limit
  pub shapes_limited : length c.shapes ≤ shape_limit profile
  pub targets_limited : length c.targets ≤ target_limit

-- 20: an edge is laid by an 02, or parked by a 03 behind an 02 of it; the first list are the edges before
unfoldable pub recorded : List Edge → List Edge → Bool
recorded before [] = true
recorded before (e ∷ l) = (eqb e.code 0x02 || (eqb e.code 0x03 && laid before e)) && recorded (before ++ (e ∷ [])) l

pub record Recorded (c : Case) : Type 0 where
  pub edges_recorded : recorded [] c.edges ≡ true

-- properties and least numbers are one byte each; the other operands of a sound case fit their bytes if it keeps the limits
abbrev pub path_byte : PathRule → Bool
path_byte (Forward p) = ltb p.0 256
path_byte (Backward p) = ltb p.0 256
path_byte (Union p q) = true
path_byte (Sequence p q) = true
path_byte (Star p) = true

abbrev pub shape_byte : ShapeRule → Bool
shape_byte Top = true
shape_byte (Node a) = true
shape_byte (And s t) = true
shape_byte (Or s t) = true
shape_byte (Not s) = true
shape_byte (Same p q) = true
shape_byte (All p s) = true
shape_byte (AtLeast n p s) = ltb n 256

pub record OneByteEach (c : Case) : Type 0 where
  pub edges : all c.edges (λ e. ltb e.property.0 256) ≡ true
  pub paths : all c.paths path_byte ≡ true
  pub shapes : all c.shapes shape_byte ≡ true
