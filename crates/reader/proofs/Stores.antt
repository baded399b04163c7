-- The case in the table with one command more. Assumes nothing.
use Prim.Native.Nat.{ℕ, ◌+◌, ◌*◌, ◌≤◌}
use native.Mathlib.Omega.{arith}
use mathlib.Core.Path.{◌≡◌, refl}
use mathlib.Core.List.{List}
use lib.ListN.{length}
use Rattle.fixpoint.proofs.Lists.{tests}
use Rattle.cases.specs.declared.command.Command.{Command}
use Rattle.cases.specs.declared.command.Command.TheVariants.{Nodes, End}
use Rattle.cases.specs.declared.command.Command.TheVariants.{Edge as EdgeCommand, Path as PathCommand, Shape as ShapeCommand, Target as TargetCommand}
use Rattle.cases.specs.declared.command.Edge.{Edge}
use Rattle.cases.specs.declared.command.PathRule.{PathRule}
use Rattle.cases.specs.declared.command.Row.{Row}
use Rattle.cases.specs.declared.command.ShapeRule.{ShapeRule}
use Rattle.cases.specs.declared.command.Target.{Target}
use Rattle.cases.specs.declared.counts.Counts.{Counts}
use Rattle.cases.specs.Format.{edge_of, path_rule_of, shape_rule_of, target_of}
use Rattle.cases.specs.Reading.{add}
use Rattle.cases.specs.Rows.{edge_in, path_in, shape_in, target_in, case_in}
use Rattle.cases.proofs.Profiles.{shapes_at_most}
use Rattle.cases.specs.Rows.{put_row}
use Rattle.cases.proofs.PutRows.{length_put_row, kind_kept, kind_more}
use Rattle.finding.specs.Finding.{says}
use Rattle.reader.specs.Storing.{StoreRoom, Stored}

-- What storing a command leaves, kind by kind
pub stored_nodes : {command : Command} {n : ℕ} {k : Counts} {rows : List ℕ} → command ≡ Nodes n
    → Stored command k rows (record { nodes = n; edges = k.edges; paths = k.paths; shapes = k.shapes; targets = k.targets }) rows
unfolding case_in add
stored_nodes c = record { added = rw c; long = refl }

pub stored_end : {command : Command} {k : Counts} {rows : List ℕ} → command ≡ End → Stored command k rows k rows
unfolding add
stored_end c = record { added = rw c; long = refl }

-- the table has a row for one target more
pub target_fits : {k : Counts} {rows : List ℕ} {r : Row} {command : Command} {t : Target} → command ≡ TargetCommand t → StoreRoom command r k rows → 4 * (1084 + k.targets) + 4 ≤ length rows
target_fits c h = let more = rw c at h.more in omega (arith, tests)

module _ {k : Counts} {rows rows' : List ℕ} {r : Row} where
  pub stored_edge : {command : Command} {e : Edge} → command ≡ EdgeCommand e → StoreRoom command r k rows → rows' ≡ put_row rows k.edges r
      → Stored command k rows (record { nodes = k.nodes; edges = k.edges + 1; paths = k.paths; shapes = k.shapes; targets = k.targets }) rows'
  unfolding case_in edge_in path_in shape_in target_in add says
  stored_edge c h put =
      let at = k.edges in
      let more = rw c at h.more in
      record {
        added =
            rw (
              put,
              c,
              kind_more rows at r edge_of (λ i. i) at refl (λ i l e. omega arith) (omega (arith, tests)) (rw c at h.said),
              kind_kept rows at r path_rule_of (λ i. 1036 + i) k.paths (λ i l e. omega (arith, tests)),
              kind_kept rows at r shape_rule_of (λ i. 1052 + i) k.shapes (λ i l e. omega (arith, tests)),
              kind_kept rows at r target_of (λ i. 1084 + i) k.targets (λ i l e. omega (arith, tests)),
            );
        long = rw put (length_put_row rows at r);
      }

  pub stored_path : {command : Command} {p : PathRule} → command ≡ PathCommand p → StoreRoom command r k rows → rows' ≡ put_row rows (1036 + k.paths) r
      → Stored command k rows (record { nodes = k.nodes; edges = k.edges; paths = k.paths + 1; shapes = k.shapes; targets = k.targets }) rows'
  unfolding case_in edge_in path_in shape_in target_in add says
  stored_path c h put =
      let at = 1036 + k.paths in
      let more = rw c at h.more in
      record {
        added =
            rw (
              put,
              c,
              kind_kept rows at r edge_of (λ i. i) k.edges (λ i l e. omega (arith, tests)),
              kind_more rows at r path_rule_of (λ i. 1036 + i) k.paths refl (λ i l e. omega arith) (omega (arith, tests)) (rw c at h.said),
              kind_kept rows at r shape_rule_of (λ i. 1052 + i) k.shapes (λ i l e. omega (arith, tests)),
              kind_kept rows at r target_of (λ i. 1084 + i) k.targets (λ i l e. omega (arith, tests)),
            );
        long = rw put (length_put_row rows at r);
      }

  pub stored_shape : {command : Command} {s : ShapeRule} → command ≡ ShapeCommand s → StoreRoom command r k rows → rows' ≡ put_row rows (1052 + k.shapes) r
      → Stored command k rows (record { nodes = k.nodes; edges = k.edges; paths = k.paths; shapes = k.shapes + 1; targets = k.targets }) rows'
  unfolding case_in edge_in path_in shape_in target_in add says
  stored_shape c h put =
      let at = 1052 + k.shapes in
      let more = rw c at h.more in
      record {
        added =
            rw (
              put,
              c,
              kind_kept rows at r edge_of (λ i. i) k.edges (λ i l e. omega (arith, tests)),
              kind_kept rows at r path_rule_of (λ i. 1036 + i) k.paths (λ i l e. omega (arith, tests)),
              kind_more rows at r shape_rule_of (λ i. 1052 + i) k.shapes refl (λ i l e. omega arith) (omega (arith, tests, shapes_at_most h.profile)) (rw c at h.said),
              kind_kept rows at r target_of (λ i. 1084 + i) k.targets (λ i l e. omega (arith, tests, shapes_at_most h.profile)),
            );
        long = rw put (length_put_row rows at r);
      }

  pub stored_target : {command : Command} {t : Target} → command ≡ TargetCommand t → StoreRoom command r k rows → rows' ≡ put_row rows (1084 + k.targets) r
      → Stored command k rows (record { nodes = k.nodes; edges = k.edges; paths = k.paths; shapes = k.shapes; targets = k.targets + 1 }) rows'
  unfolding case_in edge_in path_in shape_in target_in add says
  stored_target c h put =
      let at = 1084 + k.targets in
      let more = rw c at h.more in
      record {
        added =
            rw (
              put,
              c,
              kind_kept rows at r edge_of (λ i. i) k.edges (λ i l e. omega (arith, tests)),
              kind_kept rows at r path_rule_of (λ i. 1036 + i) k.paths (λ i l e. omega (arith, tests)),
              kind_kept rows at r shape_rule_of (λ i. 1052 + i) k.shapes (λ i l e. omega (arith, tests)),
              kind_more rows at r target_of (λ i. 1084 + i) k.targets refl (λ i l e. omega arith) (omega (arith, tests)) (rw c at h.said),
            );
        long = rw put (length_put_row rows at r);
      }
