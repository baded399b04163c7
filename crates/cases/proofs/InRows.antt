-- The case in a table of rows: its counts, and what stands at a number of each kind. Assumes nothing.
use Prim.Native.Nat.{ℕ, ◌<◌}
use native.Mathlib.Nat.{mul-le-mul, le_trans}
use native.Mathlib.Omega.{arith}
use mathlib.Core.Path.{◌≡◌, refl}
use mathlib.Core.List.{List, map}
use lib.ListN.{length, length-map}
use Rattle.fixpoint.specs.Lists.{up_to}
use Rattle.fixpoint.proofs.Lists.{length_up_to, get_d_made}
use Rattle.cases.specs.declared.counts.Counts.{Counts}
use Rattle.cases.specs.Case.{Case, counts_of, path_rule, shape_rule}
use Rattle.cases.specs.Counts.{Fit}
use Rattle.cases.specs.Rows.{edge_in, path_in, shape_in, target_in, case_in}
use Rattle.cases.specs.Sound.{Limited}
use Rattle.cases.proofs.Profiles.{shapes_at_most, limit_product, words_fit}

-- The counts of the case are those that it is made with
pub counts_in : (counts : Counts) (rows : List ℕ) → counts_of (case_in counts rows) ≡ counts
unfolding counts_of case_in
counts_in counts rows = simp (length-map, length_up_to)

module _ (counts : Counts) (rows : List ℕ) where
  pub nodes_in : (case_in counts rows).nodes ≡ counts.nodes
  unfolding case_in
  nodes_in = refl

  pub edges_in : (case_in counts rows).edges ≡ map (edge_in rows) (up_to counts.edges)
  unfolding case_in
  edges_in = refl

  pub paths_in : length (case_in counts rows).paths ≡ counts.paths
  unfolding case_in
  paths_in = simp (length-map, length_up_to)

  pub shapes_in : length (case_in counts rows).shapes ≡ counts.shapes
  unfolding case_in
  shapes_in = simp (length-map, length_up_to)

  pub targets_in : (case_in counts rows).targets ≡ map (target_in rows) (up_to counts.targets)
  unfolding case_in
  targets_in = refl

  pub path_rule_in : (p : ℕ) → p < counts.paths → path_rule (case_in counts rows) p ≡ path_in rows p
  unfolding path_rule case_in
  path_rule_in p h = get_d_made (path_in rows) counts.paths p _ h

  pub shape_rule_in : (s : ℕ) → s < counts.shapes → shape_rule (case_in counts rows) s ≡ shape_in rows s
  unfolding shape_rule case_in
  shape_rule_in s h = get_d_made (shape_in rows) counts.shapes s _ h

-- A case that keeps a profile's limits fits its tables
pub limited_fit : {profile : ℕ} {c : Case} {counts : Counts} → counts_of c ≡ counts → Limited profile c → Fit counts
unfolding counts_of
limited_fit {profile} {c} e l =
    let words = words_fit profile (counts_of c) l.nodes_limited l.shapes_limited in
    rw (← e) (record {
      wide = words.wide;
      narrow = words.narrow;
      pairs_fit = words.pairs_fit;
      pairs_few = le_trans (mul-le-mul l.shapes_limited l.nodes_limited) (limit_product profile);
      edges_fit = omega (arith, l);
      paths_fit = omega (arith, l);
      shapes_fit = omega (arith, l, shapes_at_most profile);
      targets_fit = omega (arith, l);
    })
