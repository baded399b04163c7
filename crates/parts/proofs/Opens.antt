-- What stands where a part opens, by the tests on the way to each answer; and a row with other shape operands. Assumes nothing.
use Rattle.std.specs.Prelude.{Option, Some, None}
use Prim.Native.Nat.{ℕ, ◌≤◌, ◌<◌}
use native.Mathlib.Omega.{arith}
use mathlib.Core.Path.{◌≡◌, ◌∙◌}
use mathlib.Core.Bool.{true}
use mathlib.Core.List.{List}
use lib.ListN.{length, get_or}
use lib.Dec.{eqb, ltb}
use borrow.Author.Tests.{lt-ltb, ne_eqb}
use Rattle.fixpoint.proofs.Lists.{by_test}
use Rattle.cases.specs.declared.answers.Taken.{Taken}
use Rattle.cases.specs.declared.command.Row.{Row}
use Rattle.cases.specs.declared.format.Format.{Format}
use Rattle.cases.specs.Parts.{Head, Refused, Name}
use Rattle.cases.specs.Format.{taken_by, operands_by, shape_rule_of}
use Rattle.cases.specs.Parts.{part_format_of, rule_head, at_most_head, whole_head, head_by, head_at, filled}
use Rattle.parts.specs.Reads.{with_references}

module _ (nodes paths : ℕ) (s : List ℕ) where
  pub head_empty : length s < 1 → Refused 3 ≡ head_at nodes paths s
  unfolding head_at
  head_empty h = let e : length s ≡ 0 = omega arith in rw e

  module _ (some : 1 ≤ length s) {f : Format} (e : f ≡ part_format_of (get_or s 0 0)) where
    there : ltb 0 (length s) ≡ true
    there = lt-ltb 0 (length s) (omega arith)

    pub head_unknown : f.0 ≡ 0 → Refused 1 ≡ head_at nodes paths s
    unfolding head_at head_by
    head_unknown z = let k : (part_format_of (get_or s 0 0)).0 ≡ 0 = rw e at z in rw (there, k)

    module _ (known : f.0 ≡ 0 → ⊥) {o : Option Row} (r : o ≡ operands_by f s) where
      whole : head_at nodes paths s ≡ whole_head nodes paths f o
      unfolding head_at head_by
      whole = let k : ltb 0 f.0 ≡ true = lt-ltb 0 f.0 (omega arith) in rw (there, ← e, k, ← r)

      pub head_cut : o ≡ None → Refused 3 ≡ head_at nodes paths s
      unfolding whole_head
      head_cut c = rw (whole, c)

      module _ {row : Row} (w : o ≡ Some row) {taken : Taken} (t : taken ≡ taken_by f) where
        pub head_name : f.0 ≡ 4 → Name row taken.width ≡ head_at nodes paths s
        unfolding whole_head
        head_name k = rw (whole, w, t, k)

        module _ {h : Head} where
          pub head_most : f.0 ≡ 5 → h ≡ at_most_head paths row taken.width → h ≡ head_at nodes paths s
          unfolding whole_head
          head_most k a = a ∙ rw (whole, w, t, k)

          pub head_rule : (f.0 ≡ 4 → ⊥) → (f.0 ≡ 5 → ⊥) → h ≡ rule_head nodes paths f.0 row taken.width → h ≡ head_at nodes paths s
          unfolding whole_head
          head_rule four five a = a ∙ rw (whole, w, t, ne_eqb f.0 4 four, ne_eqb f.0 5 five)

-- a row with other shape operands says the rule with them
pub with_references_says : (r : Row) (s t : ℕ) → shape_rule_of (with_references r s t) ≡ filled (shape_rule_of r) s t
unfolding shape_rule_of with_references filled
with_references_says r s t =
    by_test (eqb r.0 0x20) (λ e. simp e) (λ a.
    by_test (eqb r.0 0x21) (λ e. simp (a, e)) (λ b.
    by_test (eqb r.0 0x22) (λ e. simp (a, b, e)) (λ c.
    by_test (eqb r.0 0x23) (λ e. simp (a, b, c, e)) (λ d.
    by_test (eqb r.0 0x24) (λ e. simp (a, b, c, d, e)) (λ f.
    by_test (eqb r.0 0x25) (λ e. simp (a, b, c, d, f, e)) (λ g.
    by_test (eqb r.0 0x26) (λ e. simp (a, b, c, d, f, g, e)) (λ h. simp (a, b, c, d, f, g, h))))))))
