-- The input that an unfinished solve holds: the copy is whole, its pairs fit, and a refused one is the case without anything. Document 02,
-- point 7. Assumes nothing.
use Prim.Native.Nat.{ℕ, ◌<◌, ◌≤◌}
use native.Mathlib.Omega.{arith}
use mathlib.Core.Path.{◌≡◌, refl, ◌∙◌}
use mathlib.Core.List.{List, [], ◌∷◌}
use lib.ListN.{length, get_or, take, replicate, length-replicate}
use lib.Seq.{ext_get_or, length-take-le, get_or-take}
use borrow.Author.Tests.{ne_eqb, eq-eqb}
use Rattle.fixpoint.proofs.Lists.{length_made, get_d_made}
use Rattle.cases.specs.Case.{empty_case}
use Rattle.cases.specs.Counts
use Rattle.cases.specs.Format
use Rattle.cases.specs.Parts
use Rattle.cases.specs.Reading
use Rattle.cases.specs.Reading.{outcome}
use Rattle.cases.proofs.Sound.{outcome_limited}
use Rattle.semantics.specs.Operations.{case_of}
use Rattle.semantics.specs.Unfinished.{copied, held_input}
use Rattle.semantics.specs.Values.{pair_count}
use Rattle.semantics.proofs.Pairs.{pairs_at_most}

-- the copy of an input, cut to its length, is the input
pub copied_take : (n : ℕ) (s : List ℕ) → length s ≤ n → take (length s) (copied n s) ≡ s
unfolding copied
copied_take n s h =
    let long = length_made (λ k. get_or s k 0) n in
    let cut : length (take (length s) (copied n s)) ≡ length s = length-take-le (length s) (copied n s) (omega arith) in
    ext_get_or 0 (take (length s) (copied n s)) s cut
    (λ k b. let below : k < length s = omega arith in get_or-take (length s) (copied n s) k 0 below ∙ get_d_made (λ k. get_or s k 0) n k 0 (omega arith))

-- the pairs of a case that was read fit in 4,096 values
pub pairs_fit : (s : List ℕ) (v : ℕ) → pair_count (case_of s) ≤ length (replicate 4096 v)
unfolding case_of
pairs_fit s v = rw (length-replicate 4096 v) (pairs_at_most (outcome s).case (outcome_limited s))

-- 01 00 00 FF reads, as a case without anything
pub empty_input_reads : ((outcome (0x01 ∷ 0x00 ∷ 0x00 ∷ 0xff ∷ [])).refusal.number ≡ 0) × ((outcome (0x01 ∷ 0x00 ∷ 0x00 ∷ 0xff ∷ [])).case ≡ empty_case)
unfolding empty_case Format.format_of Format.width_of Format.taken_of Format.number_at Format.row_of Format.complete Format.operands_by
    Format.command_of Format.command_at Parts.rules Parts.fresh_rules Parts.expansion
    Reading.judged Reading.step_at Reading.start Reading.add Reading.shapes_named Reading.named_at Reading.pass Reading.unknown_shape
    Reading.after_end Reading.finish Reading.stepped Reading.walk Reading.counts_so_far Reading.roomy_found Reading.found_at
    Reading.heading_of Reading.walked_from Reading.walked Reading.expanded Reading.outcome Counts.node_limit
empty_input_reads = (refl, refl)

pub reads_input : (s : List ℕ) → (outcome s).refusal.number ≡ 0 → held_input s ≡ s
unfolding held_input
reads_input s r = rw (eq-eqb (outcome s).refusal.number 0 r)

pub refused_input : (s : List ℕ) → ((outcome s).refusal.number ≡ 0 → ⊥) → held_input s ≡ 0x01 ∷ 0x00 ∷ 0x00 ∷ 0xff ∷ []
unfolding held_input
refused_input s n = rw (ne_eqb (outcome s).refusal.number 0 n)
