-- The limits of the profiles: what they let in, and that the tables have room for it. One law for every profile. Assumes nothing.
use Prim.Native.Nat.{ℕ, ◌*◌, ◌≤◌, ◌<◌}
use native.Mathlib.Omega.{arith}
use lib.Dec.{eqb, leb}
use borrow.Author.Tests.{leb-true, leb-false}
use Rattle.fixpoint.proofs.Lists.{by_test}
use mathlib.Core.Path.{◌≡◌}
use Rattle.cases.specs.declared.counts.Counts.{Counts}
use Rattle.cases.specs.Counts.{node_limit, shape_limit, words_of, WordsFit}

-- a fact about the limits, by the three profiles
pub by_profile : (Q : ℕ → ℕ → Type 0) → Q 128 32 → Q 256 16 → Q 512 8 → (profile : ℕ) → Q (node_limit profile) (shape_limit profile)
unfolding node_limit shape_limit
by_profile Q a b c profile =
    by_test (eqb profile 0)
    (λ e. rw e a)
    (λ e. rw e (by_test (eqb profile 1) (λ f. rw f b) (λ f. rw f c)))

pub shapes_at_most : (profile : ℕ) → shape_limit profile ≤ 32
shapes_at_most = by_profile (λ n s. s ≤ 32) (omega arith) (omega arith) (omega arith)

pub nodes_at_most : (profile : ℕ) → node_limit profile ≤ 512
nodes_at_most = by_profile (λ n s. n ≤ 512) (omega arith) (omega arith) (omega arith)

-- pairs are 4,096 at most
pub limit_product : (profile : ℕ) → shape_limit profile * node_limit profile ≤ 4096
limit_product = by_profile (λ n s. s * n ≤ 4096) (omega arith) (omega arith) (omega arith)

words_by : (counts : Counts) → counts.nodes ≤ 512 → counts.shapes ≤ 32 → (128 < counts.nodes → counts.shapes ≤ 16) → (256 < counts.nodes → counts.shapes ≤ 8)
    → WordsFit counts
unfolding words_of
words_by counts n s wide widest =
    let fits : (w : ℕ) → words_of counts ≡ w → counts.nodes ≤ 64 * w → w ≤ 8 → counts.shapes * w ≤ 64 → WordsFit counts =
    λ w e a b c. record { wide = rw e a; narrow = rw e b; pairs_fit = rw e c } in
    by_test (leb counts.nodes 128)
    (λ e. fits 2 (rw e) (leb-true counts.nodes 128 e) (omega arith) (omega arith))
    (λ e. by_test (leb counts.nodes 256)
    (λ f. fits 4 (rw (e, f)) (leb-true counts.nodes 256 f) (omega arith) (omega (arith, wide (leb-false counts.nodes 128 e))))
    (λ f. fits 8 (rw (e, f)) n (omega arith) (omega (arith, widest (leb-false counts.nodes 256 f)))))

pub words_fit : (profile : ℕ) (counts : Counts) → counts.nodes ≤ node_limit profile → counts.shapes ≤ shape_limit profile → WordsFit counts
words_fit profile counts =
    by_profile (λ n s. counts.nodes ≤ n → counts.shapes ≤ s → WordsFit counts)
    (λ n s. words_by counts (omega arith) s (λ h. omega arith) (λ h. omega arith))
    (λ n s. words_by counts (omega arith) (omega arith) (λ h. s) (λ h. omega arith))
    (λ n s. words_by counts n (omega arith) (λ h. omega arith) (λ h. s))
    profile
