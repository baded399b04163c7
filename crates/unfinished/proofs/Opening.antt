-- Beginning: what is copied into zeros, and the state that goes with what reading answers. Assumes nothing.
use Prim.Native.Nat.{ℕ, ◌+◌, ◌-◌, ◌*◌, ◌≤◌, ◌<◌}
use native.Mathlib.Omega.{arith}
use mathlib.Core.Path.{◌≡◌, sym, ap, ap₂, ◌∙◌}
use mathlib.Core.Logic.{⊎_elim}
use mathlib.Core.List.{List, [], ◌∷◌, ◌++◌}
use lib.ListN.{length, get_or, drop, replicate, length-append, length-drop, length-replicate, get_or-replicate, get_or-append, get_or-eq_default}
use lib.Seq.{ext_get_or, get_or-append-add, get_or-drop}
use mir.Syntax.{w64}
use mir.Val.{Fits}
use Rattle.fixpoint.proofs.Lists.{lt_cases, length_made, get_d_made}
use Rattle.cases.specs.Case.{empty_case, counts_of}
use Rattle.cases.specs.Reading.{outcome, reading}
use Rattle.cases.specs.declared.answers.Reading.{Reading}
use Rattle.encoding.proofs.Lengths.{outcome_length}
use Rattle.cases.proofs.Sound.{outcome_limited}
use Rattle.semantics.specs.Operations.{case_of}
use Rattle.semantics.specs.Unfinished.{copied, first_state_with, first_state, held_input, begun}
use Rattle.semantics.specs.Values.{pair_count}
use Rattle.semantics.specs.declared.ongoing.Unfinished.{Unfinished}
use Rattle.semantics.proofs.Held.{empty_input_reads, reads_input, refused_input}
use Rattle.semantics.proofs.Pairs.{pairs_at_most}

-- what is copied into zeros
copy_is : (n : ℕ) (s : List ℕ) → length s ≤ n → s ++ drop (length s) (replicate n 0) ≡ copied n s
unfolding copied
copy_is n s h =
    let zeros : List ℕ = drop (length s) (replicate n 0) in
    let size : length zeros ≡ n - length s = length-drop (length s) (replicate n 0) ∙ ap (λ m. m - length s) (length-replicate n 0) in
    (ext_get_or 0 (s ++ zeros) _ (length-append s zeros ∙ omega (arith, size, length_made (λ k. get_or s k 0) n))
    (λ k b.
    let l : k < n = omega (arith, size, length-append s zeros) in
    ⊎_elim
    (λ c. get_or-append s zeros 0 k c)
    (λ c.
    let e : k ≡ length s + (k - length s) = omega arith in
    ap (λ m. get_or (s ++ zeros) m 0) e
    ∙ get_or-append-add s zeros (k - length s) 0
    ∙ get_or-drop (length s) (replicate n 0) (k - length s) 0
    ∙ ap (λ m. get_or (replicate n 0) m 0) (sym e)
    ∙ get_or-replicate n k 0 0 l
    ∙ sym (get_or-eq_default s 0 c))
    (lt_cases k (length s))
    ∙ sym (get_d_made (λ k. get_or s k 0) n k 0 l)))

pub input_opened : (s : List ℕ) (pairs : ℕ) {held : List ℕ} → length s ≤ 8192 → held ≡ s ++ drop (length s) (replicate 8192 0)
    → record { bytes = held; length = length s; values = replicate 4096 1; pairs = pairs; over = 0 } ≡ first_state_with s pairs
unfolding first_state_with
input_opened s pairs h e = ap (λ b. record { bytes = b; length = length s; values = replicate 4096 1; pairs = pairs; over = 0 }) (e ∙ copy_is 8192 s h)

opened_is : (s : List ℕ) (pairs : ℕ) → pairs ≡ pair_count (case_of s) → first_state_with s pairs ≡ first_state s
unfolding first_state
opened_is s pairs e = ap (first_state_with s) e

-- What reading answers
module _ (s : List ℕ) {a : Reading} (e : a ≡ reading s) where
  number_is : a.number ≡ (outcome s).refusal.number
  unfolding reading
  number_is = ap (λ (r : Reading). r.number) e

  pairs_are : a.shapes * a.nodes ≡ pair_count (case_of s)
  unfolding reading pair_count case_of counts_of
  pairs_are = ap₂ (λ m n. m * n) (ap (λ (r : Reading). r.shapes) e) (ap (λ (r : Reading). r.nodes) e)

  pub start_refused : {u : Unfinished} → (a.number ≡ 0 → ⊥) → u ≡ first_state_with (0x01 ∷ 0x00 ∷ 0x00 ∷ 0xff ∷ []) 0 → u ≡ first_state (held_input s)
  unfolding case_of pair_count empty_case
  start_refused some f =
      f
      ∙ opened_is (0x01 ∷ 0x00 ∷ 0x00 ∷ 0xff ∷ []) 0 (sym (ap pair_count empty_input_reads.1))
      ∙ ap first_state (sym (refused_input s (λ z. some (number_is ∙ z))))

  pub start_read : {u : Unfinished} → a.number ≡ 0 → u ≡ first_state_with s (a.shapes * a.nodes) → u ≡ first_state (held_input s)
  start_read none f = f ∙ opened_is s (a.shapes * a.nodes) pairs_are ∙ ap first_state (sym (reads_input s (sym number_is ∙ none)))

  pub input_short : a.number ≡ 0 → length s ≤ 8192
  input_short none = outcome_length s (sym number_is ∙ none)

  pub pairs_fit_word : Fits w64 (a.shapes * a.nodes)
  unfolding case_of
  pairs_fit_word = record { fits = omega (arith, pairs_are, pairs_at_most (outcome s).case (outcome_limited s)) }

  pub begun_is : {u : Unfinished} → u ≡ first_state (held_input s)
      → record { number = a.number; place = a.place; nodes = a.nodes; edges = a.edges; paths = a.paths; shapes = a.shapes; targets = a.targets; unfinished = u } ≡ begun s
  unfolding begun
  begun_is f = rw (← e, f)
