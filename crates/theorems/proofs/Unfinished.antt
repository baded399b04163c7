-- Answers before the end: what a solve holds after so many advances, where its end comes, and what it replies on the way. Document 02, point 7.
-- Assumes nothing.
use Prim.Native.Nat.{ℕ, zero, suc, ◌<◌, ◌≤◌}
use native.Mathlib.Omega.{arith}
use mathlib.Core.Path.{◌≡◌, refl, sym, ap, ◌∙◌}
use mathlib.Core.Logic.{⊎_elim, ◌↔◌}
use mathlib.Core.Bool.{Bool, true, false, cond, not, false≢true}
use mathlib.Core.List.{List, [], ◌∷◌}
use lib.ListN.{get_or, take, drop, replicate, length-replicate, get_or-replicate}
use lib.Seq.{ext_get_or, length-take-le, get_or-take, take_at}
use lib.Dec.{eqb, leb}
use borrow.Author.Tests.{le-leb, lt-leb}
use Rattle.fixpoint.specs.Sets.{has, ◌⊆◌}
use Rattle.fixpoint.specs.Stages.{lower, upper}
use Rattle.fixpoint.proofs.Lists.{lt_cases}
use Rattle.fixpoint.proofs.Sets.{has_none, has_collect, has_below, none_inside, inside_refl, inside_trans}
use Rattle.fixpoint.proofs.Alternating.{closure_length, lower_grows, upper_shrinks, lower_inside_upper, lower_after_rest, upper_after_rest}
use Rattle.cases.specs.Case.{Case, empty_case}
use Rattle.cases.specs.Reading.{outcome}
use Rattle.encoding.proofs.Lengths.{outcome_length}
use Rattle.semantics.specs.declared.ongoing.Unfinished.{Unfinished}
use Rattle.semantics.specs.declared.ongoing.Reply.{Reply}
use Rattle.semantics.specs.declared.ongoing.Certainty.{Certainty}
use Rattle.semantics.specs.declared.ongoing.Certainty.TheVariants.{Impossible, Open, Sure, NotYet}
use Rattle.semantics.specs.Operations.{case_of, solve_answer, solve_values}
use Rattle.semantics.specs.Solving.{round_t, rounds, solved_t, solved_p, values_of, solved_values}
use Rattle.semantics.specs.Stability.{next_set}
use Rattle.semantics.specs.Unfinished.{first_state_with, first_state, held_input, begun, held_case, worked_p, next_t, after_round, advanced, advance_answer}
use Rattle.semantics.specs.Unfinished.{certainty, certain_of, replied, asked}
use Rattle.semantics.specs.Values.{pair_count}
use Rattle.semantics.proofs.Kernel.{rule_system}
use Rattle.semantics.proofs.Refusing.{zero_cases}
use Rattle.semantics.proofs.Held.{copied_take, pairs_fit, empty_input_reads, reads_input, refused_input}
use Rattle.semantics.proofs.States.{before_end, rests_after_end, asked_within}
use Rattle.semantics.proofs.Rounds.{value_sure, settled_T, worked_P, next_T, last_round}
use Rattle.semantics.proofs.Solved.{value_of, values_length, solved_length}
use Rattle.theorems.specs.Demands.{Reads, SolvedCase}
use Rattle.theorems.specs.Unfinished.{after, solving, held_by, last_p, certain_after}
use Rattle.theorems.proofs.Demands.{solved_reads, rounds_answered, solve_writes_leading}

-- ---- The case that is held

-- what is held reads
input_reads : (s : List ℕ) → Reads (held_input s)
input_reads s =
    ⊎_elim (λ r. rw (reads_input s r) r) (λ n. rw (refused_input s n) empty_input_reads.0) (zero_cases (outcome s).refusal.number)

-- "it keeps its own copy of the case as read"
pub reads_held : (s : List ℕ) → Reads s → held_by s ≡ case_of s
unfolding held_by
reads_held s r = ap case_of (reads_input s r)

-- "a refused one holds the case 01 00 00 FF instead": no nodes, and nothing else
pub refused_empty : (s : List ℕ) → (Reads s → ⊥) → held_by s ≡ empty_case
unfolding held_by case_of
refused_empty s n = ap case_of (refused_input s n) ∙ empty_input_reads.1

-- ---- The sets: those of T grow, those of the last P shrink, T is within P, and after the rounds both are the solved ones

module _ (c : Case) where
  rounds_positive : 0 < rounds c
  unfolding rounds
  rounds_positive = omega arith

  T_grows : (i j : ℕ) → i ≤ j → round_t c i ⊆ round_t c j
  T_grows = lower_grows (pair_count c) (next_set c) (rule_system c)

  P_shrinks : (i j : ℕ) → i ≤ j → last_p c j ⊆ last_p c i
  unfolding last_p upper
  P_shrinks zero zero h = inside_refl (last_p c 0)
  P_shrinks zero (suc j) h =
      record {
        each = λ k e.
            let size = closure_length (pair_count c) (next_set c) (rule_system c) (round_t c j) in
            has_collect (pair_count c) (λ k. true) k (omega (arith, has_below _ k e));
      }
  P_shrinks (suc i) zero h = absurd (omega arith)
  P_shrinks (suc i) (suc j) h = upper_shrinks (pair_count c) (next_set c) (rule_system c) i j (omega arith)

  T_inside_P : (i : ℕ) → round_t c i ⊆ last_p c i
  unfolding last_p lower
  T_inside_P zero = none_inside (pair_count c) _
  T_inside_P (suc i) =
      inside_trans
      (lower_inside_upper (pair_count c) (next_set c) (rule_system c) (suc i))
      (upper_shrinks (pair_count c) (next_set c) (rule_system c) i (suc i) (omega arith))

  T_solved : (i : ℕ) → rounds c ≤ i → round_t c i ≡ solved_t c
  unfolding rounds solved_t
  T_solved i h = lower_after_rest (pair_count c) (next_set c) (rule_system c) i (omega arith)

  P_solved : (i : ℕ) → rounds c ≤ i → last_p c i ≡ solved_p c
  unfolding rounds solved_p last_p
  P_solved zero h = absurd (omega arith)
  P_solved (suc i) h = upper_after_rest (pair_count c) (next_set c) (rule_system c) i (omega arith)

-- ---- The state after i advances

record AfterAdvances (s : List ℕ) (i : ℕ) (u : Unfinished) : Type 0 where
  bytes : take u.length u.bytes ≡ held_input s
  pairs : u.pairs ≡ pair_count (held_by s)
  values : take (pair_count (held_by s)) u.values ≡ values_of (held_by s) (round_t (held_by s) i) (last_p (held_by s) i)
  over : u.over ≡ cond (leb (rounds (held_by s)) i) 1 0

first_after : (s : List ℕ) → AfterAdvances s 0 (begun s).unfinished
unfolding begun first_state first_state_with held_by last_p lower
first_after s =
    let c = held_by s in
    let N = pair_count c in
    let ones = replicate {A = ℕ} 4096 1 in
    let fit = pairs_fit (held_input s) 1 in
    record {
      bytes = copied_take 8192 (held_input s) (outcome_length (held_input s) (input_reads s));
      pairs = refl;
      values =
          ext_get_or 0 (take N ones) (values_of c (round_t c 0) (last_p c 0)) (length-take-le N ones fit ∙ sym (values_length c _ _))
          (λ k l.
          let b : k < N = omega (arith, length-take-le N ones fit) in
          get_or-take N ones k 0 b ∙ get_or-replicate 4096 k 1 0 (omega (arith, fit, length-replicate {A = ℕ} 4096 1))
          ∙ sym (value_of c _ _ k b ∙ rw (has_none N k, has_collect N (λ k. true) k b)));
      over = rw (lt-leb (rounds c) 0 (rounds_positive c));
    }

module _ (s : List ℕ) (i : ℕ) (u : Unfinished) (h : AfterAdvances s i u) where
  after_held : held_case u ≡ held_by s
  unfolding held_case held_by
  after_held = ap case_of h.bytes

  after_value : (k : ℕ) → k < pair_count (held_by s) → get_or u.values k 0 ≡ cond (has (round_t (held_by s) i) k) 2 (cond (has (last_p (held_by s) i) k) 1 0)
  after_value k b = sym (get_or-take _ _ k 0 b) ∙ ap (λ (v : List ℕ). get_or v k 0) h.values ∙ value_of (held_by s) _ _ k b

  told : (k : ℕ) → k < pair_count (held_by s) → leb 2 (get_or u.values k 0) ≡ has (round_t (held_by s) i) k
  told k b = ap (leb 2) (after_value k b) ∙ value_sure (has (round_t (held_by s) i) k) (has (last_p (held_by s) i) k)

  -- before the end an advance takes a round
  round_after : i < rounds (held_by s) → AfterAdvances s (suc i) (after_round (held_by s) u)
  unfolding after_round last_p
  round_after b =
      let c = held_by s in
      record {
        bytes = h.bytes;
        pairs = h.pairs;
        values =
            take_at (values_of c (next_t c u.values) (worked_p c u.values)) _ (pair_count c) (values_length c _ _)
            ∙ rw (next_T c i u.values told, worked_P c i u.values told);
        over = rw (next_T c i u.values told, settled_T c i u.values told, last_round c i b);
      }

  going_after : i < rounds (held_by s) → AfterAdvances s (suc i) (advanced u)
  going_after b = rw (before_end u (h.over ∙ rw (lt-leb (rounds (held_by s)) i b)), after_held) (round_after b)

  -- "one after it alters nothing"
  ended_after : rounds (held_by s) ≤ i → AfterAdvances s (suc i) (advanced u)
  ended_after b =
      let c = held_by s in
      let over : u.over ≡ 1 = h.over ∙ rw (le-leb (rounds c) i b) in
      rw (rests_after_end u (λ z. omega arith))
      (record {
        bytes = h.bytes;
        pairs = h.pairs;
        values = h.values ∙ rw (T_solved c i b, P_solved c i b, T_solved c (suc i) (omega arith), P_solved c (suc i) (omega arith));
        over = over ∙ rw (le-leb (rounds c) (suc i) (omega arith));
      })

  next_after : AfterAdvances s (suc i) (advanced u)
  next_after = ⊎_elim going_after ended_after (lt_cases i (rounds (held_by s)))

after_advances : (s : List ℕ) (i : ℕ) → AfterAdvances s i (solving s i)
unfolding solving after
after_advances s zero = first_after s
after_advances s (suc i) = next_after s i (solving s i) (after_advances s i)

-- ---- What is replied, by whether the pair is in T and in the last P, and whether the end is reached

abbrev certain : Bool → Bool → Bool → Certainty
certain t p over = cond t Sure (cond p (cond over Open NotYet) Impossible)

certainty_is : (t p over : Bool) → certainty (cond t 2 (cond p 1 0)) (not (eqb (cond over 1 0) 0)) ≡ certain t p over
unfolding certainty
certainty_is true p over = refl
certainty_is false true true = refl
certainty_is false true false = refl
certainty_is false false over = refl

abbrev said : Reply → ℕ
said r = r.reply

replied_sure : (t p over : Bool) → (replied (certain t p over) ≡ replied Sure) ↔ (t ≡ true)
replied_sure true p over = (λ e. refl, λ e. refl)
replied_sure false true true = (λ e. absurd (omega (arith, ap said e)), λ e. absurd (false≢true e))
replied_sure false true false = (λ e. absurd (omega (arith, ap said e)), λ e. absurd (false≢true e))
replied_sure false false over = (λ e. absurd (omega (arith, ap said e)), λ e. absurd (false≢true e))

replied_impossible : (t p over : Bool) → (t ≡ true → p ≡ true) → (replied (certain t p over) ≡ replied Impossible) ↔ (p ≡ false)
replied_impossible true p over f = (λ e. absurd (omega (arith, ap said e)), λ e. absurd (false≢true (sym e ∙ f refl)))
replied_impossible false true true f = (λ e. absurd (omega (arith, ap said e)), λ e. absurd (false≢true (sym e)))
replied_impossible false true false f = (λ e. absurd (omega (arith, ap said e)), λ e. absurd (false≢true (sym e)))
replied_impossible false false over f = (λ e. refl, λ e. refl)

-- ---- The solve of an input

module _ (s : List ℕ) where
  -- "it keeps its own copy of the case as read"
  pub copy_whole : (i : ℕ) → held_case (solving s i) ≡ held_by s
  copy_whole i = after_held s i (solving s i) (after_advances s i)

  -- "a refused one holds the case 01 00 00 FF instead"
  pub refused_held : (i : ℕ) → (Reads s → ⊥) → take (solving s i).length (solving s i).bytes ≡ 0x01 ∷ 0x00 ∷ 0x00 ∷ 0xff ∷ []
  refused_held i n = (after_advances s i).bytes ∙ refused_input s n

  pub pairs_held : (i : ℕ) → (solving s i).pairs ≡ pair_count (held_by s)
  pairs_held i = (after_advances s i).pairs

  -- "After i rounds": the values are those of Ti and of the last P worked out
  pub values_after : (i : ℕ)
      → take (pair_count (held_by s)) (solving s i).values ≡ values_of (held_by s) (round_t (held_by s) i) (last_p (held_by s) i)
  values_after i = (after_advances s i).values

  -- "For every case the end comes at exactly as many advances as solving has rounds"
  pub end_exactly : (i : ℕ) → ((solving s i).over ≡ 0) ↔ (i < rounds (held_by s))
  end_exactly i = (
    λ e. ⊎_elim (λ b. b) (λ b. absurd (omega (arith, rw (le-leb (rounds (held_by s)) i b) at (after_advances s i).over))) (lt_cases i (rounds (held_by s))),
    λ b. (after_advances s i).over ∙ rw (lt-leb (rounds (held_by s)) i b),
  )

  -- "each advance tells whether the end is reached"
  pub advance_tells : (i : ℕ) → (advance_answer (solving s i)).over ≡ cond (leb (rounds (held_by s)) (suc i)) 1 0
  unfolding advance_answer solving after
  advance_tells i = rw (after_advances s (suc i)).over (told_over (leb (rounds (held_by s)) (suc i)))
    where
      told_over : (b : Bool) → cond {A = ℕ} (eqb (cond b 1 0) 0) 0 1 ≡ cond b 1 0
      told_over true = refl
      told_over false = refl

  -- "with solving's values"
  pub end_values : (i : ℕ) → rounds (held_by s) ≤ i → take (pair_count (held_by s)) (solving s i).values ≡ solved_values (held_by s)
  unfolding solved_values
  end_values i h = values_after i ∙ rw (T_solved (held_by s) i h, P_solved (held_by s) i h)

  -- the same over bytes in and bytes out: the rounds that solving answers, and the values that it writes
  module _ (vt lt dt : List ℕ) (solved : SolvedCase s vt lt dt) where
    held_solved : held_by s ≡ case_of s
    held_solved = reads_held s (solved_reads s vt lt dt solved)

    rounds_solved : rounds (held_by s) ≡ (solve_answer s vt lt dt).rounds
    rounds_solved = ap rounds held_solved ∙ sym (rounds_answered s vt lt dt solved)

    pub end_as_solved : (i : ℕ) → ((solving s i).over ≡ 0) ↔ (i < (solve_answer s vt lt dt).rounds)
    end_as_solved i = rw (← rounds_solved) (end_exactly i)

    pub values_as_solved : (i : ℕ) → (solve_answer s vt lt dt).rounds ≤ i
        → take (pair_count (case_of s)) (solving s i).values ≡ take (pair_count (case_of s)) (solve_values s vt lt dt)
    values_as_solved i h =
        let c = case_of s in
        let written = (solve_writes_leading s vt lt dt solved).values in
        rw (held_solved) at (end_values i (omega (arith, rounds_solved)))
        ∙ sym (ap (take (pair_count c)) written ∙ take_at (solved_values c) (drop (pair_count c) vt) (pair_count c) (solved_length c))

  -- what every question is answered, after any number of advances
  pub replies_after : (i k : ℕ) → k < pair_count (held_by s) → asked (solving s i) k ≡ replied (certain_after (held_by s) i k)
  unfolding certain_of
  replies_after i k b =
      let c = held_by s in
      let u = solving s i in
      let h = after_advances s i in
      asked_within u k (omega (arith, h.pairs))
      ∙ rw (after_value s i u h k b, h.over, certainty_is (has (round_t c i) k) (has (last_p c i) k) (leb (rounds c) i))

  -- "a pair in Ti is sure"
  pub sure_exactly : (i k : ℕ) → k < pair_count (held_by s) → (asked (solving s i) k ≡ replied Sure) ↔ (has (round_t (held_by s) i) k ≡ true)
  sure_exactly i k b =
      let c = held_by s in rw (replies_after i k b) (replied_sure (has (round_t c i) k) (has (last_p c i) k) (leb (rounds c) i))

  -- "a pair outside the last P worked out is impossible"
  pub impossible_exactly : (i k : ℕ) → k < pair_count (held_by s)
      → (asked (solving s i) k ≡ replied Impossible) ↔ (has (last_p (held_by s) i) k ≡ false)
  impossible_exactly i k b =
      let c = held_by s in
      rw (replies_after i k b) (replied_impossible (has (round_t c i) k) (has (last_p c i) k) (leb (rounds c) i) ((T_inside_P c i).each k))

  -- "and each other is "not yet" until the end, then open"
  pub else_not_yet : (i k : ℕ) → i < rounds (held_by s) → k < pair_count (held_by s)
      → has (round_t (held_by s) i) k ≡ false → has (last_p (held_by s) i) k ≡ true → asked (solving s i) k ≡ replied NotYet
  else_not_yet i k h b t p = replies_after i k b ∙ rw (t, p, lt-leb (rounds (held_by s)) i h)

  pub else_open : (i k : ℕ) → rounds (held_by s) ≤ i → k < pair_count (held_by s)
      → has (solved_t (held_by s)) k ≡ false → has (solved_p (held_by s)) k ≡ true → asked (solving s i) k ≡ replied Open
  else_open i k h b t p =
      replies_after i k b ∙ rw (T_solved (held_by s) i h, P_solved (held_by s) i h, t, p, le-leb (rounds (held_by s)) i h)

  -- "Before the first round every pair is "not yet"."
  pub first_not_yet : (k : ℕ) → k < pair_count (held_by s) → asked (solving s 0) k ≡ replied NotYet
  unfolding last_p lower
  first_not_yet k b =
      else_not_yet 0 k (rounds_positive (held_by s)) b (has_none (pair_count (held_by s)) k) (has_collect (pair_count (held_by s)) (λ k. true) k b)

  -- "A settled reply is never withdrawn."
  pub never_withdrawn : (i j : ℕ) → i ≤ j → (k : ℕ) → k < pair_count (held_by s)
      → (asked (solving s i) k ≡ replied Sure → asked (solving s j) k ≡ replied Sure)
      × (asked (solving s i) k ≡ replied Impossible → asked (solving s j) k ≡ replied Impossible)
  never_withdrawn i j h k b =
      let c = held_by s in (
        λ e. (sure_exactly j k b).1 ((T_grows c i j h).each k ((sure_exactly i k b).0 e)),
        λ e. (impossible_exactly j k b).1 (outside (has (last_p c j) k) (has (last_p c i) k) ((P_shrinks c i j h).each k) ((impossible_exactly i k b).0 e)),
      )
    where
      outside : (x y : Bool) → (x ≡ true → y ≡ true) → y ≡ false → x ≡ false
      outside true y f e = sym (f refl) ∙ e
      outside false y f e = refl
