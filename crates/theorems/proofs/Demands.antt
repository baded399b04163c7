-- Demands 1, 2 and 3 over bytes in and bytes out: what solving and checking answer and leave in the tables. Assumes nothing.
use Prim.Native.Nat.{ℕ, ◌+◌, ◌*◌, ◌<◌, ◌≤◌}
use native.Mathlib.Omega.{arith}
use mathlib.Core.Path.{◌≡◌, sym, ap, ◌∙◌}
use mathlib.Core.Logic.Iff
use mathlib.Core.Logic.{◌↔◌}
use mathlib.Core.Bool.{true, and-eq-true_iff}
use mathlib.Core.List.{List, [], ◌++◌, append-nil}
use lib.ListN.{length, get_or, drop, length-append, length-map}
use lib.Dec.{eqb, leb}
use borrow.Author.Tests.{leb-true, ltb-true}
use Rattle.fixpoint.specs.Lists.{all, up_to}
use Rattle.fixpoint.specs.Stages.{RoundsCounted}
use Rattle.fixpoint.proofs.Lists.{get_d_map, all_in, all_up_to_in, all_up_to_of}
use Rattle.fixpoint.proofs.Sets.{collect_ext}
use Rattle.cases.specs.Case.{Case}
use Rattle.cases.specs.Reading.{profile_of}
use Rattle.cases.specs.Sound.{Sound, Limited}
use Rattle.cases.proofs.Sound.{outcome_sound, outcome_limited}
use Rattle.cases.specs.declared.command.Target.{Target}
use Rattle.semantics.specs.Values.{pair_count, pair_of, is_value, valued, supported_at, supported}
use Rattle.semantics.specs.Levels.{justified_at, accepted}
use Rattle.semantics.specs.Stability.{StableAssignment, EveryStable, valid_set, possible_set}
use Rattle.semantics.specs.Solving.{round_t, solved_t, solved_p, solved_values, solved_levels, target_values, verdicts, rounds, levels_of}
use Rattle.semantics.specs.Denial.{Undenied}
use Rattle.semantics.specs.Operations.{case_of, solve_refusal, solve_answer, solve_values, solve_levels, solve_verdicts, check_refusal, value_fault}
use Rattle.semantics.specs.Operations.{pair_fault, check_answer, levels_in, level_bytes, solution, solve_fault, checked, check_fault}
use Rattle.semantics.proofs.Pairs.{pair_below}
use Rattle.semantics.proofs.Levels.{accepted_stable, stable_accepted, levels_small, levels_length}
use Rattle.semantics.proofs.Solved.{solved_valued, solved_length, solved_stable, solved_valid_set, solved_possible_set, valid_exactly, violated_exactly, rounds_are_counted, rounds_at_most}
use Rattle.semantics.proofs.Undenied.{only_solved}
use Rattle.semantics.proofs.Refusing.{or_else_none, unless_none, refuse_none, short_none, first_none, counted_unrefused}
use Rattle.semantics.proofs.Refusing.{written_none, written_at, written_refused, length_level_bytes, levels_read_back, level_bytes_bytes}
use Rattle.theorems.specs.Demands.{Reads, SolvedCase, Untouched, LeadingWritten, AcceptedLevels, pair_of_target}

pub case_sound : (s : List ℕ) → Sound (case_of s)
unfolding case_of
case_sound s = outcome_sound s

pub case_limited : (s : List ℕ) → Limited (profile_of s) (case_of s)
unfolding case_of
case_limited s = outcome_limited s

-- ---- Demand 1: a fit case with tables long enough is solved; a refusal writes nothing; otherwise the named entries are written and no more

-- solving refuses nothing exactly where the input reads and the tables are long enough
pub solve_none : (s vt lt dt : List ℕ)
    → ((solve_answer s vt lt dt).number ≡ 0) ↔ (Reads s × ((pair_count (case_of s) ≤ length vt) × ((2 * pair_count (case_of s) ≤ length lt) × (length (case_of s).targets ≤ length dt))))
unfolding solve_answer solution solve_refusal solve_fault
solve_none s vt lt dt =
    let N = pair_count (case_of s) in
    or_else_none _ _ Iff.rfl
    (or_else_none _ _ (short_none 10 N vt (omega arith))
    (or_else_none _ _ (short_none 11 (2 * N) lt (omega arith))
    (short_none 12 (length (case_of s).targets) dt (omega arith))))

pub solve_refuses_no_fit_case : (s vt lt dt : List ℕ) → Reads s → pair_count (case_of s) ≤ length vt → 2 * pair_count (case_of s) ≤ length lt
    → length (case_of s).targets ≤ length dt → SolvedCase s vt lt dt
solve_refuses_no_fit_case s vt lt dt r hv hl hd = record { number_zero = (solve_none s vt lt dt).1 (r, (hv, (hl, hd))) }

pub refused_solve_writes_nothing : (s vt lt dt : List ℕ) → ((solve_answer s vt lt dt).number ≡ 0 → ⊥) → Untouched s vt lt dt
unfolding solve_answer solution solve_values solve_levels solve_verdicts
refused_solve_writes_nothing s vt lt dt h =
    let r = solve_refusal s vt lt dt in
    record { values = written_refused r _ vt h; levels = written_refused r _ lt h; verdicts = written_refused r _ dt h }

length_solved_bytes : (c : Case) → length (level_bytes (solved_levels c)) ≡ 2 * pair_count c
unfolding solved_levels
length_solved_bytes c = length_level_bytes (solved_levels c) ∙ ap (λ (n : ℕ). 2 * n) (levels_length c _ _)

length_verdicts : (c : Case) → length (verdicts c) ≡ length c.targets
unfolding verdicts target_values
length_verdicts c = length-map c.targets _

pub solve_writes_leading : (s vt lt dt : List ℕ) → SolvedCase s vt lt dt → LeadingWritten s vt lt dt
unfolding solve_answer solution solve_values solve_levels solve_verdicts
solve_writes_leading s vt lt dt h =
    let c = case_of s in
    let r = solve_refusal s vt lt dt in
    record {
      values = rw (← solved_length c) (written_none r (solved_values c) vt h.number_zero);
      levels = rw (← length_solved_bytes c) (written_none r (level_bytes (solved_levels c)) lt h.number_zero);
      verdicts = rw (← length_verdicts c) (written_none r (verdicts c) dt h.number_zero);
    }

-- ---- Demand 2: what checking takes

accepted_each : (c : Case) (v l : List ℕ)
    → (((k : ℕ) → k < pair_count c → is_value v k ≡ true) × ((k : ℕ) → k < pair_count c → (supported_at c v k ≡ true) × (justified_at c v l k ≡ true))) ↔ (accepted c v l ≡ true)
unfolding accepted supported valued
accepted_each c v l =
    let N = pair_count c in
    let outer = and-eq-true_iff (supported c v) (all (up_to N) (justified_at c v l)) in
    let inner = and-eq-true_iff (valued c v) (all (up_to N) (supported_at c v)) in (
      λ p. outer.1 (
        inner.1 (all_up_to_of N (is_value v) p.0, all_up_to_of N (supported_at c v) (λ k h. (p.1 k h).0)),
        all_up_to_of N (justified_at c v l) (λ k h. (p.1 k h).1),
      ),
      λ e. let p = outer.0 e in let q = inner.0 p.0 in (
        all_up_to_in N (is_value v) q.0,
        λ k h. (all_up_to_in N (supported_at c v) q.1 k h, all_up_to_in N (justified_at c v l) p.1 k h),
      ),
    )

-- checking refuses nothing exactly where the input reads, the tables are long enough and what they hold is accepted
pub check_none : (s vt lt : List ℕ)
    → ((check_answer s vt lt).number ≡ 0)
    ↔ (Reads s × ((pair_count (case_of s) ≤ length vt) × ((2 * pair_count (case_of s) ≤ length lt) × (accepted (case_of s) vt (levels_in (pair_count (case_of s)) lt) ≡ true))))
unfolding check_answer checked check_refusal check_fault value_fault pair_fault
check_none s vt lt =
    let c = case_of s in
    let N = pair_count c in
    let l = levels_in N lt in
    or_else_none _ _ Iff.rfl
    (or_else_none _ _ (short_none 10 N vt (omega arith))
    (or_else_none _ _ (short_none 11 (2 * N) lt (omega arith))
    (Iff.trans
    (or_else_none _ _
    (first_none N _ (λ k h. refuse_none vt k))
    (first_none N _ (λ k h. or_else_none _ _ (unless_none (supported_at c vt k) 14 k (omega arith)) (unless_none (justified_at c vt l k) 15 k (omega arith)))))
    (accepted_each c vt l))))

pub check_accepts_exactly : (s vt lt : List ℕ) → Reads s → pair_count (case_of s) ≤ length vt → 2 * pair_count (case_of s) ≤ length lt
    → ((check_answer s vt lt).number ≡ 0) ↔ (accepted (case_of s) vt (levels_in (pair_count (case_of s)) lt) ≡ true)
check_accepts_exactly s vt lt r hv hl = (λ e. ((check_none s vt lt).0 e).1.1.1, λ h. (check_none s vt lt).1 (r, (hv, (hl, h))))

-- the levels of solving's rule are taken, whatever follows them in the table
stable_taken : (s vt later : List ℕ) → Reads s → pair_count (case_of s) ≤ length vt → StableAssignment (case_of s) vt
    → (check_answer s vt (level_bytes (levels_of (case_of s) (valid_set (case_of s) vt) (possible_set (case_of s) vt)) ++ later)).number ≡ 0
stable_taken s vt later r hv st =
    let c = case_of s in
    let l = levels_of c (valid_set c vt) (possible_set c vt) in
    let e = levels_length c (valid_set c vt) (possible_set c vt) in
    let fits : 2 * pair_count c ≤ length (level_bytes l ++ later) = omega (arith, e, length_level_bytes l, length-append (level_bytes l) later) in
    (check_none s vt (level_bytes l ++ later)).1 (r, (hv, (fits, rw (levels_read_back l later (pair_count c) e) (stable_accepted c (case_sound s) vt st))))

pub stable_exactly_with_levels : (s vt : List ℕ) → Reads s → pair_count (case_of s) ≤ length vt → AcceptedLevels s vt ↔ StableAssignment (case_of s) vt
stable_exactly_with_levels s vt r hv =
    let c = case_of s in
    let l = levels_of c (valid_set c vt) (possible_set c vt) in (
      λ a. accepted_stable c (case_sound s) vt (levels_in (pair_count c) a.table) ((check_none s vt a.table).0 a.taken).1.1.1,
      λ st. record {
        table = level_bytes l;
        bytes = level_bytes_bytes l (levels_small c (case_limited s) vt st);
        taken = rw append-nil at (stable_taken s vt [] r hv st);
      },
    )

-- ---- Demand 3: for every solved case

-- Assignments that agree on the pairs of the case
module _ (c : Case) (v v' : List ℕ) (agree : (k : ℕ) → k < pair_count c → get_or v k 0 ≡ get_or v' k 0) where
  valid_agrees : valid_set c v ≡ valid_set c v'
  unfolding valid_set
  valid_agrees = collect_ext (pair_count c) _ _ (λ k h. ap (λ (x : ℕ). eqb x 2) (agree k h))

  possible_agrees : possible_set c v ≡ possible_set c v'
  unfolding possible_set
  possible_agrees = collect_ext (pair_count c) _ _ (λ k h. ap (leb 1) (agree k h))

  stable_agrees : StableAssignment c v → StableAssignment c v'
  unfolding valued is_value
  stable_agrees st =
      record {
        values = all_up_to_of (pair_count c) _ (λ k h. rw (← agree k h) (all_up_to_in (pair_count c) _ st.values k h));
        closed = rw (← valid_agrees, ← possible_agrees) st.closed;
      }

-- Targets: the pair of each is one of the case, and its verdict is that pair's value; nowhere stands for a target past the last
pub nowhere : Target
nowhere = record { shape = record { 0 = 0 }; node = record { 0 = 0 } }

pub target_below : (c : Case) → Sound c → (i : ℕ) → i < length c.targets → pair_of_target c i < pair_count c
target_below c sound i h =
    rw (get_d_map (λ t. pair_of c t.shape.0 t.node.0) c.targets i nowhere 0 h)
    (pair_below c _ _ (ltb-true _ _ (all_in c.targets _ sound.targets_named i nowhere h)) (ltb-true _ _ (all_in c.targets _ sound.targets_known i nowhere h)))

pub verdict_is_value : (c : Case) (i : ℕ) → i < length c.targets → get_or (verdicts c) i 0 ≡ get_or (solved_values c) (pair_of_target c i) 0
unfolding verdicts target_values
verdict_is_value c i h =
    get_d_map _ c.targets i nowhere 0 h
    ∙ ap (λ (k : ℕ). get_or (solved_values c) k 0) (sym (get_d_map (λ t. pair_of c t.shape.0 t.node.0) c.targets i nowhere 0 h))

module _ (s vt lt dt : List ℕ) (solved : SolvedCase s vt lt dt) where
  -- the input reads, and the leading entries are the solved ones
  pub solved_reads : Reads s
  solved_reads = ((solve_none s vt lt dt).0 solved.number_zero).0

  pub value_at : (k : ℕ) → k < pair_count (case_of s) → get_or (solved_values (case_of s)) k 0 ≡ get_or (solve_values s vt lt dt) k 0
  unfolding solve_values solve_answer solution
  value_at k h = sym (written_at (solve_refusal s vt lt dt) (solved_values (case_of s)) vt solved.number_zero k (omega (arith, solved_length (case_of s))))

  pub target_value : (i : ℕ) → i < length (case_of s).targets → get_or (solved_values (case_of s)) (pair_of_target (case_of s) i) 0 ≡ get_or (solve_verdicts s vt lt dt) i 0
  unfolding solve_verdicts solve_answer solution
  target_value i h =
      sym (written_at (solve_refusal s vt lt dt) (verdicts (case_of s)) dt solved.number_zero i (omega (arith, length_verdicts (case_of s)))
      ∙ verdict_is_value (case_of s) i h)

  pub solved_assignment_stable : StableAssignment (case_of s) (solve_values s vt lt dt)
  solved_assignment_stable = stable_agrees (case_of s) (solved_values (case_of s)) (solve_values s vt lt dt) value_at (solved_stable (case_of s))

  -- check takes what solve wrote: the table's values are stable, as only their entries at pairs count, and the levels are those of solving's rule
  pub solved_assignment_accepted : (check_answer s (solve_values s vt lt dt) (solve_levels s vt lt dt)).number ≡ 0
  unfolding solved_levels
  solved_assignment_accepted =
      let c = case_of s in
      let v = solve_values s vt lt dt in
      let w = solve_writes_leading s vt lt dt solved in
      let valid : solved_t c ≡ valid_set c v = sym (solved_valid_set c) ∙ valid_agrees c (solved_values c) v value_at in
      let possible : solved_p c ≡ possible_set c v = sym (solved_possible_set c) ∙ possible_agrees c (solved_values c) v value_at in
      let levels = rw (valid, possible) at w.levels in
      let fits : pair_count c ≤ length v = omega (arith, solved_length c, length-append (solved_values c) (drop (pair_count c) vt), ap length w.values) in
      rw levels (stable_taken s v (drop (2 * pair_count c) lt) solved_reads fits solved_assignment_stable)

  pub solved_valid_exactly : (k : ℕ) → k < pair_count (case_of s) → (get_or (solve_values s vt lt dt) k 0 ≡ 2) ↔ EveryStable (case_of s) k 2
  solved_valid_exactly k h = rw (← value_at k h) (valid_exactly (case_of s) k h)

  pub solved_violated_exactly : (k : ℕ) → k < pair_count (case_of s) → (get_or (solve_values s vt lt dt) k 0 ≡ 0) ↔ EveryStable (case_of s) k 0
  solved_violated_exactly k h = rw (← value_at k h) (violated_exactly (case_of s) k h)

  -- a target's byte is its pair's byte in the value table
  pub target_is_its_pair : (i : ℕ) → i < length (case_of s).targets → get_or (solve_verdicts s vt lt dt) i 0 ≡ get_or (solve_values s vt lt dt) (pair_of_target (case_of s) i) 0
  target_is_its_pair i h = sym (target_value i h) ∙ value_at _ (target_below (case_of s) (case_sound s) i h)

  pub target_sure_exactly : (i : ℕ) → i < length (case_of s).targets → (get_or (solve_verdicts s vt lt dt) i 0 ≡ 2) ↔ EveryStable (case_of s) (pair_of_target (case_of s) i) 2
  target_sure_exactly i h = rw (← target_value i h) (valid_exactly (case_of s) _ (target_below (case_of s) (case_sound s) i h))

  pub target_impossible_exactly : (i : ℕ) → i < length (case_of s).targets → (get_or (solve_verdicts s vt lt dt) i 0 ≡ 0) ↔ EveryStable (case_of s) (pair_of_target (case_of s) i) 0
  target_impossible_exactly i h = rw (← target_value i h) (violated_exactly (case_of s) _ (target_below (case_of s) (case_sound s) i h))

  -- else open
  pub target_else_open : (i : ℕ) → i < length (case_of s).targets → (EveryStable (case_of s) (pair_of_target (case_of s) i) 2 → ⊥)
      → (EveryStable (case_of s) (pair_of_target (case_of s) i) 0 → ⊥) → get_or (solve_verdicts s vt lt dt) i 0 ≡ 1
  unfolding valued is_value
  target_else_open i h sure impossible =
      let c = case_of s in
      let k = pair_of_target c i in
      let b = target_below c (case_sound s) i h in
      let small = leb-true (get_or (solved_values c) k 0) 2 (all_up_to_in (pair_count c) _ (solved_valued c) k b) in
      let not_two : get_or (solved_values c) k 0 ≡ 2 → ⊥ = λ e. sure ((valid_exactly c k b).0 e) in
      let not_zero : get_or (solved_values c) k 0 ≡ 0 → ⊥ = λ e. impossible ((violated_exactly c k b).0 e) in
      rw (← target_value i h) (omega arith)

  pub undenied_only_solved : Undenied (case_of s) → (v : List ℕ) → StableAssignment (case_of s) v → (k : ℕ) → k < pair_count (case_of s) → get_or v k 0 ≡ get_or (solve_values s vt lt dt) k 0
  undenied_only_solved u v st k h = only_solved (case_of s) (case_sound s) u v st k h ∙ value_at k h

  pub rounds_answered : (solve_answer s vt lt dt).rounds ≡ rounds (case_of s)
  unfolding solve_answer solution
  rounds_answered = counted_unrefused (solve_refusal s vt lt dt) (rounds (case_of s)) solved.number_zero

  pub rounds_counted : RoundsCounted (round_t (case_of s)) (solve_answer s vt lt dt).rounds
  rounds_counted = rw rounds_answered (rounds_are_counted (case_of s))

  pub rounds_bounded : (solve_answer s vt lt dt).rounds ≤ pair_count (case_of s) + 1
  rounds_bounded = rw rounds_answered (rounds_at_most (case_of s))
