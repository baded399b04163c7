-- A solve while it is unfinished: what it is after so many advances, the case that it holds, the last P, and what is certain by then.
-- Document 02, point 7. Assumes nothing.
use Rattle.std.specs.Prelude.{ℕ, zero, suc, Bool, true, cond, List, leb}
use Rattle.fixpoint.specs.Sets.{has, collect}
use Rattle.cases.specs.Case.{Case}
use Rattle.semantics.specs.declared.ongoing.Unfinished.{Unfinished}
use Rattle.semantics.specs.declared.ongoing.Certainty.{Certainty}
use Rattle.semantics.specs.declared.ongoing.Certainty.TheVariants.{Impossible, Open, Sure, NotYet}
use Rattle.semantics.specs.Operations.{case_of}
use Rattle.semantics.specs.Solving.{round_t, round_p, rounds}
use Rattle.semantics.specs.Unfinished.{held_input, begun, advanced}
use Rattle.semantics.specs.Values.{pair_count}

-- so many advances
unfoldable pub after : ℕ → Unfinished → Unfinished
after zero u = u
after (suc i) u = advanced (after i u)

-- the solve of an input, "begun, advanced one round a call", after i advances
unfoldable pub solving : List ℕ → ℕ → Unfinished
solving s i = after i (begun s).unfinished

-- the case that it holds: the input's, or that of 01 00 00 FF where the input is refused
unfoldable pub held_by : List ℕ → Case
held_by s = case_of (held_input s)

-- "the last P worked out" after i advances: before the first round no pair is outside it, and past the end it is the solved one
unfoldable pub last_p : Case → ℕ → List Bool
last_p c zero = collect (pair_count c) (λ k. true)
last_p c (suc i) = round_p c i

-- "After i rounds a pair in Ti is sure, a pair outside the last P worked out is impossible, and each other is "not yet" until the end, then
-- open.": of pair k after i advances, which may be more than there are rounds
abbrev pub certain_after : Case → ℕ → ℕ → Certainty
certain_after c i k = cond (has (round_t c i) k) Sure (cond (has (last_p c i) k) (cond (leb (rounds c) i) Open NotYet) Impossible)
