-- Links to add: the case with the chosen candidates, and the fewest that make a target sure. Document 02, point 10. Assumes nothing.
use Rattle.std.specs.Prelude.{ℕ, ◌+◌, ◌*◌, ◌/◌, ◌%◌, ◌^◌, Bool, cond, ◌&&◌, List, map, ◌++◌, length, get_or, eqb, ltb, leb}
use Rattle.fixpoint.specs.Lists.{up_to, keep, count, first_from}
use Rattle.cases.specs.Case.{Case}
use Rattle.cases.specs.Faults.{laid, Refusal}
use Rattle.cases.specs.Format.{edge_of, number_at}
use Rattle.cases.specs.Reading.{outcome}
use Rattle.cases.specs.declared.command.Edge.{Edge}
use Rattle.semantics.specs.declared.answers.Fewest.{Fewest}
use Rattle.semantics.specs.Operations.{or_else, first_of, refuse_unless, counted, case_of}
use Rattle.semantics.specs.Parking.{with_edges}
use Rattle.semantics.specs.Solving.{verdicts}

-- ---- Candidates and selections

-- "Candidates stand one after another as an edge's operands": candidate i, as the 02 with these operands
unfoldable pub candidate_at : List ℕ → ℕ → Edge
candidate_at list i = edge_of (0x02, get_or list (5 * i) 0, number_at list (5 * i + 1) 2, number_at list (5 * i + 3) 2)

-- how many there are
abbrev pub candidate_count : List ℕ → ℕ
candidate_count list = length list / 5

-- a selection is a number, "candidate 0 being bit 0"
unfoldable pub chooses : ℕ → ℕ → Bool
chooses selection i = eqb (selection / 2 ^ i % 2) 1

-- the candidates that it chooses, and how many they are
unfoldable pub chosen : List ℕ → ℕ → List Edge
chosen list selection = map (candidate_at list) (keep (up_to (candidate_count list)) (chooses selection))

unfoldable pub chosen_count : List ℕ → ℕ → ℕ
chosen_count list selection = count (up_to (candidate_count list)) (chooses selection)

-- ---- The case with added edges

-- "a chosen one counts even if that edge is parked": an edge command of a chosen edge, 03 too, is an 02
unfoldable pub unparked : List Edge → Edge → Edge
unparked added e = cond (laid added e) (record { code = 0x02; property = e.property; subject = e.subject; object = e.object }) e

-- "the case with those edges"; they are "outside the limit of 1,024"
unfoldable pub with_links : Case → List Edge → Case
with_links c added = with_edges c (map (unparked added) c.edges ++ added)

-- "Sure is meant over the case with those edges": the target's verdict there, 2 sure, 1 open, 0 impossible
unfoldable pub verdict_with : Case → ℕ → List ℕ → ℕ → ℕ
verdict_with c target list selection = get_or (verdicts (with_links c (chosen list selection))) target 0

-- ---- The fewest

-- the selections of a list
abbrev pub selection_count : List ℕ → ℕ
selection_count list = 2 ^ candidate_count list

-- A key says how many edges, then which selection; so the order of keys is "the fewest", and "among equals, the selection whose bit number is
-- smallest"
abbrev pub key_size : List ℕ → ℕ → ℕ
key_size list key = key / selection_count list

abbrev pub key_selection : List ℕ → ℕ → ℕ
key_selection list key = key % selection_count list

abbrev pub key_count : List ℕ → ℕ
key_count list = (candidate_count list + 1) * selection_count list

-- the selection has so many edges and makes the target sure
unfoldable pub is_sure_by : Case → ℕ → List ℕ → ℕ → Bool
is_sure_by c target list key =
    eqb (chosen_count list (key_selection list key)) (key_size list key) && eqb (verdict_with c target list (key_selection list key)) 2

-- the first such key; `key_count list` if there is none
unfoldable pub fewest_key : Case → ℕ → List ℕ → ℕ
fewest_key c target list = first_from (key_count list) 0 (is_sure_by c target list)

-- ---- Reading's, then 23, 24 and 25

-- "list over 60 bytes or no multiple of 5"
abbrev pub list_fits : List ℕ → Bool
list_fits list = leb (length list) 60 && eqb (length list % 5) 0

-- both nodes of a candidate are in the case
abbrev pub candidate_known : Case → Edge → Bool
candidate_known c e = ltb e.subject.0 c.nodes && ltb e.object.0 c.nodes

unfoldable pub fewest_fault : Case → ℕ → List ℕ → Refusal
fewest_fault c target list =
    or_else (refuse_unless (list_fits list) 23 (length list))
    (or_else (refuse_unless (ltb target (length c.targets)) 24 0)
    (or_else (first_of (up_to (candidate_count list)) (λ i. refuse_unless (candidate_known c (candidate_at list i)) 24 (i + 1)))
    (refuse_unless (ltb (fewest_key c target list) (key_count list)) 25 0)))

unfoldable pub fewest_refusal : List ℕ → ℕ → List ℕ → Refusal
fewest_refusal s target list = or_else (outcome s).refusal (fewest_fault (case_of s) target list)

-- the answer that goes with a refusal, or with none
unfoldable pub fewest : Refusal → Case → ℕ → List ℕ → Fewest
fewest r c target list = record { number = r.number; place = r.place; selection = counted r (key_selection list (fewest_key c target list)) }

unfoldable pub fewest_answer : List ℕ → ℕ → List ℕ → Fewest
fewest_answer s target list = fewest (fewest_refusal s target list) (case_of s) target list
