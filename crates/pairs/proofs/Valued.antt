-- The values of pairs put into a table, node by node and row by row, and that they are those of two sets of pairs. Assumes nothing.
use Prim.Native.Nat.{ℕ, ◌+◌, ◌*◌, ◌≤◌, ◌<◌}
use native.Mathlib.Omega.{arith}
use mathlib.Core.Path.{◌≡◌, sym, ◌∙◌}
use mathlib.Core.Bool.{Bool, cond}
use mathlib.Core.List.{List, map}
use lib.Arith.{digits_div, digits_mod, digits_lt}
use lib.ListN.{length, get_or}
use Rattle.fixpoint.specs.Entries.{Put}
use Rattle.fixpoint.specs.Lists.{up_to}
use Rattle.fixpoint.specs.Sets.{has}
use Rattle.fixpoint.proofs.Entries.{put_all}
use Rattle.fixpoint.proofs.Lists.{made_same, get_d_made}
use Rattle.bitset.specs.Words.{member}
use Rattle.cases.specs.Case.{Case}
use Rattle.cases.specs.Counts.{words_of, size_of}
use Rattle.cases.specs.declared.counts.Counts.{Counts}
use Rattle.cases.specs.declared.counts.Size.{Size}
use Rattle.semantics.specs.Solving.{values_of}
use Rattle.semantics.specs.Values.{pair_count, shape_of, node_of}
use Rattle.pairs.specs.Values.{node_values, value_in, values_in, ValuesWritten}

-- The value of node a of shape s
pub value_is : (size : Size) (valid possible : List ℕ) (s a : ℕ) {v p : Bool} {x : ℕ} → a < size.nodes
    → v ≡ member valid size.words s a → p ≡ member possible size.words s a → x ≡ cond v 2 (cond p 1 0) → x ≡ value_in size valid possible (s * size.nodes + a)
unfolding value_in
value_is size valid possible s a h e f q = q ∙ rw (e, f, digits_div s h, digits_mod s h)

-- The values of all shapes were put
pub values_written : {counts : Counts} {valid possible t t' : List ℕ} {s : ℕ} → counts.shapes * counts.nodes ≤ length t → s ≤ counts.shapes → counts.shapes ≤ s
    → Put (value_in (size_of counts) valid possible) 0 (s * counts.nodes) t t' → ValuesWritten counts valid possible t t'
unfolding values_in
values_written {counts} {s = s} room h l p = let e : s ≡ counts.shapes = omega arith in record { left = put_all room (rw e at p) }

-- They are the values of two sets of pairs that have what the tables have
pairs_are : (c : Case) (counts : Counts) → c.nodes ≡ counts.nodes → length c.shapes ≡ counts.shapes → pair_count c ≡ counts.shapes * counts.nodes
unfolding pair_count
pairs_are c counts e f = rw (e, f)

pub values_are : (c : Case) (counts : Counts) (valid possible : List ℕ) → c.nodes ≡ counts.nodes → length c.shapes ≡ counts.shapes → (T P : List Bool)
    → ((k : ℕ) → k < pair_count c → has T k ≡ member valid (words_of counts) (shape_of c k) (node_of c k))
    → ((k : ℕ) → k < pair_count c → has P k ≡ member possible (words_of counts) (shape_of c k) (node_of c k))
    → values_in counts valid possible ≡ values_of c T P
unfolding values_in value_in values_of shape_of node_of
values_are c counts valid possible e f T P t p =
    let n = pairs_are c counts e f in
    rw n (made_same _ _ (counts.shapes * counts.nodes) (λ k h. let b : k < pair_count c = omega arith in rw (t k b, p k b, e)))

-- and those of a node stand among them
pub node_values_are : (counts : Counts) (a : ℕ) (valid possible : List ℕ) → a < counts.nodes
    → node_values counts a valid possible ≡ map (λ s. get_or (values_in counts valid possible) (s * counts.nodes + a) 0) (up_to counts.shapes)
unfolding node_values values_in
node_values_are counts a valid possible h =
    made_same _ _ counts.shapes
    (λ s b. sym (get_d_made (value_in (size_of counts) valid possible) (counts.shapes * counts.nodes) (s * counts.nodes + a) 0 (digits_lt b h)))
