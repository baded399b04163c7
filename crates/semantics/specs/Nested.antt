-- The value that the words of a part give it: a rule desk's own reading of a rule inside rules; and values of the written shapes alone.
-- Document 02, point 2, and document 000, proposition 4.2, of supported assignments. Assumes nothing.
use Rattle.std.specs.Prelude.{ℕ, ◌*◌, ◌≤◌, ◌<◌, ◌≡◌, true, cond, List, [], ◌∷◌, ◌++◌, length, get_or, take, eqb}
use Rattle.cases.specs.Case.{Case}
use Rattle.cases.specs.Parts.{Part, Named, Plain, Around, Joining, filled}
use Rattle.semantics.specs.Values.{pair_count, entry_at, rule_value, supported}

-- at node a, where v gives the values of written shapes at nodes: a named shape has its own value, and a rule the value that it has where
-- its inner parts, in place of its shape operands, have theirs. No fresh shape is asked
unfoldable pub part_value : Case → (ℕ → ℕ → ℕ) → Part → ℕ → ℕ
part_value c v (Named s) a = v s a
part_value c v (Plain r) a = rule_value c v r a
part_value c v (Around r x) a = rule_value c (λ s b. part_value c v x b) r a
part_value c v (Joining r x y) a = rule_value c (λ s b. cond (eqb s 0) (part_value c v x b) (part_value c v y b)) (filled r 0 1) a

-- ---- "Every deeper part but 29 becomes a fresh shape, numbered after the written ones as it opens."

-- the parts that do where this one is an inner part, in the order in which they open: itself, then those inside it
unfoldable pub opens : Part → List Part
opens (Named s) = []
opens (Plain r) = Plain r ∷ []
opens (Around r x) = Around r x ∷ opens x
opens (Joining r x y) = Joining r x y ∷ (opens x ++ opens y)

-- those inside the part of a written shape, and of one after another
unfoldable pub opens_inside : Part → List Part
opens_inside (Named s) = []
opens_inside (Plain r) = []
opens_inside (Around r x) = opens x
opens_inside (Joining r x y) = opens x ++ opens y

unfoldable pub deeper : List Part → List Part
deeper [] = []
deeper (x ∷ l) = opens_inside x ++ deeper l

-- ---- Values of the written shapes alone, whose pairs come first

-- they are values and obey the words of their parts
pub record Obeying (c : Case) (l : List Part) (u : List ℕ) : Type 0 where
  pub whole : length u ≡ length l * c.nodes
  pub values : (k : ℕ) → k < length u → get_or u k 0 ≤ 2
  pub words : (i a : ℕ) (d : Part) → i < length l → a < c.nodes → entry_at c u i a ≡ part_value c (entry_at c u) (get_or l i d) a

-- an assignment of the expansion, cut to them
unfoldable pub written_values : Case → List Part → List ℕ → List ℕ
written_values c l v = take (length l * c.nodes) v

-- a supported assignment of the expansion whose cut they are; and there is no other
pub record Extends (c : Case) (l : List Part) (u v : List ℕ) : Type 0 where
  pub whole : length v ≡ pair_count c
  pub is_supported : supported c v ≡ true
  pub cut_is : written_values c l v ≡ u

pub record ExtendsOnce (c : Case) (l : List Part) (u : List ℕ) : Type 0 where
  pub extension : List ℕ
  pub extends : Extends c l u extension
  pub only : (v : List ℕ) → Extends c l u v → v ≡ extension
