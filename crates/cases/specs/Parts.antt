-- Rules inside rules: the parts of command 28, and the shapes that they expand to. Document 02, point 2. Assumes nothing.
use Rattle.std.specs.Prelude.{ℕ, zero, suc, ◌+◌, Bool, cond, List, [], ◌∷◌, ◌++◌, length, get_or, drop, Option, Some, None, Result, Ok, Err, eqb, ltb}
use Rattle.cases.specs.declared.command.Row.{Row}
use Rattle.cases.specs.declared.command.ShapeRule.{ShapeRule}
use Rattle.cases.specs.declared.command.ShapeRule.TheVariants.{Top, Node, And, Or, Not, Same, All, AtLeast}
use Rattle.cases.specs.declared.format.Format.{Format}
use Rattle.cases.specs.declared.heads.PartHead.{PartHead}
use Rattle.cases.specs.declared.heads.Opens.{Opens}
use Rattle.cases.specs.declared.heads.Opens.TheVariants.{Name as OpensName, Alone as OpensAlone, One as OpensOne, Two as OpensTwo, AtMost as OpensAtMost}
use Rattle.cases.specs.declared.refusals.Fault.{Fault}
use Rattle.cases.specs.Case.{references}
use Rattle.cases.specs.Faults.{shape_nodes_known, shape_paths_earlier, shape_least_positive}
use Rattle.cases.specs.Format.{width_by, operands_by, missing, shape_rule_of}
use Rattle.cases.specs.Refusals.{fault_number}

-- ---- The head of a part: 1, 3, 5, 6 and 7

-- "a shape command byte 20 to 27 with parts for its shape operands, or 29 (shape u8), a named shape, or 2A (number u8, path u8, part)":
-- the kind of a part byte, 1 a rule with no inner part, 2 with one, 3 with two, 4 a named shape, 5 at most, 0 for a byte that opens no part;
-- then the widths of the operands that stand before the inner parts
unfoldable pub part_format_of : ℕ → Format
part_format_of b =
    cond (eqb b 0x20) (1, 0, 0, 0)
    (cond (eqb b 0x21) (1, 2, 0, 0)
    (cond (eqb b 0x22) (3, 0, 0, 0)
    (cond (eqb b 0x23) (3, 0, 0, 0)
    (cond (eqb b 0x24) (2, 0, 0, 0)
    (cond (eqb b 0x25) (1, 1, 1, 0)
    (cond (eqb b 0x26) (2, 1, 0, 0)
    (cond (eqb b 0x27) (2, 1, 1, 0)
    (cond (eqb b 0x29) (4, 1, 0, 0)
    (cond (eqb b 0x2a) (5, 1, 1, 0)
    (0, 0, 0, 0))))))))))

-- what stands where a part opens: the number of a refusal; or a row, of a named shape, of a rule with no, one or two inner parts, whose shape
-- operands are 0, or of the at least behind an at most; and the bytes that the head takes
pub data Head : Type 0 where
  Refused : ℕ → Head
  Name : Row → ℕ → Head
  Alone : Row → ℕ → Head
  One : Row → ℕ → Head
  Two : Row → ℕ → Head
  AtMost : Row → ℕ → Head

-- what the code answers for it
abbrev pub head_opens : Opens → Row → ℕ → Head
head_opens OpensName = Name
head_opens OpensAlone = Alone
head_opens OpensOne = One
head_opens OpensTwo = Two
head_opens OpensAtMost = AtMost

abbrev pub head_says : Result PartHead Fault → Head
head_says (Ok x) = head_opens x.opens x.row x.width
head_says (Err fault) = Refused (fault_number fault)

-- what follows, unless a test fails
abbrev pub open_unless : Bool → ℕ → Head → Head
open_unless ok number rest = cond ok rest (Refused number)

-- a rule, by how many inner parts it opens
unfoldable pub opening : ℕ → Row → ℕ → Head
opening kind row width = cond (eqb kind 1) (Alone row width) (cond (eqb kind 2) (One row width) (Two row width))

-- 5, 6 and 7 of a rule
unfoldable pub rule_head : ℕ → ℕ → ℕ → Row → ℕ → Head
rule_head nodes paths kind row width =
    open_unless (shape_nodes_known nodes (shape_rule_of row)) 5
    (open_unless (shape_paths_earlier paths (shape_rule_of row)) 6
    (open_unless (shape_least_positive (shape_rule_of row)) 7
    (opening kind row width)))

-- "at most, the not of at least number + 1": the row of that at least. "In a 2A, the number 255 is refused as 7."
unfoldable pub at_most_head : ℕ → Row → ℕ → Head
at_most_head paths row width =
    open_unless (ltb row.2 paths) 6
    (open_unless (ltb row.1 255) 7
    (AtMost (0x27, row.1 + 1, row.2, 0) width))

-- a head that is there whole, by its kind
unfoldable pub whole_head : ℕ → ℕ → Format → Option Row → Head
whole_head nodes paths f None = Refused (missing None)
whole_head nodes paths f (Some row) =
    cond (eqb f.0 4) (Name row (width_by f))
    (cond (eqb f.0 5) (at_most_head paths row (width_by f))
    (rule_head nodes paths f.0 row (width_by f)))

-- 1 for a byte that opens no part, then its operands
unfoldable pub head_by : ℕ → ℕ → Format → List ℕ → Head
head_by nodes paths f s = open_unless (ltb 0 f.0) 1 (whole_head nodes paths f (operands_by f s))

-- what stands where a part opens; with no byte there, nothing can be judged but 3
unfoldable pub head_at : ℕ → ℕ → List ℕ → Head
head_at nodes paths s = open_unless (ltb 0 (length s)) 3 (head_by nodes paths (part_format_of (get_or s 0 0)) s)

-- ---- A part: "A part opens its inner parts, and each inner part is a part again."

-- a named shape; a rule with no inner part, whose shape operands, if it has any, name shapes; a rule around one inner part, and one that
-- joins two, in place of its shape operands. A 2A is two of these, and yet one level
pub data Part : Type 0 where
  Named : ℕ → Part
  Plain : ShapeRule → Part
  Around : ShapeRule → Part → Part
  Joining : ShapeRule → Part → Part → Part

-- what is read where a part should stand: the refusal of the first part at fault, or the part and the offset behind it
pub data PartRead : Type 0 where
  PartFault : ℕ → PartRead
  PartIs : Part → ℕ → PartRead

-- the next part, unless this one is at fault
unfoldable pub and_then : PartRead → (Part → ℕ → PartRead) → PartRead
and_then (PartFault n) f = PartFault n
and_then (PartIs x next) f = f x next

-- the part with this head at an offset, where the first argument reads inner parts
unfoldable pub opened : (ℕ → PartRead) → ℕ → Head → PartRead
opened inner at (Refused n) = PartFault n
opened inner at (Name row width) = PartIs (Named row.1) (at + width)
opened inner at (Alone row width) = PartIs (Plain (shape_rule_of row)) (at + width)
opened inner at (One row width) = and_then (inner (at + width)) (λ x next. PartIs (Around (shape_rule_of row) x) next)
opened inner at (Two row width) =
    and_then (inner (at + width)) (λ x next. and_then (inner next) (λ y end. PartIs (Joining (shape_rule_of row) x y) end))
-- "2A makes two shapes, the not first."
opened inner at (AtMost row width) =
    and_then (inner (at + width)) (λ x next. PartIs (Around (Not (record { 0 = 0 })) (Around (shape_rule_of row) x)) next)

-- the part at an offset. The first argument is how many levels may still open, this part's own among them; with none left it is 18, before
-- all else
unfoldable pub part_at : ℕ → ℕ → ℕ → List ℕ → ℕ → PartRead
part_at zero nodes paths s at = PartFault 18
part_at (suc depth) nodes paths s at = opened (part_at depth nodes paths s) at (head_at nodes paths (drop at s))

-- "18 is a part more than 8 deep, the outermost being 1"
abbrev pub depth_limit : ℕ
depth_limit = 8

-- the shapes that a part names, in the order of its bytes
unfoldable pub names : Part → List ℕ
names (Named s) = s ∷ []
names (Plain r) = references r
names (Around r x) = names x
names (Joining r x y) = names x ++ names y

-- ---- The expansion

-- a rule with other shape operands: the first, and the second where it has two
unfoldable pub filled : ShapeRule → ℕ → ℕ → ShapeRule
filled Top s t = Top
filled (Node a) s t = Node a
filled (And _ _) s t = And (record { 0 = s }) (record { 0 = t })
filled (Or _ _) s t = Or (record { 0 = s }) (record { 0 = t })
filled (Not _) s t = Not (record { 0 = s })
filled (Same p q) s t = Same p q
filled (All p _) s t = All p (record { 0 = s })
filled (AtLeast n p _) s t = AtLeast n p (record { 0 = s })

-- "Every deeper part but 29 becomes a fresh shape": how many shapes an inner part makes, and how many are made inside it
unfoldable pub size : Part → ℕ
size (Named s) = 0
size (Plain r) = 1
size (Around r x) = suc (size x)
size (Joining r x y) = suc (size x + size y)

unfoldable pub inner_size : Part → ℕ
inner_size (Named s) = 0
inner_size (Plain r) = 0
inner_size (Around r x) = size x
inner_size (Joining r x y) = size x + size y

-- the shape operand that stands for an inner part, if n is the number of the next fresh shape
unfoldable pub operand : ℕ → Part → ℕ
operand n (Named s) = s
operand n (Plain r) = n
operand n (Around r x) = n
operand n (Joining r x y) = n

-- the rule of a part, if n is the number of the first fresh shape inside it: "for 29, the or of that shape with itself"
unfoldable pub rule : ℕ → Part → ShapeRule
rule n (Named s) = Or (record { 0 = s }) (record { 0 = s })
rule n (Plain r) = r
rule n (Around r x) = filled r (operand n x) (operand n x)
rule n (Joining r x y) = filled r (operand n x) (operand (n + size x) y)

-- the fresh shapes that an inner part makes, from number n on, "numbered .. as it opens": its own, then those inside it. "A double not
-- stays.": each not is a shape of its own
unfoldable pub fresh : ℕ → Part → List ShapeRule
fresh n (Named s) = []
fresh n (Plain r) = r ∷ []
fresh n (Around r x) = rule (suc n) (Around r x) ∷ fresh (suc n) x
fresh n (Joining r x y) = rule (suc n) (Joining r x y) ∷ (fresh (suc n) x ++ fresh (suc n + size x) y)

-- the fresh shapes inside a part, from number n on: those of its inner parts, the first's before the second's
unfoldable pub inside : ℕ → Part → List ShapeRule
inside n (Named s) = []
inside n (Plain r) = []
inside n (Around r x) = fresh n x
inside n (Joining r x y) = fresh n x ++ fresh (n + size x) y

-- written parts one after another, n being the number of the next fresh shape: their own rules, the fresh shapes inside them, and how many
-- these are
unfoldable pub rules : ℕ → List Part → List ShapeRule
rules n [] = []
rules n (x ∷ l) = rule n x ∷ rules (n + inner_size x) l

unfoldable pub fresh_rules : ℕ → List Part → List ShapeRule
fresh_rules n [] = []
fresh_rules n (x ∷ l) = inside n x ++ fresh_rules (n + inner_size x) l

unfoldable pub fresh_count : List Part → ℕ
fresh_count [] = 0
fresh_count (x ∷ l) = inner_size x + fresh_count l

-- the shapes of a case: the written ones, and "numbered after the written ones" the fresh ones
unfoldable pub expansion : List Part → List ShapeRule
expansion l = rules (length l) l ++ fresh_rules (length l) l
