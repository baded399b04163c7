-- What the readers of a part need and leave. No part of document 01. Assumes nothing.
use Rattle.std.specs.Prelude.{ℕ, zero, suc, ◌+◌, ◌*◌, ◌≤◌, ◌≡◌, Bool, true, false, cond, List, [], ◌∷◌, ◌++◌, length, Result, Ok, Err, eqb}
use Rattle.cases.specs.declared.command.Row.{Row}
use Rattle.cases.specs.declared.command.ShapeRule.{ShapeRule}
use Rattle.cases.specs.declared.counts.Counts.{Counts}
use Rattle.cases.specs.declared.refusals.Fault.{Fault}
use Rattle.cases.specs.Format.{shape_rule_of}
use Rattle.cases.specs.Parts
use Rattle.cases.specs.Parts.{Part, Named, Plain, Around, Joining, PartRead, PartFault, PartIs, part_at, names, operand, rule, inside}
use Rattle.cases.specs.Reading.{named_at}
use Rattle.cases.specs.Refusals.{fault_number}
use Rattle.parts.specs.declared.readers.Cursor.{Cursor}
use Rattle.parts.specs.declared.readers.Inner.{Inner}
use Rattle.parts.specs.declared.readers.Opened.{Opened}
use Rattle.parts.specs.declared.readers.Opened.TheVariants.{Name, Rule}
use Rattle.parts.specs.Tables.{rules_in, named_in, Noted}

-- a row with other shape operands
unfoldable pub with_references : Row → ℕ → ℕ → Row
with_references r s t =
    cond (eqb r.0 0x20) r
    (cond (eqb r.0 0x21) r
    (cond (eqb r.0 0x22) (r.0, s, t, r.3)
    (cond (eqb r.0 0x23) (r.0, s, t, r.3)
    (cond (eqb r.0 0x24) (r.0, s, r.2, r.3)
    (cond (eqb r.0 0x25) r
    (cond (eqb r.0 0x26) (r.0, r.1, s, r.3)
    (r.0, r.1, r.2, s)))))))

-- ---- The small functions

-- so many bytes on; with a row of the table taken
abbrev pub cursor_behind : Cursor → ℕ → Cursor
cursor_behind cursor width = record { place = cursor.place; at = cursor.at + width; fresh = cursor.fresh; noted = cursor.noted }

abbrev pub cursor_reserved : Cursor → Cursor
cursor_reserved cursor = record { place = cursor.place; at = cursor.at; fresh = cursor.fresh + 1; noted = cursor.noted }

-- ---- Room

-- how many rows and notes an inner part can take where so many levels may open: its own, two inner parts, and one more for an at most
unfoldable pub budget : ℕ → ℕ
budget zero = 0
budget (suc depth) = 2 + 2 * budget depth

-- there is room for n more of both, and the cursor is within the bytes
pub record Room (n : ℕ) (bytes : List ℕ) (cursor : Cursor) (fresh named : List ℕ) : Type 0 where
  pub within : cursor.at ≤ length bytes
  pub few : cursor.fresh + n ≤ 542
  pub rows : 4 * (cursor.fresh + n) ≤ length fresh
  pub notes : 2 * (cursor.noted + n) ≤ length named

-- as much as an inner part can take where so many levels may open, and as what is inside a part can
pub record InnerRoom (depth : ℕ) (bytes : List ℕ) (cursor : Cursor) (fresh named : List ℕ) : Type 0 where
  pub room : Room (budget depth) bytes cursor fresh named

pub record PartRoom (depth : ℕ) (bytes : List ℕ) (cursor : Cursor) (fresh named : List ℕ) : Type 0 where
  pub room : Room (1 + 2 * budget depth) bytes cursor fresh named

-- ---- What is left

-- behind what both tables held there are these rules and the notes of these shapes, at most n of each
pub record Wrote (n : ℕ) (own : List ShapeRule) (shapes : List ℕ) (cursor cursor' : Cursor) (fresh named fresh' named' : List ℕ) : Type 0 where
  pub placed : cursor'.place ≡ cursor.place
  pub rules : rules_in fresh' cursor'.fresh ≡ rules_in fresh cursor.fresh ++ own
  pub notes : named_in named' cursor'.noted ≡ named_in named cursor.noted ++ named_at cursor.place shapes
  pub few_rules : cursor'.fresh ≤ cursor.fresh + n
  pub few_notes : cursor'.noted ≤ cursor.noted + n

-- one note more
abbrev pub cursor_noted : Cursor → Cursor
cursor_noted cursor = record { place = cursor.place; at = cursor.at; fresh = cursor.fresh; noted = cursor.noted + 1 }

pub record NamedAs (s : ℕ) (cursor : Cursor) (named : List ℕ) (r : Opened) (named' : List ℕ) : Type 0 where
  pub is : r ≡ Name s (cursor_noted cursor)
  pub noted : Noted (s ∷ []) cursor.place cursor.noted named (cursor.noted + 1) named'

-- a part with a rule of its own
unfoldable pub is_rule : Part → Bool
is_rule (Named s) = false
is_rule (Plain r) = true
is_rule (Around r x) = true
is_rule (Joining r x y) = true

-- the part that was read, with its rule as a row and what is inside it in the tables
pub record RuleRead (n : ℕ) (read : PartRead) (row : Row) (cursor cursor' : Cursor) (fresh named fresh' named' : List ℕ) : Type 0 where
  pub part : Part
  pub is : read ≡ PartIs part cursor'.at
  pub ruled : is_rule part ≡ true
  pub rule_is : shape_rule_of row ≡ rule (256 + cursor.fresh) part
  pub wrote : Wrote n (inside (256 + cursor.fresh) part) (names part) cursor cursor' fresh named fresh' named'

-- a named shape, which is noted
pub record NameRead (n : ℕ) (read : PartRead) (s : ℕ) (cursor cursor' : Cursor) (fresh named fresh' named' : List ℕ) : Type 0 where
  pub is : read ≡ PartIs (Named s) cursor'.at
  pub placed : cursor'.place ≡ cursor.place
  pub still : cursor'.fresh ≡ cursor.fresh
  pub untouched : fresh' ≡ fresh
  pub notes : named_in named' cursor'.noted ≡ named_in named cursor.noted ++ named_at cursor.place (s ∷ [])
  pub few_notes : cursor'.noted ≤ cursor.noted + n

unfoldable pub OpenedIs : ℕ → PartRead → Cursor → List ℕ → List ℕ → Result Opened Fault → List ℕ → List ℕ → Type 0
OpenedIs n read cursor fresh named (Err fault) fresh' named' = read ≡ PartFault (fault_number fault)
OpenedIs n read cursor fresh named (Ok (Name s after)) fresh' named' = NameRead n read s cursor after fresh named fresh' named'
OpenedIs n read cursor fresh named (Ok (Rule row after)) fresh' named' = RuleRead n read row cursor after fresh named fresh' named'

pub record OpenedAs (depth : ℕ) (counts : Counts) (bytes : List ℕ) (cursor : Cursor) (fresh named : List ℕ) (r : Result Opened Fault) (fresh' named' : List ℕ)
    : Type 0 where
  pub fresh_long : length fresh' ≡ length fresh
  pub named_long : length named' ≡ length named
  pub is : OpenedIs (1 + 2 * budget depth) (part_at (suc depth) counts.nodes counts.paths bytes cursor.at) cursor fresh named r fresh' named'

-- the inner part that was read, with the reference to it and what it makes in the tables
pub record InnerRead (n : ℕ) (read : PartRead) (s : ℕ) (cursor cursor' : Cursor) (fresh named fresh' named' : List ℕ) : Type 0 where
  pub part : Part
  pub is : read ≡ PartIs part cursor'.at
  pub reference : s ≡ operand (256 + cursor.fresh) part
  pub wrote : Wrote n (Parts.fresh (256 + cursor.fresh) part) (names part) cursor cursor' fresh named fresh' named'

unfoldable pub InnerIs : ℕ → PartRead → Cursor → List ℕ → List ℕ → Result Inner Fault → List ℕ → List ℕ → Type 0
InnerIs n read cursor fresh named (Err fault) fresh' named' = read ≡ PartFault (fault_number fault)
InnerIs n read cursor fresh named (Ok x) fresh' named' = InnerRead n read x.reference cursor x.after fresh named fresh' named'

pub record InnerAs (depth : ℕ) (counts : Counts) (bytes : List ℕ) (cursor : Cursor) (fresh named : List ℕ) (r : Result Inner Fault) (fresh' named' : List ℕ)
    : Type 0 where
  pub fresh_long : length fresh' ≡ length fresh
  pub named_long : length named' ≡ length named
  pub is : InnerIs (budget depth) (part_at depth counts.nodes counts.paths bytes cursor.at) cursor fresh named r fresh' named'
