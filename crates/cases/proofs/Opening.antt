-- What a part that is read shows: its rules pass 5, 6 and 7 and fit bytes, and it ends within the input; and the numbers of its refusals.
-- Assumes nothing.
use Rattle.std.specs.Prelude.{Some, None}
use Prim.Native.Nat.{ℕ, zero, suc, ◌+◌, ◌≤◌, ◌<◌}
use native.Mathlib.Omega.{arith}
use mathlib.Core.Path.{◌≡◌, refl}
use mathlib.Core.Bool.{Bool, true, false, cond, ◌&&◌, and-eq-true_iff, false≢true}
use mathlib.Core.List.{List, [], ◌∷◌}
use lib.ListN.{length, get_or, drop, length-drop}
use lib.Seq.{get_or-drop}
use lib.Dec.{eqb, leb, ltb}
use borrow.Author.Tests.{leb-true, lt-ltb, le-leb, eqb-true}
use Rattle.fixpoint.specs.Lists.{all}
use Rattle.fixpoint.proofs.Lists.{tests, by_test}
use Rattle.cases.specs.declared.command.Row.{Row}
use Rattle.cases.specs.declared.command.ShapeRule.{ShapeRule}
use Rattle.cases.specs.declared.command.ShapeRule.TheVariants.{Top, Node, And, Or, Not, Same, All, AtLeast}
use Rattle.cases.specs.declared.format.Format.{Format}
use Rattle.cases.specs.Parts.{Head, Refused, Name, Alone, One, Two, AtMost}
use Rattle.cases.specs.Case.{paths_of_shape, references}
use Rattle.cases.specs.Faults.{shape_nodes_known, shape_paths_earlier, shape_least_positive}
use Rattle.cases.specs.Format.{width_by, row_by, number_at, operands_by, shape_rule_of}
use Rattle.cases.specs.Parts.{part_format_of, open_unless, opening, rule_head, at_most_head, whole_head, head_by, head_at}
use Rattle.cases.specs.Parts.{Part, PartRead, PartFault, PartIs, and_then, opened, part_at, filled}
use Rattle.cases.specs.Reading.{is_reading_number}
use Rattle.cases.specs.Sound.{shape_byte}
use Rattle.cases.proofs.Expansion.{ruled, Blind}

-- 5, 6 and 7 of a rule, which do not ask for its shape operands
unfoldable pub shape_sound : ℕ → ℕ → ShapeRule → Bool
shape_sound nodes paths r = shape_nodes_known nodes r && (shape_paths_earlier paths r && shape_least_positive r)

pub sound_blind : (nodes paths : ℕ) → Blind (shape_sound nodes paths)
unfolding shape_sound shape_nodes_known shape_paths_earlier filled paths_of_shape all
sound_blind nodes paths = record { blind = same; ors = λ p. refl }
  where
    same : (r : ShapeRule) (p q : ℕ) → shape_sound nodes paths (filled r p q) ≡ shape_sound nodes paths r
    same Top p q = refl
    same (Node a) p q = refl
    same (And _ _) p q = refl
    same (Or _ _) p q = refl
    same (Not _) p q = refl
    same (Same _ _) p q = refl
    same (All _ _) p q = refl
    same (AtLeast _ _ _) p q = refl

pub byte_blind : Blind shape_byte
unfolding filled
byte_blind = record { blind = same; ors = λ p. refl }
  where
    same : (r : ShapeRule) (p q : ℕ) → shape_byte (filled r p q) ≡ shape_byte r
    same Top p q = refl
    same (Node a) p q = refl
    same (And _ _) p q = refl
    same (Or _ _) p q = refl
    same (Not _) p q = refl
    same (Same _ _) p q = refl
    same (All _ _) p q = refl
    same (AtLeast _ _ _) p q = refl

-- ---- The head of a part

-- the rule of a row passes 5, 6 and 7, and its least number is one byte if the first operand is
pub record RowShows (nodes paths : ℕ) (part : List ℕ) (row : Row) : Type 0 where
  pub sound : shape_sound nodes paths (shape_rule_of row) ≡ true
  pub byte : ltb (get_or part 1 0) 256 ≡ true → shape_byte (shape_rule_of row) ≡ true

-- so many bytes are there
pub record Takes (part : List ℕ) (width : ℕ) : Type 0 where
  pub some : 1 ≤ width
  pub there : width ≤ length part

unfoldable pub HeadShows : ℕ → ℕ → List ℕ → Head → Type 0
HeadShows nodes paths part (Refused n) = is_reading_number n ≡ true
HeadShows nodes paths part (Name s w) = Takes part w
HeadShows nodes paths part (Alone row w) = RowShows nodes paths part row × Takes part w × (references (shape_rule_of row) ≡ [])
HeadShows nodes paths part (One row w) = RowShows nodes paths part row × Takes part w
HeadShows nodes paths part (Two row w) = RowShows nodes paths part row × Takes part w
HeadShows nodes paths part (AtMost row w) = RowShows nodes paths part row × Takes part w

module _ (nodes paths : ℕ) (part : List ℕ) where
  unless_shows : (ok : Bool) (n : ℕ) (h : Head) → is_reading_number n ≡ true → (ok ≡ true → HeadShows nodes paths part h)
      → HeadShows nodes paths part (open_unless ok n h)
  unfolding HeadShows
  unless_shows true n h r f = f refl
  unless_shows false n h r f = r

  -- a row of its kind: a rule with no inner part refers to nothing, and a least number is the first operand, of one byte
  record OfKind (kind : ℕ) (row : Row) : Type 0 where
    alone : eqb kind 1 ≡ true → references (shape_rule_of row) ≡ []
    byte : ltb (get_or part 1 0) 256 ≡ true → shape_byte (shape_rule_of row) ≡ true

  opening_shows : (kind : ℕ) (row : Row) (w : ℕ) → OfKind kind row → RowShows nodes paths part row → Takes part w → HeadShows nodes paths part (opening kind row w)
  unfolding opening HeadShows
  opening_shows kind row w o r t =
      by_test (eqb kind 1) (λ e. rw e (r, t, o.alone e)) (λ e. rw e (by_test (eqb kind 2) (λ d. rw d (r, t)) (λ d. rw d (r, t))))

  rule_shows : (kind : ℕ) (row : Row) (w : ℕ) → OfKind kind row → Takes part w → HeadShows nodes paths part (rule_head nodes paths kind row w)
  unfolding rule_head shape_sound
  rule_shows kind row w o t =
      let r = shape_rule_of row in
      unless_shows (shape_nodes_known nodes r) 5 _ refl
      (λ five. unless_shows (shape_paths_earlier paths r) 6 _ refl
      (λ six. unless_shows (shape_least_positive r) 7 _ refl
      (λ seven. opening_shows kind row w o (record { sound = rw (five, six, seven); byte = o.byte }) t)))

  most_shows : (row : Row) (w : ℕ) → Takes part w → HeadShows nodes paths part (at_most_head paths row w)
  unfolding at_most_head HeadShows shape_sound shape_rule_of shape_nodes_known shape_paths_earlier paths_of_shape all
  most_shows row w t =
      unless_shows (ltb row.2 paths) 6 _ refl
      (λ six. unless_shows (ltb row.1 255) 7 _ refl
      (λ seven. (record { sound = rw (six, le-leb 1 (row.1 + 1) (omega arith)); byte = λ b. lt-ltb (row.1 + 1) 256 (omega (arith, tests)) }, t)))

  -- the row that is read of a byte, if its kind and widths are f
  record OfFormat (b : ℕ) (f : Format) : Type 0 where
    fits : OfKind f.0 (b, number_at part 1 f.1, number_at part (1 + f.1) f.2, number_at part (1 + f.1 + f.2) f.3)

  choose : (b n : ℕ) (x y : Format) → OfFormat n x → OfFormat b y → OfFormat b (cond (eqb b n) x y)
  choose b n x y h k = by_test (eqb b n) (λ e. rw e (rw (eqb-true b n e) h)) (λ e. rw e k)

  none_byte : (b : ℕ) → shape_byte (shape_rule_of (b, 0, 0, 0)) ≡ true
  unfolding shape_rule_of
  none_byte b =
      by_test (eqb b 0x20) (λ e. rw e) (λ e. rw e
      (by_test (eqb b 0x21) (λ e. rw e) (λ e. rw e
      (by_test (eqb b 0x22) (λ e. rw e) (λ e. rw e
      (by_test (eqb b 0x23) (λ e. rw e) (λ e. rw e
      (by_test (eqb b 0x24) (λ e. rw e) (λ e. rw e
      (by_test (eqb b 0x25) (λ e. rw e) (λ e. rw e
      (by_test (eqb b 0x26) (λ e. rw e) (λ e. rw e)))))))))))))

  format_fits : (b : ℕ) → OfFormat b (part_format_of b)
  unfolding part_format_of shape_rule_of number_at references
  format_fits b =
      choose b 0x20 _ _ (record { fits = record { alone = λ e. refl; byte = λ h. refl } })
      (choose b 0x21 _ _ (record { fits = record { alone = λ e. refl; byte = λ h. refl } })
      (choose b 0x22 _ _ (record { fits = record { alone = λ e. absurd (false≢true e); byte = λ h. refl } })
      (choose b 0x23 _ _ (record { fits = record { alone = λ e. absurd (false≢true e); byte = λ h. refl } })
      (choose b 0x24 _ _ (record { fits = record { alone = λ e. absurd (false≢true e); byte = λ h. refl } })
      (choose b 0x25 _ _ (record { fits = record { alone = λ e. refl; byte = λ h. refl } })
      (choose b 0x26 _ _ (record { fits = record { alone = λ e. absurd (false≢true e); byte = λ h. refl } })
      (choose b 0x27 _ _ (record { fits = record { alone = λ e. absurd (false≢true e); byte = λ h. h } })
      (choose b 0x29 _ _ (record { fits = record { alone = λ e. absurd (false≢true e); byte = λ h. h } })
      (choose b 0x2a _ _ (record { fits = record { alone = λ e. absurd (false≢true e); byte = λ h. h } })
      (record { fits = record { alone = λ e. absurd (false≢true e); byte = λ h. none_byte b } }))))))))))

  complete_shows : (f : Format) (row : Row) → OfKind f.0 row → Takes part (width_by f) → HeadShows nodes paths part (whole_head nodes paths f (Some row))
  unfolding whole_head HeadShows
  complete_shows f row o t =
      by_test (eqb f.0 4) (λ e. rw e t)
      (λ e. rw e (by_test (eqb f.0 5) (λ d. rw d (most_shows row (width_by f) t)) (λ d. rw d (rule_shows f.0 row (width_by f) o t))))

  cut_shows : (f : Format) → HeadShows nodes paths part (whole_head nodes paths f None)
  unfolding whole_head HeadShows
  cut_shows f = refl

  whole_shows : (f : Format) → OfKind f.0 (row_by f part) → HeadShows nodes paths part (whole_head nodes paths f (operands_by f part))
  unfolding operands_by
  whole_shows f o =
      by_test (leb (width_by f) (length part))
      (λ e. rw e (complete_shows f (row_by f part) o (record { some = omega arith; there = leb-true (width_by f) (length part) e })))
      (λ e. rw e (cut_shows f))

  pub head_shows : HeadShows nodes paths part (head_at nodes paths part)
  unfolding head_at head_by
  head_shows =
      let b = get_or part 0 0 in
      unless_shows (ltb 0 (length part)) 3 _ refl
      (λ _. unless_shows (ltb 0 (part_format_of b).0) 1 _ refl
      (λ _. whole_shows (part_format_of b) (format_fits b).fits))

-- ---- The whole part

pub record PartShows (nodes paths : ℕ) (s : List ℕ) (at : ℕ) (x : Part) (next : ℕ) : Type 0 where
  pub sound : ruled (shape_sound nodes paths) x ≡ true
  pub byte : all s (λ b. ltb b 256) ≡ true → ruled shape_byte x ≡ true
  pub onward : at < next
  pub within : next ≤ length s

unfoldable pub ReadShows : ℕ → ℕ → List ℕ → ℕ → PartRead → Type 0
ReadShows nodes paths s at (PartFault n) = is_reading_number n ≡ true
ReadShows nodes paths s at (PartIs x next) = PartShows nodes paths s at x next

pub bytes_at : (s : List ℕ) (i : ℕ) → all s (λ b. ltb b 256) ≡ true → ltb (get_or s i 0) 256 ≡ true
unfolding all
bytes_at [] i h = refl
bytes_at (x ∷ s) zero h = ((and-eq-true_iff (ltb x 256) (all s (λ b. ltb b 256))).0 h).0
bytes_at (x ∷ s) (suc i) h = bytes_at s i ((and-eq-true_iff (ltb x 256) (all s (λ b. ltb b 256))).0 h).1

module _ (nodes paths : ℕ) (s : List ℕ) where
  takes_within : (at w : ℕ) → Takes (drop at s) w → at + w ≤ length s
  takes_within at w t = omega (arith, length-drop at s)

  -- a rule of the row that stands at an offset
  row_byte : (at : ℕ) (row : Row) → RowShows nodes paths (drop at s) row → all s (λ b. ltb b 256) ≡ true → shape_byte (shape_rule_of row) ≡ true
  row_byte at row r b = r.byte (rw (get_or-drop at s 1 0) (bytes_at s (at + 1) b))

  then_shows : (at from : ℕ) (r : PartRead) (f : Part → ℕ → PartRead) → ReadShows nodes paths s from r
      → ((x : Part) (next : ℕ) → PartShows nodes paths s from x next → ReadShows nodes paths s at (f x next)) → ReadShows nodes paths s at (and_then r f)
  unfolding ReadShows and_then
  then_shows at from (PartFault n) f h g = h
  then_shows at from (PartIs x next) f h g = g x next h

  not_sound : shape_sound nodes paths (Not (record { 0 = 0 })) ≡ true
  unfolding shape_sound shape_nodes_known shape_paths_earlier paths_of_shape all
  not_sound = refl

  opened_shows : (inner : ℕ → PartRead) → ((at : ℕ) → ReadShows nodes paths s at (inner at)) → (at : ℕ) (h : Head) → HeadShows nodes paths (drop at s) h
      → ReadShows nodes paths s at (opened inner at h)
  unfolding ReadShows HeadShows opened ruled
  opened_shows inner ih at (Refused n) h = h
  opened_shows inner ih at (Name q w) h = record { sound = refl; byte = λ b. refl; onward = omega arith; within = takes_within at w h }
  opened_shows inner ih at (Alone row w) h =
      record { sound = h.0.sound; byte = row_byte at row h.0; onward = omega (arith, h.1); within = takes_within at w h.1 }
  opened_shows inner ih at (One row w) h =
      then_shows at (at + w) (inner (at + w)) _ (ih (at + w))
      (λ x next i. record {
        sound = rw h.0.sound i.sound;
        byte = λ b. rw (row_byte at row h.0 b) (i.byte b);
        onward = omega (arith, i.onward);
        within = i.within;
      })
  opened_shows inner ih at (Two row w) h =
      then_shows at (at + w) (inner (at + w)) _ (ih (at + w))
      (λ x next i. then_shows at next (inner next) _ (ih next)
      (λ y end j. record {
        sound = rw (h.0.sound, i.sound) j.sound;
        byte = λ b. rw (row_byte at row h.0 b, i.byte b) (j.byte b);
        onward = omega (arith, i.onward, j.onward);
        within = j.within;
      }))
  opened_shows inner ih at (AtMost row w) h =
      then_shows at (at + w) (inner (at + w)) _ (ih (at + w))
      (λ x next i. record {
        sound = rw (not_sound, h.0.sound) i.sound;
        byte = λ b. rw (row_byte at row h.0 b) (i.byte b);
        onward = omega (arith, i.onward);
        within = i.within;
      })

  pub part_shows : (depth at : ℕ) → ReadShows nodes paths s at (part_at depth nodes paths s at)
  unfolding part_at ReadShows
  part_shows zero at = refl
  part_shows (suc depth) at = opened_shows (part_at depth nodes paths s) (part_shows depth) at (head_at nodes paths (drop at s)) (head_shows nodes paths (drop at s))
