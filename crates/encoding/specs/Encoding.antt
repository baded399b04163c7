-- A case written as bytes, under a profile, so that reading gives it back. Document 01, "A case, command by command"; document 02, point 8.
-- Assumes nothing.
use Rattle.std.specs.Prelude.{ℕ, ◌+◌, ◌/◌, ◌%◌, ◌≡◌, true, cond, List, [], ◌∷◌, eqb, ltb}
use Rattle.fixpoint.specs.Lists.{all}
use Rattle.cases.specs.declared.command.Edge.{Edge}
use Rattle.cases.specs.declared.command.PathRule.{PathRule}
use Rattle.cases.specs.declared.command.PathRule.TheVariants.{Forward, Backward, Union, Sequence, Star}
use Rattle.cases.specs.declared.command.ShapeRule.{ShapeRule}
use Rattle.cases.specs.declared.command.ShapeRule.TheVariants.{Top, Node, And, Or, Not, Same, All, AtLeast}
use Rattle.cases.specs.declared.command.Target.{Target}
use Rattle.cases.specs.Faults.{Refusal, no_refusal}
use Rattle.cases.specs.Case.{Case}
use Rattle.cases.specs.Reading.{Outcome, profile_of, outcome}
use Rattle.cases.specs.Sound.{Sound, Limited, OneByteEach, Recorded}

-- a u16: two bytes, low byte first
abbrev pub two_bytes : ℕ → List ℕ → List ℕ
two_bytes x l = x % 256 ∷ x / 256 ∷ l

-- each command, before the bytes that follow it
unfoldable pub encode_edge : Edge → List ℕ → List ℕ
encode_edge e l = e.code ∷ e.property.0 ∷ two_bytes e.subject.0 (two_bytes e.object.0 l)

unfoldable pub encode_path : PathRule → List ℕ → List ℕ
encode_path (Forward p) l = 0x10 ∷ p.0 ∷ l
encode_path (Backward p) l = 0x11 ∷ p.0 ∷ l
encode_path (Union p q) l = 0x12 ∷ p.0 ∷ q.0 ∷ l
encode_path (Sequence p q) l = 0x13 ∷ p.0 ∷ q.0 ∷ l
encode_path (Star p) l = 0x14 ∷ p.0 ∷ l

unfoldable pub encode_shape : ShapeRule → List ℕ → List ℕ
encode_shape Top l = 0x20 ∷ l
encode_shape (Node a) l = 0x21 ∷ two_bytes a.0 l
encode_shape (And s t) l = 0x22 ∷ s.0 ∷ t.0 ∷ l
encode_shape (Or s t) l = 0x23 ∷ s.0 ∷ t.0 ∷ l
encode_shape (Not s) l = 0x24 ∷ s.0 ∷ l
encode_shape (Same p q) l = 0x25 ∷ p.0 ∷ q.0 ∷ l
encode_shape (All p s) l = 0x26 ∷ p.0 ∷ s.0 ∷ l
encode_shape (AtLeast n p s) l = 0x27 ∷ n ∷ p.0 ∷ s.0 ∷ l

unfoldable pub encode_target : Target → List ℕ → List ℕ
encode_target t l = 0x30 ∷ t.shape.0 ∷ two_bytes t.node.0 l

module _ {A : Type 0} where
  -- commands one after another
  unfoldable pub encode_all : (A → List ℕ → List ℕ) → List A → List ℕ → List ℕ
  encode_all f [] l = l
  encode_all f (x ∷ xs) l = f x (encode_all f xs l)

-- 01 first, then edges, paths, shapes, targets, FF last
unfoldable pub encode_case : Case → List ℕ
encode_case c =
    0x01 ∷ two_bytes c.nodes
    (encode_all encode_edge c.edges
    (encode_all encode_path c.paths
    (encode_all encode_shape c.shapes
    (encode_all encode_target c.targets
    (0xff ∷ [])))))

-- 00 before them
unfoldable pub encode : ℕ → Case → List ℕ
encode profile c = 0x00 ∷ profile ∷ encode_case c

-- a refusal behind two bytes more
unfoldable pub later : Refusal → Refusal
later r = record { number = r.number; place = cond (eqb r.number 0) r.place (2 + r.place) }

-- the cases that can be written so, under a profile
pub record Writable (profile : ℕ) (c : Case) : Type 0 where
  pub sound : Sound c
  pub limited : Limited profile c
  pub one_byte : OneByteEach c
  pub recorded : Recorded c

-- some bytes read as the case, under the profile
pub record Readable (profile : ℕ) (c : Case) : Type 0 where
  pub bytes : List ℕ
  pub are_bytes : all bytes (λ b. ltb b 256) ≡ true
  pub under : profile_of bytes ≡ profile
  pub reads : ◌≡◌ {A = Outcome} (outcome bytes) (record { refusal = no_refusal; case = c })
