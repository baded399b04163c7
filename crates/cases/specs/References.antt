-- What a rule names as an answer, its shape operands and its path operands: what each case of the answer says, and what steps over it come to.
-- Assumes nothing.
use Rattle.std.specs.Prelude.{ℕ, List, [], ◌∷◌, ◌≡◌}
use Rattle.cases.specs.declared.few.Few.{Few}
use Rattle.cases.specs.declared.few.Few.TheVariants.{No, One, Two}
use Rattle.cases.specs.declared.numbers.Path.{Path}
use Rattle.cases.specs.declared.numbers.Shape.{Shape}

-- the shapes that each case has, in the order of the operands; how many they are is the list's length
abbrev pub listed : Few Shape → List ℕ
listed No = []
listed (One s) = s.0 ∷ []
listed (Two s t) = s.0 ∷ t.0 ∷ []

-- the paths that each case has
abbrev pub listed_paths : Few Path → List ℕ
listed_paths No = []
listed_paths (One p) = p.0 ∷ []
listed_paths (Two p q) = p.0 ∷ q.0 ∷ []

-- a step may be taken for each operand, in order, whatever the steps before it came to
abbrev pub FewCallable : {S A : Type 0} → (S → A → Type 0) → (S → A → S → Type 0) → S → Few A → Type 0
FewCallable pre post s No = Unit {0}
FewCallable pre post s (One a) = pre s a
FewCallable pre post s (Two a b) = pre s a × ((t : _) → post s a t → pre t b)

-- what these steps come to
abbrev pub FewFolded : {S A : Type 0} → (S → A → S → Type 0) → S → Few A → S → Type 0
FewFolded post s No r = r ≡ s
FewFolded post s (One a) r = post s a r
FewFolded post s (Two a b) r = (t : _) × (post s a t × post t b r)
