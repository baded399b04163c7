-- What the rows of fillers answer, and by them a rule at a node. Assumes nothing.
use Prim.Native.Nat.{ℕ, ◌+◌, ◌*◌, ◌≤◌, ◌<◌}
use native.Mathlib.Omega.{arith}
use mathlib.Core.Path.{◌≡◌, sym, ap, ap₂, ◌∙◌}
use mathlib.Core.Bool.{Bool, true, false, not, ◌&&◌, ◌||◌, beq}
use mathlib.Core.List.{List}
use lib.Dec.{leb, ltb}
use borrow.Author.Tests.{lt-ltb, le-ltb}
use Rattle.fixpoint.specs.Lists.{up_to, all, count}
use Rattle.fixpoint.proofs.Lists.{all_keep, count_keep}
use Rattle.bitset.specs.Words.{member}
use Rattle.cases.specs.Counts.{words_of}
use Rattle.cases.specs.Rows.{case_in}
use Rattle.cases.specs.declared.command.ShapeRule.TheVariants.{Same, All, AtLeast}
use Rattle.cases.specs.declared.counts.Counts.{Counts}
use Rattle.cases.specs.declared.numbers.Path.{Path}
use Rattle.cases.specs.declared.numbers.Shape.{Shape}
use Rattle.fillers.specs.CaseTables.{Tables}
use Rattle.fillers.specs.NodeSets.{names_path}
use Rattle.pairs.specs.Sets.{holds_in}
use Rattle.semantics.specs.Paths.{fills, fillers, same_fillers}
use Rattle.semantics.specs.Stability.{holds}
use Rattle.cases.specs.declared.ruled.Ruled.{Ruled}
use Rattle.support.specs.Rules.{RuleIn}
use Rattle.fixpoint.proofs.Below.{all_narrow, count_narrow}
use Rattle.support.proofs.RulesThere.{same_first_named, same_second_named, all_path_named, least_path_named}

-- ---- The rows of fillers

module _ {counts : Counts} {rows sets : List ℕ} (t : Tables counts rows sets) {a : ℕ} (h : a < counts.nodes) where
  module _ (p : ℕ) (named : names_path (case_in counts rows) p ≡ true) where
    -- the filler row of p at a
    abbrev filler : ℕ → Bool
    filler b = member sets (words_of counts) (1 + p * counts.nodes + a) b

    pub row_holds : (b : ℕ) → b < 64 * words_of counts → filler b ≡ (ltb b counts.nodes && fills (case_in counts rows) p a b)
    row_holds b l =
        ap (λ m. member sets (words_of counts) (1 + p * m + a) b) (sym t.nodes)
        ∙ t.fillers.members p a b named (omega (arith, t.nodes)) l
        ∙ ap (λ m. ltb b m && fills (case_in counts rows) p a b) t.nodes

    row_low : (b : ℕ) → b < counts.nodes → filler b ≡ fills (case_in counts rows) p a b
    row_low b l = row_holds b (omega (arith, t.wide)) ∙ ap (λ z. z && fills (case_in counts rows) p a b) (lt-ltb b counts.nodes l)

    row_high : (b : ℕ) → counts.nodes ≤ b → b < 64 * words_of counts → filler b ≡ false
    row_high b l m = row_holds b m ∙ ap (λ z. z && fills (case_in counts rows) p a b) (le-ltb b counts.nodes l)

    pub fillers_all : (Y : ℕ → Bool) → all (up_to (64 * words_of counts)) (λ b. not (filler b) || Y b) ≡ all (fillers (case_in counts rows) p a) Y
    unfolding fillers
    fillers_all Y =
        let c = case_in counts rows in
        all_narrow (64 * words_of counts) counts.nodes (λ b. not (filler b) || Y b) (λ b. not (fills c p a b) || Y b) t.wide
        (λ b l. ap (λ z. not z || Y b) (row_low b l))
        (λ b l m. ap (λ z. not z || Y b) (row_high b l m))
        ∙ ap (λ m. all (up_to m) (λ b. not (fills c p a b) || Y b)) (sym t.nodes)
        ∙ sym (all_keep (up_to c.nodes) (fills c p a) Y)

    pub fillers_counted : (Y : ℕ → Bool) → count (up_to (64 * words_of counts)) (λ b. filler b && Y b) ≡ count (fillers (case_in counts rows) p a) Y
    unfolding fillers
    fillers_counted Y =
        let c = case_in counts rows in
        count_narrow (64 * words_of counts) counts.nodes (λ b. filler b && Y b) (λ b. fills c p a b && Y b) t.wide
        (λ b l. ap (λ z. z && Y b) (row_low b l))
        (λ b l m. ap (λ z. z && Y b) (row_high b l m))
        ∙ ap (λ m. count (up_to m) (λ b. fills c p a b && Y b)) (sym t.nodes)
        ∙ sym (count_keep (up_to c.nodes) (fills c p a) Y)

  fillers_same : (p q : ℕ) → names_path (case_in counts rows) p ≡ true → names_path (case_in counts rows) q ≡ true
      → all (up_to (64 * words_of counts)) (λ b. beq (member sets (words_of counts) (1 + p * counts.nodes + a) b) (member sets (words_of counts) (1 + q * counts.nodes + a) b))
      ≡ same_fillers (case_in counts rows) p q a
  unfolding same_fillers
  fillers_same p q hp hq =
      let c = case_in counts rows in
      all_narrow (64 * words_of counts) counts.nodes _ (λ b. beq (fills c p a b) (fills c q a b)) t.wide
      (λ b l. ap₂ beq (row_low p hp b l) (row_low q hq b l))
      (λ b l m. ap₂ beq (row_high p hp b l m) (row_high q hq b l m))
      ∙ ap (λ m. all (up_to m) (λ b. beq (fills c p a b) (fills c q a b))) (sym t.nodes)

-- ---- A rule at a node: what its test answers

pub record RuleHolds (of : Ruled) (a : ℕ) (sets y x : List ℕ) (answer : Bool) : Type 0 where
  pub right : (counts : Counts) (rows : List ℕ) → RuleIn counts rows sets of → answer ≡ holds_in (case_in counts rows) of.rule of.size y x a

module _ {of : Ruled} {a : ℕ} {sets : List ℕ} (h : a < of.size.nodes) where
  pub holds_same : {y x : List ℕ} {p q : Path} {m n : ℕ} {b : Bool} → of.rule ≡ Same p q → m ≡ 1 + p.0 * of.size.nodes + a → n ≡ 1 + q.0 * of.size.nodes + a
      → b ≡ all (up_to (64 * of.size.words)) (λ b. beq (member sets of.size.words m b) (member sets of.size.words n b)) → RuleHolds of a sets y x b
  unfolding holds
  holds_same {p = p} {q} e k l g = record {
    right = λ counts rows i.
        g
        ∙ rw (k, l, e, i.size_is)
        (fillers_same i.tables (rw i.size_is at h) p.0 q.0 (same_first_named i e) (same_second_named i e));
  }

  module _ {p : Path} {s : Shape} {m : ℕ} (k : m ≡ 1 + p.0 * of.size.nodes + a) {y x : List ℕ} where
    pub holds_all : {b : Bool} → of.rule ≡ All p s
        → b ≡ all (up_to (64 * of.size.words)) (λ b. not (member sets of.size.words m b) || member y of.size.words s.0 b) → RuleHolds of a sets y x b
    unfolding holds
    holds_all e g = record {
      right = λ counts rows i.
          g
          ∙ rw (k, e, i.size_is)
          (fillers_all i.tables (rw i.size_is at h) p.0 (all_path_named i e) (member y (words_of counts) s.0));
    }

    pub holds_least : {n u : ℕ} → of.rule ≡ AtLeast n p s
        → u ≡ count (up_to (64 * of.size.words)) (λ b. member sets of.size.words m b && member y of.size.words s.0 b) → RuleHolds of a sets y x (leb n u)
    unfolding holds
    holds_least {n} e g = record {
      right = λ counts rows i.
          ap (leb n) g
          ∙ rw (k, e, i.size_is)
          (ap (leb n) (fillers_counted i.tables (rw i.size_is at h) p.0 (least_path_named i e) (member y (words_of counts) s.0)));
    }
