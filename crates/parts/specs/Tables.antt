-- The rules in a table of rows, and shapes noted in another. No part of document 01. Assumes nothing.
use Rattle.std.specs.Prelude.{ℕ, ◌+◌, ◌*◌, ◌≤◌, ◌≡◌, List, ◌++◌, map, length, get_or}
use Rattle.fixpoint.specs.Lists.{up_to}
use Rattle.cases.specs.declared.command.ShapeRule.{ShapeRule}
use Rattle.cases.specs.Format.{shape_rule_of}
use Rattle.cases.specs.Reading.{Note, named_at}
use Rattle.cases.specs.Rows.{row_in}

-- the rules that the first n rows of a table say
unfoldable pub rules_in : List ℕ → ℕ → List ShapeRule
rules_in t n = map (λ i. shape_rule_of (row_in t i)) (up_to n)

-- noted shapes, two numbers each: the shape and the offset of its command
unfoldable pub named_in : List ℕ → ℕ → List Note
named_in t n = map (λ i. record { shape = get_or t (2 * i) 0; place = get_or t (2 * i + 1) 0 }) (up_to n)

pub record NoteRoom (shapes : List ℕ) (n : ℕ) (t : List ℕ) : Type 0 where
  pub fits : 2 * (n + length shapes) ≤ length t

-- shapes named at a place were noted behind the first n
pub record Noted (shapes : List ℕ) (place n : ℕ) (t : List ℕ) (n' : ℕ) (t' : List ℕ) : Type 0 where
  pub counted : n' ≡ n + length shapes
  pub noted : named_in t' n' ≡ named_in t n ++ named_at place shapes
  pub long : length t' ≡ length t
