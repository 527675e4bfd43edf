-- To believe, for the command.
-- The lines of a text, and the first of them that is not a fact.
--
-- To believe: all of this file.
use Rattle.std.specs.Prelude.{◌≡◌, ℕ, suc, ◌==◌, List, [], ◌∷◌, ◌++◌, length, if◌then◌else◌}
use Rattle.std.specs.List.{AllByRecursion}
use Rattle.certificate.specs.declared.fact.Fact.{Fact}
use Rattle.certificate.specs.Range.{InRange}
use Rattle.certificate.specs.Text.{fact_text}

-- a byte in front of the first line
abbrev pub in_front : ℕ → List (List ℕ) → List (List ℕ)
in_front b [] = (b ∷ []) ∷ []
in_front b (l ∷ ls) = (b ∷ l) ∷ ls

-- the lines of a text, each with the newline that ends it; the last may have none
abbrev pub lines : List ℕ → List (List ℕ)
lines [] = []
lines (b ∷ bs) = if b == 10 then (b ∷ []) ∷ lines bs else in_front b (lines bs)

-- the line is the text of a fact in range
abbrev pub IsFactLine : List ℕ → Type 0
IsFactLine line = (f : Fact) × InRange f × (line ≡ fact_text f)

-- the line of this number, counted from 1, is the first that is not a fact
pub record IsFirstWrong (text : List ℕ) (number : ℕ) : Type 0 where
  pub before : List (List ℕ)
  pub line : List ℕ
  pub after : List (List ℕ)
  pub whole : lines text ≡ before ++ line ∷ after
  pub right : AllByRecursion IsFactLine before
  pub wrong : IsFactLine line → ⊥
  pub counted : number ≡ suc (length before)
