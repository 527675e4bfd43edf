-- Private.
-- Which facts a text has, for facts of any kind, and which of its lines is the first that is none.
--
-- To believe: all of this file, over `lines` of `certificate`.
use Rattle.std.specs.Prelude.{◌≡◌, ℕ, suc, ◌≤◌, List, ◌∷◌, ◌++◌, length, flat_map}
use Rattle.std.specs.List.{AllByRecursion}
use Rattle.certificate.specs.Lines.{lines}
use Rattle.certificate.specs.Reading.{most_bytes}

-- the text is within its limit, and that of these facts, which are in range
pub record AreFactsOf {F : Type 0} (shown : F → List ℕ) (fits : F → Type 0) (text : List ℕ) (facts : List F) : Type 0 where
  pub short : length text ≤ most_bytes
  pub in_range : AllByRecursion fits facts
  pub is : text ≡ flat_map shown facts

-- the line is the text of a fact in range
abbrev pub IsFactLine : {F : Type 0} → (F → List ℕ) → (F → Type 0) → List ℕ → Type 0
IsFactLine {F} shown fits line = (f : F) × fits f × (line ≡ shown f)

-- the line of this number, counted from 1, is the first that is not a fact
pub record IsFirstOther {F : Type 0} (shown : F → List ℕ) (fits : F → Type 0) (text : List ℕ) (number : ℕ) : Type 0 where
  pub before : List (List ℕ)
  pub line : List ℕ
  pub after : List (List ℕ)
  pub whole : lines text ≡ before ++ line ∷ after
  pub right : AllByRecursion (IsFactLine shown fits) before
  pub wrong : IsFactLine shown fits line → ⊥
  pub counted : number ≡ suc (length before)
