-- Private.
-- What the code reads of the parts of a fact, with commas between them and the end of the line after the last one.
-- Nothing here has to be believed.
use Rattle.std.specs.Prelude.{ℕ, List, Option, Some, option_and_then}
use Rattle.certificate.specs.Parse.{Read, read_last, read_next}

infixl 10 ◌>>=◌
abbrev ◌>>=◌ : {A B : Type 0} → Option A → (A → Option B) → Option B
o >>= f = option_and_then f o

unfoldable pub read_two : {A B : Type 0} → (List ℕ → Read A) → (List ℕ → Read B) → List ℕ → Read (A × B)
read_two a b s = do
  first ← read_next a s
  second ← read_last b first.1
  Some ((first.0, second.0), second.1)

unfoldable pub read_three : {A B C : Type 0} → (List ℕ → Read A) → (List ℕ → Read B) → (List ℕ → Read C) → List ℕ → Read (A × B × C)
read_three a b c s = do
  first ← read_next a s
  others ← read_two b c first.1
  Some ((first.0, others.0.0, others.0.1), others.1)

unfoldable pub read_four : {A B C D : Type 0} → (List ℕ → Read A) → (List ℕ → Read B) → (List ℕ → Read C) → (List ℕ → Read D) → List ℕ → Read (A × B × C × D)
read_four a b c d s = do
  first ← read_next a s
  others ← read_three b c d first.1
  Some ((first.0, others.0.0, others.0.1, others.0.2), others.1)

unfoldable pub read_five : {A B C D E : Type 0} → (List ℕ → Read A) → (List ℕ → Read B) → (List ℕ → Read C) → (List ℕ → Read D) → (List ℕ → Read E) → List ℕ
    → Read (A × B × C × D × E)
read_five a b c d e s = do
  first ← read_next a s
  others ← read_four b c d e first.1
  Some ((first.0, others.0.0, others.0.1, others.0.2, others.0.3), others.1)

unfoldable pub read_six : {A B C D E F : Type 0} → (List ℕ → Read A) → (List ℕ → Read B) → (List ℕ → Read C) → (List ℕ → Read D) → (List ℕ → Read E) → (List ℕ → Read F)
    → List ℕ → Read (A × B × C × D × E × F)
read_six a b c d e f s = do
  first ← read_next a s
  others ← read_five b c d e f first.1
  Some ((first.0, others.0.0, others.0.1, others.0.2, others.0.3, others.0.4), others.1)
