-- Private.
-- Texts that are kept, as lists of bytes. Nothing here has to be believed.
use Rattle.std.specs.Prelude.{◌≡◌, ℕ, true, false, Bool, List, [], ◌∷◌, ◌++◌, slice_get, unwrap_or}

-- the text of a number, from 0, or no bytes
abbrev pub text_at : List (List ℕ) → ℕ → List ℕ
text_at texts n = unwrap_or (slice_get texts n) []

-- one more text: all are kept, if all were kept before it, and it is the last of them; or those before it stay as they
-- were
pub record KeepsText (was_whole : Bool) (before : List (List ℕ)) (text : List ℕ) (is_whole : Bool) (after : List (List ℕ)) : Type 0 where
  pub whole : is_whole ≡ true → (was_whole ≡ true) × (after ≡ before ++ text ∷ [])
  pub stay : is_whole ≡ false → after ≡ before
