-- Lemmas on names at the front of a text.
use Rattle.std.proofs.Common.{◌≡◌, ℕ, true, false, Bool, List, Some, None, refl}
use Rattle.std.proofs.lemmas.Str.{IsUtf8-from_is_utf8, is_utf8-from_IsUtf8}
use Rattle.std.specs.Prelude.{codes}
use Rattle.std.specs.Str.{IsUtf8, is_utf8}
use Rattle.certificate.specs.Parse.{kept, after, read_quoted, read_name}

-- a name in UTF-8
pub name_kept : (s t name : List ℕ) → read_quoted (after (codes "'") s) s ≡ Some (name, t) → IsUtf8 name → read_name s ≡ Some (name, t)
unfolding read_name
name_kept s t name read valid = rw (read, is_utf8-from_IsUtf8 name valid) refl

-- and one that is not
pub name_refused : (s t name : List ℕ) → read_quoted (after (codes "'") s) s ≡ Some (name, t) → ¬ (IsUtf8 name) → read_name s ≡ None
unfolding read_name
name_refused s t name read bad = rw read (go (is_utf8 name) refl)
  where
    go : (b : Bool) → is_utf8 name ≡ b → kept is_utf8 (Some (name, t)) ≡ None
    go true e = absurd (bad (IsUtf8-from_is_utf8 name e))
    go false e = rw e refl
