-- To believe, for the command.
-- What contracts see of the contents of a store of files and of a sink.
use Rattle.std.specs.Prelude.{ℕ, ◌≡◌, ◌<◌, ◌≤◌, List, ◌++◌, length, take, Option, Some, None}

-- the bytes at each name, where contracts see them
abbrev pub Map : Type 0
Map = Option (List ℕ → Option (List ℕ))

-- the map has these bytes at the name, where contracts see it
abbrev pub TellsAt : Map → List ℕ → List ℕ → Type 0
TellsAt None name bytes = Unit {0}
TellsAt (Some files) name bytes = files name ≡ Some bytes

-- the map has more bytes than that at the name, where contracts see it
abbrev pub TellsMore : Map → List ℕ → ℕ → Type 0
TellsMore None name most = Unit {0}
TellsMore (Some files) name most = (bytes : List ℕ) × (files name ≡ Some bytes) × (most < length bytes)

-- these were added to the bytes taken, where contracts see them
abbrev pub Takes : Option (List ℕ) → List ℕ → Option (List ℕ) → Type 0
Takes None added after = after ≡ None
Takes (Some before) added after = after ≡ Some (before ++ added)

-- a proper prefix of the text was added to the bytes taken, where contracts see them
abbrev pub TakesPart : Option (List ℕ) → List ℕ → Option (List ℕ) → Type 0
TakesPart None text after = after ≡ None
TakesPart (Some before) text after = (n : ℕ) × (n < length text) × (after ≡ Some (before ++ take n text))

-- a store has the same map after a call as before it, and no name's count of faults has fallen
pub record Keeps (told after : Map) (faults later : List ℕ → ℕ) : Type 0 where
  pub map : after ≡ told
  pub counts : (name : List ℕ) → faults name ≤ later name
