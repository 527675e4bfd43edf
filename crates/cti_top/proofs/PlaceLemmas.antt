-- The bytes before a place.
use Rattle.std.proofs.Common.{◌≡◌, ℕ, min, List, length, take}
use Rattle.std.proofs.lemmas.List.{take_min}

pub up_to : (at : ℕ) (text : List ℕ) → take (min at (length text)) text ≡ take at text
up_to at text = take_min at text
