-- Bytes taken piece by piece.
use Rattle.std.proofs.Common.{◌≡◌, ℕ, ◌+◌, List, ◌++◌, take, drop, Option, Some, None, append_assoc}
use Rattle.std.proofs.Math.Seq.{take-add}
use Rattle.outside.specs.Told.{Takes}

-- the first i bytes were taken, then n more
pub takes_more : (text : List ℕ) (i n : ℕ) (before mid after : Option (List ℕ)) → Takes before (take i text) mid → Takes mid (take n (drop i text)) after → Takes before (take (i + n) text) after
takes_more text i n None None after h k = k
takes_more text i n None (Some m) after h k = cc
takes_more text i n (Some b) None after h k = cc
takes_more text i n (Some b) (Some m) after h k =
    let same : m ≡ b ++ take i text = cc in
    rw (take-add i n text, ← append_assoc, ← same) k
