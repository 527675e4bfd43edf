-- Private.
-- What a store in memory holds.
use Rattle.std.specs.Prelude.{ℕ, List, [], Option, Some, option_map, unwrap_or, Vec, String}
use Rattle.std.specs.BTreeMap.{BTreeMap, get_by_text}
use Rattle.std.specs.declared.alloc.Global.{Global}

-- the bytes at a name, where there are such
abbrev pub held : BTreeMap (String Global) (Vec ℕ Global) → List ℕ → Option (List ℕ)
held files name = option_map (λ v. v.items) (get_by_text files name)

-- the same, and an empty file at every other name
abbrev pub held_or_empty : BTreeMap (String Global) (Vec ℕ Global) → List ℕ → Option (List ℕ)
held_or_empty files name = Some (unwrap_or (held files name) [])
