-- To believe, for the modes.
-- The recursive component that a predicate is the first member of.
--
-- To believe: all of this file.
use Rattle.std.specs.Prelude.{◌==◌, ◌&&◌, ℕ, if◌then◌else◌, slice_get, Option, None}
use Rattle.call_components.specs.Partition.{Partition}
use Rattle.cert_structure.specs.Shape.{first_of, is_recursive}

-- the recursive component that a predicate is the first member of
abbrev pub led_by : Partition → ℕ → Option ℕ
led_by comps q = if is_recursive comps q && (first_of comps q == q) then slice_get comps.of q else None
