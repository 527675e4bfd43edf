-- Private.
-- To believe, for the modes by measures with numbers.
-- Lists as mappings: what preconditions and modes see of a list is at which arguments some measure of it has a number.
--
-- To believe: all of this file, where preconditions and modes of lists are spoken of.
use Rattle.std.specs.Prelude.{ℕ, ◌+◌, ℤ, pos, Bool, not, if◌then◌else◌, List, [], ◌∷◌, map, take, drop, zip, None}
use Rattle.std.specs.List.{list_any}
use Rattle.std.specs.Ordering.{int_eq}
use Rattle.cert_structure.specs.declared.parts.Parts.{Parts}
use Rattle.number_tests.specs.declared.level_part.LevelPart.{LevelPart}
use Rattle.prove_certificate.specs.declared.kind.CertKind.{CertKind}
use Rattle.prove_parts.specs.Shape.{columns}
use Rattle.prove_parts.specs.declared.parts.ProveParts.{ProveParts}

-- whether a number is not 0, whatever its sign
abbrev pub is_other : ℤ → Bool
is_other x = not (int_eq x (pos 0))

-- whether some measure has such a number at n columns, of which this is the first one
abbrev pub is_measured : ℕ → ℕ → List LevelPart → Bool
is_measured column n ls = list_any (λ l. list_any is_other (take n (drop column l.coeffs))) ls

-- 1 for each argument at which some measure has such a number, and else 0; the first argument begins at this column
abbrev pub marks_from : ℕ → List CertKind → List LevelPart → List ℤ
marks_from column [] ls = []
marks_from column (k ∷ ks) ls = (if is_measured column (columns k) ls then pos 1 else pos 0) ∷ marks_from (column + columns k) ks ls

-- a part whose coefficients are positive at the arguments that a list measures
abbrev pub union_part : List CertKind → List LevelPart → LevelPart
union_part kinds ls = record { coeffs = marks_from 0 kinds ls; offset = pos 0 }

-- such a part for each list of each predicate
abbrev pub flat_levels : List (List CertKind) → List (List (List LevelPart)) → List (List LevelPart)
flat_levels kinds lists = map (λ x. map (union_part x.0) x.1) (zip kinds lists)

-- the parts that modes rest on, with one mapping for each list
abbrev pub flat : ProveParts → Parts
flat parts = record {
  norm = None;
  modes = parts.modes;
  rows = [];
  row_proofs = [];
  grounds = parts.grounds;
  levels = flat_levels parts.kinds parts.lists;
  falls = [];
  preconditions = parts.preconditions;
  refutations = [];
}

-- the other parts, when these have been moved out
abbrev pub without_sets : ProveParts → ProveParts
without_sets parts = record {
  modes = [];
  kinds = parts.kinds;
  fails = parts.fails;
  rows = parts.rows;
  row_proofs = parts.row_proofs;
  grounds = [];
  lists = parts.lists;
  drops = parts.drops;
  floors = parts.floors;
  preconditions = [];
  stuck = parts.stuck;
}
