-- Private.
-- How the parts are read: fact by fact, from the front, up to the first wrong one. Nothing here has to be believed.
use Rattle.std.specs.Prelude.{◌≡◌, ℕ, zero, suc, ◌+◌, ℤ, pos, negsuc, Bool, true, false, ◌&&◌, ◌||◌, ◌==◌, ◌-◌, nat_eq, nat_lt, nat_le, if◌then◌else◌, List, [], ◌∷◌, ◌++◌, map, length, Option, None, Some, option_map, Result, Ok, Err}
use Rattle.std.specs.Ordering.{int_eq}
use Rattle.std.specs.List.{list_all, prefix_len}
use Rattle.std.specs.Cmp.Lexicographic.{pointwise}
use Rattle.bool_diagrams.specs.declared.cube.Cell.{Cell}
use Rattle.bool_diagrams.specs.declared.cube.Cell.TheVariants as side
use Rattle.call_components.specs.Partition.{Partition}
use Rattle.certificate.specs.declared.cell.CertCell.{CertCell}
use Rattle.certificate.specs.declared.cell.CertCell.TheVariants as cell
use Rattle.certificate.specs.declared.norm.CertNorm.{CertNorm}
use Rattle.certificate.specs.declared.pred_text.PredText.{PredText}
use Rattle.certificate.specs.declared.fact.Fact.{Fact}
use Rattle.certificate.specs.declared.fact.Fact.TheVariants as fact
use Rattle.certificate.specs.Range.{most_127}
use Rattle.cti_terms.specs.declared.atom_list.Atom.{Atom}
use Rattle.cti_terms.specs.Listing.{Listing, numbered}
use Rattle.linear_rows.specs.declared.multipliers.Multipliers.{Multipliers}
use Rattle.linear_rows.specs.declared.row.Row.{Row}
use Rattle.linear_rows.specs.declared.row.Rows.{Rows}
use Rattle.number_tests.specs.declared.level_part.LevelPart.{LevelPart}
use Rattle.linear_rows.specs.declared.point.Point.{Point}
use Rattle.number_tests.specs.declared.pair_point.PairPoint.{PairPoint}
use Rattle.number_tests.specs.declared.refutation.Refutation.{Refutation}
use Rattle.cert_structure.specs.declared.parts.Parts.{Parts}
use Rattle.fact_reading.specs.declared.stop.StructureReason.TheVariants as reason
use Rattle.cert_structure.specs.declared.named.Named.{Named}
use Rattle.cert_structure.specs.declared.pair.Pair.{Pair}
use Rattle.cert_structure.specs.declared.points.FirstPoint.{FirstPoint}
use Rattle.fact_reading.specs.declared.stop.FactFault.{FactFault}
use Rattle.fact_reading.specs.declared.stop.FactFault.TheVariants as fault
use Rattle.fact_reading.specs.declared.stop.Stop.{Stop}
use Rattle.fact_reading.specs.declared.stop.Stop.TheVariants as stop
use Rattle.fact_reading.specs.Walk.{◌>>=◌, Wrong, Read, Taken, result_map, wrong_at, with_first, read_each, read_next, read_many}
use Rattle.cert_structure.specs.Order.{pred_text, is_note}
use Rattle.cert_structure.specs.SharedFacts.{Shared, shared}
use Rattle.cert_structure.specs.SharedFacts as says
use Rattle.cert_structure.specs.Shape.{arity_in, head_of, body_of, vars_of, rows_of, rows_of_atoms, items_of, is_recursive, first_of, proofs_of_call, is_pair}

-- the code took an item of a right shape
abbrev pub AgreesKept : {A : Type 0} → Result A FactFault → Taken A → Type 0
AgreesKept (Ok x) o = o ≡ Some (Some x)
AgreesKept (Err fault.Shape) o = o ≡ None
AgreesKept (Err fault.Memory) o = Unit {0}

-- the code read the parts, and notes after them
abbrev pub AgreesWhole : Result Parts Stop → Result Parts Wrong → Type 0
AgreesWhole (Ok parts) o = o ≡ Ok parts
AgreesWhole (Err (stop.Wrong left why)) o = o ≡ Err (left, why)
AgreesWhole (Err stop.Memory) o = Unit {0}

-- a predicate of the code, as a fact has it
abbrev pub named : Named → PredText
named n = record { name = n.name.now; arity = n.arity }

-- a pair of the code
abbrev pub pair_end : Pair → ℕ × ℕ
pair_end q = (q.clause, q.call)

-- an item, where its shape is right
abbrev pub kept : {A : Type 0} → Bool → A → Taken A
kept right x = if right then Some (Some x) else None

-- what is taken of a fact at its place
abbrev pub at_place : {A : Type 0} → Bool → Taken A → Taken A
at_place here taken = if here then taken else Some None

abbrev pub same_pred : PredText → PredText → Bool
same_pred q r = pointwise nat_eq q.name r.name && (q.arity == r.arity)

abbrev pub is_amount : ℤ → Bool
is_amount (pos n) = nat_le n most_127
is_amount (negsuc n) = false

abbrev pub is_entry : ℤ → Bool
is_entry (pos n) = nat_le n most_127
is_entry (negsuc n) = nat_lt n most_127

abbrev pub are_amounts : List ℤ → Bool
are_amounts zs = list_all is_amount zs

abbrev pub are_entries : List ℤ → Bool
are_entries zs = list_all is_entry zs

-- each number is above the one before it, and at most the arity
abbrev pub is_mode : ℕ → ℕ → List ℕ → Bool
is_mode arity last [] = true
is_mode arity last (a ∷ more) = (nat_lt last a && nat_le a arity) && is_mode arity a more

abbrev pub cell_read : CertCell → Cell
cell_read cell.Zero = side.Zero
cell_read cell.One = side.One
cell_read cell.Any = side.Any

unfoldable pub shared_modes : PredText → ℕ → Shared → Taken (List (List ℕ))
shared_modes pred i (says.modes q modes) = at_place (same_pred q pred) (kept (list_all (is_mode pred.arity 0) modes) modes)
shared_modes pred i _ = Some None

abbrev pub take_modes : PredText → ℕ → Fact → Taken (List (List ℕ))
take_modes pred i f = shared_modes pred i (shared f)

abbrev pub row_read : ℕ → List ℤ → Taken Row
row_read arity [] = None
row_read arity (b ∷ bs) = kept ((length bs == arity) && (is_entry b && are_entries bs)) (record { constant = b; coeffs = bs })

unfoldable pub shared_row : PredText → ℕ → Shared → Taken Row
shared_row pred i (says.row q index row) = at_place (same_pred q pred && (index == suc i)) (row_read pred.arity row)
shared_row pred i _ = Some None

abbrev pub take_row : PredText → ℕ → Fact → Taken Row
take_row pred i f = shared_row pred i (shared f)

abbrev pub multipliers_read : ℕ → ℤ → List ℤ → Taken Multipliers
multipliers_read rows scale list = kept ((length list == rows) && (is_amount scale && are_amounts list)) (record { scale = scale; list = list })

unfoldable pub shared_proof : ℕ → ℕ → ℕ → Shared → Taken Multipliers
shared_proof k rows i (says.proof clause index scale list) = at_place ((clause == suc k) && (index == suc i)) (multipliers_read rows scale list)
shared_proof k rows i _ = Some None

abbrev pub take_proof : ℕ → ℕ → ℕ → Fact → Taken Multipliers
take_proof k rows i f = shared_proof k rows i (shared f)

abbrev pub cube_read : ℕ → List CertCell → Taken (List Cell)
cube_read arity cells = kept (length cells == arity) (map cell_read cells)

unfoldable pub shared_ground : PredText → ℕ → Shared → Taken (List Cell)
shared_ground pred i (says.ground q index cells) = at_place (same_pred q pred && (index == suc i)) (cube_read pred.arity cells)
shared_ground pred i _ = Some None

abbrev pub take_ground : PredText → ℕ → Fact → Taken (List Cell)
take_ground pred i f = shared_ground pred i (shared f)

abbrev pub level_read : ℕ → List ℤ → ℤ → Taken LevelPart
level_read arity coeffs offset = kept ((length coeffs == arity) && (are_amounts coeffs && is_amount offset)) (record { coeffs = coeffs; offset = offset })

unfoldable pub take_level : PredText → ℕ → Fact → Taken LevelPart
take_level pred i (fact.Measure q mapping coeffs offset) = at_place (same_pred q pred && (mapping == suc i)) (level_read pred.arity coeffs offset)
take_level pred i _ = Some None

unfoldable pub take_fall : ℕ → ℕ → ℕ → ℕ → Fact → Taken Multipliers
take_fall k j rows m (fact.Falls clause call mapping scale list) =
    at_place ((clause == suc k) && ((call == suc j) && (mapping == suc m))) (multipliers_read rows scale list)
take_fall k j rows m _ = Some None

unfoldable pub shared_pre : PredText → ℕ → ℕ → Shared → Taken (List Cell)
shared_pre pred m i (says.pre q mapping index cells) = at_place (same_pred q pred && ((mapping == suc m) && (index == suc i))) (cube_read pred.arity cells)
shared_pre pred m i _ = Some None

abbrev pub take_pre : PredText → ℕ → ℕ → Fact → Taken (List Cell)
take_pre pred m i f = shared_pre pred m i (shared f)

-- the number of points that a refutation of the predicate has
unfoldable pub shared_refuted : PredText → ℕ → Shared → Taken ℕ
shared_refuted pred i (says.refuted q points) = at_place (same_pred q pred) (kept (nat_le 1 points) points)
shared_refuted pred i _ = Some None

abbrev pub take_refuted : PredText → ℕ → Fact → Taken ℕ
take_refuted pred i f = shared_refuted pred i (shared f)

abbrev pub point_read : ℕ → ℤ → List ℤ → Taken Point
point_read vars t w = kept ((length w == vars) && (is_amount t && are_amounts w)) (record { t = t; w = w })

-- whether the second pair comes after the first
abbrev pub is_before : ℕ × ℕ → ℕ × ℕ → Bool
is_before q r = nat_lt q.0 r.0 || ((q.0 == r.0) && nat_lt q.1 r.1)

-- a pair with its first point
abbrev pub paired : ℕ → ℕ → Taken Point → Taken FirstPoint
paired clause call o = option_map (option_map (λ x. record { pair = record { clause = clause; call = call }; point = x })) o

unfoldable pub take_point : Listing → Partition → ℕ → ℕ × ℕ → ℕ → Fact → Taken FirstPoint
take_point p comps a last i (fact.Point clause call t w) =
    at_place (is_pair p comps a clause call && is_before last (clause, call)) (paired clause call (point_read (vars_of (numbered p.clauses clause)) t w))
take_point p comps a last i _ = Some None

unfoldable pub take_second : ℕ × ℕ → ℕ → ℕ → Fact → Taken Point
take_second pair vars i (fact.At clause call t w) =
    at_place ((clause == pair.0) && (call == pair.1)) (if int_eq t (pos 0) then None else point_read vars t w)
take_second pair vars i _ = Some None

abbrev pub pair_point : FirstPoint → Option Point → PairPoint
pair_point x at = record { clause = x.pair.clause; call = x.pair.call; point = x.point; at = at }

-- a point and, where its t is 0, the second one
unfoldable pub read_second : Listing → FirstPoint → List Fact → Read Fact PairPoint
read_second p x s =
    if int_eq x.point.t (pos 0)
    then result_map (λ y. (pair_point x (Some y.0), y.1)) (read_next (take_second (pair_end x.pair) (vars_of (numbered p.clauses x.pair.clause))) 0 s)
    else Ok (pair_point x None, s)

unfoldable pub read_point : Listing → Partition → ℕ → ℕ × ℕ → List Fact → Read Fact PairPoint
read_point p comps a last s = read_next (take_point p comps a last) 0 s >>= λ x. read_second p x.0 x.1

-- how the next pair with its points is read, after another pair
abbrev pub ReadsPoint : Type 0 → Type 0
ReadsPoint F = ℕ × ℕ → List F → Read F PairPoint

unfoldable pub read_points : {F : Type 0} → ReadsPoint F → ℕ × ℕ → ℕ → List F → Read F (List PairPoint)
read_points point last zero s = Ok ([], s)
read_points point last (suc n) s = point last s >>= λ x. result_map (with_first x.0) (read_points point (x.0.clause, x.0.call) n x.1)

-- the points that a fact begins
abbrev pub points_read : {F : Type 0} → (ℕ → Read F (List PairPoint)) → F → List F → Taken ℕ → Read F (Option Refutation)
points_read points f s None = wrong_at (f ∷ s) reason.Shape
points_read points f s (Some None) = Ok (None, f ∷ s)
points_read points f s (Some (Some n)) = result_map (λ x. (Some (record { points = x.0 }), x.1)) (points n)

-- whether the predicate is the first one of a recursive component without mappings, or without lists
abbrev pub is_open : {A : Type 0} → Partition → List (List A) → ℕ → Bool
is_open comps levels a = is_recursive comps a && ((first_of comps a == a) && (length (items_of levels a) == 0))

-- readers of facts of which only this is asked: what they say, where both kinds of certificates have such facts
module _ {F : Type 0} (look : F → Shared) where
  unfoldable pub modes_by : Listing → List (List ℕ) → ℕ → List F → Read F (List (List ℕ))
  modes_by p names a s = read_next (λ i f. shared_modes (pred_text p names a) i (look f)) 0 s

  unfoldable pub rows_by : Listing → List (List ℕ) → ℕ → List F → Read F Rows
  rows_by p names a s =
      result_map (λ x. (record { width = arity_in p a; list = x.0 }, x.1)) (read_many (λ i f. shared_row (pred_text p names a) i (look f)) 0 s)

  unfoldable pub proofs_by : Listing → List Rows → ℕ → List F → Read F (List Multipliers)
  proofs_by p rows k s = read_each (read_next (λ i f. shared_proof k (rows_of_atoms rows (body_of p k)) i (look f))) 0 (rows_of rows (head_of p k)) s

  unfoldable pub grounds_by : Listing → List (List ℕ) → ℕ → List F → Read F (List (List Cell))
  grounds_by p names a s = read_many (λ i f. shared_ground (pred_text p names a) i (look f)) 0 s

  unfoldable pub cubes_by : Listing → List (List ℕ) → ℕ → ℕ → List F → Read F (List (List Cell))
  cubes_by p names a m s = read_many (λ i f. shared_pre (pred_text p names a) m i (look f)) 0 s

  -- one precondition for each mapping of a predicate, or for each list
  unfoldable pub pre_by : {A : Type 0} → Listing → List (List ℕ) → List (List A) → ℕ → List F → Read F (List (List (List Cell)))
  pre_by p names levels a s = read_each (cubes_by p names a) 0 (length (items_of levels a)) s

  -- the points that the first fact begins, if it begins those of a predicate
  unfoldable pub group_by : ReadsPoint F → PredText → List F → Read F (Option Refutation)
  group_by point pred [] = Ok (None, [])
  group_by point pred (f ∷ s) = points_read (λ n. read_points point (0, 0) n s) f s (shared_refuted pred 0 (look f))

  unfoldable pub refutation_by : {A : Type 0} → ReadsPoint F → Listing → List (List ℕ) → Partition → List (List A) → ℕ → List F → Read F (Option Refutation)
  refutation_by point p names comps levels a s = if is_open comps levels a then group_by point (pred_text p names a) s else Ok (None, s)

abbrev pub read_modes : Listing → List (List ℕ) → ℕ → List Fact → Read Fact (List (List ℕ))
read_modes p names a s = modes_by shared p names a s

abbrev pub read_rows : Listing → List (List ℕ) → ℕ → List Fact → Read Fact Rows
read_rows p names a s = rows_by shared p names a s

abbrev pub read_proofs : Listing → List Rows → ℕ → List Fact → Read Fact (List Multipliers)
read_proofs p rows k s = proofs_by shared p rows k s

abbrev pub read_grounds : Listing → List (List ℕ) → ℕ → List Fact → Read Fact (List (List Cell))
read_grounds p names a s = grounds_by shared p names a s

-- the levels of a predicate, given those of the predicates before it
unfoldable pub read_level : Listing → List (List ℕ) → Partition → List (List LevelPart) → ℕ → List Fact → Read Fact (List LevelPart)
read_level p names comps earlier a s =
    if is_recursive comps a
    then if first_of comps a == a
    then read_many (take_level (pred_text p names a)) 0 s
    else read_each (read_next (take_level (pred_text p names a))) 0 (length (items_of earlier (first_of comps a))) s
    else read_each (read_next (take_level (pred_text p names a))) 0 1 s

unfoldable pub read_levels : Listing → List (List ℕ) → Partition → List (List LevelPart) → ℕ → ℕ → List Fact → Read Fact (List (List LevelPart))
read_levels p names comps earlier a zero s = Ok (earlier, s)
read_levels p names comps earlier a (suc n) s =
    read_level p names comps earlier a s >>= λ x. read_levels p names comps (earlier ++ x.0 ∷ []) (suc a) n x.1

-- the proofs for a call, where the atoms before it have the given number of rows
unfoldable pub read_call : Partition → List (List LevelPart) → ℕ → ℕ → ℕ → ℕ → Option Atom → List Fact → Read Fact (List Multipliers)
read_call comps levels head k j rows call s = read_each (read_next (take_fall k j rows)) 0 (proofs_of_call comps levels head call) s

unfoldable pub read_calls : Partition → List Rows → List (List LevelPart) → ℕ → ℕ → ℕ → ℕ → List Atom → List Fact → Read Fact (List (List Multipliers))
read_calls comps rows levels head k j before [] s = Ok ([], s)
read_calls comps rows levels head k j before (b ∷ bs) s =
    read_call comps levels head k j before (Some b) s
    >>= λ x. result_map (with_first x.0) (read_calls comps rows levels head k (suc j) (before + rows_of rows b.pred.0) bs x.1)

unfoldable pub read_falls : Listing → Partition → List Rows → List (List LevelPart) → ℕ → List Fact → Read Fact (List (List Multipliers))
read_falls p comps rows levels k s = read_calls comps rows levels (head_of p k) k 0 0 (body_of p k) s

abbrev pub read_cubes : Listing → List (List ℕ) → ℕ → ℕ → List Fact → Read Fact (List (List Cell))
read_cubes p names a m s = cubes_by shared p names a m s

abbrev pub read_pre : Listing → List (List ℕ) → List (List LevelPart) → ℕ → List Fact → Read Fact (List (List (List Cell)))
read_pre p names levels a s = pre_by shared p names levels a s

abbrev pub read_group : Listing → List (List ℕ) → Partition → ℕ → List Fact → Read Fact (Option Refutation)
read_group p names comps a s = group_by shared (read_point p comps a) (pred_text p names a) s

abbrev pub read_refutation : Listing → List (List ℕ) → Partition → List (List LevelPart) → ℕ → List Fact → Read Fact (Option Refutation)
read_refutation p names comps levels a s = refutation_by shared (read_point p comps a) p names comps levels a s

unfoldable pub take_norm : ℕ → Fact → Taken CertNorm
take_norm i (fact.Norm norm) = Some (Some norm)
take_norm i _ = Some None

abbrev pub named_norm : List Fact → Read Fact (Option CertNorm)
named_norm s = result_map (λ x. (Some x.0, x.1)) (read_next take_norm 0 s)

-- the norm that follows a version, which is 1 or 2 as the tests say
abbrev pub by_version : ℤ → Bool → Bool → List Fact → Read Fact (Option CertNorm)
by_version version one two s = if one then Ok (None, s) else if two then named_norm s else wrong_at (fact.Cti version ∷ s) reason.Version

-- the norm that the facts name in front, and the facts after it
unfoldable pub read_head : List Fact → Read Fact (Option CertNorm)
read_head [] = wrong_at {F = Fact} [] reason.Missing
read_head (fact.Cti version ∷ s) = by_version version (int_eq version (pos 1)) (int_eq version (pos 2)) s
read_head (f ∷ s) = wrong_at (f ∷ s) reason.Extra

-- the parts of this norm, and the notes after them
unfoldable pub read_sections : Listing → List (List ℕ) → Partition → Option CertNorm → List Fact → Read Fact Parts
read_sections p names comps norm s = do
  modes ← read_each (read_modes p names) 0 (length p.preds) s
  rows ← read_each (read_rows p names) 0 (length p.preds) modes.1
  proofs ← read_each (read_proofs p rows.0) 0 (length p.clauses) rows.1
  grounds ← read_each (read_grounds p names) 0 (length p.preds) proofs.1
  levels ← read_levels p names comps [] 0 (length p.preds) grounds.1
  falls ← read_each (read_falls p comps rows.0 levels.0) 0 (length p.clauses) levels.1
  cubes ← read_each (read_pre p names levels.0) 0 (length p.preds) falls.1
  refutations ← read_each (read_refutation p names comps levels.0) 0 (length p.preds) cubes.1
  Ok (record { norm = norm; modes = modes.0; rows = rows.0; row_proofs = proofs.0; grounds = grounds.0; levels = levels.0; falls = falls.0; preconditions = cubes.0; refutations = refutations.0 }, refutations.1)

-- all parts, and the notes after them
unfoldable pub read_parts : Listing → List (List ℕ) → Partition → List Fact → Read Fact Parts
read_parts p names comps s = read_head s >>= λ x. read_sections p names comps x.0 x.1

-- the parts, where all of the facts after them are notes
abbrev pub with_notes : Parts × List Fact → Result Parts Wrong
with_notes x = if nat_lt (prefix_len is_note x.1) (length x.1) then Err (length x.1 - prefix_len is_note x.1, reason.Extra) else Ok x.0

unfoldable pub read_whole : Listing → List (List ℕ) → Partition → List Fact → Result Parts Wrong
read_whole p names comps s = read_parts p names comps s >>= with_notes
