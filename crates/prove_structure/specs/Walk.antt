-- Private.
-- How the parts are read: fact by fact, from the front. Nothing here has to be believed.
use Rattle.std.specs.Prelude.{ℕ, zero, suc, ◌+◌, ◌*◌, ℤ, pos, Bool, true, false, ◌&&◌, ◌==◌, nat_le, if◌then◌else◌, List, [], ◌∷◌, ◌++◌, length, Option, None, Some, option_map, Ok, Err}
use Rattle.std.specs.Ordering.{int_eq}
use Rattle.std.specs.List.{list_all}
use Rattle.bool_diagrams.specs.declared.cube.Cell.{Cell}
use Rattle.call_components.specs.Partition.{Partition}
use Rattle.cert_structure.specs.Order.{pred_text}
use Rattle.cert_structure.specs.Shape.{head_of, body_of, vars_of, rows_of, items_of, is_recursive, first_of, is_pair}
use Rattle.cert_structure.specs.Walk.{kept, at_place, same_pred, is_before, is_open, is_entry, are_entries, row_read, multipliers_read, point_read, modes_by, proofs_by, grounds_by, pre_by}
use Rattle.certificate.specs.declared.pred_text.PredText.{PredText}
use Rattle.cti_terms.specs.declared.atom_list.Atom.{Atom}
use Rattle.cti_terms.specs.Listing.{Listing, numbered}
use Rattle.fact_reading.specs.declared.stop.StructureReason.TheVariants as reason
use Rattle.fact_reading.specs.Walk.{◌>>=◌, Read, Taken, result_map, wrong_at, with_first, read_each, read_next, read_many}
use Rattle.lex_certificate.specs.Shape.{lists_of_call}
use Rattle.linear_rows.specs.declared.multipliers.Multipliers.{Multipliers}
use Rattle.linear_rows.specs.declared.point.Point.{Point}
use Rattle.linear_rows.specs.declared.row.Row.{Row}
use Rattle.linear_rows.specs.declared.row.Rows.{Rows}
use Rattle.number_tests.specs.declared.level_part.LevelPart.{LevelPart}
use Rattle.prove_certificate.specs.declared.fact.ProveFact.{ProveFact}
use Rattle.prove_certificate.specs.declared.fact.ProveFact.TheVariants as fact
use Rattle.prove_certificate.specs.SharedFacts.{shared}
use Rattle.prove_certificate.specs.declared.kind.CertKind.{CertKind}
use Rattle.prove_parts.specs.Order.{is_note}
use Rattle.prove_parts.specs.Shape.{columns_in, is_among, pair_of_group, pair_of_point, same_pair}
use Rattle.prove_parts.specs.declared.parts.ProveParts.{ProveParts}
use Rattle.prove_parts.specs.declared.stuck.GroupPoint.{GroupPoint}
use Rattle.prove_parts.specs.declared.stuck.StuckGroup.{StuckGroup}
use Rattle.prove_parts.specs.declared.stuck.StuckSet.{StuckSet}

-- the version of the format, which is 1
unfoldable pub take_version : ℕ → ProveFact → Taken ℤ
take_version i (fact.Ctiprove version) = kept (int_eq version (pos 1)) version
take_version i _ = Some None

unfoldable pub take_kinds : PredText → ℕ → ProveFact → Taken (List CertKind)
take_kinds pred i (fact.Kinds q kinds) = at_place (same_pred q pred) (kept ((length kinds == pred.arity) && nat_le pred.arity 12) kinds)
take_kinds pred i _ = Some None

abbrev pub read_kinds : Listing → List (List ℕ) → ℕ → List ProveFact → Read ProveFact (List CertKind)
read_kinds p names a s = read_next (take_kinds (pred_text p names a)) 0 s

-- whether it is said that a predicate fails
unfoldable pub is_fails : PredText → ProveFact → Bool
is_fails pred (fact.Fails q) = same_pred q pred
is_fails pred _ = false

unfoldable pub read_fails : Listing → List (List ℕ) → ℕ → List ProveFact → Read ProveFact Bool
read_fails p names a [] = Ok (false, [])
read_fails p names a (f ∷ s) = if is_fails (pred_text p names a) f then Ok (true, s) else Ok (false, f ∷ s)

unfoldable pub take_row : PredText → ℕ → ℕ → ProveFact → Taken Row
take_row pred width i (fact.Size q index row) = at_place (same_pred q pred && (index == suc i)) (row_read width row)
take_row pred width i _ = Some None

-- a width in 32 bits, or the greatest number of 32 bits
abbrev pub narrow : ℕ → ℕ
narrow n = if nat_le n 4294967295 then n else 4294967295

unfoldable pub read_rows : Listing → List (List ℕ) → List (List CertKind) → ℕ → List ProveFact → Read ProveFact Rows
read_rows p names kinds a s =
    result_map (λ x. (record { width = narrow (columns_in kinds a); list = x.0 }, x.1)) (read_many (take_row (pred_text p names a) (columns_in kinds a)) 0 s)

-- a number for each column and an offset, whatever their signs
abbrev pub measure_read : ℕ → List ℤ → ℤ → Taken LevelPart
measure_read width coeffs offset = kept ((length coeffs == width) && (is_entry offset && are_entries coeffs)) (record { coeffs = coeffs; offset = offset })

-- measure i of list m
unfoldable pub take_level : PredText → ℕ → ℕ → ℕ → ProveFact → Taken LevelPart
take_level pred width m i (fact.Level q list index coeffs offset) =
    at_place (same_pred q pred && ((list == suc m) && (index == suc i))) (measure_read width coeffs offset)
take_level pred width m i _ = Some None

unfoldable pub take_drop : ℕ → ℕ → ℕ → ℕ → ℕ → ProveFact → Taken Multipliers
take_drop k j rows m i (fact.Drops clause call list index scale numbers) =
    at_place ((clause == suc k) && ((call == suc j) && ((list == suc m) && (index == suc i)))) (multipliers_read rows scale numbers)
take_drop k j rows m i _ = Some None

unfoldable pub take_bound : ℕ → ℕ → ℕ → ℕ → ProveFact → Taken Multipliers
take_bound k j rows m (fact.Floors clause call list scale numbers) =
    at_place ((clause == suc k) && ((call == suc j) && (list == suc m))) (multipliers_read rows scale numbers)
take_bound k j rows m _ = Some None

-- the pair of a group
unfoldable pub take_group : Listing → Partition → ℕ → ℕ × ℕ → ℕ → ProveFact → Taken (ℕ × ℕ)
take_group p comps a last i (fact.Group clause call) = at_place (is_pair p comps a clause call && is_before last (clause, call)) (Some (Some (clause, call)))
take_group p comps a last i _ = Some None

-- how many values the variables of a clause have
abbrev pub values_of : Listing → ℕ → ℕ
values_of p clause = vars_of (numbered p.clauses clause) * 3

abbrev pub group_point : ℕ → ℕ → Point → GroupPoint
group_point clause call x = record { clause = clause; call = call; point = x }

-- a point of one of these pairs, after another pair
unfoldable pub take_point : Listing → List (ℕ × ℕ) → ℕ × ℕ → ProveFact → Taken GroupPoint
take_point p pairs last (fact.Point clause call t w) =
    at_place (is_among pairs (clause, call) && is_before last (clause, call)) (option_map (option_map (group_point clause call)) (point_read (values_of p clause) t w))
take_point p pairs last _ = Some None

-- the floor of a pair
unfoldable pub take_floor : Listing → ℕ × ℕ → ProveFact → Taken Point
take_floor p pair (fact.Floor clause call t w) = at_place (same_pair pair (clause, call)) (point_read (values_of p clause) t w)
take_floor p pair _ = Some None

abbrev pub read_modes : Listing → List (List ℕ) → ℕ → List ProveFact → Read ProveFact (List (List ℕ))
read_modes p names a s = modes_by shared p names a s

abbrev pub read_proofs : Listing → List Rows → ℕ → List ProveFact → Read ProveFact (List Multipliers)
read_proofs p rows k s = proofs_by shared p rows k s

abbrev pub read_grounds : Listing → List (List ℕ) → ℕ → List ProveFact → Read ProveFact (List (List Cell))
read_grounds p names a s = grounds_by shared p names a s

-- a list and those after it, where it has a measure
abbrev pub more_lists : (List ProveFact → Read ProveFact (List (List LevelPart))) → List LevelPart → List ProveFact → Read ProveFact (List (List LevelPart))
more_lists more [] s = Ok ([], s)
more_lists more (l ∷ ls) s = result_map (with_first (l ∷ ls)) (more s)

-- the lists from number m on, as long as there is a first measure; that many at most
unfoldable pub read_lists : PredText → ℕ → ℕ → ℕ → List ProveFact → Read ProveFact (List (List LevelPart))
read_lists pred width m zero s = Ok ([], s)
read_lists pred width m (suc n) s = read_many (take_level pred width m) 0 s >>= λ x. more_lists (λ t. read_lists pred width (suc m) n t) x.0 x.1

-- as many lists as another predicate has, each with as many measures
unfoldable pub read_like : PredText → ℕ → List (List LevelPart) → List ProveFact → Read ProveFact (List (List LevelPart))
read_like pred width like s = read_each (λ m t. read_each (read_next (take_level pred width m)) 0 (length (items_of like m)) t) 0 (length like) s

-- one list of one measure
unfoldable pub read_one : PredText → ℕ → List ProveFact → Read ProveFact (List (List LevelPart))
read_one pred width s = result_map (λ x. (x.0 ∷ [], x.1)) (read_each (read_next (take_level pred width 0)) 0 1 s)

-- the lists of a predicate, given those of the predicates before it
unfoldable pub read_own : Listing → List (List ℕ) → Partition → List (List CertKind) → List (List (List LevelPart)) → ℕ → List ProveFact → Read ProveFact (List (List LevelPart))
read_own p names comps kinds earlier a s =
    if is_recursive comps a
    then if first_of comps a == a
    then read_lists (pred_text p names a) (columns_in kinds a) 0 (length s) s
    else read_like (pred_text p names a) (columns_in kinds a) (items_of earlier (first_of comps a)) s
    else read_one (pred_text p names a) (columns_in kinds a) s

unfoldable pub read_levels : Listing → List (List ℕ) → Partition → List (List CertKind) → List (List (List LevelPart)) → ℕ → ℕ → List ProveFact → Read ProveFact (List (List (List LevelPart)))
read_levels p names comps kinds earlier a zero s = Ok (earlier, s)
read_levels p names comps kinds earlier a (suc n) s =
    read_own p names comps kinds earlier a s >>= λ x. read_levels p names comps kinds (earlier ++ x.0 ∷ []) (suc a) n x.1

-- from 1 up to n items
abbrev pub up_to : {A : Type 0} → ℕ → List A × List ProveFact → Read ProveFact (List A)
up_to n x = if nat_le 1 (length x.0) && nat_le (length x.0) n then Ok x else wrong_at x.1 reason.Extra

-- the proofs for a call and a list of n measures
unfoldable pub read_place : ℕ → ℕ → ℕ → ℕ → ℕ → List ProveFact → Read ProveFact (List Multipliers)
read_place k j rows m n s = read_many (take_drop k j rows m) 0 s >>= up_to n

-- the proofs for a call, where the atoms before it have the given number of rows, and it has to drop in these lists
unfoldable pub read_call : ℕ → ℕ → ℕ → List (List LevelPart) → List ProveFact → Read ProveFact (List (List Multipliers))
read_call k j rows own s = read_each (λ m t. read_place k j rows m (length (items_of own m)) t) 0 (length own) s

-- the proofs of the bound for a call, one for each of these lists
unfoldable pub read_bounds : ℕ → ℕ → ℕ → List (List LevelPart) → List ProveFact → Read ProveFact (List Multipliers)
read_bounds k j rows own s = read_each (read_next (take_bound k j rows)) 0 (length own) s

-- what is read for the calls of a body, where each call is read in this way
module _ {A : Type 0} (read : ℕ → ℕ → ℕ → List (List LevelPart) → List ProveFact → Read ProveFact A) where
  unfoldable pub read_calls : Partition → List Rows → List (List (List LevelPart)) → ℕ → ℕ → ℕ → ℕ → List Atom → List ProveFact → Read ProveFact (List A)
  read_calls comps rows lists head k j before [] s = Ok ([], s)
  read_calls comps rows lists head k j before (b ∷ bs) s =
      read k j before (lists_of_call comps lists head (Some b)) s
      >>= λ x. result_map (with_first x.0) (read_calls comps rows lists head k (suc j) (before + rows_of rows b.pred.0) bs x.1)

  unfoldable pub read_clause : Listing → Partition → List Rows → List (List (List LevelPart)) → ℕ → List ProveFact → Read ProveFact (List A)
  read_clause p comps rows lists k s = read_calls comps rows lists (head_of p k) k 0 0 (body_of p k) s

abbrev pub read_drops : Listing → Partition → List Rows → List (List (List LevelPart)) → ℕ → List ProveFact → Read ProveFact (List (List (List Multipliers)))
read_drops p comps rows lists k s = read_clause read_call p comps rows lists k s

abbrev pub read_floors : Listing → Partition → List Rows → List (List (List LevelPart)) → ℕ → List ProveFact → Read ProveFact (List (List Multipliers))
read_floors p comps rows lists k s = read_clause read_bounds p comps rows lists k s

abbrev pub read_pre : Listing → List (List ℕ) → List (List (List LevelPart)) → ℕ → List ProveFact → Read ProveFact (List (List (List Cell)))
read_pre p names lists a s = pre_by shared p names lists a s

-- a group's pair; a point or a floor; or another fact
abbrev pub group_of : ProveFact → Option (Option (ℕ × ℕ))
group_of (fact.Group clause call) = Some (Some (clause, call))
group_of (fact.Point clause call t w) = Some None
group_of (fact.Floor clause call t w) = Some None
group_of _ = None

abbrev pub next_pairs : (ℕ × ℕ → ℕ → List (ℕ × ℕ)) → ℕ × ℕ → ℕ → Option (Option (ℕ × ℕ)) → List (ℕ × ℕ)
next_pairs more last n None = []
next_pairs more last n (Some None) = more last n
next_pairs more last zero (Some (Some q)) = []
next_pairs more last (suc n) (Some (Some q)) = if is_before last q then q ∷ more q n else []

-- the pairs of n groups in front, as far as they ascend
unfoldable pub scan : ℕ × ℕ → ℕ → List ProveFact → List (ℕ × ℕ)
scan last n [] = []
scan last n (f ∷ s) = next_pairs (λ q m. scan q m s) last n (group_of f)

-- a point and those after it
abbrev pub points_on : (ℕ × ℕ → Read ProveFact (List GroupPoint)) → ProveFact → List ProveFact → Taken GroupPoint → Read ProveFact (List GroupPoint)
points_on more f s None = wrong_at (f ∷ s) reason.Shape
points_on more f s (Some None) = Ok ([], f ∷ s)
points_on more f s (Some (Some x)) = result_map (with_first x) (more (pair_of_point x))

unfoldable pub read_points : Listing → List (ℕ × ℕ) → ℕ × ℕ → List ProveFact → Read ProveFact (List GroupPoint)
read_points p pairs last [] = Ok ([], [])
read_points p pairs last (f ∷ s) = points_on (λ q. read_points p pairs q s) f s (take_point p pairs last f)

abbrev pub floor_on : ProveFact → List ProveFact → Taken Point → Read ProveFact (Option Point)
floor_on f s None = wrong_at (f ∷ s) reason.Shape
floor_on f s (Some None) = Ok (None, f ∷ s)
floor_on f s (Some (Some x)) = Ok (Some x, s)

unfoldable pub read_floor : Listing → ℕ × ℕ → List ProveFact → Read ProveFact (Option Point)
read_floor p pair [] = Ok (None, [])
read_floor p pair (f ∷ s) = floor_on f s (take_floor p pair f)

abbrev pub group : ℕ × ℕ → List GroupPoint → Option Point → StuckGroup
group pair points floor = record { clause = pair.0; call = pair.1; points = points; floor = floor }

-- the group of the pair in front, after another pair
unfoldable pub read_group : Listing → Partition → ℕ → List (ℕ × ℕ) → ℕ × ℕ → List ProveFact → Read ProveFact StuckGroup
read_group p comps a pairs last s = do
  pair ← read_next (take_group p comps a last) 0 s
  points ← read_points p pairs (0, 0) pair.1
  floor ← read_floor p pair.0 points.1
  Ok (group pair.0 points.0 floor.0, floor.1)

unfoldable pub read_groups : Listing → Partition → ℕ → List (ℕ × ℕ) → ℕ × ℕ → ℕ → List ProveFact → Read ProveFact (List StuckGroup)
read_groups p comps a pairs last zero s = Ok ([], s)
read_groups p comps a pairs last (suc n) s =
    read_group p comps a pairs last s >>= λ x. result_map (with_first x.0) (read_groups p comps a pairs (pair_of_group x.0) n x.1)

-- the number of groups that a stuck set of the predicate has
unfoldable pub take_count : PredText → ProveFact → Taken ℕ
take_count pred (fact.Refuted q groups) = at_place (same_pred q pred) (kept (nat_le 1 groups) groups)
take_count pred _ = Some None

-- the groups that a fact begins
abbrev pub groups_read : (ℕ → Read ProveFact (List StuckGroup)) → ProveFact → List ProveFact → Taken ℕ → Read ProveFact (Option StuckSet)
groups_read groups f s None = wrong_at (f ∷ s) reason.Shape
groups_read groups f s (Some None) = Ok (None, f ∷ s)
groups_read groups f s (Some (Some n)) = result_map (λ x. (Some (record { groups = x.0 }), x.1)) (groups n)

-- the groups that the first fact begins, if it begins those of a predicate
unfoldable pub read_set : Listing → Partition → ℕ → PredText → List ProveFact → Read ProveFact (Option StuckSet)
read_set p comps a pred [] = Ok (None, [])
read_set p comps a pred (f ∷ s) = groups_read (λ n. read_groups p comps a (scan (0, 0) n s) (0, 0) n s) f s (take_count pred f)

unfoldable pub read_stuck : Listing → List (List ℕ) → Partition → List (List (List LevelPart)) → ℕ → List ProveFact → Read ProveFact (Option StuckSet)
read_stuck p names comps lists a s = if is_open comps lists a then read_set p comps a (pred_text p names a) s else Ok (None, s)

-- the modes, the kinds, and which predicates fail
unfoldable pub read_claims : Listing → List (List ℕ) → List ProveFact → Read ProveFact (List (List (List ℕ)) × List (List CertKind) × List Bool)
read_claims p names s = do
  modes ← read_each (read_modes p names) 0 (length p.preds) s
  kinds ← read_each (read_kinds p names) 0 (length p.preds) modes.1
  fails ← read_each (read_fails p names) 0 (length p.preds) kinds.1
  Ok ((modes.0, kinds.0, fails.0), fails.1)

-- the size rows, their proofs, and the ground rows
unfoldable pub read_model : Listing → List (List ℕ) → List (List CertKind) → List ProveFact → Read ProveFact (List Rows × List (List Multipliers) × List (List (List Cell)))
read_model p names kinds s = do
  rows ← read_each (read_rows p names kinds) 0 (length p.preds) s
  proofs ← read_each (read_proofs p rows.0) 0 (length p.clauses) rows.1
  grounds ← read_each (read_grounds p names) 0 (length p.preds) proofs.1
  Ok ((rows.0, proofs.0, grounds.0), grounds.1)

-- the lists, and the proofs that they drop and are bounded
unfoldable pub read_descent : Listing → List (List ℕ) → Partition → List (List CertKind) → List Rows → List ProveFact
    → Read ProveFact (List (List (List LevelPart)) × List (List (List (List Multipliers))) × List (List (List Multipliers)))
read_descent p names comps kinds rows s = do
  lists ← read_levels p names comps kinds [] 0 (length p.preds) s
  drops ← read_each (read_drops p comps rows lists.0) 0 (length p.clauses) lists.1
  floors ← read_each (read_floors p comps rows lists.0) 0 (length p.clauses) drops.1
  Ok ((lists.0, drops.0, floors.0), floors.1)

-- the preconditions and the stuck sets
unfoldable pub read_ends : Listing → List (List ℕ) → Partition → List (List (List LevelPart)) → List ProveFact → Read ProveFact (List (List (List (List Cell))) × List (Option StuckSet))
read_ends p names comps lists s = do
  cubes ← read_each (read_pre p names lists) 0 (length p.preds) s
  stuck ← read_each (read_stuck p names comps lists) 0 (length p.preds) cubes.1
  Ok ((cubes.0, stuck.0), stuck.1)

-- the parts, and the notes after them
unfoldable pub read_sections : Listing → List (List ℕ) → Partition → List ProveFact → Read ProveFact ProveParts
read_sections p names comps s = do
  claims ← read_claims p names s
  model ← read_model p names claims.0.1 claims.1
  descent ← read_descent p names comps claims.0.1 model.0.0 model.1
  ends ← read_ends p names comps descent.0.0 descent.1
  Ok (
    record {
      modes = claims.0.0;
      kinds = claims.0.1;
      fails = claims.0.2;
      rows = model.0.0;
      row_proofs = model.0.1;
      grounds = model.0.2;
      lists = descent.0.0;
      drops = descent.0.1;
      floors = descent.0.2;
      preconditions = ends.0.0;
      stuck = ends.0.1;
    },
    ends.1,
  )

-- the same after the version
unfoldable pub read_parts : Listing → List (List ℕ) → Partition → List ProveFact → Read ProveFact ProveParts
read_parts p names comps s = read_next take_version 0 s >>= λ x. read_sections p names comps x.1

-- the parts, where all of the facts after them are notes
abbrev pub with_notes : Read ProveFact ProveParts → Option ProveParts
with_notes (Err w) = None
with_notes (Ok x) = if list_all is_note x.1 then Some x.0 else None

unfoldable pub read_whole : Listing → List (List ℕ) → Partition → List ProveFact → Option ProveParts
read_whole p names comps s = with_notes (read_parts p names comps s)
