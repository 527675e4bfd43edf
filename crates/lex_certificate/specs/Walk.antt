-- Private.
-- How the parts are read: fact by fact, from the front. Nothing here has to be believed.
use Rattle.std.specs.Prelude.{ℕ, zero, suc, ◌+◌, ℤ, pos, ◌&&◌, ◌==◌, nat_le, if◌then◌else◌, List, [], ◌∷◌, ◌++◌, length, Option, None, Some, option_map, Ok, Err}
use Rattle.std.specs.Ordering.{int_eq}
use Rattle.std.specs.List.{list_all}
use Rattle.bool_diagrams.specs.declared.cube.Cell.{Cell}
use Rattle.call_components.specs.Partition.{Partition}
use Rattle.cert_structure.specs.Order.{pred_text}
use Rattle.cert_structure.specs.Shape.{head_of, body_of, vars_of, rows_of, items_of, is_recursive, first_of, is_pair}
use Rattle.cert_structure.specs.SharedFacts.{Shared}
use Rattle.cert_structure.specs.SharedFacts as says
use Rattle.cert_structure.specs.Walk.{kept, at_place, same_pred, is_before, multipliers_read, level_read, point_read, modes_by, rows_by, proofs_by, grounds_by, pre_by, refutation_by}
use Rattle.certificate.specs.declared.pred_text.PredText.{PredText}
use Rattle.cti_terms.specs.declared.atom_list.Atom.{Atom}
use Rattle.cti_terms.specs.Listing.{Listing, numbered}
use Rattle.fact_reading.specs.declared.stop.StructureReason.TheVariants as reason
use Rattle.fact_reading.specs.Walk.{◌>>=◌, Read, Taken, result_map, wrong_at, with_first, read_each, read_next, read_many}
use Rattle.linear_rows.specs.declared.multipliers.Multipliers.{Multipliers}
use Rattle.linear_rows.specs.declared.point.Point.{Point}
use Rattle.linear_rows.specs.declared.row.Rows.{Rows}
use Rattle.number_tests.specs.declared.level_part.LevelPart.{LevelPart}
use Rattle.number_tests.specs.declared.pair_point.PairPoint.{PairPoint}
use Rattle.number_tests.specs.declared.refutation.Refutation.{Refutation}
use Rattle.lex_certificate.specs.declared.fact.LexFact.{LexFact}
use Rattle.lex_certificate.specs.declared.fact.LexFact.TheVariants as lex
use Rattle.lex_certificate.specs.declared.parts.LexParts.{LexParts}
use Rattle.lex_certificate.specs.Order.{is_note}
use Rattle.lex_certificate.specs.Shape.{lists_of_call}

-- what a fact says that certificates of mappings have too
abbrev pub shared : LexFact → Shared
shared (lex.Terminates q list) = says.modes q list
shared (lex.Size q index list) = says.row q index list
shared (lex.By clause index scale list) = says.proof clause index scale list
shared (lex.Grounds q index cells) = says.ground q index cells
shared (lex.Pre q list index cells) = says.pre q list index cells
shared (lex.Refuted q points) = says.refuted q points
shared _ = says.other

-- the version of the format, which is 1
unfoldable pub take_version : ℕ → LexFact → Taken ℤ
take_version i (lex.Ctilex version) = kept (int_eq version (pos 1)) version
take_version i _ = Some None

-- measure i of list m
unfoldable pub take_level : PredText → ℕ → ℕ → LexFact → Taken LevelPart
take_level pred m i (lex.Level q list index coeffs offset) =
    at_place (same_pred q pred && ((list == suc m) && (index == suc i))) (level_read pred.arity coeffs offset)
take_level pred m i _ = Some None

unfoldable pub take_drop : ℕ → ℕ → ℕ → ℕ → ℕ → LexFact → Taken Multipliers
take_drop k j rows m i (lex.Drops clause call list index scale numbers) =
    at_place ((clause == suc k) && ((call == suc j) && ((list == suc m) && (index == suc i)))) (multipliers_read rows scale numbers)
take_drop k j rows m i _ = Some None

-- a pair with its point, whose t is not 0
abbrev pub stuck_point : ℕ → ℕ → Point → PairPoint
stuck_point clause call x = record { clause = clause; call = call; point = x; at = None }

abbrev pub stuck_read : ℕ → ℕ → ℕ → ℤ → List ℤ → Taken PairPoint
stuck_read clause call vars t w = if int_eq t (pos 0) then None else option_map (option_map (stuck_point clause call)) (point_read vars t w)

-- a pair of a predicate's component, after another pair
unfoldable pub take_point : Listing → Partition → ℕ → ℕ × ℕ → ℕ → LexFact → Taken PairPoint
take_point p comps a last i (lex.Point clause call t w) =
    at_place (is_pair p comps a clause call && is_before last (clause, call)) (stuck_read clause call (vars_of (numbered p.clauses clause)) t w)
take_point p comps a last i _ = Some None

abbrev pub read_modes : Listing → List (List ℕ) → ℕ → List LexFact → Read LexFact (List (List ℕ))
read_modes p names a s = modes_by shared p names a s

abbrev pub read_rows : Listing → List (List ℕ) → ℕ → List LexFact → Read LexFact Rows
read_rows p names a s = rows_by shared p names a s

abbrev pub read_proofs : Listing → List Rows → ℕ → List LexFact → Read LexFact (List Multipliers)
read_proofs p rows k s = proofs_by shared p rows k s

abbrev pub read_grounds : Listing → List (List ℕ) → ℕ → List LexFact → Read LexFact (List (List Cell))
read_grounds p names a s = grounds_by shared p names a s

-- a list and those after it, where it has a measure
abbrev pub more_lists : (List LexFact → Read LexFact (List (List LevelPart))) → List LevelPart → List LexFact → Read LexFact (List (List LevelPart))
more_lists more [] s = Ok ([], s)
more_lists more (l ∷ ls) s = result_map (with_first (l ∷ ls)) (more s)

-- the lists from number m on, as long as there is a first measure; that many at most
unfoldable pub read_lists : PredText → ℕ → ℕ → List LexFact → Read LexFact (List (List LevelPart))
read_lists pred m zero s = Ok ([], s)
read_lists pred m (suc n) s = read_many (take_level pred m) 0 s >>= λ x. more_lists (λ t. read_lists pred (suc m) n t) x.0 x.1

-- as many lists as another predicate has, each with as many measures
unfoldable pub read_like : PredText → List (List LevelPart) → List LexFact → Read LexFact (List (List LevelPart))
read_like pred like s = read_each (λ m t. read_each (read_next (take_level pred m)) 0 (length (items_of like m)) t) 0 (length like) s

-- one list of one measure
unfoldable pub read_one : PredText → List LexFact → Read LexFact (List (List LevelPart))
read_one pred s = result_map (λ x. (x.0 ∷ [], x.1)) (read_each (read_next (take_level pred 0)) 0 1 s)

-- the lists of a predicate, given those of the predicates before it
unfoldable pub read_own : Listing → List (List ℕ) → Partition → List (List (List LevelPart)) → ℕ → List LexFact → Read LexFact (List (List LevelPart))
read_own p names comps earlier a s =
    if is_recursive comps a
    then if first_of comps a == a
    then read_lists (pred_text p names a) 0 (length s) s
    else read_like (pred_text p names a) (items_of earlier (first_of comps a)) s
    else read_one (pred_text p names a) s

unfoldable pub read_levels : Listing → List (List ℕ) → Partition → List (List (List LevelPart)) → ℕ → ℕ → List LexFact → Read LexFact (List (List (List LevelPart)))
read_levels p names comps earlier a zero s = Ok (earlier, s)
read_levels p names comps earlier a (suc n) s =
    read_own p names comps earlier a s >>= λ x. read_levels p names comps (earlier ++ x.0 ∷ []) (suc a) n x.1

-- from 1 up to n items
abbrev pub up_to : {A : Type 0} → ℕ → List A × List LexFact → Read LexFact (List A)
up_to n x = if nat_le 1 (length x.0) && nat_le (length x.0) n then Ok x else wrong_at x.1 reason.Extra

-- the proofs for a call and a list of n measures
unfoldable pub read_place : ℕ → ℕ → ℕ → ℕ → ℕ → List LexFact → Read LexFact (List Multipliers)
read_place k j rows m n s = read_many (take_drop k j rows m) 0 s >>= up_to n

-- the proofs for a call, where the atoms before it have the given number of rows, and it has to drop in these lists
unfoldable pub read_call : ℕ → ℕ → ℕ → List (List LevelPart) → List LexFact → Read LexFact (List (List Multipliers))
read_call k j rows own s = read_each (λ m t. read_place k j rows m (length (items_of own m)) t) 0 (length own) s

unfoldable pub read_calls : Partition → List Rows → List (List (List LevelPart)) → ℕ → ℕ → ℕ → ℕ → List Atom → List LexFact → Read LexFact (List (List (List Multipliers)))
read_calls comps rows lists head k j before [] s = Ok ([], s)
read_calls comps rows lists head k j before (b ∷ bs) s =
    read_call k j before (lists_of_call comps lists head (Some b)) s
    >>= λ x. result_map (with_first x.0) (read_calls comps rows lists head k (suc j) (before + rows_of rows b.pred.0) bs x.1)

unfoldable pub read_drops : Listing → Partition → List Rows → List (List (List LevelPart)) → ℕ → List LexFact → Read LexFact (List (List (List Multipliers)))
read_drops p comps rows lists k s = read_calls comps rows lists (head_of p k) k 0 0 (body_of p k) s

abbrev pub read_pre : Listing → List (List ℕ) → List (List (List LevelPart)) → ℕ → List LexFact → Read LexFact (List (List (List Cell)))
read_pre p names lists a s = pre_by shared p names lists a s

-- a stuck set, each point of which is one fact
abbrev pub read_stuck : Listing → List (List ℕ) → Partition → List (List (List LevelPart)) → ℕ → List LexFact → Read LexFact (Option Refutation)
read_stuck p names comps lists a s = refutation_by shared (λ last. read_next (take_point p comps a last) 0) p names comps lists a s

-- the parts, and the notes after them
unfoldable pub read_sections : Listing → List (List ℕ) → Partition → List LexFact → Read LexFact LexParts
read_sections p names comps s = do
  modes ← read_each (read_modes p names) 0 (length p.preds) s
  rows ← read_each (read_rows p names) 0 (length p.preds) modes.1
  proofs ← read_each (read_proofs p rows.0) 0 (length p.clauses) rows.1
  grounds ← read_each (read_grounds p names) 0 (length p.preds) proofs.1
  lists ← read_levels p names comps [] 0 (length p.preds) grounds.1
  drops ← read_each (read_drops p comps rows.0 lists.0) 0 (length p.clauses) lists.1
  cubes ← read_each (read_pre p names lists.0) 0 (length p.preds) drops.1
  stuck ← read_each (read_stuck p names comps lists.0) 0 (length p.preds) cubes.1
  Ok (record { modes = modes.0; rows = rows.0; row_proofs = proofs.0; grounds = grounds.0; lists = lists.0; drops = drops.0; preconditions = cubes.0; stuck = stuck.0 }, stuck.1)

-- the same after the version
unfoldable pub read_parts : Listing → List (List ℕ) → Partition → List LexFact → Read LexFact LexParts
read_parts p names comps s = read_next take_version 0 s >>= λ x. read_sections p names comps x.1

-- the parts, where all of the facts after them are notes
abbrev pub with_notes : Read LexFact LexParts → Option LexParts
with_notes (Err w) = None
with_notes (Ok x) = if list_all is_note x.1 then Some x.0 else None

unfoldable pub read_whole : Listing → List (List ℕ) → Partition → List LexFact → Option LexParts
read_whole p names comps s = with_notes (read_parts p names comps s)
