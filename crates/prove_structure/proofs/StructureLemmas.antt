-- Reading the sections of a certificate: what is read is listed so, and what is listed so is read.
use Rattle.std.proofs.Common.{◌≡◌, ◌≢◌, ℕ, zero, suc, ◌+◌, ◌*◌, ◌<◌, ◌≤◌, ◌⊎◌, inl, inr, Bool, true, false, if◌then◌else◌, List, [], ◌∷◌, ◌++◌, map, flat_map, length, Option, Some, None, Ok, refl, ap, sym, subst, arith, le-leb, append_assoc}
use Rattle.std.proofs.lemmas.Bool.{false≢true}
use Rattle.std.proofs.lemmas.List.Sums.{sum_by-cons}
use Rattle.std.specs.Prelude.{IsTrue}
use Rattle.std.specs.List.{AllByRecursion}
use Rattle.bool_diagrams.specs.declared.cube.Cell.{Cell}
use Rattle.call_components.specs.Partition.{Partition}
use Rattle.cert_structure.specs.Order.{pred_text}
use Rattle.cert_structure.specs.Shape.{arity_in, head_of, body_of, rows_of, rows_of_atoms, items_of, IsMode, IsSizeRow, HaveMultipliers, HasWidth}
use Rattle.cert_structure.specs.Walk.{shared_ground, shared_pre}
use Rattle.cert_structure.proofs.ContentLemmas.{arity_text, not_same}
use Rattle.cert_structure.proofs.SharedLemmas as laws
use Rattle.certificate.specs.declared.pred_text.PredText.{PredText}
use Rattle.cti_terms.specs.Listing.{Listing}
use Rattle.fact_reading.specs.Numbered.{facts_from, lines_from, AreEach, EachFrom}
use Rattle.fact_reading.specs.Walk.{Read, read_each, read_many}
use Rattle.fact_reading.proofs.SectionLemmas.{same_ok, mapped, all_both, all_from, others_from, all_weaker, next_sound, next_back, many_sound, many_back, each_sound, each_back}
use Rattle.lex_certificate.specs.Shape.{ArePlaces}
use Rattle.linear_rows.specs.declared.point.Point.{Point}
use Rattle.linear_rows.specs.declared.multipliers.Multipliers.{Multipliers}
use Rattle.linear_rows.specs.declared.row.Row.{Row}
use Rattle.linear_rows.specs.declared.row.Rows.{Rows}
use Rattle.number_tests.specs.declared.level_part.LevelPart.{LevelPart}
use Rattle.prove_certificate.specs.SharedFacts.{shared}
use Rattle.prove_certificate.specs.declared.fact.ProveFact.{ProveFact}
use Rattle.prove_certificate.specs.declared.fact.ProveFact.TheVariants as fact
use Rattle.prove_certificate.specs.declared.kind.CertKind.{CertKind}
use Rattle.prove_certificate.specs.declared.kind.CertKind.TheVariants as sort
use Rattle.prove_parts.specs.Order.{fails_lines, size_line, by_line, grounds_line, level_line, drops_line, floors_line, pre_line, point_line, floor_lines, group_lines, stuck_lines, mode_facts, kind_facts, fails_facts, size_facts, proof_facts, ground_facts, level_facts, drop_facts, floor_facts, pre_facts, stuck_facts, is_note}
use Rattle.prove_parts.specs.Shape.{AreKinds, IsStuckSet, columns, columns_in, columns_of}
use Rattle.prove_parts.specs.Structure.{AreNotes}
use Rattle.prove_parts.specs.declared.stuck.GroupPoint.{GroupPoint}
use Rattle.prove_parts.specs.declared.stuck.StuckGroup.{StuckGroup}
use Rattle.prove_parts.specs.declared.stuck.StuckSet.{StuckSet}
use Rattle.prove_structure.specs.Walk.{is_fails, narrow, take_bound, take_count, take_drop, take_floor, take_kinds, take_level, take_point, take_row, read_bounds, read_call, read_modes, read_kinds, read_fails, read_rows, read_proofs, read_grounds, read_drops, read_floors, read_pre, read_stuck}
use Rattle.prove_structure.proofs.ClauseLemmas.{IsClause, clauses_section, clauses_listed}
use Rattle.prove_structure.proofs.DropLemmas.{AreBounds, NoBound, NoDrop, bound_clauses, bound_lines, bounds_apart, bounds_back, bounds_sound, call_back, call_sound, drop_clauses, drop_lines, drops_apart}
use Rattle.prove_structure.proofs.KindLemmas.{kind, fact_line, is_line, seen, split_fails, split_row, split_level, split_drop, split_bound, split_count, split_point, split_floor, IsFailsFact, IsRowFact, IsLevelFact, IsDrops, IsFloors, IsCountFact, IsPointFact, IsFloorFact}
use Rattle.prove_structure.proofs.ListLemmas.{NoLevel, free}
use Rattle.prove_structure.proofs.StuckLemmas.{NoFloor, NoPoint, stuck_back, stuck_sound}
use Rattle.prove_structure.proofs.TakeLemmas.{fails_given, fails_is, kinds_given, kinds_taken, row_given, row_taken}

-- Facts of later kinds.
abbrev pub AreLater : ℕ → List ProveFact → Type 0
AreLater m facts = AllByRecursion (λ f. m < kind f) facts

lines_later : {A : Type 0} (m : ℕ) (line : ℕ → A → ProveFact) → ((i : ℕ) (x : A) → m < kind (line i x)) → (i : ℕ) (xs : List A) → AreLater m (lines_from i line xs)
lines_later m line h i xs = all_from (λ f. m < kind f) (λ k x. line k x ∷ []) (λ k x. (h k x, tt)) i xs

pub fails_later : (p : Listing) (names : List (List ℕ)) (m : ℕ) → m < 3 → (fails : List Bool) → AreLater m (fails_facts p names fails)
fails_later p names m h fails = all_from (λ f. m < kind f) (λ a b. fails_lines (pred_text p names a) b) (λ a b. one (pred_text p names a) b) 0 fails
  where
    one : (pred : PredText) (b : Bool) → AreLater m (fails_lines pred b)
    one pred true = (h, tt)
    one pred false = tt

pub sizes_later : (p : Listing) (names : List (List ℕ)) (m : ℕ) → m < 4 → (rows : List Rows) → AreLater m (size_facts p names rows)
sizes_later p names m h rows =
    all_from (λ f. m < kind f) (λ a r. lines_from 0 (size_line (pred_text p names a)) r.list) (λ a r. lines_later m (size_line (pred_text p names a)) (λ i x. h) 0 r.list) 0 rows

pub proofs_later : (m : ℕ) → m < 5 → (proofs : List (List Multipliers)) → AreLater m (proof_facts proofs)
proofs_later m h proofs = all_from (λ f. m < kind f) (λ k ms. lines_from 0 (by_line k) ms) (λ k ms. lines_later m (by_line k) (λ i x. h) 0 ms) 0 proofs

pub grounds_later : (p : Listing) (names : List (List ℕ)) (m : ℕ) → m < 6 → (cubes : List (List (List Cell))) → AreLater m (ground_facts p names cubes)
grounds_later p names m h cubes =
    all_from (λ f. m < kind f) (λ a cs. lines_from 0 (grounds_line (pred_text p names a)) cs) (λ a cs. lines_later m (grounds_line (pred_text p names a)) (λ i x. h) 0 cs) 0 cubes

pub levels_later : (p : Listing) (names : List (List ℕ)) (m : ℕ) → m < 7 → (lists : List (List (List LevelPart))) → AreLater m (level_facts p names lists)
levels_later p names m h lists =
    all_from (λ f. m < kind f) (λ a own. facts_from 0 (λ n ls. lines_from 0 (level_line (pred_text p names a) n) ls) own)
    (λ a own. all_from (λ f. m < kind f) (λ n ls. lines_from 0 (level_line (pred_text p names a) n) ls) (λ n ls. lines_later m (level_line (pred_text p names a) n) (λ i x. h) 0 ls) 0 own) 0 lists

pub drops_later : (m : ℕ) → m < 8 → (drops : List (List (List (List Multipliers)))) → AreLater m (drop_facts drops)
drops_later m h drops =
    all_from (λ f. m < kind f) (λ k calls. facts_from 0 (λ j lists. facts_from 0 (λ n ms. lines_from 0 (drops_line k j n) ms) lists) calls)
    (λ k calls. all_from (λ f. m < kind f) (λ j lists. facts_from 0 (λ n ms. lines_from 0 (drops_line k j n) ms) lists)
    (λ j lists. all_from (λ f. m < kind f) (λ n ms. lines_from 0 (drops_line k j n) ms) (λ n ms. lines_later m (drops_line k j n) (λ i x. h) 0 ms) 0 lists) 0 calls) 0 drops

pub floors_later : (m : ℕ) → m < 9 → (floors : List (List (List Multipliers))) → AreLater m (floor_facts floors)
floors_later m h floors =
    all_from (λ f. m < kind f) (λ k calls. facts_from 0 (λ j ms. lines_from 0 (floors_line k j) ms) calls)
    (λ k calls. all_from (λ f. m < kind f) (λ j ms. lines_from 0 (floors_line k j) ms) (λ j ms. lines_later m (floors_line k j) (λ i x. h) 0 ms) 0 calls) 0 floors

pub pre_later : (p : Listing) (names : List (List ℕ)) (m : ℕ) → m < 10 → (cubes : List (List (List (List Cell)))) → AreLater m (pre_facts p names cubes)
pre_later p names m h cubes =
    all_from (λ f. m < kind f) (λ a ms. facts_from 0 (λ m cs. lines_from 0 (pre_line (pred_text p names a) m) cs) ms)
    (λ a ms. all_from (λ f. m < kind f) (λ m cs. lines_from 0 (pre_line (pred_text p names a) m) cs) (λ n cs. lines_later m (pre_line (pred_text p names a) n) (λ i x. h) 0 cs) 0 ms) 0 cubes

-- what each fact of a group keeps
module _ (P : ProveFact → Type 0) (points : (x : GroupPoint) → P (point_line x)) (floors : (clause call : ℕ) (o : Option Point) → AllByRecursion P (floor_lines clause call o)) where
  all_points : (xs : List GroupPoint) → AllByRecursion P (map point_line xs)
  all_points [] = tt
  all_points (x ∷ xs) = (points x, all_points xs)

  all_groups : ((clause call : ℕ) → P (fact.Group clause call)) → (gs : List StuckGroup) → AllByRecursion P (flat_map group_lines gs)
  all_groups groups [] = tt
  all_groups groups (g ∷ gs) =
      all_both P (group_lines g) (flat_map group_lines gs)
      (groups g.clause g.call, all_both P (map point_line g.points) (floor_lines g.clause g.call g.floor) (all_points g.points) (floors g.clause g.call g.floor)) (all_groups groups gs)

set_later : (m : ℕ) (pred : PredText) → m < 11 → (o : Option StuckSet) → AreLater m (stuck_lines pred o)
set_later m pred h None = tt
set_later m pred h (Some r) = (h, all_groups (λ f. m < kind f) (λ x. h) floor (λ clause call. h) r.groups)
  where
    floor : (clause call : ℕ) (o : Option Point) → AreLater m (floor_lines clause call o)
    floor clause call None = tt
    floor clause call (Some x) = (h, tt)

pub stuck_later : (p : Listing) (names : List (List ℕ)) (m : ℕ) → m < 11 → (stuck : List (Option StuckSet)) → AreLater m (stuck_facts p names stuck)
stuck_later p names m h stuck =
    all_from (λ f. m < kind f) (λ a r. stuck_lines (pred_text p names a) r) (λ a r. set_later m (pred_text p names a) h r) 0 stuck

note_kind : (m : ℕ) → m < 12 → (f : ProveFact) → IsTrue (is_note f) → m < kind f
note_kind m h (fact.Ctiprove version) note = absurd (false≢true note)
note_kind m h (fact.Terminates q modes) note = absurd (false≢true note)
note_kind m h (fact.Kinds q kinds) note = absurd (false≢true note)
note_kind m h (fact.Fails q) note = absurd (false≢true note)
note_kind m h (fact.Size q index row) note = absurd (false≢true note)
note_kind m h (fact.By clause index scale list) note = absurd (false≢true note)
note_kind m h (fact.Grounds q index cells) note = absurd (false≢true note)
note_kind m h (fact.Level q list index coeffs offset) note = absurd (false≢true note)
note_kind m h (fact.Drops clause call list index scale numbers) note = absurd (false≢true note)
note_kind m h (fact.Floors clause call list scale numbers) note = absurd (false≢true note)
note_kind m h (fact.Pre q list index cells) note = absurd (false≢true note)
note_kind m h (fact.Refuted q groups) note = absurd (false≢true note)
note_kind m h (fact.Group clause call) note = absurd (false≢true note)
note_kind m h (fact.Point clause call t w) note = absurd (false≢true note)
note_kind m h (fact.Floor clause call t w) note = absurd (false≢true note)
note_kind m h (fact.Image step clause q rows) note = h
note_kind m h (fact.Step step q how rows) note = h
note_kind m h (fact.WeakImage step) note = h
note_kind m h (fact.WeakStep step) note = h
note_kind m h (fact.Blown q support) note = h

pub notes_later : (m : ℕ) → m < 12 → (facts : List ProveFact) → AreNotes facts → AreLater m facts
notes_later m h facts notes = all_weaker (λ f. IsTrue (is_note f)) (λ f. m < kind f) (note_kind m h) facts notes

-- a fact of a later kind is not one of this kind
no_later : (m : ℕ) (f g : ProveFact) → f ≡ g → m < kind f → kind g ≤ m → ⊥
no_later m f g is late early = let later : m < kind g = rw is at late in omega (arith, later, early)

pub no_fails : (pred : PredText) (f : ProveFact) → 3 < kind f → is_fails pred f ≡ false
no_fails pred f h = go (split_fails f)
  where
    go : ((q : PredText) → is_fails q f ≡ false) ⊎ IsFailsFact f → is_fails pred f ≡ false
    go (inl none) = none pred
    go (inr (q, is)) = absurd (no_later 3 f (fact.Fails q) is h (omega arith))

pub no_row : (pred : PredText) (f : ProveFact) → 4 < kind f → (width i : ℕ) → take_row pred width i f ≡ Some None
no_row pred f h width i = go (split_row f)
  where
    go : ((q : PredText) (width j : ℕ) → take_row q width j f ≡ Some None) ⊎ IsRowFact f → take_row pred width i f ≡ Some None
    go (inl none) = none pred width i
    go (inr (q, index, row, is)) = absurd (no_later 4 f (fact.Size q index row) is h (omega arith))

pub no_ground : (pred : PredText) (f : ProveFact) → 6 < kind f → (i : ℕ) → shared_ground pred i (shared f) ≡ Some None
no_ground pred f h = laws.no_ground shared fact_line is_line seen pred f (λ q index cells is. absurd (no_later 6 f (fact.Grounds q index cells) is h (omega arith)))

pub no_level : (pred : PredText) (f : ProveFact) → 7 < kind f → NoLevel pred f
no_level pred f h width m i = go (split_level f)
  where
    go : ((q : PredText) (width m j : ℕ) → take_level q width m j f ≡ Some None) ⊎ IsLevelFact f → take_level pred width m i f ≡ Some None
    go (inl none) = none pred width m i
    go (inr (q, list, index, coeffs, offset, is)) = absurd (no_later 7 f (fact.Level q list index coeffs offset) is h (omega arith))

pub no_drop : (f : ProveFact) → 8 < kind f → (k j : ℕ) → NoDrop k j f
no_drop f h k j rows m i = go (split_drop f)
  where
    go : ((k j rows m i : ℕ) → take_drop k j rows m i f ≡ Some None) ⊎ IsDrops f → take_drop k j rows m i f ≡ Some None
    go (inl none) = none k j rows m i
    go (inr (clause, call, list, index, scale, numbers, is)) = absurd (no_later 8 f (fact.Drops clause call list index scale numbers) is h (omega arith))

pub no_bound : (f : ProveFact) → 9 < kind f → (k j : ℕ) → NoBound k j f
no_bound f h k j rows m = go (split_bound f)
  where
    go : ((k j rows m : ℕ) → take_bound k j rows m f ≡ Some None) ⊎ IsFloors f → take_bound k j rows m f ≡ Some None
    go (inl none) = none k j rows m
    go (inr (clause, call, list, scale, numbers, is)) = absurd (no_later 9 f (fact.Floors clause call list scale numbers) is h (omega arith))

pub no_pre : (pred : PredText) (f : ProveFact) → 10 < kind f → (m i : ℕ) → shared_pre pred m i (shared f) ≡ Some None
no_pre pred f h = laws.no_cube shared fact_line is_line seen pred f (λ q list index cells is. absurd (no_later 10 f (fact.Pre q list index cells) is h (omega arith)))

pub no_count : (pred : PredText) (f : ProveFact) → 11 < kind f → take_count pred f ≡ Some None
no_count pred f h = go (split_count f)
  where
    go : ((q : PredText) → take_count q f ≡ Some None) ⊎ IsCountFact f → take_count pred f ≡ Some None
    go (inl none) = none pred
    go (inr (q, groups, is)) = absurd (no_later 11 f (fact.Refuted q groups) is h (omega arith))

pub notes_no_point : (p : Listing) (t : List ProveFact) → AreLater 11 t → NoPoint p t
notes_no_point p [] h = tt
notes_no_point p (f ∷ t) h = λ pairs last. go pairs last (split_point f)
  where
    go : (pairs : List (ℕ × ℕ)) (last : ℕ × ℕ) → ((p : Listing) (pairs : List (ℕ × ℕ)) (last : ℕ × ℕ) → take_point p pairs last f ≡ Some None) ⊎ IsPointFact f → take_point p pairs last f ≡ Some None
    go pairs last (inl none) = none p pairs last
    go pairs last (inr (clause, call, x, w, is)) = absurd (no_later 11 f (fact.Point clause call x w) is h.0 (omega arith))

pub notes_no_floor : (p : Listing) (t : List ProveFact) → AreLater 11 t → NoFloor p t
notes_no_floor p [] h = tt
notes_no_floor p (f ∷ t) h = λ pair. go pair (split_floor f)
  where
    go : (pair : ℕ × ℕ) → ((p : Listing) (pair : ℕ × ℕ) → take_floor p pair f ≡ Some None) ⊎ IsFloorFact f → take_floor p pair f ≡ Some None
    go pair (inl none) = none p pair
    go pair (inr (clause, call, x, w, is)) = absurd (no_later 11 f (fact.Floor clause call x w) is h.0 (omega arith))

-- twelve arguments have few columns
few_columns : (ks : List CertKind) → columns_of ks ≤ 3 * length ks
few_columns [] = omega arith
few_columns (k ∷ ks) =
    let sum = sum_by-cons columns k ks in
    let one = one_kind k in
    let more = few_columns ks in
    omega (arith, sum, one, more)
  where
    one_kind : (k : CertKind) → columns k ≤ 3
    one_kind sort.Size = omega arith
    one_kind sort.Number = omega arith

narrow_is : (arity : ℕ) (ks : List CertKind) → AreKinds arity ks → narrow (columns_of ks) ≡ columns_of ks
narrow_is arity ks h =
    let few = few_columns ks in
    let each = h.0 in
    let most = h.1 in
    rw (le-leb (columns_of ks) 4294967295 (omega (arith, few, each, most))) refl

pub narrow_kinds : (arity : ℕ → ℕ) (i : ℕ) (kinds : List (List CertKind)) → EachFrom i (λ a. AreKinds (arity a)) kinds → (a : ℕ) → narrow (columns_in kinds a) ≡ columns_in kinds a
narrow_kinds arity i [] h a = refl
narrow_kinds arity i (ks ∷ kinds) h zero = narrow_is (arity i) ks h.0
narrow_kinds arity i (ks ∷ kinds) h (suc a) = narrow_kinds arity (suc i) kinds h.1 a

-- What is read of each section.
module _ (p : Listing) (names : List (List ℕ)) where
  abbrev text : ℕ → PredText
  text a = pred_text p names a

  abbrev Apart : Type 0
  Apart = (a b : ℕ) → a < b → b < length p.preds → pred_text p names b ≢ pred_text p names a

  pub modes_section : (s t : List ProveFact) (xs : List (List (List ℕ))) → read_each (read_modes p names) 0 (length p.preds) s ≡ Ok (xs, t)
      → (s ≡ mode_facts p names xs ++ t) × AreEach (length p.preds) (λ a. AllByRecursion (IsMode (arity_in p a))) xs
  modes_section = laws.modes_section shared fact_line is_line seen p names

  pub modes_listed : (xs : List (List (List ℕ))) (t : List ProveFact) → AreEach (length p.preds) (λ a. AllByRecursion (IsMode (arity_in p a))) xs
      → read_each (read_modes p names) 0 (length p.preds) (mode_facts p names xs ++ t) ≡ Ok (xs, t)
  modes_listed = laws.modes_listed shared fact_line is_line seen p names

  pub kinds_section : (s t : List ProveFact) (xs : List (List CertKind)) → read_each (read_kinds p names) 0 (length p.preds) s ≡ Ok (xs, t)
      → (s ≡ kind_facts p names xs ++ t) × AreEach (length p.preds) (λ a. AreKinds (arity_in p a)) xs
  kinds_section s t xs e =
      let (whole, count, each) = each_sound (read_kinds p names) (λ a ks. fact.Kinds (text a) ks ∷ []) (λ a. AreKinds (arity_in p a))
      (λ a s t x read.
      let (one, right) = next_sound (take_kinds (text a)) (λ _ ks. fact.Kinds (text a) ks) _ (kinds_taken (text a)) 0 s t x read in
      (one, subst (λ n. AreKinds n x) (arity_text p names a) right))
      0 (length p.preds) s t xs e in
      (whole, record { count = count; each = each })

  pub kinds_listed : (xs : List (List CertKind)) (t : List ProveFact) → AreEach (length p.preds) (λ a. AreKinds (arity_in p a)) xs
      → read_each (read_kinds p names) 0 (length p.preds) (kind_facts p names xs ++ t) ≡ Ok (xs, t)
  kinds_listed xs t h =
      each_back (read_kinds p names) (λ a ks. fact.Kinds (text a) ks ∷ []) (λ a. AreKinds (arity_in p a))
      (λ a f. Unit {0}) (length p.preds)
      (λ a x t below right none. next_back (take_kinds (text a)) (λ _ ks. fact.Kinds (text a) ks) _ (kinds_given (text a)) 0 x t (subst (λ n. AreKinds n x) (sym (arity_text p names a)) right))
      (λ a b x less below. (tt, tt))
      0 (length p.preds) xs t h.count (omega arith) h.each (λ j below. free t)

  pub fails_section : (s t : List ProveFact) (xs : List Bool) → read_each (read_fails p names) 0 (length p.preds) s ≡ Ok (xs, t)
      → (s ≡ fails_facts p names xs ++ t) × (length xs ≡ length p.preds)
  unfolding read_fails
  fails_section s t xs e =
      let (whole, count, each) = each_sound (read_fails p names) (λ a b. fails_lines (text a) b) (λ a b. Unit {0})
      (λ a s t b read. (one a s t b read, tt)) 0 (length p.preds) s t xs e in
      (whole, count)
    where
      of : (a : ℕ) (f : ProveFact) (s t : List ProveFact) (b c : Bool) → is_fails (text a) f ≡ c → if◌then◌else◌ {A = Read ProveFact Bool} c (Ok (true, s)) (Ok (false, f ∷ s)) ≡ Ok (b, t) → f ∷ s ≡ fails_lines (text a) b ++ t
      of a f s t b true test read =
          let both : (true, s) ≡ (b, t) = same_ok _ _ read in
          let first : true ≡ b = ap (λ q. q.0) both in
          let rest : s ≡ t = ap (λ q. q.1) both in
          rw (← first, ← rest) (ap (λ z. z ∷ s) (fails_is (text a) f true test refl))
      of a f s t b false test read =
          let both : (false, f ∷ s) ≡ (b, t) = same_ok _ _ read in
          let first : false ≡ b = ap (λ q. q.0) both in
          let rest : f ∷ s ≡ t = ap (λ q. q.1) both in
          rw (← first, ← rest) refl

      one : (a : ℕ) (s t : List ProveFact) (b : Bool) → read_fails p names a s ≡ Ok (b, t) → s ≡ fails_lines (text a) b ++ t
      one a [] t b read =
          let both : (false, []) ≡ (b, t) = same_ok _ _ read in
          let first : false ≡ b = ap (λ q. q.0) both in
          let rest : [] ≡ t = ap (λ q. q.1) both in
          rw (← first, ← rest) refl
      one a (f ∷ s) t b read = of a f s t b (is_fails (text a) f) refl read

  pub fails_listed : Apart → (xs : List Bool) (t : List ProveFact) → length xs ≡ length p.preds → AreLater 3 t
      → read_each (read_fails p names) 0 (length p.preds) (fails_facts p names xs ++ t) ≡ Ok (xs, t)
  unfolding read_fails is_fails
  fails_listed apart xs t h later =
      each_back (read_fails p names) (λ a b. fails_lines (text a) b) (λ a b. Unit {0})
      (λ a f. is_fails (text a) f ≡ false) (length p.preds)
      (λ a b t below right none. one a b t none)
      (λ a b x less below. other a (text b) (apart a b less below) x)
      0 (length p.preds) xs t h (omega arith) (all 0 xs)
      (λ j below. all_weaker (λ f. 3 < kind f) (λ f. is_fails (text j) f ≡ false) (λ f late. no_fails (text j) f late) t later)
    where
      all : (i : ℕ) (xs : List Bool) → EachFrom i (λ a b. Unit {0}) xs
      all i [] = tt
      all i (x ∷ xs) = (tt, all (suc i) xs)

      one : (a : ℕ) (b : Bool) (t : List ProveFact) → AllByRecursion (λ f. is_fails (text a) f ≡ false) t → read_fails p names a (fails_lines (text a) b ++ t) ≡ Ok (b, t)
      one a true t none = rw (fails_given (text a)) refl
      one a false [] none = refl
      one a false (f ∷ t) none = rw none.0 refl

      other : (a : ℕ) (q : PredText) → q ≢ text a → (b : Bool) → AllByRecursion (λ f. is_fails (text a) f ≡ false) (fails_lines q b)
      other a q h true = (not_same q (text a) h, tt)
      other a q h false = tt

  module _ (kinds : List (List CertKind)) (narrowed : (a : ℕ) → narrow (columns_in kinds a) ≡ columns_in kinds a) where
    abbrev pub AreRows : ℕ → Rows → Type 0
    AreRows a r = (r.width ≡ columns_in kinds a) × AllByRecursion (IsSizeRow (columns_in kinds a)) r.list

    with_width : ℕ → List Row × List ProveFact → Rows × List ProveFact
    with_width a x = (record { width = narrow (columns_in kinds a); list = x.0 }, x.1)

    pub rows_section : (s t : List ProveFact) (xs : List Rows) → read_each (read_rows p names kinds) 0 (length p.preds) s ≡ Ok (xs, t)
        → (s ≡ size_facts p names xs ++ t) × AreEach (length p.preds) AreRows xs
    unfolding read_rows
    rows_section s t xs e =
        let (whole, count, each) = each_sound (read_rows p names kinds) (λ a r. lines_from 0 (size_line (text a)) r.list) AreRows
        (λ a s t x read.
        mapped (λ x. (record { width = narrow (columns_in kinds a); list = x.0 }, x.1)) (read_many (take_row (text a) (columns_in kinds a)) 0 s) (x, t) read λ q here both.
        let (one, right) = many_sound (take_row (text a) (columns_in kinds a)) (size_line (text a)) _ (row_taken (text a) (columns_in kinds a)) 0 s q.1 q.0 here in
        let first : record { width = narrow (columns_in kinds a); list = q.0 } ≡ x = ap (λ r. r.0) both in
        let rest : q.1 ≡ t = ap (λ r. r.1) both in
        rw (← first, ← rest) (one, (narrowed a, right)))
        0 (length p.preds) s t xs e in
        (whole, record { count = count; each = each })

    pub rows_listed : Apart → (xs : List Rows) (t : List ProveFact) → AreEach (length p.preds) AreRows xs → AreLater 4 t
        → read_each (read_rows p names kinds) 0 (length p.preds) (size_facts p names xs ++ t) ≡ Ok (xs, t)
    unfolding read_rows take_row
    rows_listed apart xs t h later =
        each_back (read_rows p names kinds) (λ a r. lines_from 0 (size_line (text a)) r.list) AreRows
        (λ a f. (width i : ℕ) → take_row (text a) width i f ≡ Some None) (length p.preds)
        (λ a x t below right none.
        rw (
          many_back (take_row (text a) (columns_in kinds a)) (size_line (text a)) _ (row_given (text a) (columns_in kinds a)) 0 x.list t right.1
              (all_weaker (λ f. (width i : ℕ) → take_row (text a) width i f ≡ Some None) (λ f. (i : ℕ) → take_row (text a) (columns_in kinds a) i f ≡ Some None) (λ f h. h (columns_in kinds a)) t none),
          narrowed a,
          ← right.0,
        ) refl)
        (λ a b x less below. all_from (λ f. (width i : ℕ) → take_row (text a) width i f ≡ Some None) (λ k r. size_line (text b) k r ∷ [])
        (λ k r. (λ width i. rw (not_same (text b) (text a) (apart a b less below)) refl, tt)) 0 x.list)
        0 (length p.preds) xs t h.count (omega arith) h.each
        (λ j below. all_weaker (λ f. 4 < kind f) (λ f. (width i : ℕ) → take_row (text j) width i f ≡ Some None) (λ f late. no_row (text j) f late) t later)

  pub grounds_section : (s t : List ProveFact) (xs : List (List (List Cell))) → read_each (read_grounds p names) 0 (length p.preds) s ≡ Ok (xs, t)
      → (s ≡ ground_facts p names xs ++ t) × AreEach (length p.preds) (λ a. AllByRecursion (HasWidth (arity_in p a))) xs
  grounds_section = laws.grounds_section shared fact_line is_line seen p names

  pub grounds_listed : Apart → (xs : List (List (List Cell))) (t : List ProveFact) → AreEach (length p.preds) (λ a. AllByRecursion (HasWidth (arity_in p a))) xs → AreLater 6 t
      → read_each (read_grounds p names) 0 (length p.preds) (ground_facts p names xs ++ t) ≡ Ok (xs, t)
  grounds_listed apart xs t h later =
      laws.grounds_listed shared fact_line is_line seen p names apart xs t h
      (λ a. all_weaker (λ f. 6 < kind f) (λ f. (i : ℕ) → shared_ground (text a) i (shared f) ≡ Some None) (λ f late. no_ground (text a) f late) t later)

  module _ (lists : List (List (List LevelPart))) where
    pub pre_section : (s t : List ProveFact) (xs : List (List (List (List Cell)))) → read_each (read_pre p names lists) 0 (length p.preds) s ≡ Ok (xs, t)
        → (s ≡ pre_facts p names xs ++ t) × AreEach (length p.preds) (λ a. AreEach (length (items_of lists a)) (λ _. AllByRecursion (HasWidth (arity_in p a)))) xs
    pre_section = laws.pre_section shared fact_line is_line seen p names lists

    pub pre_listed : Apart → (xs : List (List (List (List Cell)))) (t : List ProveFact)
        → AreEach (length p.preds) (λ a. AreEach (length (items_of lists a)) (λ _. AllByRecursion (HasWidth (arity_in p a)))) xs → AreLater 10 t
        → read_each (read_pre p names lists) 0 (length p.preds) (pre_facts p names xs ++ t) ≡ Ok (xs, t)
    pre_listed apart xs t h later =
        laws.pre_listed shared fact_line is_line seen p names lists apart xs t h
        (λ a. all_weaker (λ f. 10 < kind f) (λ f. (m i : ℕ) → shared_pre (text a) m i (shared f) ≡ Some None) (λ f late. no_pre (text a) f late) t later)

    module _ (comps : Partition) where
      pub stuck_section : (s t : List ProveFact) (xs : List (Option StuckSet)) → read_each (read_stuck p names comps lists) 0 (length p.preds) s ≡ Ok (xs, t)
          → (s ≡ stuck_facts p names xs ++ t) × AreEach (length p.preds) (IsStuckSet p comps lists) xs
      stuck_section s t xs e =
          let (whole, count, each) = each_sound (read_stuck p names comps lists) (λ a r. stuck_lines (pred_text p names a) r) (IsStuckSet p comps lists)
          (λ a s t x read. stuck_sound p names comps lists a s t x read)
          0 (length p.preds) s t xs e in
          (whole, record { count = count; each = each })

      abbrev set_lines : ℕ → Option StuckSet → List ProveFact
      set_lines a o = stuck_lines (pred_text p names a) o

      -- no fact of a stuck set is the count of another predicate's
      none_of : (a : ℕ) (q : PredText) → q ≢ text a → (o : Option StuckSet) → AllByRecursion (λ f. take_count (text a) f ≡ Some None) (stuck_lines q o)
      unfolding take_count
      none_of a q other None = tt
      none_of a q other (Some r) = (rw (not_same q (text a) other) refl, all_groups (λ f. take_count (text a) f ≡ Some None) (λ x. refl) floor (λ clause call. refl) r.groups)
        where
          floor : (clause call : ℕ) (o : Option Point) → AllByRecursion (λ f. take_count (text a) f ≡ Some None) (floor_lines clause call o)
          floor clause call None = tt
          floor clause call (Some x) = (refl, tt)

      -- later stuck sets begin with no point and no floor
      sets_no_point : (i : ℕ) (xs : List (Option StuckSet)) (t : List ProveFact) → NoPoint p t → NoPoint p (facts_from i set_lines xs ++ t)
      unfolding take_point
      sets_no_point i [] t none = none
      sets_no_point i (None ∷ xs) t none = sets_no_point (suc i) xs t none
      sets_no_point i (Some r ∷ xs) t none = λ pairs last. refl

      sets_no_floor : (i : ℕ) (xs : List (Option StuckSet)) (t : List ProveFact) → NoFloor p t → NoFloor p (facts_from i set_lines xs ++ t)
      unfolding take_floor
      sets_no_floor i [] t none = none
      sets_no_floor i (None ∷ xs) t none = sets_no_floor (suc i) xs t none
      sets_no_floor i (Some r ∷ xs) t none = λ pair. refl

      sets_back : Apart → (i n : ℕ) (xs : List (Option StuckSet)) (t : List ProveFact) → length xs ≡ n → i + n ≤ length p.preds → EachFrom i (IsStuckSet p comps lists) xs → AreLater 11 t
          → read_each (read_stuck p names comps lists) i n (facts_from i set_lines xs ++ t) ≡ Ok (xs, t)
      unfolding read_each
      sets_back apart i zero [] t count fits h late = refl
      sets_back apart i zero (x ∷ xs) t count fits h late = absurd (omega (arith, count))
      sets_back apart i (suc n) [] t count fits h late = absurd (omega (arith, count))
      sets_back apart i (suc n) (x ∷ xs) t count fits h late =
          let fewer : length xs ≡ n = omega (arith, count) in
          let others = others_from (λ f. take_count (text i) f ≡ Some None) set_lines (length p.preds) i (λ j y less below. none_of i (text j) (apart i j less below) y)
          (suc i) xs (omega arith) (omega (arith, fits, fewer)) in
          let none = all_weaker (λ f. 11 < kind f) (λ f. take_count (text i) f ≡ Some None) (λ f later. no_count (text i) f later) t late in
          rw (
            append_assoc (set_lines i x) (facts_from (suc i) set_lines xs) t,
            stuck_back p names comps lists i x (facts_from (suc i) set_lines xs ++ t) h.0 (all_both (λ f. take_count (text i) f ≡ Some None) (facts_from (suc i) set_lines xs) t others none)
                (sets_no_point (suc i) xs t (notes_no_point p t late)) (sets_no_floor (suc i) xs t (notes_no_floor p t late)),
            sets_back apart (suc i) n xs t fewer (omega (arith, fits)) h.1 late,
          ) refl

      pub stuck_listed : Apart → (xs : List (Option StuckSet)) (t : List ProveFact) → AreEach (length p.preds) (IsStuckSet p comps lists) xs → AreLater 11 t
          → read_each (read_stuck p names comps lists) 0 (length p.preds) (stuck_facts p names xs ++ t) ≡ Ok (xs, t)
      stuck_listed apart xs t h late = sets_back apart 0 (length p.preds) xs t h.count (omega arith) h.each late

module _ (p : Listing) (rows : List Rows) where
  pub proofs_section : (s t : List ProveFact) (xs : List (List Multipliers)) → read_each (read_proofs p rows) 0 (length p.clauses) s ≡ Ok (xs, t)
      → (s ≡ proof_facts xs ++ t) × AreEach (length p.clauses) (λ k. AreEach (rows_of rows (head_of p k)) (λ _. HaveMultipliers (rows_of_atoms rows (body_of p k)))) xs
  proofs_section = laws.proofs_section shared fact_line is_line seen p rows

  pub proofs_listed : (xs : List (List Multipliers)) (t : List ProveFact)
      → AreEach (length p.clauses) (λ k. AreEach (rows_of rows (head_of p k)) (λ _. HaveMultipliers (rows_of_atoms rows (body_of p k)))) xs
      → read_each (read_proofs p rows) 0 (length p.clauses) (proof_facts xs ++ t) ≡ Ok (xs, t)
  proofs_listed = laws.proofs_listed shared fact_line is_line seen p rows

  module _ (comps : Partition) (lists : List (List (List LevelPart))) where
    abbrev pub IsDropsOf : ℕ → List (List (List Multipliers)) → Type 0
    IsDropsOf = IsClause read_call drop_lines ArePlaces NoDrop p comps rows lists

    pub drops_section : (s t : List ProveFact) (xs : List (List (List (List Multipliers)))) → read_each (read_drops p comps rows lists) 0 (length p.clauses) s ≡ Ok (xs, t)
        → (s ≡ drop_facts xs ++ t) × AreEach (length p.clauses) IsDropsOf xs
    drops_section = clauses_section read_call drop_lines ArePlaces NoDrop p comps rows lists (λ k j n own s t x e. call_sound k j n own s t x e)

    pub drops_listed : (xs : List (List (List (List Multipliers)))) (t : List ProveFact) → AreEach (length p.clauses) IsDropsOf xs → AreLater 8 t
        → read_each (read_drops p comps rows lists) 0 (length p.clauses) (drop_facts xs ++ t) ≡ Ok (xs, t)
    drops_listed xs t h later =
        clauses_listed read_call drop_lines ArePlaces NoDrop p comps rows lists (λ k j n own x t right none. call_back k j n own x t right none) drops_apart drop_clauses xs t h
        (all_weaker (λ f. 8 < kind f) (λ f. (k j : ℕ) → NoDrop k j f) (λ f late. no_drop f late) t later)

    abbrev pub IsFloorsOf : ℕ → List (List Multipliers) → Type 0
    IsFloorsOf = IsClause read_bounds bound_lines AreBounds NoBound p comps rows lists

    pub floors_section : (s t : List ProveFact) (xs : List (List (List Multipliers))) → read_each (read_floors p comps rows lists) 0 (length p.clauses) s ≡ Ok (xs, t)
        → (s ≡ floor_facts xs ++ t) × AreEach (length p.clauses) IsFloorsOf xs
    floors_section = clauses_section read_bounds bound_lines AreBounds NoBound p comps rows lists bounds_sound

    pub floors_listed : (xs : List (List (List Multipliers))) (t : List ProveFact) → AreEach (length p.clauses) IsFloorsOf xs → AreLater 9 t
        → read_each (read_floors p comps rows lists) 0 (length p.clauses) (floor_facts xs ++ t) ≡ Ok (xs, t)
    floors_listed xs t h later =
        clauses_listed read_bounds bound_lines AreBounds NoBound p comps rows lists bounds_back bounds_apart bound_clauses xs t h
        (all_weaker (λ f. 9 < kind f) (λ f. (k j : ℕ) → NoBound k j f) (λ f late. no_bound f late) t later)
