-- Reading stuck sets: what is read is listed so, and what is listed so is read.
use Rattle.std.proofs.Common.{◌≡◌, ℕ, zero, suc, ◌≤◌, Bool, true, false, if◌then◌else◌, List, [], ◌∷◌, ◌++◌, map, flat_map, length, Option, Some, None, Ok, refl, ap, sym, ◌∙◌, append_assoc}
use Rattle.std.specs.List.{AllByRecursion}
use Rattle.call_components.specs.Partition.{Partition}
use Rattle.cert_structure.specs.Order.{pred_text}
use Rattle.cert_structure.specs.Shape.{IsBefore}
use Rattle.cert_structure.specs.Walk.{is_open}
use Rattle.cert_structure.proofs.GroupLemmas.{open_is, open_back}
use Rattle.cert_structure.proofs.PointLemmas.{before_back}
use Rattle.certificate.specs.declared.pred_text.PredText.{PredText}
use Rattle.cti_terms.specs.Listing.{Listing}
use Rattle.fact_reading.specs.Walk.{Taken, result_map, with_first, read_next}
use Rattle.fact_reading.proofs.SectionLemmas.{same_ok, err_ok, bound, mapped, next_sound, next_back}
use Rattle.linear_rows.specs.declared.point.Point.{Point}
use Rattle.number_tests.specs.declared.level_part.LevelPart.{LevelPart}
use Rattle.prove_certificate.specs.declared.fact.ProveFact.{ProveFact}
use Rattle.prove_certificate.specs.declared.fact.ProveFact.TheVariants as fact
use Rattle.prove_parts.specs.Order.{point_line, floor_lines, group_lines, stuck_lines}
use Rattle.prove_parts.specs.Shape.{Ascend, IsFloor, IsGroup, IsGroupPoint, IsStuckSet, pair_of_group, pair_of_point}
use Rattle.prove_parts.specs.declared.stuck.GroupPoint.{GroupPoint}
use Rattle.prove_parts.specs.declared.stuck.StuckGroup.{StuckGroup}
use Rattle.prove_parts.specs.declared.stuck.StuckSet.{StuckSet}
use Rattle.prove_structure.specs.Walk.{floor_on, group, groups_read, points_on, scan, take_count, take_floor, take_group, take_point, read_floor, read_group, read_groups, read_points, read_set, read_stuck}
use Rattle.prove_structure.proofs.TakeLemmas.{IsNext, count_given, count_taken, floor_given, floor_taken, group_given, group_taken, point_given, point_taken}

-- the first of the facts is no point, and no floor
abbrev pub NoPoint : Listing → List ProveFact → Type 0
NoPoint p [] = Unit {0}
NoPoint p (f ∷ s) = (pairs : List (ℕ × ℕ)) (last : ℕ × ℕ) → take_point p pairs last f ≡ Some None

abbrev pub NoFloor : Listing → List ProveFact → Type 0
NoFloor p [] = Unit {0}
NoFloor p (f ∷ s) = (pair : ℕ × ℕ) → take_floor p pair f ≡ Some None

module _ (p : Listing) (pairs : List (ℕ × ℕ)) where
  abbrev ArePoints : ℕ × ℕ → List GroupPoint → Type 0
  ArePoints last xs = Ascend pair_of_point last xs × AllByRecursion (IsGroupPoint p pairs) xs

  points_sound : (s : List ProveFact) (last : ℕ × ℕ) (t : List ProveFact) (xs : List GroupPoint) → read_points p pairs last s ≡ Ok (xs, t) → (s ≡ map point_line xs ++ t) × ArePoints last xs
  unfolding read_points
  points_sound [] last t xs e =
      let both : ([], []) ≡ (xs, t) = same_ok _ _ e in
      let first : [] ≡ xs = ap (λ q. q.0) both in
      let rest : [] ≡ t = ap (λ q. q.1) both in
      rw (← first, ← rest) (refl, (tt, tt))
  points_sound (f ∷ s) last t xs e = go (points_sound s) (take_point p pairs last f) refl e
    where
      go : ((q : ℕ × ℕ) (u : List ProveFact) (ys : List GroupPoint) → read_points p pairs q s ≡ Ok (ys, u) → (s ≡ map point_line ys ++ u) × ArePoints q ys)
          → (o : Taken GroupPoint) → take_point p pairs last f ≡ o → points_on (λ q. read_points p pairs q s) f s o ≡ Ok (xs, t) → (f ∷ s ≡ map point_line xs ++ t) × ArePoints last xs
      go more None is read = err_ok _ (xs, t) read
      go more (Some None) is read =
          let both : ([], f ∷ s) ≡ (xs, t) = same_ok _ _ read in
          let first : [] ≡ xs = ap (λ q. q.0) both in
          let rest : f ∷ s ≡ t = ap (λ q. q.1) both in
          rw (← first, ← rest) (refl, (tt, tt))
      go more (Some (Some y)) is read =
          mapped (with_first y) (read_points p pairs (pair_of_point y) s) (xs, t) read λ q here both.
          let (one, before, right) = point_taken p pairs last f y is in
          let (others, are) = more (pair_of_point y) q.1 q.0 here in
          let first : y ∷ q.0 ≡ xs = ap (λ r. r.0) both in
          let rest : q.1 ≡ t = ap (λ r. r.1) both in
          rw (← first, ← rest) (rw (one, others) refl, ((before, are.0), (right, are.1)))

  points_back : (xs : List GroupPoint) (last : ℕ × ℕ) (t : List ProveFact) → ArePoints last xs → NoPoint p t → read_points p pairs last (map point_line xs ++ t) ≡ Ok (xs, t)
  unfolding read_points
  points_back [] last [] h none = refl
  points_back [] last (f ∷ t) h none = rw (none pairs last) refl
  points_back (x ∷ xs) last t h none = rw (point_given p pairs last x h.0.0 h.1.0, points_back xs (pair_of_point x) t (h.0.1, h.1.1) none) refl

module _ (p : Listing) where
  floor_sound : (pair : ℕ × ℕ) (s t : List ProveFact) (o : Option Point) → read_floor p pair s ≡ Ok (o, t) → (s ≡ floor_lines pair.0 pair.1 o ++ t) × IsFloor p pair.0 o
  unfolding read_floor
  floor_sound pair [] t o e =
      let both : (None, []) ≡ (o, t) = same_ok _ _ e in
      let first : None ≡ o = ap (λ q. q.0) both in
      let rest : [] ≡ t = ap (λ q. q.1) both in
      rw (← first, ← rest) (refl, tt)
  floor_sound pair (f ∷ s) t o e = go (take_floor p pair f) refl e
    where
      go : (c : Taken Point) → take_floor p pair f ≡ c → floor_on f s c ≡ Ok (o, t) → (f ∷ s ≡ floor_lines pair.0 pair.1 o ++ t) × IsFloor p pair.0 o
      go None is read = err_ok _ (o, t) read
      go (Some None) is read =
          let both : (None, f ∷ s) ≡ (o, t) = same_ok _ _ read in
          let first : None ≡ o = ap (λ q. q.0) both in
          let rest : f ∷ s ≡ t = ap (λ q. q.1) both in
          rw (← first, ← rest) (refl, tt)
      go (Some (Some x)) is read =
          let both : (Some x, s) ≡ (o, t) = same_ok _ _ read in
          let (one, right) = floor_taken p pair f x is in
          let first : Some x ≡ o = ap (λ q. q.0) both in
          let rest : s ≡ t = ap (λ q. q.1) both in
          rw (← first, ← rest) (rw one refl, right)

  floor_back : (pair : ℕ × ℕ) (o : Option Point) (t : List ProveFact) → IsFloor p pair.0 o → NoFloor p t → read_floor p pair (floor_lines pair.0 pair.1 o ++ t) ≡ Ok (o, t)
  unfolding read_floor
  floor_back pair None [] h none = refl
  floor_back pair None (f ∷ t) h none = rw (none pair) refl
  floor_back pair (Some x) t h none = rw (floor_given p pair x h) refl

  -- a floor is no point, and a group's pair neither
  before_floor : (pair : ℕ × ℕ) (o : Option Point) (t : List ProveFact) → NoPoint p t → NoPoint p (floor_lines pair.0 pair.1 o ++ t)
  unfolding take_point
  before_floor pair None t none = none
  before_floor pair (Some x) t none = λ pairs last. refl

  no_point : (gs : List StuckGroup) (t : List ProveFact) → NoPoint p t → NoPoint p (flat_map group_lines gs ++ t)
  unfolding take_point
  no_point [] t none = none
  no_point (g ∷ gs) t none = λ pairs last. refl

  no_floor : (gs : List StuckGroup) (t : List ProveFact) → NoFloor p t → NoFloor p (flat_map group_lines gs ++ t)
  unfolding take_floor
  no_floor [] t none = none
  no_floor (g ∷ gs) t none = λ pair. refl

module _ (p : Listing) (comps : Partition) (a : ℕ) (pairs : List (ℕ × ℕ)) where
  group_sound : (last : ℕ × ℕ) (s t : List ProveFact) (g : StuckGroup) → read_group p comps a pairs last s ≡ Ok (g, t)
      → (s ≡ group_lines g ++ t) × IsBefore last (pair_of_group g) × IsGroup p comps a pairs g
  unfolding read_group
  group_sound last s t g e =
      bound _ (read_next (take_group p comps a last) 0 s) _ e λ pair e0 more0.
      bound _ (read_points p pairs (0, 0) pair.1) _ more0 λ points e1 more1.
      bound _ (read_floor p pair.0 points.1) _ more1 λ floor e2 more2.
      let (one, own) = next_sound (take_group p comps a last) (λ _ q. fact.Group q.0 q.1) (IsNext p comps a last) (group_taken p comps a last) 0 s pair.1 pair.0 e0 in
      let (two, right) = points_sound p pairs pair.1 (0, 0) points.1 points.0 e1 in
      let (three, bounded) = floor_sound p pair.0 points.1 floor.1 floor.0 e2 in
      let both : (group pair.0 points.0 floor.0, floor.1) ≡ (g, t) = same_ok _ _ more2 in
      let first : group pair.0 points.0 floor.0 ≡ g = ap (λ q. q.0) both in
      let rest : floor.1 ≡ t = ap (λ q. q.1) both in
      rw (← first, ← rest) (
        one
            ∙ ap (λ u. fact.Group pair.0.0 pair.0.1 ∷ u)
            (two ∙ ap (λ u. map point_line points.0 ++ u) three ∙ sym (append_assoc (map point_line points.0) (floor_lines pair.0.0 pair.0.1 floor.0) floor.1)),
        own.1,
        record { pair = own.0; ascend = right.0; points = right.1; floor = bounded },
      )

  group_back : (last : ℕ × ℕ) (g : StuckGroup) (t : List ProveFact) → IsBefore last (pair_of_group g) → IsGroup p comps a pairs g → NoPoint p t → NoFloor p t
      → read_group p comps a pairs last (group_lines g ++ t) ≡ Ok (g, t)
  unfolding read_group
  group_back last g t before h no_points no_floors =
      rw (
        append_assoc (map point_line g.points) (floor_lines g.clause g.call g.floor) t,
        next_back (take_group p comps a last) (λ _ q. fact.Group q.0 q.1) (IsNext p comps a last) (group_given p comps a last) 0 (pair_of_group g)
            (map point_line g.points ++ (floor_lines g.clause g.call g.floor ++ t)) (h.pair, before),
        points_back p pairs g.points (0, 0) (floor_lines g.clause g.call g.floor ++ t) (h.ascend, h.points) (before_floor p (pair_of_group g) g.floor t no_points),
        floor_back p (pair_of_group g) g.floor t h.floor no_floors,
      ) refl

  groups_sound : (n : ℕ) (last : ℕ × ℕ) (s t : List ProveFact) (gs : List StuckGroup) → read_groups p comps a pairs last n s ≡ Ok (gs, t)
      → (s ≡ flat_map group_lines gs ++ t) × (length gs ≡ n) × Ascend pair_of_group last gs × AllByRecursion (IsGroup p comps a pairs) gs
  unfolding read_groups
  groups_sound zero last s t gs e =
      let both : ([], s) ≡ (gs, t) = same_ok _ _ e in
      let first : [] ≡ gs = ap (λ q. q.0) both in
      let rest : s ≡ t = ap (λ q. q.1) both in
      rw (← first, ← rest) (refl, refl, tt, tt)
  groups_sound (suc n) last s t gs e =
      bound (λ x. result_map (with_first x.0) (read_groups p comps a pairs (pair_of_group x.0) n x.1)) (read_group p comps a pairs last s) (gs, t) e λ q read more.
      mapped (with_first q.0) (read_groups p comps a pairs (pair_of_group q.0) n q.1) (gs, t) more λ r here both.
      let (one, before, right) = group_sound last s q.1 q.0 read in
      let (others, count, ascend, all) = groups_sound n (pair_of_group q.0) q.1 r.1 r.0 here in
      let first : q.0 ∷ r.0 ≡ gs = ap (λ z. z.0) both in
      let rest : r.1 ≡ t = ap (λ z. z.1) both in
      rw (← first, ← rest)
      (one ∙ ap (λ u. group_lines q.0 ++ u) others ∙ sym (append_assoc (group_lines q.0) (flat_map group_lines r.0) r.1), ap suc count, (before, ascend), (right, all))

  groups_back : (gs : List StuckGroup) (last : ℕ × ℕ) (t : List ProveFact) → Ascend pair_of_group last gs → AllByRecursion (IsGroup p comps a pairs) gs → NoPoint p t → NoFloor p t
      → read_groups p comps a pairs last (length gs) (flat_map group_lines gs ++ t) ≡ Ok (gs, t)
  unfolding read_groups
  groups_back [] last t ascend all no_points no_floors = refl
  groups_back (g ∷ gs) last t ascend all no_points no_floors =
      rw (
        append_assoc (group_lines g) (flat_map group_lines gs) t,
        group_back last g (flat_map group_lines gs ++ t) ascend.0 all.0 (no_point p gs t no_points) (no_floor p gs t no_floors),
        groups_back gs (pair_of_group g) t ascend.1 all.1 no_points no_floors,
      ) refl

-- the pairs of groups in front are theirs
scan_none : (t : List ProveFact) (last : ℕ × ℕ) → scan last 0 t ≡ []
unfolding scan
scan_none [] last = refl
scan_none (fact.Ctiprove version ∷ t) last = refl
scan_none (fact.Terminates q modes ∷ t) last = refl
scan_none (fact.Kinds q kinds ∷ t) last = refl
scan_none (fact.Fails q ∷ t) last = refl
scan_none (fact.Size q index row ∷ t) last = refl
scan_none (fact.By clause index scale list ∷ t) last = refl
scan_none (fact.Grounds q index cells ∷ t) last = refl
scan_none (fact.Level q list index coeffs offset ∷ t) last = refl
scan_none (fact.Drops clause call list index scale numbers ∷ t) last = refl
scan_none (fact.Floors clause call list scale numbers ∷ t) last = refl
scan_none (fact.Pre q list index cells ∷ t) last = refl
scan_none (fact.Refuted q groups ∷ t) last = refl
scan_none (fact.Group clause call ∷ t) last = refl
scan_none (fact.Point clause call x w ∷ t) last = scan_none t last
scan_none (fact.Floor clause call x w ∷ t) last = scan_none t last
scan_none (fact.Image step clause q rows ∷ t) last = refl
scan_none (fact.Step step q how rows ∷ t) last = refl
scan_none (fact.WeakImage step ∷ t) last = refl
scan_none (fact.WeakStep step ∷ t) last = refl
scan_none (fact.Blown q support ∷ t) last = refl

scan_points : (xs : List GroupPoint) (last : ℕ × ℕ) (n : ℕ) (t : List ProveFact) → scan last n (map point_line xs ++ t) ≡ scan last n t
unfolding scan
scan_points [] last n t = refl
scan_points (x ∷ xs) last n t = scan_points xs last n t

scan_floor : (clause call : ℕ) (o : Option Point) (last : ℕ × ℕ) (n : ℕ) (t : List ProveFact) → scan last n (floor_lines clause call o ++ t) ≡ scan last n t
unfolding scan
scan_floor clause call None last n t = refl
scan_floor clause call (Some x) last n t = refl

scan_groups : (gs : List StuckGroup) (last : ℕ × ℕ) (t : List ProveFact) → Ascend pair_of_group last gs → scan last (length gs) (flat_map group_lines gs ++ t) ≡ map pair_of_group gs
unfolding scan
scan_groups [] last t ascend = scan_none t last
scan_groups (g ∷ gs) last t ascend =
    rw (
      append_assoc (map point_line g.points ++ floor_lines g.clause g.call g.floor) (flat_map group_lines gs) t,
      append_assoc (map point_line g.points) (floor_lines g.clause g.call g.floor) (flat_map group_lines gs ++ t),
      before_back last (pair_of_group g) ascend.0,
      scan_points g.points (pair_of_group g) (length gs) (floor_lines g.clause g.call g.floor ++ (flat_map group_lines gs ++ t)),
      scan_floor g.clause g.call g.floor (pair_of_group g) (length gs) (flat_map group_lines gs ++ t),
      scan_groups gs (pair_of_group g) t ascend.1,
    ) refl

module _ (p : Listing) (comps : Partition) (a : ℕ) where
  -- groups as they stand, whatever the lists
  abbrev IsSet : Option StuckSet → Type 0
  IsSet None = Unit {0}
  IsSet (Some r) = (1 ≤ length r.groups) × Ascend pair_of_group (0, 0) r.groups × AllByRecursion (IsGroup p comps a (map pair_of_group r.groups)) r.groups

  abbrev as_set : List StuckGroup × List ProveFact → Option StuckSet × List ProveFact
  as_set x = (Some (record { groups = x.0 }), x.1)

  set_sound : (pred : PredText) (s t : List ProveFact) (o : Option StuckSet) → read_set p comps a pred s ≡ Ok (o, t) → (s ≡ stuck_lines pred o ++ t) × IsSet o
  unfolding read_set
  set_sound pred [] t o e =
      let both : (None, []) ≡ (o, t) = same_ok _ _ e in
      let first : None ≡ o = ap (λ q. q.0) both in
      let rest : [] ≡ t = ap (λ q. q.1) both in
      rw (← first, ← rest) (refl, tt)
  set_sound pred (f ∷ s) t o e = go (take_count pred f) refl e
    where
      go : (c : Taken ℕ) → take_count pred f ≡ c → groups_read (λ n. read_groups p comps a (scan (0, 0) n s) (0, 0) n s) f s c ≡ Ok (o, t)
          → (f ∷ s ≡ stuck_lines pred o ++ t) × IsSet o
      go None is read = err_ok _ (o, t) read
      go (Some None) is read =
          let both : (None, f ∷ s) ≡ (o, t) = same_ok _ _ read in
          let first : None ≡ o = ap (λ q. q.0) both in
          let rest : f ∷ s ≡ t = ap (λ q. q.1) both in
          rw (← first, ← rest) (refl, tt)
      go (Some (Some n)) is read =
          mapped as_set (read_groups p comps a (scan (0, 0) n s) (0, 0) n s) (o, t) read λ q here both.
          let (begins, some) = count_taken pred f n is in
          let (others, many, ascend, all) = groups_sound p comps a (scan (0, 0) n s) n (0, 0) s q.1 q.0 here in
          let own : scan (0, 0) n s ≡ map pair_of_group q.0 = rw (← many, others) (scan_groups q.0 (0, 0) q.1 ascend) in
          let first : Some (record { groups = q.0 }) ≡ o = ap (λ z. z.0) both in
          let rest : q.1 ≡ t = ap (λ z. z.1) both in
          rw (← first, ← rest) (rw (begins, others, ← many) refl, (rw (← many) at some, ascend, rw own at all))

  set_back : (pred : PredText) (o : Option StuckSet) (t : List ProveFact) → IsSet o → AllByRecursion (λ f. take_count pred f ≡ Some None) t → NoPoint p t → NoFloor p t
      → read_set p comps a pred (stuck_lines pred o ++ t) ≡ Ok (o, t)
  unfolding read_set
  set_back pred None [] h others no_points no_floors = refl
  set_back pred None (f ∷ t) h others no_points no_floors = rw others.0 refl
  set_back pred (Some r) t h others no_points no_floors =
      rw (
        count_given pred (length r.groups) h.0,
        scan_groups r.groups (0, 0) t h.1,
        groups_back p comps a (map pair_of_group r.groups) r.groups (0, 0) t h.1 h.2 no_points no_floors,
      ) refl

module _ (p : Listing) (names : List (List ℕ)) (comps : Partition) (lists : List (List (List LevelPart))) (a : ℕ) where
  pub stuck_sound : (s t : List ProveFact) (o : Option StuckSet) → read_stuck p names comps lists a s ≡ Ok (o, t)
      → (s ≡ stuck_lines (pred_text p names a) o ++ t) × IsStuckSet p comps lists a o
  unfolding read_stuck
  stuck_sound s t o e = go (is_open comps lists a) refl e
    where
      shaped : (o : Option StuckSet) → is_open comps lists a ≡ true → IsSet p comps a o → IsStuckSet p comps lists a o
      shaped None opened h = tt
      shaped (Some r) opened h = (open_is comps lists a opened, h.0, h.1, h.2)

      go : (b : Bool) → is_open comps lists a ≡ b → (if b then read_set p comps a (pred_text p names a) s else Ok (None, s)) ≡ Ok (o, t)
          → (s ≡ stuck_lines (pred_text p names a) o ++ t) × IsStuckSet p comps lists a o
      go true opened read = let (whole, right) = set_sound p comps a (pred_text p names a) s t o read in (whole, shaped o opened right)
      go false opened read =
          let both : (None, s) ≡ (o, t) = same_ok _ _ read in
          let first : None ≡ o = ap (λ q. q.0) both in
          let rest : s ≡ t = ap (λ q. q.1) both in
          rw (← first, ← rest) (refl, tt)

  pub stuck_back : (o : Option StuckSet) (t : List ProveFact) → IsStuckSet p comps lists a o
      → AllByRecursion (λ f. take_count (pred_text p names a) f ≡ Some None) t → NoPoint p t → NoFloor p t
      → read_stuck p names comps lists a (stuck_lines (pred_text p names a) o ++ t) ≡ Ok (o, t)
  unfolding read_stuck
  stuck_back None t h others no_points no_floors = go (is_open comps lists a)
    where
      go : (b : Bool) → (if b then read_set p comps a (pred_text p names a) t else Ok (None, t)) ≡ Ok (None, t)
      go true = set_back p comps a (pred_text p names a) None t tt others no_points no_floors
      go false = refl
  stuck_back (Some r) t h others no_points no_floors =
      rw (open_back comps lists a h.0, set_back p comps a (pred_text p names a) (Some r) t (h.1, h.2, h.3) others no_points no_floors) refl
