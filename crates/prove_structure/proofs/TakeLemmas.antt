-- Each reader of one fact takes the line of what it gives, and gives what a line shows.
use Rattle.std.proofs.Common.{◌≡◌, ℕ, suc, ◌≤◌, ◌⊎◌, inl, inr, Bool, false, ◌&&◌, ◌==◌, nat_le, List, ◌∷◌, length, Some, None, option_map, refl, ap, ap₂, sym, ◌∙◌, eqb-true, eq-eqb, le-leb, leb-true}
use Rattle.std.proofs.lemmas.Bool.{and_parts}
use Rattle.std.proofs.lemmas.Bool.Decides.{Decides-int_eq}
use Rattle.std.proofs.lemmas.Option.{none-some}
use Rattle.std.specs.Prelude.{ℤ, pos, IsTrue}
use Rattle.std.specs.Ordering.{int_eq}
use Rattle.call_components.specs.Partition.{Partition}
use Rattle.cert_structure.specs.Shape.{HaveMultipliers, IsBefore, IsSizeRow, is_pair}
use Rattle.cert_structure.specs.Walk.{are_entries, is_before, is_entry, kept, multipliers_read, point_read, row_read, same_pred}
use Rattle.cert_structure.proofs.ContentLemmas.{other_taken, placed, kept_is, same_is, same_itself, row_is, row_back, multipliers_are, multipliers_back}
use Rattle.cert_structure.proofs.PointLemmas.{before_is, before_back, point_is, point_back}
use Rattle.certificate.specs.declared.pred_text.PredText.{PredText}
use Rattle.cti_terms.specs.Listing.{Listing}
use Rattle.fact_reading.specs.Walk.{Taken}
use Rattle.fact_reading.proofs.SectionLemmas.{same_some, IsTaken, IsBack}
use Rattle.linear_rows.specs.declared.point.Point.{Point}
use Rattle.linear_rows.specs.declared.row.Row.{Row}
use Rattle.number_tests.specs.declared.level_part.LevelPart.{LevelPart}
use Rattle.prove_certificate.specs.declared.fact.ProveFact.{ProveFact}
use Rattle.prove_certificate.specs.declared.fact.ProveFact.TheVariants as fact
use Rattle.prove_parts.specs.Order.{size_line, level_line, drops_line, floors_line, point_line}
use Rattle.prove_parts.specs.Shape.{AreKinds, IsGroupPoint, IsMeasure, IsPointOf, is_among, pair_of_point, same_pair}
use Rattle.prove_parts.specs.declared.stuck.GroupPoint.{GroupPoint}
use Rattle.prove_structure.specs.Walk.{group_point, is_fails, measure_read, values_of, take_version, take_kinds, take_row, take_level, take_drop, take_bound, take_group, take_point, take_floor, take_count}
use Rattle.prove_structure.proofs.KindLemmas.{split_version, split_kinds, split_fails, split_row, split_level, split_drop, split_bound, split_group, split_point, split_floor, split_count, IsVersion, IsKindsFact, IsFailsFact, IsRowFact, IsLevelFact, IsDrops, IsFloors, IsGroupFact, IsPointFact, IsFloorFact, IsCountFact}

pub version_taken : IsTaken take_version (λ _ version. fact.Ctiprove version) (λ version. version ≡ pos 1)
unfolding take_version
version_taken i f x e = go (split_version f)
  where
    go : ((i : ℕ) → take_version i f ≡ Some None) ⊎ IsVersion f → (f ≡ fact.Ctiprove x) × (x ≡ pos 1)
    go (inl none) = other_taken (take_version i f) x (none i) e
    go (inr (version, is)) =
        let (right, same) = kept_is (int_eq version (pos 1)) version x (rw is at e) in
        (rw (is, same) refl, sym same ∙ (Decides-int_eq version (pos 1)).0 right)

pub version_given : IsBack take_version (λ _ version. fact.Ctiprove version) (λ version. version ≡ pos 1)
unfolding take_version
version_given i x h = rw ((Decides-int_eq x (pos 1)).1 h) refl

pub kinds_taken : (pred : PredText) → IsTaken (take_kinds pred) (λ _ kinds. fact.Kinds pred kinds) (AreKinds pred.arity)
unfolding take_kinds
kinds_taken pred i f x e = go (split_kinds f)
  where
    go : ((q : PredText) (j : ℕ) → take_kinds q j f ≡ Some None) ⊎ IsKindsFact f → (f ≡ fact.Kinds pred x) × AreKinds pred.arity x
    go (inl none) = other_taken (take_kinds pred i f) x (none pred i) e
    go (inr (q, kinds, is)) =
        let (here, some) = placed (same_pred q pred) (kept ((length kinds == pred.arity) && nat_le pred.arity 12) kinds) x (rw is at e) in
        let (right, same) = kept_is ((length kinds == pred.arity) && nat_le pred.arity 12) kinds x some in
        let (each, few) = and_parts (length kinds == pred.arity) (nat_le pred.arity 12) right in
        (rw (is, same_is q pred here, same) refl, (rw same at (eqb-true (length kinds) pred.arity each), leb-true pred.arity 12 few))

pub kinds_given : (pred : PredText) → IsBack (take_kinds pred) (λ _ kinds. fact.Kinds pred kinds) (AreKinds pred.arity)
unfolding take_kinds
kinds_given pred i x h = rw (same_itself pred, eq-eqb (length x) pred.arity h.0, le-leb pred.arity 12 h.1) refl

pub row_taken : (pred : PredText) (width : ℕ) → IsTaken (take_row pred width) (size_line pred) (IsSizeRow width)
unfolding take_row
row_taken pred width i f x e = go (split_row f)
  where
    go : ((q : PredText) (width j : ℕ) → take_row q width j f ≡ Some None) ⊎ IsRowFact f → (f ≡ size_line pred i x) × IsSizeRow width x
    go (inl none) = other_taken (take_row pred width i f) x (none pred width i) e
    go (inr (q, index, row, is)) =
        let (here, some) = placed (same_pred q pred && (index == suc i)) (row_read width row) x (rw is at e) in
        let (same, number) = and_parts (same_pred q pred) (index == suc i) here in
        let (whole, right) = row_is width row x some in
        (rw (is, same_is q pred same, eqb-true index (suc i) number, whole) refl, right)

pub row_given : (pred : PredText) (width : ℕ) → IsBack (take_row pred width) (size_line pred) (IsSizeRow width)
unfolding take_row
row_given pred width i x h = rw (same_itself pred, eq-eqb (suc i) (suc i) refl, row_back width x h) refl

-- numbers and an offset are in the range of a row
measure_is : (width : ℕ) (coeffs : List ℤ) (offset : ℤ) (x : LevelPart) → measure_read width coeffs offset ≡ Some (Some x)
    → (record { coeffs = coeffs; offset = offset } ≡ x) × IsMeasure width x
measure_is width coeffs offset x e =
    let (right, same) = kept_is ((length coeffs == width) && (is_entry offset && are_entries coeffs)) (record { coeffs = coeffs; offset = offset }) x e in
    let row : Row = record { constant = offset; coeffs = coeffs } in
    let (whole, good) = row_is width (offset ∷ coeffs) (record { constant = offset; coeffs = coeffs }) (rw right refl) in
    rw (← same) (refl, (good.0, good.1.1, good.1.0))

measure_back : (width : ℕ) (x : LevelPart) → IsMeasure width x → measure_read width x.coeffs x.offset ≡ Some (Some x)
measure_back width x h =
    let (right, same) = kept_is ((length x.coeffs == width) && (is_entry x.offset && are_entries x.coeffs)) (record { constant = x.offset; coeffs = x.coeffs }) (record { constant = x.offset; coeffs = x.coeffs })
    (row_back width (record { constant = x.offset; coeffs = x.coeffs }) (h.0, (h.2, h.1))) in
    rw right refl

pub level_taken : (pred : PredText) (width m : ℕ) → IsTaken (take_level pred width m) (level_line pred m) (IsMeasure width)
unfolding take_level
level_taken pred width m i f x e = go (split_level f)
  where
    go : ((q : PredText) (width m j : ℕ) → take_level q width m j f ≡ Some None) ⊎ IsLevelFact f → (f ≡ level_line pred m i x) × IsMeasure width x
    go (inl none) = other_taken (take_level pred width m i f) x (none pred width m i) e
    go (inr (q, list, index, coeffs, offset, is)) =
        let (here, some) = placed (same_pred q pred && ((list == suc m) && (index == suc i))) (measure_read width coeffs offset) x (rw is at e) in
        let (same, more) = and_parts (same_pred q pred) ((list == suc m) && (index == suc i)) here in
        let (two, number) = and_parts (list == suc m) (index == suc i) more in
        let (whole, right) = measure_is width coeffs offset x some in
        (rw (is, same_is q pred same, eqb-true list (suc m) two, eqb-true index (suc i) number, ← whole) refl, right)

pub level_given : (pred : PredText) (width m : ℕ) → IsBack (take_level pred width m) (level_line pred m) (IsMeasure width)
unfolding take_level
level_given pred width m i x h = rw (same_itself pred, eq-eqb (suc m) (suc m) refl, eq-eqb (suc i) (suc i) refl, measure_back width x h) refl

pub drop_taken : (k j rows m : ℕ) → IsTaken (take_drop k j rows m) (drops_line k j m) (HaveMultipliers rows)
unfolding take_drop
drop_taken k j rows m i f x e = go (split_drop f)
  where
    go : ((k j rows m i : ℕ) → take_drop k j rows m i f ≡ Some None) ⊎ IsDrops f → (f ≡ drops_line k j m i x) × HaveMultipliers rows x
    go (inl none) = other_taken (take_drop k j rows m i f) x (none k j rows m i) e
    go (inr (clause, call, list, index, scale, numbers, is)) =
        let (here, some) = placed ((clause == suc k) && ((call == suc j) && ((list == suc m) && (index == suc i)))) (multipliers_read rows scale numbers) x (rw is at e) in
        let (one, more) = and_parts (clause == suc k) ((call == suc j) && ((list == suc m) && (index == suc i))) here in
        let (two, others) = and_parts (call == suc j) ((list == suc m) && (index == suc i)) more in
        let (three, four) = and_parts (list == suc m) (index == suc i) others in
        let (whole, right) = multipliers_are rows scale numbers x some in
        (rw (is, eqb-true clause (suc k) one, eqb-true call (suc j) two, eqb-true list (suc m) three, eqb-true index (suc i) four, ← whole) refl, right)

pub drop_given : (k j rows m : ℕ) → IsBack (take_drop k j rows m) (drops_line k j m) (HaveMultipliers rows)
unfolding take_drop
drop_given k j rows m i x h =
    rw (eq-eqb (suc k) (suc k) refl, eq-eqb (suc j) (suc j) refl, eq-eqb (suc m) (suc m) refl, eq-eqb (suc i) (suc i) refl, multipliers_back rows x h) refl

pub bound_taken : (k j rows : ℕ) → IsTaken (take_bound k j rows) (floors_line k j) (HaveMultipliers rows)
unfolding take_bound
bound_taken k j rows m f x e = go (split_bound f)
  where
    go : ((k j rows m : ℕ) → take_bound k j rows m f ≡ Some None) ⊎ IsFloors f → (f ≡ floors_line k j m x) × HaveMultipliers rows x
    go (inl none) = other_taken (take_bound k j rows m f) x (none k j rows m) e
    go (inr (clause, call, list, scale, numbers, is)) =
        let (here, some) = placed ((clause == suc k) && ((call == suc j) && (list == suc m))) (multipliers_read rows scale numbers) x (rw is at e) in
        let (one, more) = and_parts (clause == suc k) ((call == suc j) && (list == suc m)) here in
        let (two, three) = and_parts (call == suc j) (list == suc m) more in
        let (whole, right) = multipliers_are rows scale numbers x some in
        (rw (is, eqb-true clause (suc k) one, eqb-true call (suc j) two, eqb-true list (suc m) three, ← whole) refl, right)

pub bound_given : (k j rows : ℕ) → IsBack (take_bound k j rows) (floors_line k j) (HaveMultipliers rows)
unfolding take_bound
bound_given k j rows m x h = rw (eq-eqb (suc k) (suc k) refl, eq-eqb (suc j) (suc j) refl, eq-eqb (suc m) (suc m) refl, multipliers_back rows x h) refl

-- which predicate is said to fail
pub fails_is : (pred : PredText) (f : ProveFact) (b : Bool) → is_fails pred f ≡ b → IsTrue b → f ≡ fact.Fails pred
unfolding is_fails
fails_is pred f b e true = go (split_fails f)
  where
    go : ((q : PredText) → is_fails q f ≡ false) ⊎ IsFailsFact f → f ≡ fact.Fails pred
    go (inl none) = let bad : false ≡ b = sym (none pred) ∙ e in absurd (cc (bad ∙ true))
    go (inr (q, is)) = let same : same_pred q pred ≡ b = rw is at e in is ∙ ap (λ z. fact.Fails z) (same_is q pred (same ∙ true))

pub fails_given : (pred : PredText) → is_fails pred (fact.Fails pred) ≡ Bool.true
unfolding is_fails
fails_given pred = same_itself pred

-- the pairs of a group, of a point and of a floor
pub pair_is : (q r : ℕ × ℕ) → same_pair q r ≡ Bool.true → q ≡ r
pair_is q r e = let (one, two) = and_parts (q.0 == r.0) (q.1 == r.1) e in ap₂ (λ x y. (x, y)) (eqb-true q.0 r.0 one) (eqb-true q.1 r.1 two)

pub pair_itself : (q : ℕ × ℕ) → same_pair q q ≡ Bool.true
pair_itself q = rw (eq-eqb q.0 q.0 refl, eq-eqb q.1 q.1 refl) refl

module _ (p : Listing) (comps : Partition) (a : ℕ) where
  -- a pair of the component after another
  abbrev pub IsNext : ℕ × ℕ → ℕ × ℕ → Type 0
  IsNext last q = IsTrue (is_pair p comps a q.0 q.1) × IsBefore last q

  pub group_taken : (last : ℕ × ℕ) → IsTaken (take_group p comps a last) (λ _ q. fact.Group q.0 q.1) (IsNext last)
  unfolding take_group
  group_taken last i f x e = go (split_group f)
    where
      go : ((p : Listing) (comps : Partition) (a : ℕ) (last : ℕ × ℕ) (i : ℕ) → take_group p comps a last i f ≡ Some None) ⊎ IsGroupFact f → (f ≡ fact.Group x.0 x.1) × IsNext last x
      go (inl none) = other_taken (take_group p comps a last i f) x (none p comps a last i) e
      go (inr (clause, call, is)) =
          let (here, some) = placed (is_pair p comps a clause call && is_before last (clause, call)) (Some (Some (clause, call))) x (rw is at e) in
          let (own, later) = and_parts (is_pair p comps a clause call) (is_before last (clause, call)) here in
          let same : (clause, call) ≡ x = same_some _ _ (same_some _ _ some) in
          rw (← same) (is, (own, before_is last (clause, call) later))

  pub group_given : (last : ℕ × ℕ) → IsBack (take_group p comps a last) (λ _ q. fact.Group q.0 q.1) (IsNext last)
  unfolding take_group
  group_given last i x h = rw (h.0, before_back last x h.1) refl

paired_is : (clause call : ℕ) (o : Taken Point) (y : GroupPoint) → option_map (option_map (group_point clause call)) o ≡ Some (Some y)
    → (x : Point) × (o ≡ Some (Some x)) × (group_point clause call x ≡ y)
paired_is clause call None y e = absurd (none-some _ e)
paired_is clause call (Some None) y e = other_taken (Some None) y refl e
paired_is clause call (Some (Some x)) y e = (x, refl, same_some _ _ (same_some _ _ e))

module _ (p : Listing) where
  pub point_taken : (pairs : List (ℕ × ℕ)) (last : ℕ × ℕ) (f : ProveFact) (y : GroupPoint) → take_point p pairs last f ≡ Some (Some y)
      → (f ≡ point_line y) × IsBefore last (pair_of_point y) × IsGroupPoint p pairs y
  unfolding take_point
  point_taken pairs last f y e = go (split_point f)
    where
      go : ((p : Listing) (pairs : List (ℕ × ℕ)) (last : ℕ × ℕ) → take_point p pairs last f ≡ Some None) ⊎ IsPointFact f
          → (f ≡ point_line y) × IsBefore last (pair_of_point y) × IsGroupPoint p pairs y
      go (inl none) = other_taken (take_point p pairs last f) y (none p pairs last) e
      go (inr (clause, call, t, w, is)) =
          let (here, some) = placed (is_among pairs (clause, call) && is_before last (clause, call))
          (option_map (option_map (group_point clause call)) (point_read (values_of p clause) t w)) y (rw is at e) in
          let (own, later) = and_parts (is_among pairs (clause, call)) (is_before last (clause, call)) here in
          let (x, read, same) = paired_is clause call (point_read (values_of p clause) t w) y some in
          let (whole, right) = point_is (values_of p clause) t w x read in
          rw (← same) (rw (is, ← whole) refl, before_is last (clause, call) later, record { pair = own; point = right })

  pub point_given : (pairs : List (ℕ × ℕ)) (last : ℕ × ℕ) (y : GroupPoint) → IsBefore last (pair_of_point y) → IsGroupPoint p pairs y
      → take_point p pairs last (point_line y) ≡ Some (Some y)
  unfolding take_point
  point_given pairs last y before h =
      rw (h.pair, before_back last (pair_of_point y) before, point_back (values_of p y.clause) y.point h.point) refl

  pub floor_taken : (pair : ℕ × ℕ) (f : ProveFact) (y : Point) → take_floor p pair f ≡ Some (Some y) → (f ≡ fact.Floor pair.0 pair.1 y.t y.w) × IsPointOf p pair.0 y
  unfolding take_floor
  floor_taken pair f y e = go (split_floor f)
    where
      go : ((p : Listing) (pair : ℕ × ℕ) → take_floor p pair f ≡ Some None) ⊎ IsFloorFact f → (f ≡ fact.Floor pair.0 pair.1 y.t y.w) × IsPointOf p pair.0 y
      go (inl none) = other_taken (take_floor p pair f) y (none p pair) e
      go (inr (clause, call, t, w, is)) =
          let (here, some) = placed (same_pair pair (clause, call)) (point_read (values_of p clause) t w) y (rw is at e) in
          let same : pair ≡ (clause, call) = pair_is pair (clause, call) here in
          let (whole, right) = point_is (values_of p clause) t w y some in
          rw same (rw (is, ← whole) refl, right)

  pub floor_given : (pair : ℕ × ℕ) (y : Point) → IsPointOf p pair.0 y → take_floor p pair (fact.Floor pair.0 pair.1 y.t y.w) ≡ Some (Some y)
  unfolding take_floor
  floor_given pair y h = rw (pair_itself pair, point_back (values_of p pair.0) y h) refl

-- the number of groups
pub count_taken : (pred : PredText) (f : ProveFact) (n : ℕ) → take_count pred f ≡ Some (Some n) → (f ≡ fact.Refuted pred n) × (1 ≤ n)
unfolding take_count
count_taken pred f n e = go (split_count f)
  where
    go : ((q : PredText) → take_count q f ≡ Some None) ⊎ IsCountFact f → (f ≡ fact.Refuted pred n) × (1 ≤ n)
    go (inl none) = other_taken (take_count pred f) n (none pred) e
    go (inr (q, groups, is)) =
        let (here, some) = placed (same_pred q pred) (kept (nat_le 1 groups) groups) n (rw is at e) in
        let (right, same) = kept_is (nat_le 1 groups) groups n some in
        (rw (is, same_is q pred here, same) refl, rw same at (leb-true 1 groups right))

pub count_given : (pred : PredText) (n : ℕ) → 1 ≤ n → take_count pred (fact.Refuted pred n) ≡ Some (Some n)
unfolding take_count
count_given pred n h = rw (same_itself pred, le-leb 1 n h) refl
