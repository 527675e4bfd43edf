-- Where reading a refutation fails, the facts before the wrong one begin those of one, which may claim more pairs.
use Rattle.std.proofs.Common.{◌≡◌, ℕ, zero, suc, ◌+◌, ◌≤◌, ◌⊎◌, inl, inr, Bool, true, false, ◌==◌, nat_le, if◌then◌else◌, List, [], ◌∷◌, ◌++◌, length, Option, Some, None, Ok, Err, refl, ap, sym, ◌∙◌, subst, arith, eqb-true, append_assoc, append-nil}
use Rattle.std.proofs.lemmas.Bool.{and_parts}
use Rattle.std.proofs.lemmas.Bool.Decides.{Decides-int_eq}
use Rattle.std.specs.Prelude.{pos, ◌&&◌, ◌≢◌}
use Rattle.std.specs.Ordering.{int_eq}
use Rattle.std.specs.List.{AllByRecursion}
use Rattle.call_components.specs.Partition.{Partition}
use Rattle.certificate.specs.declared.pred_text.PredText.{PredText}
use Rattle.certificate.specs.declared.fact.Fact.{Fact}
use Rattle.certificate.specs.declared.fact.Fact.TheVariants as fact
use Rattle.certificate.specs.Range.{IsAmount}
use Rattle.cti_terms.specs.Listing.{Listing, numbered}
use Rattle.number_tests.specs.declared.level_part.LevelPart.{LevelPart}
use Rattle.linear_rows.specs.declared.point.Point.{Point}
use Rattle.number_tests.specs.declared.pair_point.PairPoint.{PairPoint}
use Rattle.number_tests.specs.declared.refutation.Refutation.{Refutation}
use Rattle.cert_structure.specs.declared.points.FirstPoint.{FirstPoint}
use Rattle.fact_reading.specs.Numbered.{facts_from, EachFrom}
use Rattle.cert_structure.specs.Order.{pred_text, point_facts, refutation_facts}
use Rattle.cert_structure.specs.Shape.{vars_of, is_recursive, is_pair, IsBefore, PairsAscend, IsPoint, IsPairPoint, IsRefutation}
use Rattle.cert_structure.specs.StructureFault as place
use Rattle.cert_structure.specs.Walk.{same_pred, kept, is_before, pair_end, pair_point, paired, point_read, take_refuted, take_point, take_second, read_second, read_point, read_points, points_read, read_group, is_open, read_refutation, shared_refuted, group_by, refutation_by}
use Rattle.fact_reading.specs.Walk.{Wrong, Taken, item_of, result_map, with_first, read_next, read_each}
use Rattle.cert_structure.proofs.KindLemmas.{split_refuted, split_point, split_second, IsRefuted, IsPoint as IsPointFact, IsAt}
use Rattle.fact_reading.proofs.SectionLemmas.{err_ok, next_sound}
use Rattle.cert_structure.proofs.ContentLemmas.{same_is, amount_is}
use Rattle.cert_structure.proofs.TakeLemmas.{refuted_taken}
use Rattle.cert_structure.proofs.PointLemmas.{before_is, IsFirst, first_taken, second_taken, point_sound, refutation_sound}
use Rattle.cert_structure.proofs.GroupLemmas.{open_is}
use Rattle.cert_structure.proofs.LocalLemmas.{bound_err, mapped_err, with_made}
use Rattle.cert_structure.proofs.EndLemmas.{shows_more, Ends, ends_weaker, after_read, at_wrong, missed, bad_place, IsBadAt, next_ends, fill, zeros, many_zeros, zeros_amounts}

one_amount : IsAmount (pos 1)
one_amount = amount_is (pos 1) refl

-- a point with t above 0
abbrev some_point : ℕ → Point
some_point vars = record { t = pos 1; w = zeros vars }

some_point_right : (vars : ℕ) → IsPoint vars (some_point vars)
some_point_right vars = (many_zeros vars, one_amount, zeros_amounts vars)

some_point_above : (vars : ℕ) → (some_point vars).t ≢ pos 0
some_point_above vars e = cc e

abbrev some_pair : Listing → ℕ → ℕ → PairPoint
some_pair p clause call = record { clause = clause; call = call; point = some_point (vars_of (numbered p.clauses clause)); at = None }

module _ (p : Listing) (comps : Partition) (a : ℕ) where
  some_pair_right : (clause call : ℕ) → is_pair p comps a clause call ≡ true → IsPairPoint p comps a (some_pair p clause call)
  some_pair_right clause call own =
      record { pair = own; point = some_point_right (vars_of (numbered p.clauses clause)); second = some_point_above (vars_of (numbered p.clauses clause)) }

  -- at most `n` pairs that follow another
  abbrev pub ArePairs : ℕ × ℕ → ℕ → List PairPoint → Type 0
  ArePairs last n xs = (length xs ≤ n) × PairsAscend last xs × AllByRecursion (IsPairPoint p comps a) xs

  abbrev pub HasPairs : ℕ × ℕ → ℕ → ℕ → List Fact → Type 0
  HasPairs last n i l = (xs : List PairPoint) × (l ≡ facts_from i (λ _ x. point_facts x) xs) × ArePairs last n xs

  point_bad : (last : ℕ × ℕ) (f : Fact) → take_point p comps a last 0 f ≡ None
      → (clause : ℕ) × (call : ℕ) × (is_pair p comps a clause call ≡ true) × IsBefore last (clause, call) × IsBadAt f (fact.Point clause call (pos 1) (zeros (vars_of (numbered p.clauses clause))))
  unfolding take_point
  point_bad last f e = go (split_point f)
    where
      go : ((p : Listing) (comps : Partition) (a : ℕ) (last : ℕ × ℕ) (i : ℕ) → take_point p comps a last i f ≡ Some None) ⊎ IsPointFact f
          → (clause : ℕ) × (call : ℕ) × (is_pair p comps a clause call ≡ true) × IsBefore last (clause, call) × IsBadAt f (fact.Point clause call (pos 1) (zeros (vars_of (numbered p.clauses clause))))
      go (inl none) = missed _ (none p comps a last 0) e
      go (inr (clause, call, t, w, is)) =
          let at = bad_place (is_pair p comps a clause call && is_before last (clause, call)) (paired clause call (point_read (vars_of (numbered p.clauses clause)) t w)) (rw is at e) in
          let (own, later) = and_parts (is_pair p comps a clause call) (is_before last (clause, call)) at in (
            clause,
            call,
            own,
            before_is last (clause, call) later,
            subst (λ z. IsBadAt z (fact.Point clause call (pos 1) (zeros (vars_of (numbered p.clauses clause))))) (sym is) (place.point, refl),
          )

  second_bad : (pair : ℕ × ℕ) (vars i : ℕ) (f : Fact) → take_second pair vars i f ≡ None → IsBadAt f (fact.At pair.0 pair.1 (pos 1) (zeros vars))
  unfolding take_second
  second_bad pair vars i f e = go (split_second f)
    where
      go : ((pair : ℕ × ℕ) (vars i : ℕ) → take_second pair vars i f ≡ Some None) ⊎ IsAt f → IsBadAt f (fact.At pair.0 pair.1 (pos 1) (zeros vars))
      go (inl none) = missed _ (none pair vars i) e
      go (inr (clause, call, t, w, is)) =
          let at = bad_place ((clause == pair.0) && (call == pair.1)) (if int_eq t (pos 0) then None else point_read vars t w) (rw is at e) in
          let (one, two) = and_parts (clause == pair.0) (call == pair.1) at in
          let full : f ≡ fact.At pair.0 pair.1 t w = rw (is, eqb-true clause pair.0 one, eqb-true call pair.1 two) refl in
          subst (λ z. IsBadAt z (fact.At pair.0 pair.1 (pos 1) (zeros vars))) (sym full) (place.second, refl)

  -- the first point of a pair is not there
  first_ends : (last : ℕ × ℕ) (n i : ℕ) (s : List Fact) (w : Wrong) → read_next (take_point p comps a last) 0 s ≡ Err w → Ends (HasPairs last (suc n) i) s w
  first_ends last n i [] w e =
      at_wrong {A = FirstPoint} _ [] _ w e (record { done = []; stands = []; may = []; split = refl; left = refl; end = ([], refl, (omega arith, tt, tt)); why = refl })
  first_ends last n i (f ∷ s) w e = go (take_point p comps a last 0 f) refl e
    where
      go : (o : Taken FirstPoint) → take_point p comps a last 0 f ≡ o → item_of f s o ≡ Err w → Ends (HasPairs last (suc n) i) (f ∷ s) w
      go None read same =
          let (clause, call, own, later, bad) = point_bad last f read in
          at_wrong {A = FirstPoint} _ (f ∷ s) _ w same (record {
            done = [];
            stands = f ∷ s;
            may = point_facts (some_pair p clause call);
            split = refl;
            left = refl;
            end = (some_pair p clause call ∷ [], sym (append-nil (point_facts (some_pair p clause call))), (omega arith, (later, tt), (some_pair_right clause call own, tt)));
            why = record { own = f; other = fact.Point clause call (pos 1) (zeros (vars_of (numbered p.clauses clause))); after = s; more = []; first = refl; instead = refl; place = bad.0; content = bad.1 };
          })
      go (Some None) read same =
          at_wrong {A = FirstPoint} _ (f ∷ s) _ w same (record { done = []; stands = f ∷ s; may = []; split = refl; left = refl; end = ([], refl, (omega arith, tt, tt)); why = (f, s, refl) })
      go (Some (Some y)) read same = err_ok w (y, s) (sym same)

  abbrev vars_at : FirstPoint → ℕ
  vars_at x = vars_of (numbered p.clauses x.pair.clause)

  abbrev first_fact : FirstPoint → Fact
  first_fact x = fact.Point x.pair.clause x.pair.call x.point.t x.point.w

  -- the second point of a pair is not there
  second_ends : (last : ℕ × ℕ) (n i : ℕ) (x : FirstPoint) → IsFirst p comps a last x → (s : List Fact) (w : Wrong) → read_second p x s ≡ Err w → Ends (λ l. HasPairs last (suc n) i (first_fact x ∷ l)) s w
  unfolding read_second
  second_ends last n i x h s w e = go (int_eq x.point.t (pos 0)) refl e
    where
      paired_with : (y : Point) → x.point.t ≡ pos 0 → IsPoint (vars_at x) y × (y.t ≢ pos 0) → ArePairs last (suc n) (pair_point x (Some y) ∷ [])
      paired_with y null right = (omega arith, (h.before, tt), (record { pair = h.pair; point = h.point; second = (null, right.0, right.1) }, tt))

      go : (b : Bool) → int_eq x.point.t (pos 0) ≡ b
          → (if b then result_map (with_made (λ y. pair_point x (Some y))) (read_next (take_second (pair_end x.pair) (vars_at x)) 0 s) else Ok (pair_point x None, s)) ≡ Err w
          → Ends (λ l. HasPairs last (suc n) i (first_fact x ∷ l)) s w
      go true test read =
          ends_weaker _ _ s w (next_ends (take_second (pair_end x.pair) (vars_at x)) (λ _ y. fact.At x.pair.clause x.pair.call y.t y.w) (λ y. IsPoint (vars_at x) y × (y.t ≢ pos 0)) (second_taken (pair_end x.pair) (vars_at x))
          (some_point (vars_at x)) (some_point_right (vars_at x), some_point_above (vars_at x)) (λ j f bad. second_bad (pair_end x.pair) (vars_at x) j f bad) 0 s w
          (mapped_err (with_made (λ y. pair_point x (Some y))) (read_next (take_second (pair_end x.pair) (vars_at x)) 0 s) w read))
          (λ l g. (pair_point x (Some g.0) ∷ [], ap (λ z. first_fact x ∷ z) g.1, paired_with g.0 ((Decides-int_eq x.point.t (pos 0)).0 test) g.2))
      go false test read = err_ok w (pair_point x None, s) (sym read)

  point_ends : (last : ℕ × ℕ) (n i : ℕ) (s : List Fact) (w : Wrong) → read_point p comps a last s ≡ Err w → Ends (HasPairs last (suc n) i) s w
  unfolding read_point
  point_ends last n i s w e =
      bound_err (λ x. read_second p x.0 x.1) (read_next (take_point p comps a last) 0 s) w e (λ first. first_ends last n i s w first)
      (λ q here more.
      let (one, right) = next_sound (take_point p comps a last) (λ _ y. fact.Point y.pair.clause y.pair.call y.point.t y.point.w) _ (first_taken p comps a last) 0 s q.1 q.0 here in
      after_read _ s (first_fact q.0 ∷ []) q.1 w one (second_ends last n i q.0 right q.1 w more))

  points_ends : (n : ℕ) (last : ℕ × ℕ) (i : ℕ) (s : List Fact) (w : Wrong) → read_points (read_point p comps a) last n s ≡ Err w → Ends (HasPairs last n i) s w
  unfolding read_points
  points_ends zero last i s w e = err_ok w ([], s) (sym e)
  points_ends (suc n) last i s w e =
      bound_err (λ x. result_map (with_first x.0) (read_points (read_point p comps a) (x.0.clause, x.0.call) n x.1)) (read_point p comps a last s) w e (λ first. point_ends last n i s w first)
      (λ q read more.
      let (one, before, right) = point_sound p comps a last s q.1 q.0 read in
      after_read _ s (point_facts q.0) q.1 w one
      (ends_weaker _ _ q.1 w (points_ends n (q.0.clause, q.0.call) (suc i) q.1 w (mapped_err (with_first q.0) (read_points (read_point p comps a) (q.0.clause, q.0.call) n q.1) w more))
      (λ l h. (q.0 ∷ h.0, ap (λ z. point_facts q.0 ++ z) h.1, (longer h.0 n h.2.0, (before, h.2.1), (right, h.2.2))))))
    where
      longer : (xs : List PairPoint) (n : ℕ) → length xs ≤ n → suc (length xs) ≤ suc n
      longer xs n h = omega (arith, h)

-- the group of a refutation, which may claim more pairs
module _ (p : Listing) (names : List (List ℕ)) (comps : Partition) (a : ℕ) where
  abbrev pub IsClaimed : Refutation → ℕ → Type 0
  IsClaimed r count = (length r.points ≤ count) × (1 ≤ length r.points) × PairsAscend (0, 0) r.points × AllByRecursion (IsPairPoint p comps a) r.points

  abbrev pub HasGroup : List Fact → Type 0
  HasGroup l = (r : Refutation) × (count : ℕ) × (l ≡ fact.Refuted (pred_text p names a) count ∷ facts_from 0 (λ _ x. point_facts x) r.points) × IsClaimed r count

  refuted_bad : (f : Fact) → take_refuted (pred_text p names a) 0 f ≡ None → IsBadAt f (fact.Refuted (pred_text p names a) 1)
  unfolding shared_refuted
  refuted_bad f e = go (split_refuted f)
    where
      go : ((q : PredText) (j : ℕ) → take_refuted q j f ≡ Some None) ⊎ IsRefuted f → IsBadAt f (fact.Refuted (pred_text p names a) 1)
      go (inl none) = missed _ (none (pred_text p names a) 0) e
      go (inr (q, points, is)) =
          let at = bad_place (same_pred q (pred_text p names a)) (kept (nat_le 1 points) points) (rw is at e) in
          let full : f ≡ fact.Refuted (pred_text p names a) points = rw (is, same_is q (pred_text p names a) at) refl in
          subst (λ z. IsBadAt z (fact.Refuted (pred_text p names a) 1)) (sym full) (place.refuted, refl)

  -- a pair of the component
  module _ (clause call : ℕ) (own : is_pair p comps a (suc clause) (suc call) ≡ true) where
    abbrev one_pair : PairPoint
    one_pair = some_pair p (suc clause) (suc call)

    one_pair_claimed : (count : ℕ) → 1 ≤ count → IsClaimed (record { points = some_pair p (suc clause) (suc call) ∷ [] }) count
    one_pair_claimed count some = (omega (arith, some), omega arith, (inl (omega arith), tt), (some_pair_right p comps a (suc clause) (suc call) own, tt))

    some_pairs : (count : ℕ) → 1 ≤ count → (s : List Fact) (w : Wrong) → Ends (HasPairs p comps a (0, 0) count 0) s w
        → Ends (λ l. (r : Refutation) × (l ≡ facts_from 0 (λ _ x. point_facts x) r.points) × IsClaimed r count) s w
    some_pairs count some s w b = go b.end.0 b.end.1 b.end.2
      where
        go : (xs : List PairPoint) → b.done ++ b.may ≡ facts_from 0 (λ _ x. point_facts x) xs → ArePairs p comps a (0, 0) count xs
            → Ends (λ l. (r : Refutation) × (l ≡ facts_from 0 (λ _ x. point_facts x) r.points) × IsClaimed r count) s w
        go [] is are = record {
          done = b.done;
          stands = b.stands;
          may = b.may ++ point_facts (some_pair p (suc clause) (suc call));
          split = b.split;
          left = b.left;
          end = (
            record { points = some_pair p (suc clause) (suc call) ∷ [] },
            sym (append_assoc b.done b.may (point_facts (some_pair p (suc clause) (suc call)))) ∙ ap (λ z. z ++ point_facts (some_pair p (suc clause) (suc call))) is,
            one_pair_claimed count some,
          );
          why = shows_more w.1 b.stands b.may (point_facts (some_pair p (suc clause) (suc call))) b.why;
        }
        go (x ∷ xs) is are = record { done = b.done; stands = b.stands; may = b.may; split = b.split; left = b.left; end = (record { points = x ∷ xs }, is, (are.0, omega arith, are.1, are.2)); why = b.why }

    group_ends : (s : List Fact) (w : Wrong) → read_group p names comps a s ≡ Err w → Ends HasGroup s w
    unfolding group_by
    group_ends [] w e = err_ok w (None, []) (sym e)
    group_ends (f ∷ s) w e = go (take_refuted (pred_text p names a) 0 f) refl e
      where
        go : (o : Taken ℕ) → take_refuted (pred_text p names a) 0 f ≡ o → points_read (λ n. read_points (read_point p comps a) (0, 0) n s) f s o ≡ Err w → Ends HasGroup (f ∷ s) w
        go None read same =
            let (there, content) = refuted_bad f read in
            at_wrong {A = Option Refutation} _ (f ∷ s) _ w same (record {
              done = [];
              stands = f ∷ s;
              may = fact.Refuted (pred_text p names a) 1 ∷ facts_from 0 (λ _ x. point_facts x) (some_pair p (suc clause) (suc call) ∷ []);
              split = refl;
              left = refl;
              end = (record { points = some_pair p (suc clause) (suc call) ∷ [] }, 1, refl, one_pair_claimed 1 (omega arith));
              why = record {
                own = f;
                other = fact.Refuted (pred_text p names a) 1;
                after = s;
                more = facts_from 0 (λ _ x. point_facts x) (some_pair p (suc clause) (suc call) ∷ []);
                first = refl;
                instead = refl;
                place = there;
                content = content;
              };
            })
        go (Some None) read same = err_ok w (None, f ∷ s) (sym same)
        go (Some (Some n)) read same =
            let (begins, some) = refuted_taken (pred_text p names a) 0 f n read in
            let b = points_ends p comps a n (0, 0) 0 s w (mapped_err (with_made (λ xs. Some (record { points = xs }))) (read_points (read_point p comps a) (0, 0) n s) w same) in
            after_read _ (f ∷ s) (fact.Refuted (pred_text p names a) n ∷ []) s w (ap (λ z. z ∷ s) begins)
            (ends_weaker _ _ s w (some_pairs n some s w b) (λ l g. (g.0, n, ap (λ z. fact.Refuted (pred_text p names a) n ∷ z) g.1, g.2)))

-- the section of the refutations
module _ (p : Listing) (names : List (List ℕ)) (comps : Partition) (levels : List (List LevelPart)) where
  -- refutations of the predicates from a number on, of which one claims more pairs
  pub record HaveClaimed (i n : ℕ) (l : List Fact) : Type 0 where
    pub before : List (Option Refutation)
    pub own : Refutation
    pub later : List (Option Refutation)
    pub at : ℕ
    pub count : ℕ
    pub number : at ≡ i + length before
    pub is : l ≡ facts_from i (λ a r. refutation_facts (pred_text p names a) r) before ++ fact.Refuted (pred_text p names at) count ∷ facts_from 0 (λ _ x. point_facts x) own.points
    pub enough : length own.points ≤ count
    pub all : length (before ++ Some own ∷ later) ≡ n
    pub each : EachFrom i (IsRefutation p comps levels) (before ++ Some own ∷ later)

module _ (p : Listing) (names : List (List ℕ)) (comps : Partition) (levels : List (List LevelPart))
    (pairs : (a : ℕ) → is_recursive comps a ≡ true → (clause : ℕ) × (call : ℕ) × (is_pair p comps a (suc clause) (suc call) ≡ true)) where
  refutation_ends : (a : ℕ) (s : List Fact) (w : Wrong) → read_refutation p names comps levels a s ≡ Err w
      → Ends (λ l. (r : Refutation) × (count : ℕ) × (l ≡ fact.Refuted (pred_text p names a) count ∷ facts_from 0 (λ _ x. point_facts x) r.points) × (length r.points ≤ count)
      × IsRefutation p comps levels a (Some r)) s w
  unfolding refutation_by
  refutation_ends a s w e = go (is_open comps levels a) refl e
    where
      go : (b : Bool) → is_open comps levels a ≡ b → (if b then read_group p names comps a s else Ok (None, s)) ≡ Err w
          → Ends (λ l. (r : Refutation) × (count : ℕ) × (l ≡ fact.Refuted (pred_text p names a) count ∷ facts_from 0 (λ _ x. point_facts x) r.points) × (length r.points ≤ count)
          × IsRefutation p comps levels a (Some r)) s w
      go true opened read =
          let is = open_is comps levels a opened in
          let (clause, call, own) = pairs a is.recursive in
          ends_weaker _ _ s w (group_ends p names comps a clause call own s w read) (λ l h. (h.0, h.1, h.2, h.3.0, (is, h.3.1, h.3.2, h.3.3)))
      go false opened read = err_ok w (None, s) (sym read)

  pub refutations_ends : (i n : ℕ) (s : List Fact) (w : Wrong) → read_each (read_refutation p names comps levels) i n s ≡ Err w → Ends (HaveClaimed p names comps levels i n) s w
  unfolding read_each
  refutations_ends i zero s w e = err_ok w ([], s) (sym e)
  refutations_ends i (suc n) s w e =
      bound_err (λ x. result_map (with_first x.0) (read_each (read_refutation p names comps levels) (suc i) n x.1)) (read_refutation p names comps levels i s) w e
      (λ first.
      let (nones, count, each) = fill (λ a o. IsRefutation p comps levels a o) (suc i + n) (λ a below. (None, tt)) (suc i) n (omega arith) in
      ends_weaker _ _ s w
      (refutation_ends i s w first)
      (λ l h. record { before = []; own = h.0; later = nones; at = i; count = h.1; number = omega arith; is = h.2; enough = h.3; all = ap suc count; each = (h.4, each) }))
      (λ q read more.
      let (one, right) = refutation_sound p names comps levels i s q.1 q.0 read in
      after_read _ s (refutation_facts (pred_text p names i) q.0) q.1 w one
      (ends_weaker _ _ q.1 w (refutations_ends (suc i) n q.1 w (mapped_err (with_first q.0) (read_each (read_refutation p names comps levels) (suc i) n q.1) w more))
      (λ l h. next i n q.0 right l h)))
    where
      next : (i n : ℕ) (x : Option Refutation) → IsRefutation p comps levels i x → (l : List Fact) → HaveClaimed p names comps levels (suc i) n l → HaveClaimed p names comps levels i (suc n) (refutation_facts (pred_text p names i) x ++ l)
      next i n x right l h =
          let number = h.number in
          record {
            before = x ∷ h.before;
            own = h.own;
            later = h.later;
            at = h.at;
            count = h.count;
            number = omega (arith, number);
            is = ap (λ z. refutation_facts (pred_text p names i) x ++ z) h.is
                ∙ sym (append_assoc (refutation_facts (pred_text p names i) x) (facts_from (suc i) (λ a r. refutation_facts (pred_text p names a) r) h.before)
                (fact.Refuted (pred_text p names h.at) h.count ∷ facts_from 0 (λ _ x. point_facts x) h.own.points));
            enough = h.enough;
            all = ap suc h.all;
            each = (right, h.each);
          }
