-- Reading a stuck set: what is read is listed so, and what is listed so is read.
use Rattle.std.proofs.Common.{◌≡◌, ◌≢◌, ℕ, ◌⊎◌, inl, inr, Bool, true, false, ◌&&◌, if◌then◌else◌, List, [], ◌∷◌, ◌++◌, Option, Some, None, option_map, Ok, refl, ap, sym, ◌∙◌}
use Rattle.std.proofs.lemmas.Bool.{false≢true, and_parts}
use Rattle.std.proofs.lemmas.Bool.Decides.{Decides-int_eq}
use Rattle.std.proofs.lemmas.Option.{none-some}
use Rattle.std.specs.Prelude.{ℤ, pos}
use Rattle.std.specs.Ordering.{int_eq}
use Rattle.std.specs.List.{AllByRecursion}
use Rattle.call_components.specs.Partition.{Partition}
use Rattle.cert_structure.specs.Order.{pred_text}
use Rattle.cert_structure.specs.Shape.{vars_of, is_pair, IsBefore, place_of_pair, IsPoint}
use Rattle.cert_structure.specs.Walk.{is_before, point_read, shared_refuted}
use Rattle.cert_structure.proofs.GroupLemmas as laws
use Rattle.cert_structure.proofs.PointLemmas.{before_is, before_back, point_is, point_back, not_null}
use Rattle.cert_structure.proofs.ContentLemmas.{other_taken, placed}
use Rattle.cti_terms.specs.Listing.{Listing, numbered}
use Rattle.fact_reading.specs.Walk.{Taken, read_next}
use Rattle.fact_reading.proofs.SectionLemmas.{same_some, IsTaken, IsBack, next_sound, next_back}
use Rattle.linear_rows.specs.declared.point.Point.{Point}
use Rattle.number_tests.specs.declared.level_part.LevelPart.{LevelPart}
use Rattle.number_tests.specs.declared.pair_point.PairPoint.{PairPoint}
use Rattle.number_tests.specs.declared.refutation.Refutation.{Refutation}
use Rattle.lex_certificate.specs.declared.fact.LexFact.{LexFact}
use Rattle.lex_certificate.specs.declared.fact.LexFact.TheVariants as lex
use Rattle.lex_certificate.specs.Order.{point_line, stuck_lines}
use Rattle.lex_certificate.specs.Shape.{IsStuckPoint, IsStuckSet}
use Rattle.lex_certificate.specs.Walk.{shared, stuck_point, stuck_read, take_point, read_stuck}
use Rattle.lex_certificate.proofs.KindLemmas.{split_point, IsPointFact}
use Rattle.lex_certificate.proofs.TakeLemmas.{refuted_taken, refuted_given}

paired_is : (clause call : ℕ) (o : Taken Point) (y : PairPoint) → option_map (option_map (stuck_point clause call)) o ≡ Some (Some y)
    → (x : Point) × (o ≡ Some (Some x)) × (stuck_point clause call x ≡ y)
paired_is clause call None y e = absurd (none-some _ e)
paired_is clause call (Some None) y e = other_taken (Some None) y refl e
paired_is clause call (Some (Some x)) y e = (x, refl, same_some _ _ (same_some _ _ e))

stuck_is : (clause call vars : ℕ) (t : ℤ) (w : List ℤ) (y : PairPoint) → stuck_read clause call vars t w ≡ Some (Some y)
    → (stuck_point clause call (record { t = t; w = w }) ≡ y) × IsPoint vars (record { t = t; w = w }) × (t ≢ pos 0)
stuck_is clause call vars t w y e = go (int_eq t (pos 0)) refl e
  where
    go : (b : Bool) → int_eq t (pos 0) ≡ b → (if b then None else option_map (option_map (stuck_point clause call)) (point_read vars t w)) ≡ Some (Some y)
        → (stuck_point clause call (record { t = t; w = w }) ≡ y) × IsPoint vars (record { t = t; w = w }) × (t ≢ pos 0)
    go true test some = absurd (none-some _ some)
    go false test some =
        let (x, read, same) = paired_is clause call (point_read vars t w) y some in
        let (whole, right) = point_is vars t w x read in
        (ap (stuck_point clause call) whole ∙ same, rw (← whole) at right, λ null. false≢true (sym test ∙ (Decides-int_eq t (pos 0)).1 null))

module _ (p : Listing) (comps : Partition) (a : ℕ) where
  -- what is asked of a pair after another
  pub record IsNext (last : ℕ × ℕ) (y : PairPoint) : Type 0 where
    pub before : IsBefore last (place_of_pair y)
    pub right : IsStuckPoint p comps a y

  point_taken : (last : ℕ × ℕ) → IsTaken (take_point p comps a last) (λ _ y. point_line y) (IsNext last)
  unfolding take_point
  point_taken last i f y e = go (split_point f)
    where
      go : ((p : Listing) (comps : Partition) (a : ℕ) (last : ℕ × ℕ) (i : ℕ) → take_point p comps a last i f ≡ Some None) ⊎ IsPointFact f
          → (f ≡ point_line y) × IsNext last y
      go (inl none) = other_taken (take_point p comps a last i f) y (none p comps a last i) e
      go (inr (clause, call, t, w, is)) =
          let (here, some) = placed (is_pair p comps a clause call && is_before last (clause, call))
          (stuck_read clause call (vars_of (numbered p.clauses clause)) t w) y (rw is at e) in
          let (own, later) = and_parts (is_pair p comps a clause call) (is_before last (clause, call)) here in
          let (same, right, positive) = stuck_is clause call (vars_of (numbered p.clauses clause)) t w y some in
          rw (← same) (is, record { before = before_is last (clause, call) later; right = record { pair = own; point = right; positive = positive; single = refl } })

  point_back_taken : (last : ℕ × ℕ) → IsBack (take_point p comps a last) (λ _ y. point_line y) (IsNext last)
  unfolding take_point
  point_back_taken last i y h =
      rw (
        h.right.pair,
        before_back last (place_of_pair y) h.before,
        not_null y.point.t h.right.positive,
        point_back (vars_of (numbered p.clauses y.clause)) y.point h.right.point,
      ) (ap (λ z. Some (Some (record { clause = y.clause; call = y.call; point = y.point; at = z }))) (sym h.right.single))

  point_sound : (last : ℕ × ℕ) (s t : List LexFact) (y : PairPoint) → read_next (take_point p comps a last) 0 s ≡ Ok (y, t)
      → (s ≡ point_line y ∷ t) × IsBefore last (place_of_pair y) × IsStuckPoint p comps a y
  point_sound last s t y e =
      let (one, next) = next_sound (take_point p comps a last) (λ _ y. point_line y) (IsNext last) (point_taken last) 0 s t y e in
      (one, next.before, next.right)

  point_given : (last : ℕ × ℕ) (y : PairPoint) (t : List LexFact) → IsBefore last (place_of_pair y) → IsStuckPoint p comps a y
      → read_next (take_point p comps a last) 0 (point_line y ∷ t) ≡ Ok (y, t)
  point_given last y t before right =
      next_back (take_point p comps a last) (λ _ y. point_line y) (IsNext last) (point_back_taken last) 0 y t (record { before = before; right = right })

module _ (p : Listing) (names : List (List ℕ)) (comps : Partition) (lists : List (List (List LevelPart))) (a : ℕ) where
  pub stuck_sound : (s t : List LexFact) (o : Option Refutation) → read_stuck p names comps lists a s ≡ Ok (o, t)
      → (s ≡ stuck_lines (pred_text p names a) o ++ t) × IsStuckSet p comps lists a o
  stuck_sound =
      laws.refutation_sound shared (λ pred n. lex.Refuted pred n) (λ x. point_line x ∷ []) (IsStuckPoint p comps a) (λ last. read_next (take_point p comps a last) 0)
      refuted_taken (point_sound p comps a) p names comps lists a

  pub stuck_given : (t : List LexFact) (o : Option Refutation) → IsStuckSet p comps lists a o
      → AllByRecursion (λ f. shared_refuted (pred_text p names a) 0 (shared f) ≡ Some None) t
      → read_stuck p names comps lists a (stuck_lines (pred_text p names a) o ++ t) ≡ Ok (o, t)
  stuck_given =
      laws.refutation_given shared (λ pred n. lex.Refuted pred n) (λ x. point_line x ∷ []) (IsStuckPoint p comps a) (λ last. read_next (take_point p comps a last) 0)
      refuted_given (point_given p comps a) p names comps lists a
