-- Sets that have moved to another table have the same rows, so the same is said of them there.
use Rattle.std.proofs.Common.{◌≡◌, ◌&&◌, ◌==◌, ◌<◌, ℕ, suc, Bool, true, false, List, [], ◌∷◌, length, map, slice_get, Option, None, Some, IsSomeAnd, unwrap_or, refl, ap, sym, subst, ◌∙◌, arith}
use Rattle.std.specs.List.{list_any}
use Rattle.std.proofs.lemmas.Bool.{eqb-true}
use Rattle.bool_diagrams.proofs.CallerLemmas.{cubes_at, holds_later, known_later}
use Rattle.bool_diagrams.specs.Cubes.{truth_rows, values_of}
use Rattle.bool_diagrams.specs.Rows.{IsDiagram, Keeps, ReadsBelow}
use Rattle.bool_diagrams.specs.Tree.{Tree as Rows}
use Rattle.bool_diagrams.specs.declared.diagram.Diagram.{Diagram}
use Rattle.cert_assembly.specs.Spelled.{spelled, spelled_each, spelled_list, spelled_lists}
use Rattle.cti_terms.specs.declared.predicates.Pred.{Pred}
use Rattle.linear_rows.specs.Step.{columns}
use Rattle.number_tests.specs.Levels.{items_of}
use Rattle.precond_fixpoint.specs.Solving.{AreMappingSets, allowed_family, pre_family}
use Rattle.precond_fixpoint.proofs.PlaceLaws.{items_at, items_there, nothing_at, some_at}
use Rattle.termination_model.proofs.Lists.{place_below}
use Rattle.termination_model.specs.mappings.View.{all_upper}
use Rattle.truth_rows.specs.Sets.{AreSets, family_of, has_row}
use Rattle.moved_diagrams.specs.Moved.{AreLists, AreMovedLists, AreMovedOwn, AreMovedSets, IsMoved}

-- ---- small laws
where_true : (b s t : Bool) → (b ≡ true → s ≡ t) → (b && s) ≡ (b && t)
where_true true s t h = h refl
where_true false s t h = refl

-- what is said of each element, where each is there
by_cases : {X : Type 0} (xs : List X) (q : ℕ) (P : Option X → Type 0) → P None → ((x : X) → slice_get xs q ≡ Some x → P (Some x)) → P (slice_get xs q)
by_cases {X = X} xs q P none some = go (slice_get xs q) refl
  where
    go : (o : Option X) → slice_get xs q ≡ o → P o
    go None e = none
    go (Some x) e = some x e

-- ---- one set
moved_row : (x : Pred) (T T' : List Rows) (d e : Diagram) (row : List Bool) → IsMoved x.arity T d T' e → has_row (Some x) T' (Some e) row ≡ has_row (Some x) T (Some d) row
moved_row x T T' d e row m = where_true (x.arity == length row) (truth_rows T' e row) (truth_rows T d row) (λ is. m.rows row (sym (eqb-true x.arity (length row) is)))

moved_rows : (x : Pred) (T T' : List Rows) (d e : Diagram) → IsMoved x.arity T d T' e → has_row (Some x) T' (Some e) ≡ has_row (Some x) T (Some d)
moved_rows x T T' d e m = λ i row. moved_row x T T' d e row m i

moved_cubes : (x : Pred) (T T' : List Rows) (d e : Diagram) → IsMoved x.arity T d T' e → spelled (Some x) T' (Some e) ≡ spelled (Some x) T (Some d)
moved_cubes x T T' d e m = cubes_at x.arity (truth_rows T' e) (truth_rows T d) m.rows

-- ---- a set for each predicate
module _ (preds : List Pred) (T T' : List Rows) (sets new : List Diagram) (S : AreSets preds T sets) (M : AreMovedSets preds T sets T' new) where
  pub moved_are_sets : AreSets preds T' new
  moved_are_sets = record {
    each = M.each;
    known = λ q e at. (let x = some_at preds q (omega (arith, M.each, place_below new q e at)) in let d = some_at sets q (omega (arith, M.each, S.each, place_below new q e at)) in (M.at q e at x.0 d.0 x.1 d.1).known);
    reads = λ q n e at arity.
        let x = some_at preds q (omega (arith, M.each, place_below new q e at)) in
        let d = some_at sets q (omega (arith, M.each, S.each, place_below new q e at)) in
        let same : x.0.arity ≡ n = subst (λ (o : Option Pred). IsSomeAnd o (λ (y : Pred). y.arity ≡ n)) x.1 arity in
        subst (ReadsBelow T' e) same (M.at q e at x.0 d.0 x.1 d.1).reads;
  }

  pub moved_family : family_of preds T' new ≡ family_of preds T sets
  moved_family = λ i q. at q i
    where
      at : (q : ℕ) → family_of preds T' new q ≡ family_of preds T sets q
      at q = by_cases preds q (λ o. has_row o T' (slice_get new q) ≡ has_row o T (slice_get sets q)) refl one
        where
          one : (x : Pred) → slice_get preds q ≡ Some x → has_row (Some x) T' (slice_get new q) ≡ has_row (Some x) T (slice_get sets q)
          one x px =
              let lt = place_below preds q x px in
              let d = some_at sets q (omega (arith, S.each, lt)) in
              let e = some_at new q (omega (arith, M.each, lt)) in
              ap (λ (o : Option Diagram). has_row (Some x) T' o) e.1 ∙ moved_rows x T T' d.0 e.0 (M.at q e.0 e.1 x d.0 px d.1) ∙ sym (ap (λ (o : Option Diagram). has_row (Some x) T o) d.1)

  pub moved_spelled : spelled_list preds T' new ≡ spelled_list preds T sets
  moved_spelled = λ i. map (λ q. at q i) (columns 0 (length preds))
    where
      at : (q : ℕ) → spelled (slice_get preds q) T' (slice_get new q) ≡ spelled (slice_get preds q) T (slice_get sets q)
      at q = by_cases preds q (λ o. spelled o T' (slice_get new q) ≡ spelled o T (slice_get sets q)) refl one
        where
          one : (x : Pred) → slice_get preds q ≡ Some x → spelled (Some x) T' (slice_get new q) ≡ spelled (Some x) T (slice_get sets q)
          one x px =
              let lt = place_below preds q x px in
              let d = some_at sets q (omega (arith, S.each, lt)) in
              let e = some_at new q (omega (arith, M.each, lt)) in
              ap (λ (o : Option Diagram). spelled (Some x) T' o) e.1 ∙ moved_cubes x T T' d.0 e.0 (M.at q e.0 e.1 x d.0 px d.1) ∙ sym (ap (λ (o : Option Diagram). spelled (Some x) T o) d.1)

-- ---- lists in one order
own_any : (x : Pred) (T T' : List Rows) (row : List Bool) (ds es : List Diagram) → length es ≡ length ds
    → ((m : ℕ) (e : Diagram) → slice_get es m ≡ Some e → (d : Diagram) → slice_get ds m ≡ Some d → IsMoved x.arity T d T' e)
    → list_any (λ (e : Diagram). all_upper (has_row (Some x) T' (Some e)) row) es ≡ list_any (λ (d : Diagram). all_upper (has_row (Some x) T (Some d)) row) ds
own_any x T T' row [] [] l h = refl
own_any x T T' row [] (e ∷ es) l h = absurd (omega arith)
own_any x T T' row (d ∷ ds) [] l h = absurd (omega arith)
own_any x T T' row (d ∷ ds) (e ∷ es) l h =
    let one = moved_rows x T T' d e (h 0 e refl d refl) in
    let more = own_any x T T' row ds es (omega arith) (λ m a at b was. h (suc m) a at b was) in
    rw (one, more) refl

own_spelled : (x : Pred) (T T' : List Rows) (ds es : List Diagram) → length es ≡ length ds → ((m : ℕ) (e : Diagram) → slice_get es m ≡ Some e → (d : Diagram) → slice_get ds m ≡ Some d → IsMoved x.arity T d T' e)
    → map (λ (e : Diagram). spelled (Some x) T' (Some e)) es ≡ map (λ (d : Diagram). spelled (Some x) T (Some d)) ds
own_spelled x T T' [] [] l h = refl
own_spelled x T T' [] (e ∷ es) l h = absurd (omega arith)
own_spelled x T T' (d ∷ ds) [] l h = absurd (omega arith)
own_spelled x T T' (d ∷ ds) (e ∷ es) l h =
    let one = moved_cubes x T T' d e (h 0 e refl d refl) in
    let more = own_spelled x T T' ds es (omega arith) (λ m a at b was. h (suc m) a at b was) in
    λ i. one i ∷ more i

-- ---- a list for each predicate
module _ (preds : List Pred) (T T' : List Rows) (lists new : List (List Diagram)) (S : AreMappingSets preds T lists) (M : AreMovedLists preds T lists T' new) where
  own_at : (q : ℕ) (x : Pred) → slice_get preds q ≡ Some x → AreMovedOwn x.arity T (items_of lists q) T' (items_of new q)
  own_at q x px =
      let lt = place_below preds q x px in
      let ds = some_at lists q (omega (arith, S.each, lt)) in
      let es = some_at new q (omega (arith, M.each, lt)) in
      subst (λ (a : List Diagram). AreMovedOwn x.arity T a T' (items_of new q)) (sym (items_at lists q ds.0 ds.1))
      (subst (λ (b : List Diagram). AreMovedOwn x.arity T ds.0 T' b) (sym (items_at new q es.0 es.1)) (M.own q es.0 es.1 x ds.0 px ds.1))

  pub moved_count : (q : ℕ) → length (items_of new q) ≡ length (items_of lists q)
  moved_count q = go (slice_get preds q) refl
    where
      go : (o : Option Pred) → slice_get preds q ≡ o → length (items_of new q) ≡ length (items_of lists q)
      go (Some x) px = (own_at q x px).each
      go None none =
          let past : (q < length preds) → ⊥ = λ lt. (let x = some_at preds q lt in let is : None ≡ Some x.0 = sym none ∙ x.1 in cc) in
          ap (λ o. length (unwrap_or o [])) (nothing_at new q (λ lt. past (omega (arith, M.each, lt)))) ∙ sym (ap (λ o. length (unwrap_or o [])) (nothing_at lists q (λ lt. past (omega (arith, S.each, lt)))))

  here : (q m : ℕ) (e : Diagram) → slice_get (items_of new q) m ≡ Some e → (x : Pred) × (slice_get preds q ≡ Some x) × IsDiagram T' e × ReadsBelow T' e x.arity
  here q m e at =
      let x = some_at preds q (omega (arith, M.each, items_there new q m e at)) in
      let own = own_at q x.0 x.1 in
      let d = some_at (items_of lists q) m (omega (arith, moved_count q, place_below (items_of new q) m e at)) in
      let is = own.at m e at d.0 d.1 in
      (x.0, x.1, is.known, is.reads)

  pub moved_are_lists : AreMappingSets preds T' new
  moved_are_lists = record {
    each = M.each;
    known = λ q m e at. (here q m e at).2;
    reads = λ q m n e at arity.
        let h = here q m e at in
        let same : h.0.arity ≡ n = subst (λ (o : Option Pred). IsSomeAnd o (λ (y : Pred). y.arity ≡ n)) h.1 arity in
        subst (ReadsBelow T' e) same h.3;
  }

  pub moved_allowed : allowed_family preds T' new ≡ allowed_family preds T lists
  moved_allowed = λ i q row. at q row i
    where
      at : (q : ℕ) (row : List Bool) → allowed_family preds T' new q row ≡ allowed_family preds T lists q row
      at q row = go (slice_get preds q) refl
        where
          none_any : (T : List Rows) (ds : List Diagram) → list_any (λ (d : Diagram). all_upper (has_row None T (Some d)) row) ds ≡ list_any (λ (d : Diagram). all_upper (λ r. false) row) ds
          none_any T ds = refl

          go : (o : Option Pred) → slice_get preds q ≡ o → list_any (λ d. all_upper (has_row (slice_get preds q) T' (Some d)) row) (items_of new q) ≡ list_any (λ d. all_upper (has_row (slice_get preds q) T (Some d)) row) (items_of lists q)
          go (Some x) px =
              ap (λ (o : Option Pred). list_any (λ d. all_upper (has_row o T' (Some d)) row) (items_of new q)) px
              ∙ own_any x T T' row (items_of lists q) (items_of new q) (own_at q x px).each (own_at q x px).at
              ∙ sym (ap (λ (o : Option Pred). list_any (λ d. all_upper (has_row o T (Some d)) row) (items_of lists q)) px)
          go None none =
              let past : (q < length preds) → ⊥ = λ lt. (let x = some_at preds q lt in let is : None ≡ Some x.0 = sym none ∙ x.1 in cc) in
              ap (λ o. list_any (λ d. all_upper (has_row (slice_get preds q) T' (Some d)) row) (unwrap_or o [])) (nothing_at new q (λ lt. past (omega (arith, M.each, lt))))
              ∙ sym (ap (λ o. list_any (λ d. all_upper (has_row (slice_get preds q) T (Some d)) row) (unwrap_or o [])) (nothing_at lists q (λ lt. past (omega (arith, S.each, lt)))))

  pub moved_pre : (m : ℕ) → pre_family preds T' new m ≡ pre_family preds T lists m
  moved_pre m = λ i q. at q i
    where
      at : (q : ℕ) → has_row (slice_get preds q) T' (slice_get (items_of new q) m) ≡ has_row (slice_get preds q) T (slice_get (items_of lists q) m)
      at q = by_cases preds q (λ o. has_row o T' (slice_get (items_of new q) m) ≡ has_row o T (slice_get (items_of lists q) m)) refl one
        where
          one : (x : Pred) → slice_get preds q ≡ Some x → has_row (Some x) T' (slice_get (items_of new q) m) ≡ has_row (Some x) T (slice_get (items_of lists q) m)
          one x px = go (slice_get (items_of new q) m) refl (slice_get (items_of lists q) m) refl
            where
              own : AreMovedOwn x.arity T (items_of lists q) T' (items_of new q)
              own = own_at q x px

              go : (o : Option Diagram) → slice_get (items_of new q) m ≡ o → (w : Option Diagram) → slice_get (items_of lists q) m ≡ w → has_row (Some x) T' o ≡ has_row (Some x) T w
              go (Some e) at (Some d) was = moved_rows x T T' d e (own.at m e at d was)
              go None at None was = refl
              go (Some e) at None was = absurd (let lt = place_below (items_of new q) m e at in let d = some_at (items_of lists q) m (omega (arith, own.each, lt)) in let is : None ≡ Some d.0 = sym was ∙ d.1 in cc)
              go None at (Some d) was = absurd (let lt = place_below (items_of lists q) m d was in let e = some_at (items_of new q) m (omega (arith, own.each, lt)) in let is : None ≡ Some e.0 = sym at ∙ e.1 in cc)

  pub moved_spelled_lists : spelled_lists preds T' new ≡ spelled_lists preds T lists
  moved_spelled_lists = λ i. map (λ q. at q i) (columns 0 (length preds))
    where
      at : (q : ℕ) → spelled_each preds T' (slice_get preds q) (items_of new q) ≡ spelled_each preds T (slice_get preds q) (items_of lists q)
      at q = go (slice_get preds q) refl
        where
          go : (o : Option Pred) → slice_get preds q ≡ o → map (λ d. spelled (slice_get preds q) T' (Some d)) (items_of new q) ≡ map (λ d. spelled (slice_get preds q) T (Some d)) (items_of lists q)
          go (Some x) px =
              ap (λ (o : Option Pred). map (λ d. spelled o T' (Some d)) (items_of new q)) px
              ∙ own_spelled x T T' (items_of lists q) (items_of new q) (own_at q x px).each (own_at q x px).at
              ∙ sym (ap (λ (o : Option Pred). map (λ d. spelled o T (Some d)) (items_of lists q)) px)
          go None none =
              let past : (q < length preds) → ⊥ = λ lt. (let x = some_at preds q lt in let is : None ≡ Some x.0 = sym none ∙ x.1 in cc) in
              ap (λ o. map (λ d. spelled (slice_get preds q) T' (Some d)) (unwrap_or o [])) (nothing_at new q (λ lt. past (omega (arith, M.each, lt))))
              ∙ sym (ap (λ o. map (λ d. spelled (slice_get preds q) T (Some d)) (unwrap_or o [])) (nothing_at lists q (λ lt. past (omega (arith, S.each, lt)))))

-- ---- sets stay where their table grows
pub grown_sets : (preds : List Pred) (T T' : List Rows) (sets : List Diagram) → Keeps T T' → AreSets preds T sets → AreMovedSets preds T sets T' sets
grown_sets preds T T' sets k S = record { each = S.each; at = λ q e at x d px was. (let same : e ≡ d = (let both = sym at ∙ was in cc) in subst (λ (w : Diagram). IsMoved x.arity T w T' e) same (grown q x e px at)) }
  where
    grown : (q : ℕ) (x : Pred) (e : Diagram) → slice_get preds q ≡ Some x → slice_get sets q ≡ Some e → IsMoved x.arity T e T' e
    grown q x e px at =
        let known = S.known q e at in
        let reads = S.reads q x.arity e at (subst (λ (o : Option Pred). IsSomeAnd o (λ (y : Pred). y.arity ≡ x.arity)) (sym px) refl) in
        record {
          known = known_later T T' e k known;
          reads = λ row other agree. holds_later T T' e k known row ∙ reads row other agree ∙ sym (holds_later T T' e k known other);
          rows = λ row l. holds_later T T' e k known (values_of row);
        }

pub grown_lists : (preds : List Pred) (T T' : List Rows) (lists : List (List Diagram)) → Keeps T T' → AreMappingSets preds T lists → AreMovedLists preds T lists T' lists
grown_lists preds T T' lists k S = record {
  each = S.each;
  own = λ q es at x ds px was.
      let same : es ≡ ds = (let both = sym at ∙ was in cc) in
      subst (λ (w : List Diagram). AreMovedOwn x.arity T w T' es) same (record {
        each = refl;
        at = λ m e here d there.
            let is : e ≡ d = (let both = sym here ∙ there in cc) in
            subst (λ (w : Diagram). IsMoved x.arity T w T' e) is (grown q x es m e px at here);
      });
}
  where
    grown : (q : ℕ) (x : Pred) (es : List Diagram) (m : ℕ) (e : Diagram) → slice_get preds q ≡ Some x → slice_get lists q ≡ Some es → slice_get es m ≡ Some e → IsMoved x.arity T e T' e
    grown q x es m e px at here =
        let in_own : slice_get (items_of lists q) m ≡ Some e = ap (λ (l : List Diagram). slice_get l m) (items_at lists q es at) ∙ here in
        let known = S.known q m e in_own in
        let reads = S.reads q m x.arity e in_own (subst (λ (o : Option Pred). IsSomeAnd o (λ (y : Pred). y.arity ≡ x.arity)) (sym px) refl) in
        record {
          known = known_later T T' e k known;
          reads = λ row other agree. holds_later T T' e k known row ∙ reads row other agree ∙ sym (holds_later T T' e k known other);
          rows = λ row l. holds_later T T' e k known (values_of row);
        }

-- the lists of all predicates are over their arguments
pub lists_of : (preds : List Pred) (T : List Rows) (lists : List (List Diagram)) → AreMappingSets preds T lists → AreLists preds T lists
lists_of preds T lists S = record {
  each = S.each;
  own = λ q x ds px at. record {
    known = λ m d here. S.known q m d (ap (λ (l : List Diagram). slice_get l m) (items_at lists q ds at) ∙ here);
    reads = λ m d here. S.reads q m x.arity d (ap (λ (l : List Diagram). slice_get l m) (items_at lists q ds at) ∙ here) (subst (λ (o : Option Pred). IsSomeAnd o (λ (y : Pred). y.arity ≡ x.arity)) (sym px) refl);
  };
}
