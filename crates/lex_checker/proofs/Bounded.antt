-- A valid certificate of lists bounds its modes.
--
-- What holding modes show is a premise here, which the law of `cert_modes` gives.
use Rattle.std.proofs.Common.{◌≡◌, ◌≢◌, ℕ, zero, suc, ◌+◌, ◌<◌, List, [], ◌∷◌, map, length, slice_get, unwrap_or, Option, Some, refl, sym, ap, subst, ◌∙◌, arith}
use Rattle.std.specs.List.{AllByRecursion, AllPairs}
use Rattle.std.proofs.lemmas.List.{length-map}
use Rattle.std.proofs.lemmas.Option.{slice_get_within}
use Rattle.call_components.proofs.Lists.{all_both, all_map, has_contains}
use Rattle.call_components.specs.Partition.{AreComponents, IsIn, Partition}
use Rattle.cert_checker.proofs.Claims.{ranked, sizes}
use Rattle.cert_checker.proofs.PrintedModes.{meets_row, same_pred}
use Rattle.cert_checker.proofs.ShapeLaws.{arity_at, items_are, some_is}
use Rattle.cert_checker.specs.Bounding.{ModeIsBounded}
use Rattle.cert_modes.specs.Claimed.{ClaimModes, HoldingModesShow, IsMeasure, KeepsRows, ShowModes}
use Rattle.cert_modes.specs.Modes as holding
use Rattle.cert_structure.specs.Order as order
use Rattle.cert_structure.specs.Shape as shape
use Rattle.cert_structure.specs.Structure.{AreNamed}
use Rattle.cti_terms.specs.Derive.{query, Bounded}
use Rattle.cti_terms.specs.Listing.{IsProgram, Listing}
use Rattle.cti_terms.specs.Tree.{is_rigid, size, truth}
use Rattle.cti_terms.specs.declared.atom_list.Atom.{Atom}
use Rattle.cti_terms.specs.declared.clauses.Clause.{Clause}
use Rattle.cti_terms.specs.declared.predicates.Pred.{Pred}
use Rattle.number_tests.proofs.ColumnLengths.{an_element}
use Rattle.number_tests.specs.Shape.{IsLevelPart, list_at}
use Rattle.term_size.specs.Occurrences.{size_row}
use Rattle.term_size.specs.TermSize.{is_a_norm}
use Rattle.termination_model.proofs.Lists.{indexed, there}
use Rattle.termination_model.proofs.Proved.{shown}
use Rattle.termination_model.proofs.Query.{modes_end}
use Rattle.termination_model.specs.claims.Claims.{Admits, Claims, Measure}
use Rattle.termination_model.specs.claims.Descent.{Meets, mode_row}
use Rattle.termination_model.specs.grounds.Grounds.{Family, HasArity}
use Rattle.termination_model.specs.sizes.Short.{DescendsProved, ServesProved, ShowsProved}
use Rattle.lex_checker.specs.Bounding.{ModesAreBounded}
use Rattle.lex_checker.specs.Claimed.{claims_of, lengths_by, measure_of, measures_from}
use Rattle.lex_checker.specs.Shape.{HaveLists}
use Rattle.lex_certificate.specs.Flat.{flat}
use Rattle.lex_certificate.specs.Shape.{HaveShape}
use Rattle.lex_checker.specs.Valid.{IsValid, PartsHold}
use Rattle.lex_certificate.specs.declared.fact.LexFact.{LexFact}
use Rattle.lex_certificate.specs.declared.parts.LexParts.{LexParts}
use Rattle.lex_checker.proofs.Descending.{all_at, lengths_are, lists_descend}
use Rattle.lex_checker.proofs.Printed.{listed_bounded}
use Rattle.lex_checker.proofs.Shapes.{has, have_drops, have_lists, have_row_proofs}
use Rattle.lex_checker.proofs.Unions.{covers_list}
use Rattle.termination_model.specs.mappings.ComponentViews.{rank_in}

-- the claims of parts, with the sets of truth rows that they spell
abbrev claims : Listing → Partition → LexParts → Claims
claims p comps parts = claims_of size truth size_row comps parts (holding.grounds_of p (flat parts)) (holding.precondition p (flat parts))

measure_length : (parts : LexParts) (pre : ℕ → Family) (m : ℕ) (ns : List ℕ) → length (measures_from parts pre m ns) ≡ length ns
measure_length parts pre m [] = refl
measure_length parts pre m (n ∷ ns) = ap suc (measure_length parts pre (suc m) ns)

measure_at : (parts : LexParts) (pre : ℕ → Family) (k : ℕ) (ns : List ℕ) (i m : ℕ) (x : Measure) → m ≡ k + i → slice_get (measures_from parts pre k ns) i ≡ Some x → (n : ℕ) × (measure_of parts pre m n ≡ x)
measure_at parts pre k [] i m x at e = cc
measure_at parts pre k (n ∷ ns) zero m x at e = let here : m ≡ k = omega (arith, at) in let same : measure_of parts pre k n ≡ x = cc in (n, ap (λ j. measure_of parts pre j n) here ∙ same)
measure_at parts pre k (n ∷ ns) (suc i) m x at e = measure_at parts pre (suc k) ns i m x (omega (arith, at)) e

module _ (p : Listing) (comps : Partition) (parts : LexParts) (prog : IsProgram p) (are : AreComponents p comps) (have : HaveShape p comps parts) where
  rank_within : (q r : ℕ) → IsIn comps r q → rank_in comps q ≡ r
  rank_within q r h = indexed comps.of q r (length comps.members) h

  lists : HaveLists p comps parts
  lists = have_lists p comps parts have are

  -- a component has as many measures as each member has preconditions
  measure_count : (q : ℕ) → q < length p.preds → length ((claims p comps parts).measures (rank_in comps q)) ≡ length (shape.items_of parts.preconditions q)
  measure_count q lt =
      let (r, hq) = an_element comps.of q (omega (arith, lt, are.each)) in
      let ms = list_at comps.members r in
      let at : slice_get comps.members r ≡ Some ms = there comps.members r [] (are.within r q hq) in
      let lengths : lengths_by parts ms ≡ map length (list_at parts.lists q) = lengths_are parts ms (map length (list_at parts.lists q)) (are.ascending r ms at).1
      (λ x e. lists.members x q ((are.members r ms at x).0 (has_contains ms x (0, e)) ∙ sym hq)) in
      let inner = has parts.preconditions have.preconditions q (list_at parts.preconditions q) (there parts.preconditions q [] (omega (arith, lt, have.preconditions.count))) in
      measure_length parts (holding.precondition p (flat parts)) 0 (lengths_by parts (list_at comps.members (rank_in comps q)))
      ∙ ap (λ (n : ℕ). length (lengths_by parts (list_at comps.members n))) (rank_within q r hq)
      ∙ ap length lengths
      ∙ length-map (list_at parts.lists q) length
      ∙ sym (ap length (items_are parts.lists q))
      ∙ sym inner.count
      ∙ sym (ap length (items_are parts.preconditions q))

  claim_modes : ClaimModes truth p comps (flat parts) (claims p comps parts)
  claim_modes = record {
    truth = refl;
    ranks = rank_within;
    grounds = refl;
    each = measure_count;
    measures = λ r m x e.
        let found = measure_at parts (holding.precondition p (flat parts)) 0 (lengths_by parts (list_at comps.members r)) m m x (omega arith) e in
        subst (IsMeasure p (flat parts) (claims p comps parts) r m) found.1 (one_measure r m found.0);
  }
    where
      one_measure : (r m n : ℕ) → IsMeasure p (flat parts) (claims p comps parts) r m (measure_of parts (holding.precondition p (flat parts)) m n)
      one_measure r m n = record {
        pre = refl;
        covers = λ q bs lt in_rank h.
            let (d, at) = an_element p.preds q lt in
            covers_list parts m q d.arity 0 n bs (all_at (IsLevelPart d.arity) (list_at parts.lists q) m (lists.naturals q d at)) h;
      }

  module _ (modes_show : HoldingModesShow) (hold : PartsHold truth size_row p comps parts) where
    shown_modes : ShowModes p (flat parts) (claims p comps parts)
    shown_modes = modes_show truth p comps (flat parts) (claims p comps parts) prog are claim_modes hold.modes

    shown_claims : ShowsProved p (claims p comps parts)
    shown_claims = record {
      norm = is_a_norm;
      ranked = ranked size truth size_row p comps (flat parts) (holding.grounds_of p (flat parts)) (holding.precondition p (flat parts)) prog are;
      sizes = sizes size truth size_row p comps (flat parts) (holding.grounds_of p (flat parts)) (holding.precondition p (flat parts)) (have_row_proofs p comps parts have) hold.rows;
      closed = shown_modes.closed;
      stated = hold.stated;
      measures = λ r.
          all_both (KeepsRows p (claims p comps parts) r) (λ (m : Measure). AllByRecursion (λ (k : Clause). rank_in comps k.head.pred.0 ≡ r → DescendsProved (claims p comps parts) m k) p.clauses)
          (ServesProved p (claims p comps parts) r) (λ m keeps descends. record { covered = keeps.covered; descends = descends; rule = keeps.rule })
          ((claims p comps parts).measures r) (shown_modes.measures r)
          (lists_descend size truth size_row p comps parts (holding.grounds_of p (flat parts)) (holding.precondition p (flat parts)) prog are lists (have_drops p comps parts have are prog) hold.drops r);
    }

    query_ends : (q : ℕ) (mode : List ℕ) → Admits (claims p comps parts) q (mode_row mode 1 (shape.arity_in p q)) → (a : Atom) (n : ℕ) → a.pred.0 ≡ q → HasArity p.preds a.pred.0 (length a.args)
        → shape.arity_in p q ≡ length a.args → Meets (claims p comps parts) mode a → Bounded p (query a n)
    query_ends q mode admits a n same arity long meets =
        modes_end p (claims p comps parts) prog (shown p (claims p comps parts) prog shown_claims) a n arity mode
        (subst (λ (k : ℕ). Admits (claims p comps parts) a.pred.0 (mode_row mode 1 k)) long (subst (λ (k : ℕ). Admits (claims p comps parts) k (mode_row mode 1 (shape.arity_in p q))) (sym same) admits)) meets

pub valid_bounds : HoldingModesShow → (p : Listing) (names : List (List ℕ)) (facts : List LexFact) → IsProgram p → AreNamed names p.preds → AllPairs (λ a b. a ≢ b) names
    → IsValid p names facts → ModesAreBounded p names facts
valid_bounds modes_show p names facts prog named distinct valid =
    let parts = valid.parts in
    let have = valid.structured.shape in
    subst (ModesAreBounded p names) (sym valid.structured.is) (listed_bounded p names parts valid.structured.notes valid.structured.are_notes (λ q modes at.
    let (e, ee) = an_element p.preds q (omega (arith, slice_get_within parts.modes q modes at, have.modes.count)) in
    let admitted = subst (AllByRecursion (λ mode. Admits (claims p valid.comps parts) q (mode_row mode 1 (shape.arity_in p q)))) (ap (λ (o : Option (List (List ℕ))). unwrap_or o []) at)
    ((shown_modes p valid.comps parts prog valid.components have modes_show valid.hold).modes q) in
    all_map (λ mode. Admits (claims p valid.comps parts) q (mode_row mode 1 (shape.arity_in p q))) (ModeIsBounded p names is_rigid (order.pred_text p names q))
    (λ mode admits a n is named_rigid.
    let same : q ≡ a.pred.0 = same_pred p names prog named distinct a.pred.0 q is.pred e is.there ee is.name is.arity in
    let long : shape.arity_in p q ≡ length a.args = arity_at p q e ee ∙ sym (ap (λ (o : Option Pred). (order.text_or_none names o).arity) ee) ∙ sym is.arguments in
    query_ends p valid.comps parts prog valid.components have modes_show valid.hold q mode admits a n (sym same)
    (some_is (λ (d : Pred). d.arity ≡ length a.args) (slice_get p.preds a.pred.0) is.pred is.there (is.arity ∙ sym is.arguments)) long (meets_row is_rigid mode 1 a.args named_rigid))
    modes admitted))
