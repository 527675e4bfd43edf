-- Where a certificate of lists is valid, no list of a component with a stuck set drops.
use Rattle.std.proofs.Common.{◌≡◌, ◌≢◌, ℕ, zero, suc, ◌-◌, ◌<◌, ◌≤◌, ◌==◌, inl, ℤ, List, [], ◌∷◌, map, take, length, slice_get, Some, sym, ap, subst, ◌∙◌, arith, eqb-true}
use Rattle.std.specs.List.{AllPairs}
use Rattle.std.proofs.lemmas.Int.{ints}
use Rattle.std.proofs.lemmas.List.{length-map}
use Rattle.call_components.proofs.Lists.{all_map}
use Rattle.call_components.specs.Partition.{AreComponents, IsIn, Partition}
use Rattle.cert_checker.proofs.Excludes.{all_mapped, excluded, in_range, system_same, take_mapped}
use Rattle.cert_checker.proofs.NoMapping.{call_in, clause_in, kept_all, nothing, place_is, positive, same_component, unmapped}
use Rattle.cert_checker.proofs.ShapeLaws.{amounts_are, numbered_is}
use Rattle.cert_checker.specs.Claimed.{claims_of}
use Rattle.cert_checker.specs.Excluded.{IsNatural, IsPairIn, itself, pair_of}
use Rattle.cert_structure.specs.Structure.{AreNamed}
use Rattle.cti_terms.specs.Listing.{IsProgram, Listing, numbered}
use Rattle.cti_terms.specs.Tree.{size, truth}
use Rattle.cti_terms.specs.declared.atom_list.Atom.{Atom}
use Rattle.cti_terms.specs.declared.clauses.Clause.{Clause}
use Rattle.lex_certificate.specs.Flat.{flat}
use Rattle.lex_certificate.specs.Shape.{HaveShape, IsStuckPoint}
use Rattle.lex_certificate.specs.declared.fact.LexFact.{LexFact}
use Rattle.lex_certificate.specs.declared.parts.LexParts.{LexParts}
use Rattle.number_tests.specs.Refuting.{atom_or_none, call_of, clause_of, clause_or_none}
use Rattle.number_tests.specs.declared.pair_point.PairPoint.{PairPoint}
use Rattle.term_size.specs.Occurrences.{size_row}
use Rattle.termination_model.proofs.Stuck.{none_descends}
use Rattle.termination_model.specs.claims.Claims.{Claims, Mapping}
use Rattle.termination_model.specs.mappings.Refutation.{IsRefutation, Pair}
use Rattle.termination_model.specs.sizes.Sizes.{rows_of}
use Rattle.termination_model.specs.lists.Stuck.{IsStuck, ListDescends}
use Rattle.termination_model.specs.sizes.Systems.{system}
use Rattle.termination_model.specs.mappings.View.{Call, FallsOver, Member, Rule, rule_of, system_of, upward_union, view_of}
use Rattle.termination_model.specs.mappings.View as view
use Rattle.lex_checker.specs.NoList.{DropsAt, ListDrops, StuckComponentsHaveNoList, StuckHaveNoList}
use Rattle.lex_checker.specs.Valid.{IsValid, PartsHold}
use Rattle.lex_checker.proofs.Shapes.{has, have_stuck}
use Rattle.lex_checker.proofs.Validity.{OneReading, only_parts_hold}
use Rattle.termination_model.specs.mappings.ComponentViews.{rank_in}

module _ (p : Listing) (comps : Partition) where
  natural_at : (q : ℕ) (x : PairPoint) → IsStuckPoint p comps q x → IsNatural x.point
  natural_at q x is = record { t = is.point.1.0; w = amounts_are x.point.w is.point.2 }

  stuck_in : (r q : ℕ) → IsIn comps r q → (x : PairPoint) → IsStuckPoint p comps q x → IsPairIn comps r p x
  stuck_in r q isin x is =
      let (c, ec, head, own) = clause_in p comps q x.call (numbered p.clauses x.clause) is.pair in
      let (b, eb, call) = call_in p comps q (numbered c.body x.call) own in
      let (one, at) = numbered_is p.clauses x.clause c ec in
      let (two, place) = numbered_is c.body x.call b eb in
      let same_clause : clause_of p x ≡ c = ap clause_or_none at in
      let same_call : call_of p x ≡ b = ap (λ (d : Clause). atom_or_none (slice_get d.body (x.call - 1))) same_clause ∙ ap atom_or_none place in
      record {
        head = subst (λ (d : Clause). IsIn comps r d.head.pred.0) (sym same_clause) (same_component p comps r q c.head.pred.0 isin head);
        call = subst (λ (d : Atom). IsIn comps r d.pred.0) (sym same_call) (same_component p comps r q b.pred.0 isin call);
        natural = natural_at q x is;
        positive = inl (positive x.point.t is.point.1.0 is.positive);
      }

module _ (p : Listing) (comps : Partition) (parts : LexParts) (r : ℕ) (inner : r < length comps.members) (ls : List Mapping) where
  abbrev claims : Claims
  claims = claims_of size truth size_row comps (flat parts) nothing (λ _. nothing)

  falls : (c : Clause) (b : Atom) (rows : List (List ℤ)) (i : ℕ) (ms : List Mapping) → DropsAt size_row rows c b i ms → FallsOver size_row (rule_of claims r itself c) rows b.pred.0 b.args i ms
  falls c b rows i [] d = absurd d
  falls c b rows zero (l ∷ ms) d = d
  falls c b rows (suc i) (l ∷ ms) d = (d.0, falls c b rows i ms d.1)

  descends : ListDrops size_row p comps (rows_of parts.rows) r ls → ListDescends size_row (view_of p claims r itself) ls
  descends d =
      kept_all (λ (k : Clause). rank_in comps k.head.pred.0 == r) (rule_of claims r itself)
      (λ (k : Rule). (j : ℕ) (b : Call) (q : ℕ) → slice_get k.body j ≡ Some b → b.place ≡ Member q
      → (i : ℕ) × FallsOver size_row k (system_of size_row k.vars (take j k.body)) q b.args i ls) p.clauses (λ n k at passes j b q ej place.
      let (a, ea, same) = unmapped (view.call_of claims r itself) k.body j b ej in
      let head : IsIn comps r k.head.pred.0 = in_range comps.of k.head.pred.0 (length comps.members) r (eqb-true (rank_in comps k.head.pred.0) r passes) inner in
      let (own, number) = place_is (rank_in comps a.pred.0 == r) a.pred.0 q (upward_union claims a.pred.0) (ap (λ (x : Call). x.place) same ∙ place) in
      let call : IsIn comps r a.pred.0 = in_range comps.of a.pred.0 (length comps.members) r (eqb-true (rank_in comps a.pred.0) r own) inner in
      let rows : system size_row (rows_of parts.rows) k.vars (take j k.body) ≡ system_of size_row k.vars (take j (map (view.call_of claims r itself) k.body)) =
      sym (ap (system_of size_row k.vars) (take_mapped (view.call_of claims r itself) j k.body) ∙ system_same size truth size_row p comps (flat parts) nothing (λ _. nothing) r k.vars (take j k.body)) in
      let found = d n k at head j a ea call in (
        found.0,
        subst (λ (rs : List (List ℤ)). FallsOver size_row (rule_of claims r itself k) rs q b.args found.0 ls) rows
            (subst (λ (x : Call). FallsOver size_row (rule_of claims r itself k) (system size_row (rows_of parts.rows) k.vars (take j k.body)) q x.args found.0 ls) same
            (subst (λ (m : ℕ). FallsOver size_row (rule_of claims r itself k) (system size_row (rows_of parts.rows) k.vars (take j k.body)) m a.args found.0 ls) number
            (falls k a (system size_row (rows_of parts.rows) k.vars (take j k.body)) found.0 ls found.1))),
      ))

pub none_of_parts : (p : Listing) (comps : Partition) (parts : LexParts) → IsProgram p → AreComponents p comps → HaveShape p comps parts → PartsHold truth size_row p comps parts → StuckHaveNoList p comps parts
none_of_parts p comps parts prog are have hold q r f slot isin ls d =
    let (opens, some, ascend, all) = has parts.stuck have.stuck q (Some f) slot in
    let c : Claims = claims_of size truth size_row comps (flat parts) nothing (λ _. nothing) in
    let inside = all_map (IsStuckPoint p comps q) (IsPairIn comps r p) (stuck_in p comps r q isin) f.points all in
    let refutes : IsRefutation size_row (view_of p c r itself) (map (pair_of p c r) f.points) =
    excluded size truth size_row p comps (flat parts) nothing (λ _. nothing) prog are (have_stuck p comps parts have) hold.stuck q r f slot isin inside in
    let stuck : IsStuck size_row (view_of p c r itself) (map (pair_of p c r) f.points) = record {
      some = omega (arith, some, length-map f.points (pair_of p c r));
      pairs = refutes.pairs;
      times = all_mapped (pair_of p c r) (IsStuckPoint p comps q) (λ (y : Pair). 1 ≤ y.t)
          (λ x is. let more = positive x.point.t is.point.1.0 is.positive in omega (arith, ints, more)) f.points all;
      columns = refutes.columns;
    } in
    none_descends size_row (view_of p c r itself) (map (pair_of p c r) f.points) ls stuck (descends p comps parts r (are.within r q isin) ls d)

-- whatever partition is taken: a certificate has no other parts than those that hold
pub valid_excludes : OneReading → (p : Listing) (names : List (List ℕ)) (facts : List LexFact) → IsProgram p → AreNamed names p.preds → AllPairs (λ a b. a ≢ b) names
    → IsValid p names facts → StuckComponentsHaveNoList p names facts
valid_excludes one_reading p names facts prog named distinct valid comps parts are structured =
    none_of_parts p comps parts prog are structured.shape (only_parts_hold one_reading p names facts prog named distinct valid comps parts are structured)
