-- Holding modes, in the words of claims.
use Rattle.std.proofs.Common.{◌≡◌, inl, inr, ℕ, ◌<◌, ◌==◌, Bool, true, false, ◌&&◌, IsTrue, List, length, slice_get, slice_index_or, Some, refl, ap, sym, subst, ◌∙◌, arith}
use Rattle.std.proofs.lemmas.Bool.{and_parts, cases_lt}
use Rattle.truth_rows.proofs.ClaimLaws.{all_upper_same, rule_from_sets, union_is}
use Rattle.termination_model.proofs.Lists.{by_places, from_places, place_below, there}
use Rattle.truth_rows.specs.Rules.{KeepsSets}
use Rattle.bool_diagrams.specs.Cubes.{covered}
use Rattle.call_components.specs.Partition.{AreComponents, Partition}
use Rattle.cert_structure.specs.Shape.{arity_in, is_same, is_together, items_of}
use Rattle.cert_structure.specs.declared.parts.Parts.{Parts}
use Rattle.cti_terms.specs.Listing.{IsAtom, IsClause, IsProgram, Listing}
use Rattle.cti_terms.specs.Tree.{Tree}
use Rattle.cti_terms.specs.declared.atom_list.Atom.{Atom}
use Rattle.cti_terms.specs.declared.clauses.Clause.{Clause}
use Rattle.termination_model.specs.claims.Claims.{Admits, Claims, IsCovered, KeepsRule, Measure}
use Rattle.termination_model.specs.claims.Descent.{mode_row}
use Rattle.termination_model.specs.grounds.Grounds.{Family, IsClosed, truth_row}
use Rattle.termination_model.specs.mappings.View.{all_upper, upward_union}
use Rattle.cert_modes.specs.Claimed.{ClaimModes, HoldingModesShow, IsMeasure, KeepsRows, ShowModes}
use Rattle.cert_modes.specs.Modes.{ModesHold, allowed, cube_row, grounds_of, is_row, precondition}
use Rattle.cert_modes.proofs.PlaceLaws.{any_same, items_at, nothing_at}
use Rattle.cert_modes.proofs.RuleLaws.{atom_below, keeps_agree}
use Rattle.cert_modes.proofs.SpellLaws.{any_none, row_of, upper_none}

module _ (truth : (ℕ → Bool) → Tree → Bool) (p : Listing) (comps : Partition) (parts : Parts) (c : Claims)
    (program : IsProgram p) (components : AreComponents p comps) (says : ClaimModes truth p comps parts c) (hold : ModesHold truth p comps parts) where
  -- what is allowed is admitted
  admitted_row : (q : ℕ) (row : List Bool) → IsTrue (allowed p parts q row) → Admits c q row
  admitted_row q row t = elim (cases_lt q (length p.preds)) [
    | inl lt ↦ (union_is c q row).0 (same lt ∙ t)
    | inr ge ↦
        let e = nothing_at p.preds q (λ lt. omega (arith, lt, ge)) in
        let none : allowed p parts q row ≡ false = any_none (λ cs. all_upper (cube_row p q cs) row) (items_of parts.preconditions q) (λ cs.
        all_upper_same (cube_row p q cs) (λ us. false) row (λ us l i. is_row (e i) us && covered cs us) ∙ upper_none row) in
        let never : false ≡ true = sym none ∙ t in
        cc
  ]
    where
      same : q < length p.preds → upward_union c q row ≡ allowed p parts q row
      same lt = any_same (λ (m : Measure). all_upper (m.pre q) row) (λ cs. all_upper (cube_row p q cs) row) (c.measures (c.rank q)) (items_of parts.preconditions q) (says.each q lt) (λ m x cs e f.
          let i = says.measures (c.rank q) m x e in
          (λ k. all_upper (i.pre k q) row) ∙ ap (λ y. all_upper (cube_row p q y) row) (items_at (items_of parts.preconditions q) m cs f))

  -- components are known by their ranks
  together_is : (q r : ℕ) → q < length p.preds → r < length p.preds → is_together comps q r ≡ (c.rank q == c.rank r)
  together_is q r lt less =
      let at = there comps.of q 0 (omega (arith, lt, components.each)) in
      let too = there comps.of r 0 (omega (arith, less, components.each)) in
      (λ i. is_same (at i) (too i)) ∙ (λ i. sym (says.ranks q (slice_index_or comps.of q 0) at) i == sym (says.ranks r (slice_index_or comps.of r 0) too) i)

  covered_of : (r m : ℕ) (x : Measure) → IsMeasure p parts c r m x → IsCovered c r x
  covered_of r m x i q bs rank t =
      let in_m = (λ k. sym i.pre k q bs) ∙ t in
      let w = row_of (slice_get p.preds q) bs (and_parts (is_row (slice_get p.preds q) bs) (covered (items_of (items_of parts.preconditions q) m) bs) in_m).0 in
      let lt = place_below p.preds q w.0 w.1 in
      i.covers q bs lt rank (hold.covered m q bs in_m)

  rule_of : (r m : ℕ) (x : Measure) → IsMeasure p parts c r m x → (k : Clause) → IsClause p.preds k
      → KeepsSets truth (precondition p parts m) (allowed p parts) (grounds_of p parts) (λ q. is_together comps q k.head.pred.0) k → KeepsRule c x k
  rule_of r m x i k sound keeps = rule_from_sets c x k (allowed p parts) ranked (λ q. refl) (λ j b v at g. admitted_row b.pred.0 (truth_row c.truth v b) g) own
    where
      ranked : ℕ → Bool
      ranked = λ q. c.rank q == c.rank k.head.pred.0

      same : (j : ℕ) (b : Atom) → slice_get k.body j ≡ Some b → is_together comps b.pred.0 k.head.pred.0 ≡ (c.rank b.pred.0 == c.rank k.head.pred.0)
      same j b at = together_is b.pred.0 k.head.pred.0 (atom_below p.preds k.vars b (by_places (IsAtom p.preds k.vars) k.body sound.body j b at)) (atom_below p.preds k.vars k.head sound.head)

      own : KeepsSets c.truth x.pre (allowed p parts) c.grounds (λ q. c.rank q == c.rank k.head.pred.0) k
      own =
          let agreed = keeps_agree truth k (precondition p parts m) (precondition p parts m) (allowed p parts) (grounds_of p parts) (λ q. is_together comps q k.head.pred.0) ranked (λ row. refl) (λ j b at row. refl) same keeps in
          subst (λ (t : (ℕ → Bool) → Tree → Bool). KeepsSets t x.pre (allowed p parts) c.grounds ranked k) (sym says.truth)
          (subst (λ (f : Family). KeepsSets truth f (allowed p parts) c.grounds ranked k) (sym i.pre)
          (subst (λ (f : Family). KeepsSets truth (precondition p parts m) (allowed p parts) f ranked k) (sym says.grounds) agreed))

  pub show_modes : ShowModes p parts c
  show_modes = record {
    closed = subst (λ (t : (ℕ → Bool) → Tree → Bool). IsClosed t p c.grounds) (sym says.truth) (subst (IsClosed truth p) (sym says.grounds) hold.closed);
    measures = λ r. from_places (KeepsRows p c r) (c.measures r) (λ m x e.
        let i = says.measures r m x e in
        record {
          covered = covered_of r m x i;
          rule = from_places (λ (k : Clause). c.rank k.head.pred.0 ≡ r → KeepsRule c x k) p.clauses (λ j k f rank.
              rule_of r m x i k (by_places (IsClause p.preds) p.clauses program.clauses j k f)
              (by_places (λ (y : Clause). KeepsSets truth (precondition p parts m) (allowed p parts) (grounds_of p parts) (λ q. is_together comps q y.head.pred.0) y) p.clauses (hold.rule m) j k f));
        });
    modes = λ q. from_places (λ mode. Admits c q (mode_row mode 1 (arity_in p q))) (items_of parts.modes q) (λ j mode e.
        admitted_row q (mode_row mode 1 (arity_in p q)) (by_places (λ mode. IsTrue (allowed p parts q (mode_row mode 1 (arity_in p q)))) (items_of parts.modes q) (hold.modes q) j mode e));
  }

pub holding_modes : HoldingModesShow
holding_modes truth p comps parts c program components says hold = show_modes truth p comps parts c program components says hold
