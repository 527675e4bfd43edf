use Rattle.std.proofs.Common.{rules, ◌≡◌, ◌+◌, ◌-◌, ◌++◌, ◌∷◌, [], ℕ, List, Some, inl, inr, slice_get, slice_set, subst, sym, arith, ap, ◌∙◌, length, map}
use Rattle.std.proofs.lemmas.Bool.{cases_eq}
use Rattle.call_components.proofs.Lists.{slice_get-set_other, slice_get-set_same}
use Rattle.level_systems.specs.declared.mapping.Mapping.{Mapping}
use Rattle.linear_rows.specs.Step.{columns}
use Rattle.cert_structure.specs.Shape.{body_of, head_of}
use Rattle.report.specs.Levels.{ArePassed, falls_from, mappings_at, mappings_of_component}
use Rattle.report.proofs.FallLaws.{head_mappings, passed_on}
use Rattle.cert_assembly.proofs.NoteLaws.{added}
use Rattle.cert_assembly.proofs.PartLaws.{mapped_step}
use Rattle.report.proofs.levels.Mapped.falls.Goals as goal

pub loop-clause-preserved : goal.loop-clause-preserved
loop-clause-preserved c =
    let self = c.args.self.now in
    let f = λ (k : ℕ). falls_from self.p.now self.comps.now self.found.now k 0 (body_of self.p.now k) in
    let n = length self.p.now.clauses in
    let q = c.loop-clause.clause in
    record {
      each = search rules;
      passed = λ d m e.
          let places = c.loop-clause.places.items in
          let own = c.of-c.result in
          let new = c.falls_in.new.at in
          elim (cases_eq d own) [
            | inl same ↦
                let here : slice_get (slice_set places own new) own ≡ Some new = slice_get-set_same places own new (omega (arith, c.requires.components.within own c.clause.result.now.head.pred.0 c.of-c.ensures, c.requires.each, c.loop-clause.invariant.each)) in
                let there : slice_get (slice_set places own new) own ≡ Some m = ap (slice_get (slice_set places own new)) (sym same) ∙ e in
                let is : new ≡ m = cc in
                let of : mappings_at self.comps.now self.found.now (head_of self.p.now q) ≡ mappings_of_component self.found.now (Some d) =
                sym (head_mappings self.p.now self.comps.now self.found.now q c.clause.result.now c.clause.ensures.there) ∙ ap (mappings_of_component self.found.now) (c.of-c.ensures ∙ ap Some (sym same)) in
                let next : q + 2 ≡ q + 1 + 1 = omega arith in
                subst (λ (n : ℕ). ArePassed (mappings_of_component self.found.now (Some d)) n (q + 1 + 1) 1) is
                (subst (λ (k : ℕ). ArePassed (mappings_of_component self.found.now (Some d)) new k 1) next (subst (λ (ms : List Mapping). ArePassed ms new (q + 2) 1) of c.in_ok-falls_in.ensures.passed))
            | inr other ↦
                passed_on (mappings_of_component self.found.now (Some d)) m (q + 1) 1 (q + 1 + 1) 1 (inl (omega arith)) (c.loop-clause.invariant.passed d m (sym (slice_get-set_other places own d new other) ∙ e))
          ];
      falls = added _ _ (f q ∷ []) (map f (columns (q + 1) (n - (q + 1)))) (map f (columns q (n - q))) _ (c.in_ok-push.ensures.ok ∙ ap (λ x. c.loop-clause.falls ++ x ∷ []) c.in_ok-falls_in.ensures.falls) (mapped_step f q n (omega arith)) c.loop-clause.invariant.falls;
    }
