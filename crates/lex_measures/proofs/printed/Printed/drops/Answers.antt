use Rattle.std.proofs.Common.{rules, ◌≡◌, ◌+◌, ◌-◌, ◌++◌, ◌∷◌, [], ℕ, List, Some, inl, inr, slice_get, slice_set, subst, sym, arith, ap, ◌∙◌, length, map}
use Rattle.std.proofs.lemmas.Bool.{cases_eq}
use Rattle.call_components.proofs.Lists.{slice_get-set_other, slice_get-set_same}
use Rattle.lex_turns.specs.declared.measure_list.MeasureList.{MeasureList}
use Rattle.linear_rows.specs.Step.{columns}
use Rattle.cert_structure.specs.Shape.{body_of, head_of}
use Rattle.lex_measures.specs.Lists.{ArePassed, drops_from, lists_at, lists_of_component}
use Rattle.lex_measures.proofs.DropLaws.{head_lists, passed_on}
use Rattle.cert_assembly.proofs.NoteLaws.{added}
use Rattle.cert_assembly.proofs.PartLaws.{mapped_step}
use Rattle.lex_measures.proofs.printed.Printed.drops.Goals as goal

pub loop-clause-preserved : goal.loop-clause-preserved
loop-clause-preserved c =
    let self = c.args.self.now in
    let f = λ (k : ℕ). drops_from self.p.now self.comps.now self.found.now k 0 (body_of self.p.now k) in
    let n = length self.p.now.clauses in
    let q = c.loop-clause.clause in
    record {
      each = search rules;
      passed = λ d m e.
          let places = c.loop-clause.places.items in
          let own = c.of-c.result in
          let new = c.drops_in.new.at in
          elim (cases_eq d own) [
            | inl same ↦
                let here : slice_get (slice_set places own new) own ≡ Some new = slice_get-set_same places own new (omega (arith, c.requires.components.within own c.clause.result.now.head.pred.0 c.of-c.ensures, c.requires.each, c.loop-clause.invariant.each)) in
                let there : slice_get (slice_set places own new) own ≡ Some m = ap (slice_get (slice_set places own new)) (sym same) ∙ e in
                let is : new ≡ m = cc in
                let of : lists_at self.comps.now self.found.now (head_of self.p.now q) ≡ lists_of_component self.found.now (Some d) =
                sym (head_lists self.p.now self.comps.now self.found.now q c.clause.result.now c.clause.ensures.there) ∙ ap (lists_of_component self.found.now) (c.of-c.ensures ∙ ap Some (sym same)) in
                let next : q + 2 ≡ q + 1 + 1 = omega arith in
                subst (λ (n : ℕ). ArePassed (lists_of_component self.found.now (Some d)) n (q + 1 + 1) 1) is
                (subst (λ (k : ℕ). ArePassed (lists_of_component self.found.now (Some d)) new k 1) next (subst (λ (ms : List MeasureList). ArePassed ms new (q + 2) 1) of c.in_ok-drops_in.ensures.passed))
            | inr other ↦
                passed_on (lists_of_component self.found.now (Some d)) m (q + 1) 1 (q + 1 + 1) 1 (inl (omega arith)) (c.loop-clause.invariant.passed d m (sym (slice_get-set_other places own d new other) ∙ e))
          ];
      drops = added _ _ (f q ∷ []) (map f (columns (q + 1) (n - (q + 1)))) (map f (columns q (n - q))) _ (c.in_ok-push.ensures.ok ∙ ap (λ x. c.loop-clause.drops ++ x ∷ []) c.in_ok-drops_in.ensures.drops) (mapped_step f q n (omega arith)) c.loop-clause.invariant.drops;
    }
