use Rattle.std.proofs.Common.{◌≡◌, ◌==◌, ℕ, false, Some, List, [], ◌∷◌, ◌++◌, append_assoc, ap, sym, ◌∙◌, arith}
use Rattle.std.proofs.lemmas.List.{map-append}
use Rattle.cti_terms.specs.Tree.{Tree, Variable, nodes_of}
use Rattle.cti_terms.specs.Unify.{occurs}
use Rattle.unifier.specs.declared.occurs_check.Arguments.{Arguments}
use Rattle.unifier.specs.Raised.{raised_tree}
use Rattle.unifier.specs.Store.{full}
use Rattle.unifier.specs.Pending.{weight}
use Rattle.unifier.specs.Visits.{IsReached, Leads, arguments_tree, raw_arguments}
use Rattle.unifier.proofs.StoreLaws.{eqb_same, full_free}
use Rattle.unifier.proofs.PendingLaws.{eqb_off, weight-append}
use Rattle.unifier.proofs.ConstantLaws.{integer_absent, name_absent}
use Rattle.unifier.proofs.CoverLaws.{not_met}
use Rattle.unifier.proofs.LeadLaws.{lead_on, leads_absent, leads_compound, weight_compound}
use Rattle.unifier.proofs.occurs_check.look.Goals.{In-Some, In_ok-push-in-Compound}
use Rattle.unifier.proofs.occurs_check.look.Goals as goal

-- the term that stands for this one
module _ (c : In-Some) where
  reached : IsReached c.args.bindings.now c.args.visited.now (raised_tree c.args.term) (Some c.in-Some.end) c.reached.new.visited
  reached = rw c.in-Some.is at c.in_ok-end.ensures

  free_variable : (y : ℕ) → raised_tree c.in-Some.end ≡ Variable y → full c.args.bindings.now (raised_tree c.in-Some.end) ≡ Variable y
  free_variable y is = ap (full c.args.bindings.now) is ∙ full_free c.args.bindings.now y (rw is at reached.0)

  left_out : (more : List Tree) (x : ℕ) → occurs x (full c.args.bindings.now (raised_tree c.in-Some.end)) ≡ false → let ts = more ++ raw_arguments c.args.stack.now.items in
      Leads c.args.bindings.now x (ts ++ raised_tree c.args.term ∷ []) c.args.visited.now ts c.reached.new.visited
  left_out more x gone =
      let s = c.args.bindings.now in
      let ts = more ++ raw_arguments c.args.stack.now.items in
      let u = raised_tree c.in-Some.end in
      let zs = c.reached.new.visited in
      lead_on s x (ts ++ raised_tree c.args.term ∷ []) (ts ++ u ∷ []) ts c.args.visited.now zs zs (reached.2 ts x) (leads_absent s x ts zs u gone)

-- its arguments are put on the stack
pushed : (c : In_ok-push-in-Compound) → raw_arguments c.push.new.self.items ≡ raw_arguments c.args.stack.now.items ++ arguments_tree (record { args = c.in-Compound.args; base = c.in-Some.end.base }) ∷ []
pushed c = ap raw_arguments c.in_ok-push-in-Compound.ensures.items ∙ map-append arguments_tree c.args.stack.now.items (record { args = c.in-Compound.args; base = c.in-Some.end.base } ∷ [])

pub returns-in_default-clause-looked : goal.returns-in_default-clause-looked
returns-in_default-clause-looked c more x w =
    let none = rw c.in_default.is at c.in_ok-end.ensures in
    none (more ++ raw_arguments c.args.stack.now.items) x

pub returns-then-variable-other-clause-looked : goal.returns-then-variable-other-clause-looked
returns-then-variable-other-clause-looked c =
    let some = (goal.at.returns-then-variable-other-clause-looked c).In-Some in
    let v = c.args.variable in
    let e = sym (reached some).1 ∙ free_variable some c.in-Variable.other c.in-Variable.ensures.tree in
    ap (occurs v) e ∙ ap (λ z. v == z) (sym c.if-variable-other.true) ∙ eqb_same v

pub returns-else-variable-other-clause-looked : goal.returns-else-variable-other-clause-looked
returns-else-variable-other-clause-looked c more x w =
    let some = (goal.at.returns-else-variable-other-clause-looked c).In-Some in
    let y = c.in-Variable.other in
    let e = free_variable some y c.in-Variable.ensures.tree in
    left_out some more x (ap (occurs x) e ∙ eqb_off x y (not_met c.args.variable c.past.result y x c.if-variable-other.false c.past.ensures.newer w))

pub returns-in-Integer-clause-looked : goal.returns-in-Integer-clause-looked
returns-in-Integer-clause-looked c more x w =
    left_out (goal.at.returns-in-Integer-clause-looked c).In-Some more x (integer_absent c.args.bindings.now x c.in-Integer.field-0.now (raised_tree c.in-Some.end) c.in-Integer.ensures.tree)

pub returns-in_ok-push-in-Compound-clause-looked : goal.returns-in_ok-push-in-Compound-clause-looked
returns-in_ok-push-in-Compound-clause-looked c more x w =
    let at = goal.at.returns-in_ok-push-in-Compound-clause-looked c in
    let s = c.args.bindings.now in
    let old = raw_arguments c.args.stack.now.items in
    let ts = more ++ old in
    let t = raised_tree c.args.term in
    let u = raised_tree c.in-Some.end in
    let zs = c.reached.new.visited in
    let a = arguments_tree (record { args = c.in-Compound.args; base = c.in-Some.end.base }) in
    let leads = lead_on s x (ts ++ t ∷ []) (ts ++ u ∷ []) (ts ++ a ∷ []) c.args.visited.now zs zs ((reached at.In-Some).2 ts x) (leads_compound s x ts zs c.in-Some.end.base c.in-Compound.field-0.0 u c.in-Compound.args.now c.in-Compound.ensures.tree) in
    rw (pushed at.In_ok-push-in-Compound, ← append_assoc more old (a ∷ [])) leads

pub returns-in_ok-push-in-Compound-clause-weight : goal.returns-in_ok-push-in-Compound-clause-weight
returns-in_ok-push-in-Compound-clause-weight c =
    let at = goal.at.returns-in_ok-push-in-Compound-clause-weight c in
    let s = c.args.bindings.now in
    let a : Arguments = record { args = c.in-Compound.args; base = c.in-Some.end.base } in
    let nodes = weight_compound s c.in-Some.end.base c.in-Compound.field-0.0 (raised_tree c.in-Some.end) c.in-Compound.args.now c.in-Compound.ensures.tree ∙ ap nodes_of (reached at.In-Some).1 in
    omega (arith, ap (weight s) (pushed at.In_ok-push-in-Compound), weight-append s (raw_arguments c.args.stack.now.items) (arguments_tree a ∷ []), nodes)

pub returns-else-not-is_empty-clause-looked : goal.returns-else-not-is_empty-clause-looked
returns-else-not-is_empty-clause-looked c more x w =
    let none = sym c.is_empty.ensures ∙ c.if-not-is_empty.false in
    left_out (goal.at.returns-else-not-is_empty-clause-looked c).In-Some more x (name_absent c.args.bindings.now x c.in-Some.end.base c.in-Compound.field-0.0 c.in-Compound.args.now (raised_tree c.in-Some.end) c.in-Compound.ensures.tree none)
