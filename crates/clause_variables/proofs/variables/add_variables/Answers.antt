use Rattle.std.proofs.Common.{◌∙◌, ◌++◌, [], ◌∷◌, ℕ, List, sym, ap, append_assoc}
use Rattle.clause_variables.specs.Stacks.{stack_variables}
use Rattle.clause_variables.proofs.TermLemmas.{step_none, step_var, step_int, step_fun}
use Rattle.clause_variables.proofs.variables.add_variables.Goals as goal

pub terms-smaller-in-Continue-branch-3 : goal.terms-smaller-in-Continue-branch-3
terms-smaller-in-Continue-branch-3 c =
    (step_var c.terms.stack.items c.pop.new.self.items c.push-in-Some-first_and_rest.new.self.items c.in-Some.terms c.in-Some-first_and_rest.rest c.in-Some-first_and_rest.first.now c.in-Var.x c.in-Some.ensures.items c.in-Some-first_and_rest.ensures c.in-Var.is c.in_ok-push-2.ensures.items).1

pub terms-preserved-in-Continue-branch-3 : goal.terms-preserved-in-Continue-branch-3
terms-preserved-in-Continue-branch-3 c =
    let s = step_var c.terms.stack.items c.pop.new.self.items c.push-in-Some-first_and_rest.new.self.items c.in-Some.terms c.in-Some-first_and_rest.rest c.in-Some-first_and_rest.first.now c.in-Var.x c.in-Some.ensures.items c.in-Some-first_and_rest.ensures c.in-Var.is c.in_ok-push-2.ensures.items in
    let after = stack_variables c.push-in-Some-first_and_rest.new.self.items in
    ap (λ (xs : List ℕ). xs ++ after) c.in_ok-push-in-Var.ensures.items
    ∙ append_assoc c.terms.variables.items (c.in-Var.x ∷ []) after
    ∙ ap (λ (xs : List ℕ). c.terms.variables.items ++ xs) (sym s.0) ∙ c.terms.invariant

pub terms-smaller-in-Int : goal.terms-smaller-in-Int
terms-smaller-in-Int c =
    (step_int c.terms.stack.items c.pop.new.self.items c.push-in-Some-first_and_rest.new.self.items c.in-Some.terms c.in-Some-first_and_rest.rest c.in-Some-first_and_rest.first.now c.in-Int.field-0 c.in-Some.ensures.items c.in-Some-first_and_rest.ensures c.in-Int.is c.in_ok-push-2.ensures.items).1

pub terms-preserved-in-Int : goal.terms-preserved-in-Int
terms-preserved-in-Int c =
    let s = step_int c.terms.stack.items c.pop.new.self.items c.push-in-Some-first_and_rest.new.self.items c.in-Some.terms c.in-Some-first_and_rest.rest c.in-Some-first_and_rest.first.now c.in-Int.field-0 c.in-Some.ensures.items c.in-Some-first_and_rest.ensures c.in-Int.is c.in_ok-push-2.ensures.items in
    ap (λ (xs : List ℕ). c.terms.variables.items ++ xs) (sym s.0) ∙ c.terms.invariant

pub terms-smaller-in-Continue-branch-4 : goal.terms-smaller-in-Continue-branch-4
terms-smaller-in-Continue-branch-4 c =
    (step_fun c.terms.stack.items c.pop.new.self.items c.push-in-Fun.new.self.items c.in-Some.terms c.in-Some-first_and_rest.rest c.as_slice.result c.in-Some-first_and_rest.first.now c.in-Fun.field-0 c.in-Fun.args c.in-Some.ensures.items c.in-Some-first_and_rest.ensures c.in-Fun.is c.as_slice.ensures.value (c.in_ok-push-in-Fun.ensures.items ∙ ap (λ xs. xs ++ c.as_slice.result ∷ []) c.in_ok-push-2.ensures.items)).1

pub terms-preserved-in-Continue-branch-4 : goal.terms-preserved-in-Continue-branch-4
terms-preserved-in-Continue-branch-4 c =
    let s = step_fun c.terms.stack.items c.pop.new.self.items c.push-in-Fun.new.self.items c.in-Some.terms c.in-Some-first_and_rest.rest c.as_slice.result c.in-Some-first_and_rest.first.now c.in-Fun.field-0 c.in-Fun.args c.in-Some.ensures.items c.in-Some-first_and_rest.ensures c.in-Fun.is c.as_slice.ensures.value (c.in_ok-push-in-Fun.ensures.items ∙ ap (λ xs. xs ++ c.as_slice.result ∷ []) c.in_ok-push-2.ensures.items) in
    ap (λ (xs : List ℕ). c.terms.variables.items ++ xs) (sym s.0) ∙ c.terms.invariant

pub terms-smaller : goal.terms-smaller
terms-smaller c = (step_none c.terms.stack.items c.pop.new.self.items c.in-Some.terms c.in-Some.ensures.items c.in_default-first_and_rest.ensures).1

pub terms-preserved : goal.terms-preserved
terms-preserved c =
    let s = step_none c.terms.stack.items c.pop.new.self.items c.in-Some.terms c.in-Some.ensures.items c.in_default-first_and_rest.ensures in
    ap (λ (xs : List ℕ). c.terms.variables.items ++ xs) (sym s.0) ∙ c.terms.invariant
