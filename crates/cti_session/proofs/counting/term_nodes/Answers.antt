use Rattle.std.proofs.Common.{arith}
use Rattle.cti_session.proofs.NodeLemmas.{count_none, count_var, count_int, count_fun}
use Rattle.cti_session.proofs.counting.term_nodes.Goals as goal

pub terms-smaller-in-Var : goal.terms-smaller-in-Var
terms-smaller-in-Var c =
    (count_var c.terms.stack.items c.pop.new.self.items c.push-in-Some-first_and_rest.new.self.items c.in-Some.terms c.in-Some-first_and_rest.rest c.in-Some-first_and_rest.first.now c.in-Var.field-0 c.in-Some.ensures.items c.in-Some-first_and_rest.ensures c.in-Var.is c.in_ok-push-2.ensures.items).work

pub terms-preserved-in-Var : goal.terms-preserved-in-Var
terms-preserved-in-Var c =
    let s = count_var c.terms.stack.items c.pop.new.self.items c.push-in-Some-first_and_rest.new.self.items c.in-Some.terms c.in-Some-first_and_rest.rest c.in-Some-first_and_rest.first.now c.in-Var.field-0 c.in-Some.ensures.items c.in-Some-first_and_rest.ensures c.in-Var.is c.in_ok-push-2.ensures.items in
    omega (arith, s.nodes, c.terms.invariant)

pub terms-smaller-in-Int : goal.terms-smaller-in-Int
terms-smaller-in-Int c =
    (count_int c.terms.stack.items c.pop.new.self.items c.push-in-Some-first_and_rest.new.self.items c.in-Some.terms c.in-Some-first_and_rest.rest c.in-Some-first_and_rest.first.now c.in-Int.field-0 c.in-Some.ensures.items c.in-Some-first_and_rest.ensures c.in-Int.is c.in_ok-push-2.ensures.items).work

pub terms-preserved-in-Int : goal.terms-preserved-in-Int
terms-preserved-in-Int c =
    let s = count_int c.terms.stack.items c.pop.new.self.items c.push-in-Some-first_and_rest.new.self.items c.in-Some.terms c.in-Some-first_and_rest.rest c.in-Some-first_and_rest.first.now c.in-Int.field-0 c.in-Some.ensures.items c.in-Some-first_and_rest.ensures c.in-Int.is c.in_ok-push-2.ensures.items in
    omega (arith, s.nodes, c.terms.invariant)

pub terms-smaller-in-Continue-branch-3 : goal.terms-smaller-in-Continue-branch-3
terms-smaller-in-Continue-branch-3 c =
    (count_fun c.terms.stack.items c.pop.new.self.items c.push-in-Some-first_and_rest.new.self.items c.push-in-Fun.new.self.items c.in-Some.terms c.in-Some-first_and_rest.rest c.as_slice.result c.in-Some-first_and_rest.first.now c.in-Fun.field-0 c.in-Fun.args c.in-Some.ensures.items c.in-Some-first_and_rest.ensures c.in-Fun.is c.as_slice.ensures.value c.in_ok-push-2.ensures.items c.in_ok-push-in-Fun.ensures.items).work

pub terms-preserved-in-Continue-branch-3 : goal.terms-preserved-in-Continue-branch-3
terms-preserved-in-Continue-branch-3 c =
    let s = count_fun c.terms.stack.items c.pop.new.self.items c.push-in-Some-first_and_rest.new.self.items c.push-in-Fun.new.self.items c.in-Some.terms c.in-Some-first_and_rest.rest c.as_slice.result c.in-Some-first_and_rest.first.now c.in-Fun.field-0 c.in-Fun.args c.in-Some.ensures.items c.in-Some-first_and_rest.ensures c.in-Fun.is c.as_slice.ensures.value c.in_ok-push-2.ensures.items c.in_ok-push-in-Fun.ensures.items in
    omega (arith, s.nodes, c.terms.invariant)

pub terms-smaller : goal.terms-smaller
terms-smaller c = (count_none c.terms.stack.items c.pop.new.self.items c.in-Some.terms c.in-Some.ensures.items c.in_default-first_and_rest.ensures).work

pub terms-preserved : goal.terms-preserved
terms-preserved c =
    let s = count_none c.terms.stack.items c.pop.new.self.items c.in-Some.terms c.in-Some.ensures.items c.in_default-first_and_rest.ensures in
    omega (arith, s.nodes, c.terms.invariant)
