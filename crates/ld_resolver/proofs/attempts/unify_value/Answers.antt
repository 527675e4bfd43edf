use Rattle.std.proofs.Common.{Bor, List, Option, IfOk, OnOk, option_map, ap, subst}
use Rattle.cti_terms.specs.declared.syntax.Term.{Term}
use Rattle.cti_terms.specs.Tree.{Tree, instance}
use Rattle.cti_terms.specs.Spell.{tree_of}
use Rattle.cti_terms.specs.Unify.{Equation}
use Rattle.unifier.specs.Raised.{raise}
use Rattle.unifier.specs.Store.{made}
use Rattle.unifier.specs.Pending.{IsUnified, KeepsFree}
use Rattle.ld_resolver.specs.BuiltinAtoms.{IsInteger}
use Rattle.ld_resolver.proofs.ItselfLaws.{one_equation}
use Rattle.ld_resolver.proofs.attempts.unify_value.Goals as goal

pub unify_integer-requires-clause-integer : goal.unify_integer-requires-clause-integer
unify_integer-requires-clause-integer c =
    let value = ap (λ (o : Option (Bor Term)). option_map {U = Tree} (λ t. tree_of t.now) o) c.in-Some.is in
    let n = subst IsInteger value c.requires.integer in
    (n.0, ap (instance (raise 0)) n.1)

pub returns-clause-unifier : goal.returns-clause-unifier
returns-clause-unifier c =
    let s = c.args.bindings.now in
    let value = ap (λ (o : Option (Bor Term)). option_map {U = Tree} (λ t. tree_of t.now) o) c.in-Some.is in
    let same = one_equation s c.args.choice c.as_slice.result.now c.in-Some-first.term.now c.in-Some.value.now c.as_slice.ensures c.in-Some-first.ensures.value value c.requires.integer in
    subst (λ (es : List Equation). IfOk c.unify_integer.result (IsUnified (made s) es (made c.unify_integer.new.bindings))) same c.unify_integer.ensures.unifier

pub returns-clause-free : goal.returns-clause-free
returns-clause-free c =
    let s = c.args.bindings.now in
    let value = ap (λ (o : Option (Bor Term)). option_map {U = Tree} (λ t. tree_of t.now) o) c.in-Some.is in
    let same = one_equation s c.args.choice c.as_slice.result.now c.in-Some-first.term.now c.in-Some.value.now c.as_slice.ensures c.in-Some-first.ensures.value value c.requires.integer in
    subst (λ (es : List Equation). OnOk c.unify_integer.result (KeepsFree es s c.unify_integer.new.bindings)) same c.unify_integer.ensures.free
