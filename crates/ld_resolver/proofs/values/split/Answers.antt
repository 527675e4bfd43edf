use Rattle.std.proofs.Common.{Bor, List, Option, None, Some, option_map, sym, subst}
use Rattle.cti_terms.specs.declared.builtins.Arith.{Arith}
use Rattle.cti_terms.specs.declared.syntax.Term.{Term}
use Rattle.ld_resolver.specs.declared.operators.Operator.{Operator}
use Rattle.unifier.specs.declared.raised_term.Shape.{Shape}
use Rattle.ld_resolver.specs.Values.{IsSplit}
use Rattle.ld_resolver.proofs.ValueLaws.{no_operator, split_operator, fewer_nodes}
use Rattle.ld_resolver.proofs.values.split.Goals as goal

pub returns-in_err-operator_of-in-Compound : goal.returns-in_err-operator_of-in-Compound
returns-in_err-operator_of-in-Compound c =
    let none = no_operator c.in_ok-names-in-Compound.field-0 c.in-Compound.name.0 c.in-Compound.args.now c.in_err-operator_of-in-Compound.ensures in
    subst (λ (r : Option (Operator × Bor (List Term))). IsSplit c.args.names c.args.shape (option_map {U = Operator × List Term} (λ q. (q.0, q.1.now)) r)) (sym c.from_residual-in_err-operator_of-in-Compound.ensures)
    (subst (λ (w : Option Arith × Shape). IsSplit w.0 w.1 None) (λ i. (sym c.in_ok-names-in-Compound.was i, sym c.in-Compound.is i)) none)

pub returns-in_ok-operator_of-in-Compound : goal.returns-in_ok-operator_of-in-Compound
returns-in_ok-operator_of-in-Compound c =
    let x = c.in_ok-operator_of-in-Compound.field-0 in
    let f = c.in-Compound.name.0 in
    let args = c.in-Compound.args.now in
    subst (λ (w : Option Arith × Shape). IsSplit w.0 w.1 (Some (x, args))) (λ i. (sym c.in_ok-names-in-Compound.was i, sym c.in-Compound.is i))
    (λ s n. (split_operator c.in_ok-names-in-Compound.field-0 f args x c.in_ok-operator_of-in-Compound.ensures s n, fewer_nodes f args s n))
