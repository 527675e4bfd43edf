use Rattle.std.proofs.Common.{arith}
use Rattle.ld_resolver.specs.declared.builtin_atoms.FirstAtom.{FirstAtom}
use Rattle.ld_resolver.specs.BuiltinAtoms.{AssignsTo, IsJudgedAs}
use Rattle.ld_resolver.proofs.Results.{if_ok}
use Rattle.ld_resolver.proofs.BuiltinAtomLaws.{args_now, is_assigned, is_compared}
use Rattle.ld_resolver.proofs.builtin_atoms.judge_as.Goals as goal

pub returns-in-Is : goal.returns-in-Is
returns-in-Is c =
    let s = c.args.bindings.now in
    let ts = c.args.args.now in
    if_ok {P = AssignsTo c.in_ok-right.right} {Q = λ (f : FirstAtom). IsJudgedAs c.args.names c.args.kind (args_now s c.args.base ts) f} c.assigned.result
    (λ found h. is_assigned s c.args.names c.args.base ts c.left-item.result c.right-item.result c.in-len2.len_at_least (omega (arith, c.in-len2.len_below)) c.left-item.is c.right-item.is c.args.kind c.in_ok-right.right found c.in-Is.is c.in_ok-right.ensures h)
    c.assigned.ensures

pub returns-in_ok-left-in_default-kind : goal.returns-in_ok-left-in_default-kind
returns-in_ok-left-in_default-kind c =
    let s = c.args.bindings.now in
    is_compared s c.args.names c.args.base c.args.args.now c.left-item.result c.right-item.result c.in-len2.len_at_least (omega (arith, c.in-len2.len_below)) c.left-item.is c.right-item.is c.args.kind c.in_ok-left-in_default-kind.left c.in_ok-right.right c.compared.result c.in_default-kind.not-Is c.in_ok-left-in_default-kind.ensures c.in_ok-right.ensures c.compared.ensures
