use Rattle.std.proofs.Common.{◌≡◌, ◌-◌, ◌<◌, List, length, get_or, rules}
use Rattle.ld_resolver.specs.declared.first_kind.FirstKind.{FirstKind}
use Rattle.ld_resolver.specs.declared.first_kind.FirstKind.TheVariants.{Any}
use Rattle.ld_resolver.proofs.FirstKindLaws.{kind_at}
use Rattle.ld_resolver.proofs.clause_chain.ClauseChain.kind.Goals as goal

pub returns : goal.returns
returns c =
    let kinds : List FirstKind = c.args.self.now.kinds.items in
    let inside : c.args.number - 1 < length kinds = search rules in
    let read : c.in_ok-kind.kind.now ≡ get_or kinds (c.args.number - 1) Any = search rules in
    λ p chain. kind_at p kinds c.args.number c.in_ok-kind.kind.now c.requires inside read chain.kinds
