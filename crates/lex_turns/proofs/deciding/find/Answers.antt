use Rattle.std.proofs.Common.{inl, inr, subst}
use Rattle.termination_model.specs.sizes.Sizes.{rows_of}
use Rattle.level_systems.specs.Searched.{IsAnswer, IsFoundIn}
use Rattle.level_dual.proofs.Results.{if_ok}
use Rattle.lex_turns.specs.FoundLists.{IsUnmapped}
use Rattle.lex_turns.proofs.deciding.find.Goals as goal

pub returns-in-Mapping : goal.returns-in-Mapping
returns-in-Mapping g c =
    let e = g.N.Norm.expression c.args.norm.now in
    let size = g.N.Norm.size c.args.norm.now in
    let truth = g.N.Norm.truth c.args.norm.now in
    let p = c.args.p.now in
    let rows = rows_of c.args.sizes.now.rows in
    if_ok c.of_mapping.result (λ f is. λ comps r h.
    let answer = subst (IsAnswer e p comps rows r c.as_slice.result.now) c.in-Mapping.is (c.in_ok-mapping.ensures size truth e comps rows r h) in
    is size truth e comps rows r h (subst (λ s. IsFoundIn e p comps rows r s c.in-Mapping.mapping) c.as_slice.ensures answer)) c.of_mapping.ensures

pub returns-in-Refuted : goal.returns-in-Refuted
returns-in-Refuted g c =
    let e = g.N.Norm.expression c.args.norm.now in
    let size = g.N.Norm.size c.args.norm.now in
    let truth = g.N.Norm.truth c.args.norm.now in
    let p = c.args.p.now in
    let rows = rows_of c.args.sizes.now.rows in
    if_ok c.by_turns.result (λ f is. λ comps r h.
    let answer = subst (IsAnswer e p comps rows r c.as_slice.result.now) c.in-Refuted.is (c.in_ok-mapping.ensures size truth e comps rows r h) in
    is comps r h (subst (IsUnmapped e p comps rows r) c.as_slice.ensures (inr answer))) c.by_turns.ensures

pub returns-in-Blown : goal.returns-in-Blown
returns-in-Blown g c =
    let e = g.N.Norm.expression c.args.norm.now in
    let size = g.N.Norm.size c.args.norm.now in
    let truth = g.N.Norm.truth c.args.norm.now in
    let p = c.args.p.now in
    let rows = rows_of c.args.sizes.now.rows in
    if_ok c.by_turns-in-Blown.result (λ f is. λ comps r h.
    let answer = subst (IsAnswer e p comps rows r c.as_slice.result.now) c.in-Blown.is (c.in_ok-mapping.ensures size truth e comps rows r h) in
    is comps r h (subst (IsUnmapped e p comps rows r) c.as_slice.ensures (inl answer))) c.by_turns-in-Blown.ensures
