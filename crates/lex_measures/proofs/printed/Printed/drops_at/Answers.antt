use Rattle.std.proofs.Common.{◌≡◌, ◌+◌, ◌<◌, ℕ, inr, refl, subst, arith, length}
use Rattle.lex_measures.specs.Lists.{ArePassed}
use Rattle.call_components.proofs.Lists.{some_within}
use Rattle.lex_measures.proofs.DropLaws.{passed_here, passed_on, passed_there}
use Rattle.lex_measures.proofs.printed.Printed.drops_at.Goals as goal

pub of-requires : goal.of-requires
of-requires c =
    let preds = c.args.self.now.p.now.preds in
    let head = c.clause.result.now.head in
    let below : head.pred.0 < length preds = some_within (λ d. d.arity ≡ length head.args) preds head.pred.0 c.clause.ensures.sound.head.arity in
    let each = c.requires.components.each in
    omega (arith, below, each)

pub lists_at-lists-requires-clause-there : goal.lists_at-lists-requires-clause-there
lists_at-lists-requires-clause-there c =
    let head = c.clause.result.now.head in
    some_within (λ d. d.arity ≡ length head.args) c.args.self.now.p.now.preds head.pred.0 c.clause.ensures.sound.head.arity

pub places_of-requires : goal.places_of-requires
places_of-requires c =
    let self = c.args.self.now in
    passed_here self.p.now self.comps.now self.found.now c.args.clause c.clause.result.now c.lists_at-lists.result.now c.args.at.now (c.args.clause + 1) (c.args.place + 1) c.clause.ensures.there c.lists_at-lists.ensures c.requires.passed

pub after_call-requires : goal.after_call-requires
after_call-requires c =
    let self = c.args.self.now in
    passed_here self.p.now self.comps.now self.found.now c.args.clause c.clause.result.now c.lists_at-lists.result.now c.args.at.now (c.args.clause + 1) (c.args.place + 1) c.clause.ensures.there c.lists_at-lists.ensures c.requires.passed

pub returns-then-of-clause-passed : goal.returns-then-of-clause-passed
returns-then-of-clause-passed c =
    let self = c.args.self.now in
    passed_on _ c.args.at.now (c.args.clause + 1) (c.args.place + 1) (c.args.clause + 1) (c.args.place + 2) (inr (refl, omega arith)) c.requires.passed

pub returns-clause-passed : goal.returns-clause-passed
returns-clause-passed c =
    let self = c.args.self.now in
    let next : c.args.place + 1 + 1 ≡ c.args.place + 2 = omega arith in
    passed_there self.p.now self.comps.now self.found.now c.args.clause c.clause.result.now c.lists_at-lists.result.now c.after_call.result (c.args.clause + 1) (c.args.place + 2) c.clause.ensures.there c.lists_at-lists.ensures
    (subst (λ (j : ℕ). ArePassed c.lists_at-lists.result.now c.after_call.result (c.args.clause + 1) j) next c.after_call.ensures)
