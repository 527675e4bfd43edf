use Rattle.std.proofs.Common.{◌↔◌, ℕ, Bool, IsTrue}
use Rattle.truth_rows.specs.Rules.{KeepsSets, same_rank}
use Rattle.truth_rows.specs.Sets.{family_of}
use Rattle.truth_rows.proofs.AtomLaws.{rule_is}
use Rattle.truth_rows.proofs.SetLaws.{ready}
use Rattle.truth_rows.proofs.RowLaws.{if_ok_then}
use Rattle.truth_rows.proofs.rules.ClauseRule.is_kept.Goals as goal

pub calls_stay-requires-clause-grounds : goal.calls_stay-requires-clause-grounds
calls_stay-requires-clause-grounds g c = ready c.args.p.now c.clauses-count.ensures.sound c.args.table.now c.args.self.now.grounds.now c.requires.grounds c.args.self.now.clause.now c.requires.clause

pub calls_stay-requires-clause-pre : goal.calls_stay-requires-clause-pre
calls_stay-requires-clause-pre g c = ready c.args.p.now c.clauses-count.ensures.sound c.args.table.now c.args.self.now.pre.now c.requires.pre c.args.self.now.clause.now c.requires.clause

pub calls_stay-requires-clause-allowed : goal.calls_stay-requires-clause-allowed
calls_stay-requires-clause-allowed g c = ready c.args.p.now c.clauses-count.ensures.sound c.args.table.now c.args.self.now.allowed.now c.requires.allowed c.args.self.now.clause.now c.requires.clause

pub returns-clause-rule : goal.returns-clause-rule
returns-clause-rule g c =
    let p = c.args.p.now in
    let old = c.args.table.now in
    let truth = g.N.Norm.truth c.args.norm.now in
    let rule = c.args.self.now in
    let clause = rule.clause.now in
    let together : ℕ → Bool = λ q. same_rank rule.ranks.now q clause.head.pred.0 in
    let e = rule_is truth p old c.clauses-count.ensures.sound rule.pre.now rule.allowed.now rule.grounds.now c.requires.pre c.requires.allowed c.requires.grounds clause c.requires.clause together in
    if_ok_then {Q = λ kept. IsTrue kept ↔ KeepsSets truth (family_of p.preds old rule.pre.now) (family_of p.preds old rule.allowed.now) (family_of p.preds old rule.grounds.now) together clause} _ c.calls_stay.ensures.stay
    (λ x h. (λ t. e.0 (h.0 t), λ q. h.1 (e.1 q)))
