use Rattle.std.proofs.Common.{◌≡◌, ℕ, length, subst, arith}
use Rattle.bool_diagrams.proofs.CallerLemmas.{keeps_same, keeps_twice}
use Rattle.truth_rows.specs.Sets.{family_of}
use Rattle.groundness.proofs.ComponentLaws.{AreLeastTo, least_more, least_start, whole}
use Rattle.groundness.proofs.RoundLaws.{kept_later}
use Rattle.groundness.proofs.solving.solve_all.Goals as goal

pub loop-c-init : goal.loop-c-init
loop-c-init g c =
    let s = c.args.setting.now in
    record {
      keeps = keeps_same _;
      sets = c.requires.sets;
      each = c.requires.marks;
      least = least_start (g.N.Norm.truth s.norm.now) s.program.now s.comps.now c.requires.setting.program c.requires.setting.components (family_of s.program.now.preds c.args.table.now c.args.sets.now) c.requires.none;
    }

pub loop-c-preserved : goal.loop-c-preserved
loop-c-preserved g c =
    let i = c.loop-c.invariant in
    let a = c.in_ok-solve_component.ensures in
    let s = c.args.setting.now in
    let p = s.program.now in
    record {
      keeps = keeps_twice _ _ _ i.keeps c.solve_component.ensures.keeps;
      sets = a.sets;
      each = a.marks;
      least = least_more (g.N.Norm.truth s.norm.now) p s.comps.now c.requires.setting.program c.requires.setting.components c.loop-c.c (family_of p.preds c.loop-c.table c.loop-c.sets) (family_of p.preds c.solve_component.new.table c.solve_component.new.sets) i.least
          (λ r off. kept_later p.preds c.loop-c.table c.solve_component.new.table c.solve_component.ensures.keeps c.loop-c.sets i.sets.known c.solve_component.new.sets r (a.others r off)) a.least;
    }

pub returns-clause-least : goal.returns-clause-least
returns-clause-least g c =
    let s = c.args.setting.now in
    let e : c.loop-c.c ≡ length s.comps.now.members = omega (arith, c.count-c-end.ensures, c.loop-c-test.false, c.loop-c.auto.c-end) in
    let f = family_of s.program.now.preds c.loop-c.table c.loop-c.sets in
    whole (g.N.Norm.truth s.norm.now) s.program.now s.comps.now c.requires.setting.program c.requires.setting.components f
    (subst (λ (n : ℕ). AreLeastTo (g.N.Norm.truth s.norm.now) s.program.now s.comps.now n f) e c.loop-c.invariant.least)
