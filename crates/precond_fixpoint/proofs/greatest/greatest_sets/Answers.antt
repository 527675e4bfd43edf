use Rattle.std.proofs.Common.{ℕ, sym, subst, arith}
use Rattle.number_tests.specs.Levels.{coefficients_of}
use Rattle.termination_model.specs.grounds.Grounds.{Family}
use Rattle.truth_rows.specs.Sets.{family_of}
use Rattle.truth_rows.proofs.CallerLemmas.{family_later}
use Rattle.precond_fixpoint.specs.Greatest.{IsGreatestIn}
use Rattle.precond_fixpoint.specs.Removing.{IsCovering, is_ranked}
use Rattle.precond_fixpoint.proofs.SettingLaws.{component_later, setting_later}
use Rattle.precond_fixpoint.proofs.greatest.greatest_sets.Goals as goal

pub put_covering-requires-clause-mapping : goal.put_covering-requires-clause-mapping
put_covering-requires-clause-mapping g c = λ j a at. omega (arith, c.requires.component.mappings j a at, c.requires.mapping)

pub shrink-requires-clause-setting : goal.shrink-requires-clause-setting
shrink-requires-clause-setting g c = setting_later c.args.setting.now c.args.table.now c.put_covering.new.table c.put_covering.ensures.keeps c.requires.setting

pub shrink-requires-clause-component : goal.shrink-requires-clause-component
shrink-requires-clause-component g c = component_later c.args.setting.now c.args.component.now c.args.table.now c.put_covering.new.table c.put_covering.ensures.keeps c.requires.component

pub returns-clause-solution : goal.returns-clause-solution
returns-clause-solution g c =
    let new = c.shrink.new.sets in
    let preds = c.args.setting.now.program.now.preds in
    let T = c.args.table.now in
    let T1 = c.put_covering.new.table in
    let K = c.put_covering.ensures.keeps in
    let truth = g.N.Norm.truth c.args.setting.now.norm.now in
    let member = is_ranked c.args.setting.now.ranks.now c.args.component.now.rank in
    let coefficients = coefficients_of c.args.setting.now.levels.now c.args.m in
    let h = c.in_ok-shrink.ensures.greatest coefficients
    (λ q ranked.
    let w = c.requires.component.members.all q ranked in
    subst (λ (r : ℕ). IsCovering preds coefficients (family_of preds T1 c.put_covering.new.sets) r) (sym w.3) (c.in_ok-put_covering.ensures.covering w.0 w.1 w.2)) in
    let a = subst (λ (f : Family). IsGreatestIn truth c.args.setting.now.program.now member f (family_of preds T1 c.args.setting.now.grounds.now) coefficients (family_of preds c.shrink.new.table new)) (family_later preds T T1 K c.args.component.now.allowed.now c.requires.component.allowed.known) h in
    record {
      sets = c.in_ok-shrink.ensures.sets;
      greatest = subst (λ (f : Family). IsGreatestIn truth c.args.setting.now.program.now member (family_of preds T c.args.component.now.allowed.now) f coefficients (family_of preds c.shrink.new.table new)) (family_later preds T T1 K c.args.setting.now.grounds.now c.requires.setting.grounds.known) a;
    }
