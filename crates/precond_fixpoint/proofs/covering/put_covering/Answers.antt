use Rattle.std.proofs.Common.{inl, inr, ℕ, get_or, sym, subst, arith}
use Rattle.std.proofs.lemmas.Bool.{cases_eq}
use Rattle.bool_diagrams.proofs.CallerLemmas.{keeps_twice}
use Rattle.cti_terms.specs.declared.predicates.PredId.{PredId}
use Rattle.number_tests.specs.Levels.{coefficients_of}
use Rattle.precond_fixpoint.specs.Removing.{IsCovering}
use Rattle.precond_fixpoint.proofs.FamilyLaws.{earlier}
use Rattle.precond_fixpoint.proofs.StartLaws.{covering_same}
use Rattle.termination_model.proofs.Lists.{place_below, there}
use Rattle.truth_rows.specs.Sets.{family_of}
use Rattle.precond_fixpoint.proofs.covering.put_covering.Goals as goal

pub cover_member-requires-clause-there : goal.cover_member-requires-clause-there
cover_member-requires-clause-there c =
    let n = c.loop-member.member-index in
    c.requires.there n _ (there c.args.members.now n (record { 0 = 0 }) c.loop-member-test.true)

pub cover_member-requires-clause-mapping : goal.cover_member-requires-clause-mapping
cover_member-requires-clause-mapping c =
    let n = c.loop-member.member-index in
    c.requires.mapping n _ (there c.args.members.now n (record { 0 = 0 }) c.loop-member-test.true)

pub loop-member-preserved : goal.loop-member-preserved
loop-member-preserved c =
    let n = c.loop-member.member-index in
    let i = c.loop-member.invariant in
    let a : PredId = get_or c.args.members.now n (record { 0 = 0 }) in
    let preds = c.args.p.now.preds in
    let e = c.in_ok-cover_member.ensures in
    let now = family_of preds c.cover_member.new.table c.cover_member.new.sets in
    let at = there c.args.members.now n (record { 0 = 0 }) c.loop-member-test.true in
    record {
      keeps = keeps_twice _ _ _ i.keeps c.cover_member.ensures.keeps;
      sets = e.sets;
      covering = λ j q lt f. elim (cases_eq q.0 a.0) [
        | inl same ↦ subst (λ (r : ℕ). IsCovering preds (coefficients_of c.args.levels.now c.args.m) now r) (sym same) e.own
        | inr ne ↦
            covering_same preds (coefficients_of c.args.levels.now c.args.m) (family_of preds c.loop-member.table c.loop-member.sets) now q.0 (e.others q.0 ne)
            (i.covering j q (earlier c.args.members.now n a at j q lt f ne) f)
      ];
    }

pub returns-clause-covering : goal.returns-clause-covering
returns-clause-covering c = λ j a at. c.loop-member.invariant.covering j a (omega (arith, place_below c.args.members.now j a at, c.loop-member-test.false)) at
