use Rattle.std.proofs.Common.{◌∙◌, Result, Ok, Err, ap, refl, subst, sym}
use Rattle.std.specs.Prelude.{OnErr}
use Rattle.component_laws.specs.Untouched.{AreUntouched}
use Rattle.cti_terms.specs.Listing.{Listing}
use Rattle.kept_clauses.specs.AllKept.{AllKept}
use Rattle.solved_program.specs.Kept.{AreKept}
use Rattle.kept_program.specs.Kept.{parts_of}
use Rattle.kept_program.specs.ProgramParts.{ProgramParts}
use Rattle.kept_program.specs.Untouched.{AreBuiltAlike, KeepsUntouched}
use Rattle.kept_program.proofs.KeptLaws.{parts_later, sets_later}
use Rattle.kept_program.proofs.UntouchedParts.{keeps_untouched}
use Rattle.kept_program.proofs.kept_program.KeptProgram.edit.Goals as goal

-- what holds in any case holds after an error
on_err : {A E P : Type 0} (r : Result A E) → P → OnErr r P
on_err (Ok a) h = tt
on_err (Err e) h = h

pub invariant_of-self : goal.invariant_of-self
invariant_of-self c =
    let s = c.self.inside in
    let k = s.kept in
    let h = c.self.invariant in
    record {
      components = h.components;
      kept = record {
        numbers = h.kept.numbers;
        sets = sets_later s.program s.components k.numbers.levels s.table c.resolve.new.table k.sets.grounds.items k.sets.preconditions k.sets.modes c.resolve.ensures.keeps h.kept.sets;
      };
    }

pub returns-in_err-found-clause-err : goal.returns-in_err-found-clause-err
returns-in_err-found-clause-err c =
    let s = c.self.inside in
    let k = s.kept in
    on_err c.from_residual-in_err-found.result
    (parts_later s.program s.components k.numbers.levels s.table c.resolve.new.table k.sets.grounds.items k.sets.preconditions k.sets.modes c.resolve.ensures.keeps c.self.invariant.kept.sets k.numbers k.sets refl refl refl
    ∙ c.self.view_is)

pub returns-clause-untouched : goal.returns-clause-untouched
returns-clause-untouched c = λ set un all built.
    let view = c.self.view_is in
    let program = ap (λ (k : ProgramParts). k.program) (sym view) in
    let kept = subst (λ (p : Listing). AreKept p c.args.program c.args.kept.now) program c.requires.kept in
    subst (λ (k : ProgramParts). KeepsUntouched k c.renew.new.self set) view
    (subst (λ (k : ProgramParts). KeepsUntouched (parts_of c.self.inside.program c.self.inside.components c.self.inside.table c.self.inside.kept) k set) (sym c.renew.ensures)
    (keeps_untouched c.in_ok-found.ensures.from c.preds-old.ensures.sound c.preds-new.ensures.sound
    (record { components_before = c.self.invariant.components; components = c.in_ok-components.ensures; kept = kept }) c.self.invariant.kept c.in_ok-found.ensures.kept set
    (subst (λ (p : Listing). AreUntouched p c.args.program set) program un)
    (subst (λ (p : Listing). AllKept p c.args.program set c.args.kept.now) program all)
    (subst (λ (p : Listing). AreBuiltAlike p c.args.program set) program built)))
