use Rattle.std.proofs.Common.{◌≡◌, ◌∙◌, ◌<◌, ℕ, IsTrue, List, length, slice_get, Some, sym, subst}
use Rattle.std.specs.List.{list_all}
use Rattle.truth_rows.proofs.CallerLemmas.{sets_later}
use Rattle.truth_rows.specs.Sets.{AreSets, family_of}
use Rattle.bool_diagrams.proofs.CallerLemmas.{keeps_twice}
use Rattle.bool_diagrams.specs.Cubes.{truth_rows}
use Rattle.bool_diagrams.specs.declared.diagram.Diagram.{Diagram}
use Rattle.cert_structure.specs.Shape.{arity_in, items_of}
use Rattle.number_tests.specs.declared.level_part.LevelPart.{LevelPart}
use Rattle.cert_modes.specs.Failing.{ClosesIn}
use Rattle.cert_modes.specs.Marks.{IsMarked, mark_at}
use Rattle.cert_modes.specs.Sets.{AreCovered, HaveLevels}
use Rattle.cert_modes.specs.declared.fault.ModeReason.TheVariants as reason
use Rattle.termination_model.specs.claims.Descent.{mode_row}
use Rattle.cert_modes.proofs.CoverLaws.{levels_later}
use Rattle.cert_modes.proofs.FirstLaws.{tells}
use Rattle.cert_modes.proofs.HoldLaws.{closed_at, covered_at, levels_of, modes_at, rule_at}
use Rattle.cert_modes.proofs.MarkLaws.{mark_says, marked_same}
use Rattle.cert_modes.proofs.SpellLaws.{ready_later}
use Rattle.cert_modes.proofs.checking.marks_of.Goals as goal

pub mark_uncovered-requires-clause-each : goal.mark_uncovered-requires-clause-each
mark_uncovered-requires-clause-each g c = λ q lt.
    let p = c.args.p.now in
    let sets = c.args.sets.now in
    let have = levels_of (g.N.Norm.truth c.args.norm.now) p c.preds.ensures.sound c.args.comps.now c.requires.components c.args.parts.now c.requires.shape c.args.table.now sets c.requires.ready c.requires.spell q lt in
    let later = levels_later c.args.table.now c.mark_open.new.table c.mark_open.ensures.keeps (arity_in p q) (items_of c.args.parts.now.levels q) (items_of sets.preconditions q) have in
    subst (λ (ls : List (List LevelPart)). HaveLevels c.mark_open.new.table (arity_in p q) (items_of ls q) (items_of c.as_slice-preconditions.result.now q)) (sym c.as_slice-levels.ensures)
    (subst (λ (ds : List (List Diagram)). HaveLevels c.mark_open.new.table (arity_in p q) (items_of c.args.parts.now.levels q) (items_of ds q)) (sym c.as_slice-preconditions.ensures) later)

pub mark_broken-requires-clause-ready : goal.mark_broken-requires-clause-ready
mark_broken-requires-clause-ready g c =
    ready_later c.args.table.now c.mark_uncovered.new.table (keeps_twice _ _ _ c.mark_open.ensures.keeps c.mark_uncovered.ensures.keeps) c.args.p.now c.args.sets.now c.requires.ready

pub mark_refused-requires-clause-sets : goal.mark_refused-requires-clause-sets
mark_refused-requires-clause-sets g c =
    let all = keeps_twice _ _ _ c.mark_open.ensures.keeps (keeps_twice _ _ _ c.mark_uncovered.ensures.keeps c.mark_broken.ensures.keeps) in
    subst (AreSets c.args.p.now.preds c.mark_broken.new.table) (sym c.as_slice-4.ensures.value)
    (sets_later c.args.p.now.preds c.args.table.now c.mark_broken.new.table all c.args.sets.now.allowed.items c.requires.ready.allowed)

pub returns-clause-told : goal.returns-clause-told
returns-clause-told g c = λ q.
    let p = c.args.p.now in
    let comps = c.args.comps.now in
    let parts = c.args.parts.now in
    let truth = g.N.Norm.truth c.args.norm.now in
    let first = c.args.table.now in
    let sets = c.args.sets.now in
    let ready = c.requires.ready in
    let spell = c.requires.spell in
    let sound = c.preds.ensures.sound in
    let one = c.mark_open.ensures.keeps in
    let two = keeps_twice _ _ _ one c.mark_uncovered.ensures.keeps in
    let three = keeps_twice _ _ _ two c.mark_broken.ensures.keeps in
    let closed = closed_at truth p sound comps c.requires.components parts c.requires.shape first sets ready spell q in
    let covered = covered_at truth p sound comps c.requires.components parts c.requires.shape first sets ready spell c.mark_open.new.table one q in
    let rule = rule_at truth p sound comps c.requires.components parts c.requires.shape first sets ready spell c.mark_uncovered.new.table two c.as_slice-2.result.now (c.as_slice-2.ensures.value ∙ c.in_ok-ranks.ensures) q in
    let modes = modes_at truth p sound comps c.requires.components parts c.requires.shape first sets ready spell c.mark_broken.new.table three q in
    let opened = subst (λ (ds : List Diagram). IsMarked (ClosesIn truth p (family_of p.preds first ds) q) reason.Ground (mark_at c.in_ok-marks.marks q) (mark_at c.mark_open.new.marks q)) c.as_slice.ensures.value (c.in_ok-mark_open.ensures.closed q) in
    let uncovered = subst (λ (ls : List (List LevelPart)). IsMarked (q < length p.preds → AreCovered c.mark_open.new.table (items_of ls q) (items_of sets.preconditions q)) reason.Precondition
    (mark_at c.mark_open.new.marks q) (mark_at c.mark_uncovered.new.marks q)) c.as_slice-levels.ensures
    (subst (λ (ds : List (List Diagram)). IsMarked (q < length p.preds → AreCovered c.mark_open.new.table (items_of c.as_slice-levels.result.now q) (items_of ds q)) reason.Precondition
    (mark_at c.mark_open.new.marks q) (mark_at c.mark_uncovered.new.marks q)) c.as_slice-preconditions.ensures (c.in_ok-mark_uncovered.ensures.covered q)) in
    let refused = subst (λ (ms : List (List (List ℕ))). IsMarked ((d : Diagram) → slice_get sets.allowed.items q ≡ Some d → IsTrue (list_all (λ (mode : List ℕ). truth_rows c.mark_broken.new.table d (mode_row mode 1 (arity_in p q))) (items_of ms q))) reason.Mode
    (mark_at c.mark_broken.new.marks q) (mark_at c.mark_refused.new.marks q)) c.as_slice-3.ensures
    (subst (λ (ds : List Diagram). IsMarked ((d : Diagram) → slice_get ds q ≡ Some d → IsTrue (list_all (λ (mode : List ℕ). truth_rows c.mark_broken.new.table d (mode_row mode 1 (arity_in p q))) (items_of c.as_slice-3.result.now q))) reason.Mode
    (mark_at c.mark_broken.new.marks q) (mark_at c.mark_refused.new.marks q)) c.as_slice-4.ensures.value (c.mark_refused.ensures.admitted q)) in
    tells truth p comps parts q (mark_at c.mark_refused.new.marks q)
    (mark_says (c.in_ok-marks.ensures.clear q) (marked_same opened closed) (marked_same uncovered covered) (marked_same (c.in_ok-mark_broken.ensures.kept q) rule) (marked_same refused modes))
