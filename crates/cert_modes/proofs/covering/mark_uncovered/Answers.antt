use Rattle.termination_model.proofs.Lists.{at_place}
use Rattle.std.proofs.Common.{◌≡◌, ◌↔◌, ◌∙◌, ◌<◌, ℕ, IsTrue, List, length, refl, sym, subst, arith}
use Rattle.bool_diagrams.proofs.CallerLemmas.{keeps_twice}
use Rattle.bool_diagrams.specs.declared.diagram.Diagram.{Diagram}
use Rattle.cert_structure.specs.Shape.{arity_in, items_of}
use Rattle.number_tests.specs.declared.level_part.LevelPart.{LevelPart}
use Rattle.cert_modes.specs.declared.fault.ModeReason.TheVariants as reason
use Rattle.cert_modes.specs.Sets.{AreCovered, HaveLevels}
use Rattle.cert_modes.proofs.CoverLaws.{covered_later, levels_later}
use Rattle.cert_modes.proofs.MarkLaws.{marked_same, note_more}
use Rattle.cert_modes.proofs.PlaceLaws.{items_at}
use Rattle.cert_modes.proofs.covering.mark_uncovered.Goals as goal

pub are_covered-requires : goal.are_covered-requires
are_covered-requires c =
    let q = c.loop-q.q in
    let lt : q < length c.args.p.now.preds = omega (arith, c.loop-q-test.true, c.preds-q-end.ensures.count, c.loop-q.auto.q-end) in
    let levels = c.args.levels.now in
    let sets = c.args.sets.now in
    let own = c.as_slice-own.ensures ∙ sym (items_at levels q c.index-levels-q.result (at_place levels q c.index-levels-q.result (omega (arith, c.requires.levels, lt)) c.index-levels-q.is)) in
    let set = c.as_slice.ensures ∙ sym (items_at sets q c.index-sets-q.result (at_place sets q c.index-sets-q.result (omega (arith, c.requires.sets, lt)) c.index-sets-q.is)) in
    let have = levels_later c.args.table.now c.loop-q.table c.loop-q.invariant.keeps (arity_in c.args.p.now q) (items_of levels q) (items_of sets q) (c.requires.each q lt) in (
      arity_in c.args.p.now q,
      subst (λ (ls : List LevelPart). HaveLevels c.loop-q.table (arity_in c.args.p.now q) ls c.as_slice.result.now) (sym own)
          (subst (λ (ds : List Diagram). HaveLevels c.loop-q.table (arity_in c.args.p.now q) (items_of levels q) ds) (sym set) have),
    )

pub loop-q-preserved : goal.loop-q-preserved
loop-q-preserved c =
    let i = c.loop-q.invariant in
    let q = c.loop-q.q in
    let lt : q < length c.args.p.now.preds = omega (arith, c.loop-q-test.true, c.preds-q-end.ensures.count, c.loop-q.auto.q-end) in
    let levels = c.args.levels.now in
    let sets = c.args.sets.now in
    let own = c.as_slice-own.ensures ∙ sym (items_at levels q c.index-levels-q.result (at_place levels q c.index-levels-q.result (omega (arith, c.requires.levels, lt)) c.index-levels-q.is)) in
    let set = c.as_slice.ensures ∙ sym (items_at sets q c.index-sets-q.result (at_place sets q c.index-sets-q.result (omega (arith, c.requires.sets, lt)) c.index-sets-q.is)) in
    let now = subst (λ (ls : List LevelPart). IsTrue c.in_ok-covered.covered ↔ AreCovered c.loop-q.table ls (items_of sets q)) own
    (subst (λ (ds : List Diagram). IsTrue c.in_ok-covered.covered ↔ AreCovered c.loop-q.table c.as_slice-own.result.now ds) set c.in_ok-covered.ensures.covered) in
    let later = covered_later c.args.table.now c.loop-q.table i.keeps (items_of levels q) (items_of sets q) (c.requires.each q lt).known in
    record {
      keeps = keeps_twice _ _ _ i.keeps c.are_covered.ensures.keeps;
      each = c.note.ensures.each ∙ i.each;
      covered = note_more (λ j r. r ≡ j → AreCovered c.args.table.now (items_of levels j) (items_of sets j)) q q reason.Precondition
          c.args.marks.now c.loop-q.marks c.note.new.self c.in_ok-covered.covered i.covered
          (λ t same. later.0 (now.0 t), λ one. now.1 (later.1 (one refl))) (λ r other same. absurd (other same)) c.note.ensures.at c.note.ensures.others;
    }

pub returns-clause-covered : goal.returns-clause-covered
returns-clause-covered c = λ q.
    let p = c.args.p.now in
    marked_same (c.loop-q.invariant.covered q) (
      λ h lt. h q (omega (arith, lt, c.loop-q-test.false, c.preds-q-end.ensures.count, c.loop-q.auto.q-end)) refl,
      λ h j lt same. subst (λ (r : ℕ). r < length p.preds → AreCovered c.args.table.now (items_of c.args.levels.now r) (items_of c.args.sets.now r)) same h
          (omega (arith, lt, c.preds-q-end.ensures.count, c.loop-q.auto.q-end)),
    )
