use Rattle.std.proofs.Common.{◌≡◌, ◌&&◌, ◌+◌, ℕ, Bool, IsTrue, List, length, slice_get, Some, sym, ap, ◌∙◌, arith}
use Rattle.bool_diagrams.specs.Rows.{holds}
use Rattle.bool_diagrams.proofs.CallerLemmas.{holds_later, keeps_twice}
use Rattle.cti_terms.specs.declared.atom_list.Atom.{Atom}
use Rattle.truth_rows.specs.Ready.{HasAtom, HasAtoms}
use Rattle.truth_rows.proofs.AtomLaws.{atom_later, atom_same, atoms_more, ready_later}
use Rattle.truth_rows.proofs.EndLaws.{row_told, says_both, says_later, says_onward, says_same}
use Rattle.termination_model.proofs.Lists.{at_place, place_below}
use Rattle.truth_rows.proofs.clause_rows.join_body.Goals as goal

pub loop-place-init : goal.loop-place-init
loop-place-init g c =
    let truth = g.N.Norm.truth c.args.norm.now in
    let k = c.args.clause.now in
    let old = c.args.table.now in
    record {
      keeps = c.without_ended.ensures.keeps;
      known = c.in_ok-rows.ensures.known;
      within = omega arith;
      rows = says_same c.args.ends.now 0 (λ v. IsTrue (holds old c.args.placed v)) (λ v. HasAtoms truth old c.args.sets.now v k.body 0 × IsTrue (holds old c.args.placed v)) (holds c.without_ended.new.table c.in_ok-rows.rows)
          (λ v. (λ t. ((λ j b lt e. absurd (omega arith)), t), λ h. h.1))
          c.in_ok-rows.ensures.rows;
    }

pub atom_rows-requires-clause-ready : goal.atom_rows-requires-clause-ready
atom_rows-requires-clause-ready g c =
    let n = c.loop-place.place in
    let b = c.atom-item.result in
    let at : slice_get c.args.clause.now.body n ≡ Some b = ap (λ (bs : List Atom). slice_get bs n) (sym c.as_slice-atom-items.ensures) ∙ at_place c.as_slice-atom-items.result.now n b c.loop-place-test.true c.atom-item.is in
    ready_later c.args.table.now c.loop-place.table c.loop-place.invariant.keeps c.args.sets.now c.args.clause.now.vars b (c.requires.clause.body n b at)

pub loop-place-preserved : goal.loop-place-preserved
loop-place-preserved g c =
    let n = c.loop-place.place in
    let b = c.atom-item.result in
    let k = c.args.clause.now in
    let truth = g.N.Norm.truth c.args.norm.now in
    let old = c.args.table.now in
    let sets = c.args.sets.now in
    let ends = c.args.ends.now in
    let at : slice_get k.body n ≡ Some b = ap (λ (bs : List Atom). slice_get bs n) (sym c.as_slice-atom-items.ensures) ∙ at_place c.as_slice-atom-items.result.now n b c.loop-place-test.true c.atom-item.is in
    let i = c.loop-place.invariant in
    let later = holds_later c.loop-place.table c.atom_rows.new.table c.loop-place.rows c.atom_rows.ensures.keeps i.known in
    let held = atom_later old c.loop-place.table i.keeps sets k.vars b (c.requires.clause.body n b at) truth in
    let told = c.requires.told n b at in
    let placed : (ℕ → Bool) → Type 0 = λ v. IsTrue (holds old c.args.placed v) in
    let joined = says_both ends n (λ (v : ℕ → Bool). HasAtoms truth old sets v k.body n × placed v) (λ (v : ℕ → Bool). HasAtom truth old sets v b)
    (holds c.loop-place.table c.loop-place.rows) (holds c.atom_rows.new.table c.in_ok-holding.holding) (holds c.and.new.self c.in_ok-rows-2.rows)
    i.rows
    (λ v. (λ t. (held v).0 ((c.in_ok-holding.ensures.rows v).0 t), λ h. (c.in_ok-holding.ensures.rows v).1 ((held v).1 h)))
    (λ v w agree. atom_same truth old sets b v w (row_told truth ends n b.args told v w agree))
    (λ v. c.in_ok-rows-2.ensures.rows v ∙ ap (λ x. x && holds c.atom_rows.new.table c.in_ok-holding.holding v) (later v)) in
    record {
      keeps = keeps_twice _ _ _ i.keeps (keeps_twice _ _ _ c.atom_rows.ensures.keeps (keeps_twice _ _ _ c.and.ensures.keeps c.without_ended-in-loop-place.ensures.keeps));
      known = c.in_ok-rows-3.ensures.known;
      within = omega (arith, place_below k.body n b at);
      rows = says_later ends n (n + 1) (λ (v : ℕ → Bool). HasAtoms truth old sets v k.body (n + 1) × placed v) (holds c.and.new.self c.in_ok-rows-2.rows) (holds c.without_ended-in-loop-place.new.table c.in_ok-rows-3.rows) (omega arith)
          (says_same ends n _ (λ (v : ℕ → Bool). HasAtoms truth old sets v k.body (n + 1) × placed v) (holds c.and.new.self c.in_ok-rows-2.rows)
          (λ v. (
            λ h. ((atoms_more truth old sets v k.body n b at).0 (h.0.0, h.1), h.0.1),
            λ h. let m = (atoms_more truth old sets v k.body n b at).1 h.0 in ((m.0, h.1), m.1),
          ))
          joined)
          c.in_ok-rows-3.ensures.rows;
    }

pub returns-clause-says : goal.returns-clause-says
returns-clause-says g c =
    let truth = g.N.Norm.truth c.args.norm.now in
    let k = c.args.clause.now in
    let i = c.loop-place.invariant in
    says_onward c.args.ends.now c.loop-place.place (length k.body) (λ v. HasAtoms truth c.args.table.now c.args.sets.now v k.body (length k.body) × IsTrue (holds c.args.table.now c.args.placed v)) (holds c.loop-place.table c.loop-place.rows) i.within
    (says_same c.args.ends.now c.loop-place.place _ (λ v. HasAtoms truth c.args.table.now c.args.sets.now v k.body (length k.body) × IsTrue (holds c.args.table.now c.args.placed v)) (holds c.loop-place.table c.loop-place.rows)
    (λ v. (
      λ h. ((λ j b lt e. h.0 j b (omega (arith, lt, c.loop-place-test.false, ap length c.as_slice-atom-items.ensures)) e), h.1),
      λ h. ((λ j b lt e. h.0 j b (place_below k.body j b e) e), h.1),
    ))
    i.rows)
