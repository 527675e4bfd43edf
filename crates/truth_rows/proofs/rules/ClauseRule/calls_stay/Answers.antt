use Rattle.std.proofs.Common.{◌≡◌, ◌&&◌, ◌+◌, ℕ, Bool, List, length, slice_get, Some, if◌then◌else◌, refl, sym, ap, ◌∙◌, arith}
use Rattle.bool_diagrams.specs.Rows.{holds}
use Rattle.bool_diagrams.proofs.CallerLemmas.{holds_later, keeps_twice}
use Rattle.cti_terms.specs.declared.atom_list.Atom.{Atom}
use Rattle.truth_rows.specs.Ready.{HasAtom, HasAtoms}
use Rattle.truth_rows.specs.Rules.{same_rank}
use Rattle.truth_rows.proofs.AtomLaws.{atom_later, atom_same, atoms_more, chosen_ready, ready_later}
use Rattle.truth_rows.proofs.EndLaws.{row_told, says_both, says_itself, says_later, says_onward, says_same}
use Rattle.truth_rows.proofs.ListLaws.{up_to_more}
use Rattle.termination_model.proofs.Lists.{at_place, place_below}
use Rattle.truth_rows.proofs.rules.ClauseRule.calls_stay.Goals as goal

pub put_body_off-requires-clause-small : goal.put_body_off-requires-clause-small
put_body_off-requires-clause-small g c = λ j b at. (c.requires.grounds.body j b at).small

pub loop-place-init : goal.loop-place-init
loop-place-init g c = record {
  keeps = c.atom_rows.ensures.keeps;
  known = c.in_ok-reached.ensures.known;
  reached = says_itself _ _ _ _ (λ v. (λ t. ((c.in_ok-reached.ensures.rows v).0 t, λ j b lt e. absurd (omega arith)), λ h. (c.in_ok-reached.ensures.rows v).1 h.0));
  stay = λ v head j b lt at before. absurd (omega arith);
}

pub call_stays-requires-clause-pre : goal.call_stays-requires-clause-pre
call_stays-requires-clause-pre g c =
    let n = c.loop-place.place in
    let b = c.atom-item.result in
    let at : slice_get c.args.self.now.clause.now.body n ≡ Some b = ap (λ (bs : List Atom). slice_get bs n) (sym c.as_slice-atom-items.ensures) ∙ at_place c.as_slice-atom-items.result.now n b c.loop-place-test.true c.atom-item.is in
    ready_later c.args.table.now c.without_ended.new.table (keeps_twice _ _ _ c.loop-place.invariant.keeps c.without_ended.ensures.keeps) c.args.self.now.pre.now c.args.self.now.clause.now.vars b (c.requires.pre.body n b at)

pub call_stays-requires-clause-allowed : goal.call_stays-requires-clause-allowed
call_stays-requires-clause-allowed g c =
    let n = c.loop-place.place in
    let b = c.atom-item.result in
    let at : slice_get c.args.self.now.clause.now.body n ≡ Some b = ap (λ (bs : List Atom). slice_get bs n) (sym c.as_slice-atom-items.ensures) ∙ at_place c.as_slice-atom-items.result.now n b c.loop-place-test.true c.atom-item.is in
    ready_later c.args.table.now c.without_ended.new.table (keeps_twice _ _ _ c.loop-place.invariant.keeps c.without_ended.ensures.keeps) c.args.self.now.allowed.now c.args.self.now.clause.now.vars b (c.requires.allowed.body n b at)

pub atom_rows-requires-in-loop-place-clause-ready :
    goal.atom_rows-requires-in-loop-place-clause-ready
atom_rows-requires-in-loop-place-clause-ready g c =
    let n = c.loop-place.place in
    let b = c.atom-item.result in
    let at : slice_get c.args.self.now.clause.now.body n ≡ Some b = ap (λ (bs : List Atom). slice_get bs n) (sym c.as_slice-atom-items.ensures) ∙ at_place c.as_slice-atom-items.result.now n b c.loop-place-test.true c.atom-item.is in
    ready_later c.args.table.now c.call_stays.new.table (keeps_twice _ _ _ c.loop-place.invariant.keeps (keeps_twice _ _ _ c.without_ended.ensures.keeps c.call_stays.ensures.keeps)) c.args.self.now.grounds.now c.args.self.now.clause.now.vars b (c.requires.grounds.body n b at)

pub returns-then-not-stays-clause-stay : goal.returns-then-not-stays-clause-stay
returns-then-not-stays-clause-stay g c =
    let n = c.loop-place.place in
    let b = c.atom-item.result in
    let k = c.args.self.now.clause.now in
    let i = c.loop-place.invariant in
    let truth = g.N.Norm.truth c.args.norm.now in
    let old = c.args.table.now in
    let ends = c.put_body_off.new.ends in
    let at : slice_get k.body n ≡ Some b = ap (λ (bs : List Atom). slice_get bs n) (sym c.as_slice-atom-items.ensures) ∙ at_place c.as_slice-atom-items.result.now n b c.loop-place-test.true c.atom-item.is in
    let own = same_rank c.args.self.now.ranks.now b.pred.0 k.head.pred.0 in
    let sets = if own then c.args.self.now.pre.now else c.args.self.now.allowed.now in
    let chosen = chosen_ready old c.args.self.now.pre.now c.args.self.now.allowed.now k.vars b own (c.requires.pre.body n b at) (c.requires.allowed.body n b at) in
    let kept = keeps_twice _ _ _ i.keeps c.without_ended.ensures.keeps in
    let says = says_later ends n n (λ (v : ℕ → Bool). HasAtom truth old c.args.self.now.pre.now v k.head × HasAtoms truth old c.args.self.now.grounds.now v k.body n)
    (holds c.loop-place.table c.loop-place.reached) (holds c.without_ended.new.table c.in_ok-reached-2.reached) (omega arith) i.reached c.in_ok-reached-2.ensures.rows in (
      λ t. cc,
      λ all. sym c.if-not-stays.true
          ∙ c.in_ok-stays.ensures.stays.1 (λ row t.
          let s = says.some row t in
          (atom_later old c.without_ended.new.table kept sets k.vars b chosen truth row).1
          (atom_same truth old sets b s.0 row (row_told truth ends n b.args (c.put_body_off.ensures.told n b at) s.0 row s.1) (all s.0 s.2.0 n b at s.2.1))),
    )

pub loop-place-preserved : goal.loop-place-preserved
loop-place-preserved g c =
    let n = c.loop-place.place in
    let b = c.atom-item.result in
    let k = c.args.self.now.clause.now in
    let i = c.loop-place.invariant in
    let truth = g.N.Norm.truth c.args.norm.now in
    let old = c.args.table.now in
    let grounds = c.args.self.now.grounds.now in
    let ends = c.put_body_off.new.ends in
    let at : slice_get k.body n ≡ Some b = ap (λ (bs : List Atom). slice_get bs n) (sym c.as_slice-atom-items.ensures) ∙ at_place c.as_slice-atom-items.result.now n b c.loop-place-test.true c.atom-item.is in
    let own = same_rank c.args.self.now.ranks.now b.pred.0 k.head.pred.0 in
    let sets = if own then c.args.self.now.pre.now else c.args.self.now.allowed.now in
    let chosen = chosen_ready old c.args.self.now.pre.now c.args.self.now.allowed.now k.vars b own (c.requires.pre.body n b at) (c.requires.allowed.body n b at) in
    let kept = keeps_twice _ _ _ i.keeps c.without_ended.ensures.keeps in
    let says = says_later ends n n (λ (v : ℕ → Bool). HasAtom truth old c.args.self.now.pre.now v k.head × HasAtoms truth old grounds v k.body n)
    (holds c.loop-place.table c.loop-place.reached) (holds c.without_ended.new.table c.in_ok-reached-2.reached) (omega arith) i.reached c.in_ok-reached-2.ensures.rows in
    let later = holds_later c.without_ended.new.table c.atom_rows-in-loop-place.new.table c.in_ok-reached-2.reached (keeps_twice _ _ _ c.call_stays.ensures.keeps c.atom_rows-in-loop-place.ensures.keeps) c.in_ok-reached-2.ensures.known in
    let held = atom_later old c.call_stays.new.table (keeps_twice _ _ _ kept c.call_stays.ensures.keeps) grounds k.vars b (c.requires.grounds.body n b at) truth in
    let joined = says_both ends n (λ (v : ℕ → Bool). HasAtom truth old c.args.self.now.pre.now v k.head × HasAtoms truth old grounds v k.body n) (λ (v : ℕ → Bool). HasAtom truth old grounds v b)
    (holds c.without_ended.new.table c.in_ok-reached-2.reached) (holds c.atom_rows-in-loop-place.new.table c.in_ok-holding.holding) (holds c.and.new.self c.in_ok-reached-3.reached)
    says
    (λ v. (λ t. (held v).0 ((c.in_ok-holding.ensures.rows v).0 t), λ h. (c.in_ok-holding.ensures.rows v).1 ((held v).1 h)))
    (λ v w agree. atom_same truth old grounds b v w (row_told truth ends n b.args (c.put_body_off.ensures.told n b at) v w agree))
    (λ v. c.in_ok-reached-3.ensures.rows v ∙ ap (λ x. x && holds c.atom_rows-in-loop-place.new.table c.in_ok-holding.holding v) (later v)) in
    record {
      keeps = keeps_twice _ _ _ kept (keeps_twice _ _ _ c.call_stays.ensures.keeps (keeps_twice _ _ _ c.atom_rows-in-loop-place.ensures.keeps c.and.ensures.keeps));
      known = c.in_ok-reached-3.ensures.known;
      reached = says_onward ends n (n + 1) (λ (v : ℕ → Bool). HasAtom truth old c.args.self.now.pre.now v k.head × HasAtoms truth old grounds v k.body (n + 1)) (holds c.and.new.self c.in_ok-reached-3.reached) (omega arith)
          (says_same ends n _ (λ (v : ℕ → Bool). HasAtom truth old c.args.self.now.pre.now v k.head × HasAtoms truth old grounds v k.body (n + 1)) (holds c.and.new.self c.in_ok-reached-3.reached)
          (λ v. (
            λ h. (h.0.0, (atoms_more truth old grounds v k.body n b at).0 (h.0.1, h.1)),
            λ h. let m = (atoms_more truth old grounds v k.body n b at).1 h.1 in ((h.0, m.0), m.1),
          ))
          joined);
      stay = λ v head. up_to_more (λ (j : ℕ) (x : Atom). HasAtoms truth c.args.table.now c.args.self.now.grounds.now v k.body j → HasAtom truth c.args.table.now (if same_rank c.args.self.now.ranks.now x.pred.0 k.head.pred.0 then c.args.self.now.pre.now else c.args.self.now.allowed.now) v x) k.body n b at
          (λ j x lt f before. i.stay v head j x lt f before)
          (λ before. (atom_later old c.without_ended.new.table kept sets k.vars b chosen truth v).0
          (c.in_ok-stays.ensures.stays.0 c.if-not-stays.false v (says.all v (head, before))));
    }

pub returns-clause-stay : goal.returns-clause-stay
returns-clause-stay g c = (
  λ t v head j b at before.
      let lt = place_below c.args.self.now.clause.now.body j b at in
      c.loop-place.invariant.stay v head j b (omega (arith, lt, c.loop-place-test.false, ap length c.as_slice-atom-items.ensures)) at before,
  λ all. refl,
)
