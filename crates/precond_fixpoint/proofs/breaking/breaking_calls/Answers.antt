use Rattle.std.proofs.Common.{◌≡◌, ◌≤◌, ◌+◌, ◌&&◌, ◌||◌, ℕ, Bool, IsTrue, List, length, slice_get, Some, if◌then◌else◌, sym, ap, ◌∙◌, arith}
use Rattle.bool_diagrams.specs.Rows.{holds}
use Rattle.bool_diagrams.proofs.CallerLemmas.{holds_later, keeps_twice, known_later}
use Rattle.cti_terms.specs.declared.atom_list.Atom.{Atom}
use Rattle.termination_model.specs.grounds.Grounds.{truth_row}
use Rattle.truth_rows.specs.Ends.{Agree}
use Rattle.truth_rows.specs.Ready.{HasAtom, HasAtoms}
use Rattle.truth_rows.specs.Rules.{same_rank}
use Rattle.truth_rows.proofs.AtomLaws.{atom_later, atom_same, atoms_more, chosen_ready, ready_later}
use Rattle.truth_rows.proofs.EndLaws.{row_told, says_both, says_either, says_itself, says_later, says_onward, says_same, says_where}
use Rattle.termination_model.proofs.Lists.{at_place, place_below}
use Rattle.precond_fixpoint.specs.Breaking.{Breaks, BreaksBelow}
use Rattle.precond_fixpoint.proofs.BreakingLaws.{all_breaks, breaks_all, breaks_beside}
use Rattle.precond_fixpoint.proofs.breaking.breaking_calls.Goals as goal

pub loop-place-init : goal.loop-place-init
loop-place-init g c = record {
  keeps = c.reached_head.ensures.keeps;
  known = c.in_ok-reached.ensures.known;
  kept = known_later c.args.table.now c.reached_head.new.table c.truth-broken.result c.reached_head.ensures.keeps c.truth-broken.ensures.known;
  within = omega arith;
  reached = says_itself _ _ _ _ (λ v. (λ t. let h = (c.in_ok-reached.ensures.rows v).0 t in (h.1, λ j b lt e. absurd (omega arith), h.0), λ h. (c.in_ok-reached.ensures.rows v).1 (h.2, h.0)));
  broken = says_itself _ _ _ _ (λ v.
      let none = holds_later c.args.table.now c.reached_head.new.table c.truth-broken.result c.reached_head.ensures.keeps c.truth-broken.ensures.known v ∙ c.truth-broken.ensures.rows v in
      (λ t. absurd (cc), λ h. absurd (omega (arith, h.0.1.1))));
}

pub leaving_rows-requires-clause-pre : goal.leaving_rows-requires-clause-pre
leaving_rows-requires-clause-pre g c =
    let n = c.loop-place.place in
    let b = c.atom-item.result in
    let at : slice_get c.args.rule.now.clause.now.body n ≡ Some b = ap (λ (bs : List Atom). slice_get bs n) (sym c.as_slice-atom-items.ensures) ∙ at_place c.as_slice-atom-items.result.now n b c.loop-place-test.true c.atom-item.is in
    ready_later c.args.table.now c.without_ended-in-loop-place.new.table (keeps_twice _ _ _ c.loop-place.invariant.keeps (keeps_twice _ _ _ c.without_ended.ensures.keeps c.without_ended-in-loop-place.ensures.keeps)) c.args.rule.now.pre.now c.args.rule.now.clause.now.vars b (c.requires.ready.pre_ready.body n b at)

pub leaving_rows-requires-clause-allowed : goal.leaving_rows-requires-clause-allowed
leaving_rows-requires-clause-allowed g c =
    let n = c.loop-place.place in
    let b = c.atom-item.result in
    let at : slice_get c.args.rule.now.clause.now.body n ≡ Some b = ap (λ (bs : List Atom). slice_get bs n) (sym c.as_slice-atom-items.ensures) ∙ at_place c.as_slice-atom-items.result.now n b c.loop-place-test.true c.atom-item.is in
    ready_later c.args.table.now c.without_ended-in-loop-place.new.table (keeps_twice _ _ _ c.loop-place.invariant.keeps (keeps_twice _ _ _ c.without_ended.ensures.keeps c.without_ended-in-loop-place.ensures.keeps)) c.args.rule.now.allowed.now c.args.rule.now.clause.now.vars b (c.requires.ready.allowed_ready.body n b at)

pub atom_rows-requires-clause-ready : goal.atom_rows-requires-clause-ready
atom_rows-requires-clause-ready g c =
    let n = c.loop-place.place in
    let b = c.atom-item.result in
    let at : slice_get c.args.rule.now.clause.now.body n ≡ Some b = ap (λ (bs : List Atom). slice_get bs n) (sym c.as_slice-atom-items.ensures) ∙ at_place c.as_slice-atom-items.result.now n b c.loop-place-test.true c.atom-item.is in
    let ended = keeps_twice _ _ _ c.without_ended.ensures.keeps c.without_ended-in-loop-place.ensures.keeps in
    ready_later c.args.table.now c.or.new.self (keeps_twice _ _ _ c.loop-place.invariant.keeps (keeps_twice _ _ _ ended (keeps_twice _ _ _ c.leaving_rows.ensures.keeps c.or.ensures.keeps))) c.args.rule.now.grounds.now c.args.rule.now.clause.now.vars b (c.requires.ready.grounds_ready.body n b at)

pub loop-place-preserved : goal.loop-place-preserved
loop-place-preserved g c =
    let n = c.loop-place.place in
    let b = c.atom-item.result in
    let k = c.args.rule.now.clause.now in
    let i = c.loop-place.invariant in
    let truth = g.N.Norm.truth c.args.norm.now in
    let old = c.args.table.now in
    let ranks = c.args.rule.now.ranks.now in
    let grounds = c.args.rule.now.grounds.now in
    let pre = c.args.rule.now.pre.now in
    let allowed = c.args.rule.now.allowed.now in
    let ends = c.args.ends.now in
    let placed : (ℕ → Bool) → Type 0 = λ v. IsTrue (holds old c.args.placed v) in
    let T0 = c.loop-place.table in
    let T1 = c.without_ended.new.table in
    let T2 = c.without_ended-in-loop-place.new.table in
    let T3 = c.leaving_rows.new.table in
    let T4 = c.or.new.self in
    let T5 = c.atom_rows.new.table in
    let K1 = c.without_ended.ensures.keeps in
    let K2 = c.without_ended-in-loop-place.ensures.keeps in
    let K3 = c.leaving_rows.ensures.keeps in
    let K4 = c.or.ensures.keeps in
    let K5 = c.atom_rows.ensures.keeps in
    let K6 = c.and.ensures.keeps in
    let reached1 = c.in_ok-reached-2.reached in
    let broken1 = c.in_ok-broken.broken in
    let leaving = c.in_ok-leaving.leaving in
    let broken2 = c.in_ok-broken-2.broken in
    let holding = c.in_ok-holding.holding in
    let reached2 = c.in_ok-reached-3.reached in
    let at : slice_get k.body n ≡ Some b = ap (λ (bs : List Atom). slice_get bs n) (sym c.as_slice-atom-items.ensures) ∙ at_place c.as_slice-atom-items.result.now n b c.loop-place-test.true c.atom-item.is in
    let own = same_rank ranks b.pred.0 k.head.pred.0 in
    let sets = if own then pre else allowed in
    let chosen = chosen_ready old pre allowed k.vars b own (c.requires.ready.pre_ready.body n b at) (c.requires.ready.allowed_ready.body n b at) in
    let to2 = keeps_twice _ _ _ i.keeps (keeps_twice _ _ _ K1 K2) in
    let to4 = keeps_twice _ _ _ to2 (keeps_twice _ _ _ K3 K4) in
    let told = c.requires.told n b at in
    let alike : (v w : ℕ → Bool) → Agree ends n v w → truth_row truth v b ≡ truth_row truth w b = λ v w agree. row_told truth ends n b.args told v w agree in
    let says1 = says_later ends n n (λ (v : ℕ → Bool). HasAtom truth old pre v k.head × HasAtoms truth old grounds v k.body n × placed v) (holds T0 c.loop-place.reached) (holds T1 reached1) (omega arith) i.reached c.in_ok-reached-2.ensures.rows in
    let kept0 = holds_later T0 T1 c.loop-place.broken K1 i.kept in
    let ended = says_same ends n (λ (v : ℕ → Bool). IsTrue (holds T1 c.loop-place.broken v)) (λ (v : ℕ → Bool). IsTrue (holds T0 c.loop-place.broken v)) (holds T2 broken1)
    (λ v. (λ t. sym (kept0 v) ∙ t, λ t. kept0 v ∙ t)) c.in_ok-broken.ensures.rows in
    let says2 = says_later ends n n (λ (v : ℕ → Bool). BreaksBelow truth old ranks grounds pre allowed k n v × placed v) (holds T0 c.loop-place.broken) (holds T2 broken1) (omega arith) i.broken ended in
    let wanted = atom_later old T2 to2 sets k.vars b chosen truth in
    let held = atom_later old T4 to4 grounds k.vars b (c.requires.ready.grounds_ready.body n b at) truth in
    let reach2 = holds_later T1 T2 reached1 K2 c.in_ok-reached-2.ensures.known in
    let reach5 = holds_later T1 T5 reached1 (keeps_twice _ _ _ K2 (keeps_twice _ _ _ K3 (keeps_twice _ _ _ K4 K5))) c.in_ok-reached-2.ensures.known in
    let kept3 = holds_later T2 T3 broken1 K3 c.in_ok-broken.ensures.known in
    let kept6 = holds_later T4 c.and.new.self broken2 (keeps_twice _ _ _ K5 K6) c.in_ok-broken-2.ensures.known in
    let left = says_where ends n (λ (v : ℕ → Bool). HasAtom truth old pre v k.head × HasAtoms truth old grounds v k.body n × placed v) (λ (v : ℕ → Bool). HasAtom truth old sets v b → ⊥) (holds T1 reached1) (holds T3 leaving) says1
    (λ v. (
      λ t. let l = (c.in_ok-leaving.ensures.rows v).0 t in (sym (reach2 v) ∙ l.0, λ has. l.1 ((wanted v).1 has)),
      λ h. (c.in_ok-leaving.ensures.rows v).1 (reach2 v ∙ h.0, λ has. h.1 ((wanted v).0 has)),
    ))
    (λ v w agree off has. off (atom_same truth old sets b w v (sym (alike v w agree)) has)) in
    let either = says_either ends n (λ (v : ℕ → Bool). BreaksBelow truth old ranks grounds pre allowed k n v × placed v) _ (holds T2 broken1) (holds T3 leaving) (holds c.and.new.self broken2) says2 left
    (λ v. kept6 v ∙ c.in_ok-broken-2.ensures.rows v ∙ ap (λ x. x || holds T3 leaving v) (kept3 v)) in
    let joined = says_both ends n (λ (v : ℕ → Bool). HasAtom truth old pre v k.head × HasAtoms truth old grounds v k.body n × placed v) (λ (v : ℕ → Bool). HasAtom truth old grounds v b)
    (holds T1 reached1) (holds T5 holding) (holds c.and.new.self reached2) says1
    (λ v. (λ t. (held v).0 ((c.in_ok-holding.ensures.rows v).0 t), λ h. (c.in_ok-holding.ensures.rows v).1 ((held v).1 h)))
    (λ v w agree. atom_same truth old grounds b v w (alike v w agree))
    (λ v. c.in_ok-reached-3.ensures.rows v ∙ ap (λ x. x && holds T5 holding v) (reach5 v)) in
    record {
      keeps = keeps_twice _ _ _ to4 (keeps_twice _ _ _ K5 K6);
      known = c.in_ok-reached-3.ensures.known;
      within = omega (arith, place_below k.body n b at);
      kept = known_later T4 c.and.new.self broken2 (keeps_twice _ _ _ K5 K6) c.in_ok-broken-2.ensures.known;
      reached = says_onward ends n (n + 1) (λ (v : ℕ → Bool). HasAtom truth old pre v k.head × HasAtoms truth old grounds v k.body (n + 1) × placed v) (holds c.and.new.self reached2) (omega arith)
          (says_same ends n _ (λ (v : ℕ → Bool). HasAtom truth old pre v k.head × HasAtoms truth old grounds v k.body (n + 1) × placed v) (holds c.and.new.self reached2)
          (λ v. (
            λ h. (h.0.0, (atoms_more truth old grounds v k.body n b at).0 (h.0.1, h.1), h.0.2),
            λ h. let m = (atoms_more truth old grounds v k.body n b at).1 h.1 in ((h.0, m.0, h.2), m.1),
          ))
          joined);
      broken = says_onward ends n (n + 1) (λ (v : ℕ → Bool). BreaksBelow truth old ranks grounds pre allowed k (n + 1) v × placed v) (holds c.and.new.self broken2) (omega arith)
          (says_same ends n _ (λ (v : ℕ → Bool). BreaksBelow truth old ranks grounds pre allowed k (n + 1) v × placed v) (holds c.and.new.self broken2)
          (λ v. breaks_beside truth old ranks grounds pre allowed k v (placed v) n b at)
          either);
    }

pub returns-clause-says : goal.returns-clause-says
returns-clause-says g c =
    let truth = g.N.Norm.truth c.args.norm.now in
    let old = c.args.table.now in
    let ranks = c.args.rule.now.ranks.now in
    let grounds = c.args.rule.now.grounds.now in
    let pre = c.args.rule.now.pre.now in
    let allowed = c.args.rule.now.allowed.now in
    let k = c.args.rule.now.clause.now in
    let n = c.loop-place.place in
    let i = c.loop-place.invariant in
    let past : length k.body ≤ n = omega (arith, c.loop-place-test.false, ap length c.as_slice-atom-items.ensures) in
    says_onward c.args.ends.now n (length k.body) (λ (v : ℕ → Bool). Breaks truth old ranks grounds pre allowed k v × IsTrue (holds old c.args.placed v)) (holds c.loop-place.table c.loop-place.broken) i.within
    (says_same c.args.ends.now n _ (λ (v : ℕ → Bool). Breaks truth old ranks grounds pre allowed k v × IsTrue (holds old c.args.placed v)) (holds c.loop-place.table c.loop-place.broken)
    (λ v. (
      λ h. (all_breaks truth old ranks grounds pre allowed k v n past h.0, h.1),
      λ h. (breaks_all truth old ranks grounds pre allowed k v n past h.0, h.1),
    ))
    i.broken)
