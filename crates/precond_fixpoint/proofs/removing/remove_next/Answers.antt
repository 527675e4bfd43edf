use Rattle.std.proofs.Common.{◌≡◌, ◌+◌, ◌-◌, ◌<◌, inl, inr, ℕ, Bool, false, List, Contains, length, slice_get, Some, ap, sym, subst, ◌∙◌, arith}
use Rattle.std.proofs.lemmas.Bool.{cases_eq}
use Rattle.std.proofs.lemmas.List.{length-set}
use Rattle.cti_terms.specs.declared.clauses.Clause.{Clause}
use Rattle.truth_rows.specs.Sets.{family_of}
use Rattle.truth_rows.proofs.ListLaws.{set_elsewhere}
use Rattle.termination_model.proofs.Lists.{place_below}
use Rattle.groundness.specs.Marks.{HasUser, IsApart, IsMarked, marks_left}
use Rattle.groundness.proofs.MarkLaws.{left_taken, less_marks, less_work}
use Rattle.precond_fixpoint.specs.Removing.{all_present, is_ranked}
use Rattle.precond_fixpoint.proofs.RoundLaws.{keeps_later, present_same, still_keeps}
use Rattle.precond_fixpoint.proofs.removing.remove_next.Goals as goal

pub remove_member-requires-clause-last : goal.remove_member-requires-clause-last
remove_member-requires-clause-last g c = omega (arith, place_below c.args.marks.now c.in-Some.k _ c.in-Some.ensures.taken.1, c.requires.marks)

pub returns-then-not-shrank-clause-kept : goal.returns-then-not-shrank-clause-kept
returns-then-not-shrank-clause-kept g c =
    let p = c.args.setting.now.program.now in
    let k = c.in-Some.k in
    let marks = c.args.marks.now in
    let T = c.args.table.now in
    let a = c.in_ok-shrank.ensures in
    let none = c.if-not-shrank.true in
    λ j x at off member. elim (cases_eq j k) [
      | inl same ↦ a.rule x (ap (slice_get p.clauses) (omega arith) ∙ at) (λ shrank. absurd (cc)) member
      | inr other ↦
          keeps_later p.preds T c.remove_member.new.table c.remove_member.ensures.keeps c.args.sets.now c.requires.sets.known c.remove_member.new.sets (a.same none)
          (g.N.Norm.truth c.args.setting.now.norm.now) (family_of p.preds T c.args.component.now.allowed.now) (family_of p.preds T c.args.setting.now.grounds.now) (is_ranked c.args.setting.now.ranks.now c.args.component.now.rank) x
          (c.requires.kept j x at (λ m. off (subst (λ (ms : List Bool). IsMarked ms j) (sym c.in-Some.ensures.taken.0) (set_elsewhere marks k j false other ∙ m))) member)
    ]

pub returns-then-not-shrank-clause-less : goal.returns-then-not-shrank-clause-less
returns-then-not-shrank-clause-less g c = λ _.
    let p = c.args.setting.now.program.now in
    let k = c.in-Some.k in
    let marks = c.args.marks.now in
    let t = c.in-Some.ensures.taken in
    less_marks (all_present p.preds c.remove_member.new.table c.remove_member.new.sets) (all_present p.preds c.args.table.now c.args.sets.now) c.take.new.self marks
    (present_same p.preds c.args.table.now c.remove_member.new.table c.remove_member.ensures.keeps c.args.sets.now c.requires.sets.known c.remove_member.new.sets (c.in_ok-shrank.ensures.same c.if-not-shrank.true))
    (ap length t.0 ∙ length-set marks k false)
    (subst (λ (ms : List Bool). marks_left ms < marks_left marks) (sym t.0) (left_taken marks k t.1))

pub mark_all-requires : goal.mark_all-requires
mark_all-requires g c = λ j h.
    let q = c.clause.result.now.head.pred.0 in
    let long = ap length c.in-Some.ensures.taken.0 ∙ length-set c.args.marks.now c.in-Some.k false in
    omega (arith, c.requires.setting.users.within q j (subst (λ (xs : List ℕ). Contains xs j) c.of.ensures h), c.requires.marks, long)

pub returns-clause-kept : goal.returns-clause-kept
returns-clause-kept g c =
    let p = c.args.setting.now.program.now in
    let k = c.in-Some.k in
    let marks = c.args.marks.now in
    let T = c.args.table.now in
    let truth = g.N.Norm.truth c.args.setting.now.norm.now in
    let a = c.in_ok-shrank.ensures in
    let clause = c.clause.result.now in
    let there = c.clause.ensures.there in
    λ j x at off member.
    let apart : IsApart x clause.head.pred.0 = λ i b e same.
    off (c.in_ok-mark_all.ensures.marked j (subst (λ (xs : List ℕ). Contains xs j) (sym c.of.ensures) (subst (λ q. HasUser c.args.setting.now.users.now q j) same (c.requires.setting.users.all j x i b at e)))) in
    elim (cases_eq j k) [
      | inl same ↦
          let at' : slice_get p.clauses (k + 1 - 1) ≡ Some x = ap (slice_get p.clauses) (omega arith) ∙ at in
          let is : clause ≡ x = cc in
          a.rule x at' (λ shrank. subst (λ (y : Clause). IsApart x y.head.pred.0) is apart) member
      | inr other ↦
          still_keeps truth (family_of p.preds T c.args.sets.now) (family_of p.preds c.remove_member.new.table c.remove_member.new.sets) (family_of p.preds T c.args.component.now.allowed.now) (family_of p.preds T c.args.setting.now.grounds.now)
          clause.head.pred.0 a.inside (a.others clause there) (is_ranked c.args.setting.now.ranks.now c.args.component.now.rank) x apart
          (c.requires.kept j x at (λ m. off (c.mark_all.ensures.more j (subst (λ (ms : List Bool). IsMarked ms j) (sym c.in-Some.ensures.taken.0) (set_elsewhere marks k j false other ∙ m)))) member)
    ]

pub returns-clause-less : goal.returns-clause-less
returns-clause-less g c = λ _.
    let p = c.args.setting.now.program.now in
    let marks = c.args.marks.now in
    less_work (all_present p.preds c.remove_member.new.table c.remove_member.new.sets) (all_present p.preds c.args.table.now c.args.sets.now) c.mark_all.new.self marks
    (c.in_ok-shrank.ensures.less c.if-not-shrank.false)
    (c.mark_all.ensures.each ∙ ap length c.in-Some.ensures.taken.0 ∙ length-set marks c.in-Some.k false)
