use Rattle.std.proofs.Common.{◌≡◌, ◌+◌, ◌-◌, ◌<◌, inl, inr, ℕ, Bool, true, false, List, Contains, length, refl, slice_get, Some, ap, sym, subst, ◌∙◌, arith, eq-eqb, eqb-true}
use Rattle.std.proofs.lemmas.Bool.{cases_eq}
use Rattle.std.proofs.lemmas.List.{length-set}
use Rattle.cti_terms.specs.declared.clauses.Clause.{Clause}
use Rattle.truth_rows.specs.Sets.{family_of}
use Rattle.truth_rows.proofs.ListLaws.{set_elsewhere}
use Rattle.termination_model.proofs.Lists.{place_below}
use Rattle.groundness.specs.Marks.{HasUser, IsApart, IsMarked, marks_left}
use Rattle.bool_diagrams.specs.declared.diagram.Diagram.{Diagram}
use Rattle.termination_model.specs.chains.Chain.{is_number, is_member}
use Rattle.groundness.specs.Missing.{all_missing}
use Rattle.groundness.proofs.MarkLaws.{left_taken, less_marks, less_work}
use Rattle.groundness.proofs.RoundLaws.{closed_later, kept_later, missing_same, still_closed}
use Rattle.groundness.proofs.solving.add_next.Goals as goal

pub returns-then-not-grew-clause-closed : goal.returns-then-not-grew-clause-closed
returns-then-not-grew-clause-closed g c =
    let p = c.args.setting.now.program.now in
    let k = c.in-Some.k in
    let marks = c.args.marks.now in
    let truth = g.N.Norm.truth c.args.setting.now.norm.now in
    let a = c.in_ok-grew.ensures in
    let none = c.if-not-grew.true in
    λ j x at member off. elim (cases_eq j k) [
      | inl same ↦ a.closed x (ap (slice_get p.clauses) (omega arith) ∙ at) (λ grew. absurd (cc))
      | inr other ↦
          closed_later p.preds c.args.table.now c.add_rows.new.table c.add_rows.ensures.keeps c.args.sets.now c.requires.sets.known truth c.add_rows.new.sets (a.same none) x
          (c.requires.closed j x at member (λ m. off (subst (λ (ms : List Bool). IsMarked ms j) (sym c.in-Some.ensures.taken.0) (set_elsewhere marks k j false other ∙ m))))
    ]

pub returns-then-not-grew-clause-less : goal.returns-then-not-grew-clause-less
returns-then-not-grew-clause-less g c = λ _.
    let p = c.args.setting.now.program.now in
    let k = c.in-Some.k in
    let marks = c.args.marks.now in
    let t = c.in-Some.ensures.taken in
    less_marks (all_missing p.preds c.add_rows.new.table c.add_rows.new.sets) (all_missing p.preds c.args.table.now c.args.sets.now) c.take.new.self marks
    (missing_same p.preds c.args.table.now c.add_rows.new.table c.add_rows.ensures.keeps c.args.sets.now c.requires.sets.known c.add_rows.new.sets (c.in_ok-grew.ensures.same c.if-not-grew.true))
    (ap length t.0 ∙ length-set marks k false)
    (subst (λ (ms : List Bool). marks_left ms < marks_left marks) (sym t.0) (left_taken marks k t.1))

pub clause-requires-clause-last : goal.clause-requires-clause-last
clause-requires-clause-last g c = omega (arith, place_below c.args.marks.now c.in-Some.k _ c.in-Some.ensures.taken.1, c.requires.marks)

pub mark_all-requires : goal.mark_all-requires
mark_all-requires g c = λ j h.
    let q = c.clause.result.now.head.pred.0 in
    let long = ap length c.in-Some.ensures.taken.0 ∙ length-set c.args.marks.now c.in-Some.k false in
    omega (arith, c.requires.setting.users.within q j (subst (λ (xs : List ℕ). Contains xs j) c.of-2.ensures h), c.requires.marks, long)

pub returns-clause-closed : goal.returns-clause-closed
returns-clause-closed g c =
    let p = c.args.setting.now.program.now in
    let k = c.in-Some.k in
    let marks = c.args.marks.now in
    let truth = g.N.Norm.truth c.args.setting.now.norm.now in
    let a = c.in_ok-grew.ensures in
    let clause = c.clause.result.now in
    let there = c.clause.ensures.there in
    λ j x at member off.
    let apart : IsApart x clause.head.pred.0 = λ i b e same.
    off (c.in_ok-mark_all.ensures.marked j (subst (λ (xs : List ℕ). Contains xs j) (sym c.of-2.ensures) (subst (λ q. HasUser c.args.setting.now.users.now q j) same (c.requires.setting.users.all j x i b at e)))) in
    elim (cases_eq j k) [
      | inl same ↦
          let at' : slice_get p.clauses (k + 1 - 1) ≡ Some x = ap (slice_get p.clauses) (omega arith) ∙ at in
          let is : clause ≡ x = cc in
          a.closed x at' (λ grew. subst (λ (y : Clause). IsApart x y.head.pred.0) is apart)
      | inr other ↦
          still_closed truth (family_of p.preds c.args.table.now c.args.sets.now) (family_of p.preds c.add_rows.new.table c.add_rows.new.sets) clause.head.pred.0 a.inside
          (λ r ne. kept_later p.preds c.args.table.now c.add_rows.new.table c.add_rows.ensures.keeps c.args.sets.now c.requires.sets.known c.add_rows.new.sets r (a.others clause there r ne)) x apart
          (c.requires.closed j x at member (λ m. off (c.mark_all.ensures.more j (subst (λ (ms : List Bool). IsMarked ms j) (sym c.in-Some.ensures.taken.0) (set_elsewhere marks k j false other ∙ m)))))
    ]

pub returns-clause-less : goal.returns-clause-less
returns-clause-less g c = λ _.
    let p = c.args.setting.now.program.now in
    let marks = c.args.marks.now in
    less_work (all_missing p.preds c.add_rows.new.table c.add_rows.new.sets) (all_missing p.preds c.args.table.now c.args.sets.now) c.mark_all.new.self marks
    (c.in_ok-grew.ensures.less c.if-not-grew.false)
    (c.mark_all.ensures.each ∙ ap length c.in-Some.ensures.taken.0 ∙ length-set marks c.in-Some.k false)

pub add_rows-requires-clause-last : goal.add_rows-requires-clause-last
add_rows-requires-clause-last g c = omega (arith, place_below c.args.marks.now c.in-Some.k _ c.in-Some.ensures.taken.1, c.requires.marks)

pub returns-then-of-c-clause-less : goal.returns-then-of-c-clause-less
returns-then-of-c-clause-less g c = λ _.
    let p = c.args.setting.now.program.now in
    let k = c.in-Some.k in
    let marks = c.args.marks.now in
    let t = c.in-Some.ensures.taken in
    less_marks (all_missing p.preds c.args.table.now c.args.sets.now) (all_missing p.preds c.args.table.now c.args.sets.now) c.take.new.self marks refl
    (ap length t.0 ∙ length-set marks k false)
    (subst (λ (ms : List Bool). marks_left ms < marks_left marks) (sym t.0) (left_taken marks k t.1))

pub returns-then-of-c-clause-closed : goal.returns-then-of-c-clause-closed
returns-then-of-c-clause-closed g c =
    let p = c.args.setting.now.program.now in
    let k = c.in-Some.k in
    let marks = c.args.marks.now in
    let clause = c.clause.result.now in
    let there = c.clause.ensures.there in
    λ j x at member off. elim (cases_eq j k) [
      | inl same ↦
          let at' : slice_get p.clauses (k + 1 - 1) ≡ Some x = ap (slice_get p.clauses) (omega arith) ∙ at in
          let is : clause ≡ x = cc in
          let number : is_member c.args.setting.now.comps.now c.args.c clause.head.pred.0 ≡ true = ap (λ (y : Clause). is_member c.args.setting.now.comps.now c.args.c y.head.pred.0) is ∙ member in
          absurd (c.if-of-c.true (eqb-true c.of.result c.args.c (sym (ap (is_number c.args.c) c.of.ensures) ∙ number)))
      | inr other ↦ c.requires.closed j x at member (λ m. off (subst (λ (ms : List Bool). IsMarked ms j) (sym c.in-Some.ensures.taken.0) (set_elsewhere marks k j false other ∙ m)))
    ]

pub returns-then-not-grew-clause-others : goal.returns-then-not-grew-clause-others
returns-then-not-grew-clause-others g c = λ r off. ap (λ (xs : List Diagram). slice_get xs r) (c.in_ok-grew.ensures.same c.if-not-grew.true)

pub returns-then-not-grew-clause-needed : goal.returns-then-not-grew-clause-needed
returns-then-not-grew-clause-needed g c = λ other closed inside.
    let k = c.in-Some.k in
    let clause = c.clause.result.now in
    let there = c.clause.ensures.there in
    let at : slice_get c.args.setting.now.program.now.clauses k ≡ Some clause = ap (slice_get c.args.setting.now.program.now.clauses) (omega arith) ∙ there in
    let member : is_member c.args.setting.now.comps.now c.args.c clause.head.pred.0 ≡ true = ap (is_number c.args.c) c.of.ensures ∙ eq-eqb c.of.result c.args.c c.if-of-c.false in
    c.in_ok-grew.ensures.needed clause there other (closed.clauses k clause at member) inside

pub returns-clause-others : goal.returns-clause-others
returns-clause-others g c = λ r off.
    let clause = c.clause.result.now in
    let member : is_member c.args.setting.now.comps.now c.args.c clause.head.pred.0 ≡ true = ap (is_number c.args.c) c.of.ensures ∙ eq-eqb c.of.result c.args.c c.if-of-c.false in
    c.in_ok-grew.ensures.others clause c.clause.ensures.there r (λ same. let on_ : is_member c.args.setting.now.comps.now c.args.c r ≡ true = ap (is_member c.args.setting.now.comps.now c.args.c) same ∙ member in absurd (cc))

pub returns-clause-needed : goal.returns-clause-needed
returns-clause-needed g c = λ other closed inside.
    let k = c.in-Some.k in
    let clause = c.clause.result.now in
    let there = c.clause.ensures.there in
    let at : slice_get c.args.setting.now.program.now.clauses k ≡ Some clause = ap (slice_get c.args.setting.now.program.now.clauses) (omega arith) ∙ there in
    let member : is_member c.args.setting.now.comps.now c.args.c clause.head.pred.0 ≡ true = ap (is_number c.args.c) c.of.ensures ∙ eq-eqb c.of.result c.args.c c.if-of-c.false in
    c.in_ok-grew.ensures.needed clause there other (closed.clauses k clause at member) inside
