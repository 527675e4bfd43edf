use Rattle.std.proofs.Common.{◌≡◌, ◌∙◌, ap, arith, refl, slice_get, Some, subst, sym}
use Rattle.termination_model.proofs.Lists.{place_below, there}
use Rattle.solved_program.specs.Marks.{StandsMarked}
use Rattle.solved_program.proofs.Comparisons.{refuted}
use Rattle.solved_program.proofs.Stands.{first_standing, of_stands, one_first, stands_of}
use Rattle.solved_program.proofs.edit_clauses.EditClauses.standing.Goals as goal

pub component_before-requires-clause-own : goal.component_before-requires-clause-own
component_before-requires-clause-own c =
    let s = c.args.self.now in
    let own = c.as_slice-own.result.now in
    let at : slice_get s.own.now c.args.c ≡ Some own = there s.own.now c.args.c c.index-self-c.result (omega (arith, c.requires.clauses.own.each, c.requires.inner)) ∙ ap Some (sym c.as_slice-own.ensures) in
    c.requires.clauses.own.within c.args.c own at

pub are_same_clauses-requires-clause-before : goal.are_same_clauses-requires-clause-before
are_same_clauses-requires-clause-before c =
    let s = c.args.self.now in
    let b = c.in_ok-before.before in
    let own = c.as_slice-own_before.result.now in
    let at : slice_get s.own_before.now b ≡ Some own = there s.own_before.now b c.index-self-before.result (omega (arith, c.requires.clauses.own_before.each, c.in_ok-before.ensures.below)) ∙ ap Some (sym c.as_slice-own_before.ensures) in
    c.requires.clauses.own_before.within b own at

pub are_same_clauses-requires-clause-after : goal.are_same_clauses-requires-clause-after
are_same_clauses-requires-clause-after c =
    let s = c.args.self.now in
    let own = c.as_slice-own.result.now in
    let at : slice_get s.own.now c.args.c ≡ Some own = there s.own.now c.args.c c.index-self-c.result (omega (arith, c.requires.clauses.own.each, c.requires.inner)) ∙ ap Some (sym c.as_slice-own.ensures) in
    c.requires.clauses.own.within c.args.c own at

pub returns-then-are_same_clauses-clause-stands : goal.returns-then-are_same_clauses-clause-stands
returns-then-are_same_clauses-clause-stands c =
    let s = c.args.self.now in
    let b = c.in_ok-before.before in
    let own = c.as_slice-own.result.now in
    let own_before = c.as_slice-own_before.result.now in
    let at : slice_get s.own.now c.args.c ≡ Some own = there s.own.now c.args.c c.index-self-c.result (omega (arith, c.requires.clauses.own.each, c.requires.inner)) ∙ ap Some (sym c.as_slice-own.ensures) in
    let at_before : slice_get s.own_before.now b ≡ Some own_before = there s.own_before.now b c.index-self-before.result (omega (arith, c.requires.clauses.own_before.each, c.in_ok-before.ensures.below)) ∙ ap Some (sym c.as_slice-own_before.ensures) in
    let first = c.in_ok-before.ensures.kept in
    stands_of s c.requires.clauses b c.args.c c.args.stayed.now own_before own at_before at (place_below own 0 first.number first.first) (c.are_same_clauses.ensures.0 c.if-are_same_clauses.true)

pub returns-else-are_same_clauses-clause-none : goal.returns-else-are_same_clauses-clause-none
returns-else-are_same_clauses-clause-none c = λ none d h.
    let s = c.args.self.now in
    let b = c.in_ok-before.before in
    let own = c.as_slice-own.result.now in
    let own_before = c.as_slice-own_before.result.now in
    let at : slice_get s.own.now c.args.c ≡ Some own = there s.own.now c.args.c c.index-self-c.result (omega (arith, c.requires.clauses.own.each, c.requires.inner)) ∙ ap Some (sym c.as_slice-own.ensures) in
    let at_before : slice_get s.own_before.now b ≡ Some own_before = there s.own_before.now b c.index-self-before.result (omega (arith, c.requires.clauses.own_before.each, c.in_ok-before.ensures.below)) ∙ ap Some (sym c.as_slice-own_before.ensures) in
    let same : d ≡ b = one_first s own d b (first_standing s c.requires.clauses c.clauses-program.ensures.sound d c.args.c c.args.stayed.now own at h) c.in_ok-before.ensures.kept in
    let here : StandsMarked s.edit.now c.args.stayed.now b c.args.c = subst (λ x. StandsMarked s.edit.now c.args.stayed.now x c.args.c) same h in
    refuted (c.are_same_clauses.ensures.1 (of_stands s c.requires.clauses b c.args.c c.args.stayed.now own_before own at_before at here)) c.if-are_same_clauses.false

pub returns-in_err-before-clause-none : goal.returns-in_err-before-clause-none
returns-in_err-before-clause-none c = λ none d h.
    let s = c.args.self.now in
    let own = c.as_slice-own.result.now in
    let at : slice_get s.own.now c.args.c ≡ Some own = there s.own.now c.args.c c.index-self-c.result (omega (arith, c.requires.clauses.own.each, c.requires.inner)) ∙ ap Some (sym c.as_slice-own.ensures) in
    c.in_err-before.ensures.lost refl d (first_standing s c.requires.clauses c.clauses-program.ensures.sound d c.args.c c.args.stayed.now own at h)
