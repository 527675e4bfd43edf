use Rattle.std.proofs.Common.{IfSome, List, ℕ, length, sym, subst}
use Rattle.linear_rows.specs.Step.{columns}
use Rattle.level_dual.specs.Components.{ForComponent}
use Rattle.level_dual.specs.Needed.{AreNeeded}
use Rattle.level_dual.specs.Walked.{IsAllWalked}
use Rattle.level_dual.proofs.walking.walk.Goals as goal

pub returns-in-Some : goal.returns-in-Some
returns-in-Some c = λ size truth expression comps rows r h.
    let p = c.args.p.now in
    let x = c.args.component.now in
    let all = columns 1 (length x.positions.items) in
    let needed = subst (λ (ns : List ℕ). AreNeeded expression p comps rows r ns c.in_ok-needed.needed.items) c.requires.full (c.in_ok-needed.ensures size truth expression comps rows r h) in
    subst (λ o. IfSome o (λ walked. ForComponent p x (λ e cs ws d. AreNeeded e p cs ws d all c.as_slice.result.now → IsAllWalked e p cs ws d walked)))
    c.in-Some.is c.in_ok-walked.ensures size truth expression comps rows r h (subst (AreNeeded expression p comps rows r all) (sym c.as_slice.ensures.value) needed)

pub returns : goal.returns
returns c = λ size truth expression comps rows r h.
    let p = c.args.p.now in
    let x = c.args.component.now in
    let all = columns 1 (length x.positions.items) in
    let needed = subst (λ (ns : List ℕ). AreNeeded expression p comps rows r ns c.in_ok-needed.needed.items) c.requires.full (c.in_ok-needed.ensures size truth expression comps rows r h) in
    c.in_ok-walked-2.ensures size truth expression comps rows r h (subst (AreNeeded expression p comps rows r all) (sym c.as_slice-2.ensures.value) needed)
