use Rattle.std.proofs.Common.{ℕ, ◌+◌, ◌↔◌, IsTrue, List, refl, subst}
use Rattle.cti_terms.specs.declared.atom_list.Atom.{Atom}
use Rattle.cti_terms.specs.declared.derivation.Goal.{Goal}
use Rattle.cti_terms.specs.Lifts.{IsMoreGeneral}
use Rattle.loop_finder.specs.Loop.{FirstIs}
use Rattle.loop_finder.proofs.PathLaws.{AllHave, cycle_decided, rest_all}
use Rattle.loop_finder.proofs.path.is_cycle.Goals as goal

pub returns : goal.returns
returns c =
    let gs = c.args.goals.now in
    let i = c.args.start in
    let r = c.in_ok-comes_back.comes_back in
    let back = subst (λ (x : List Atom × List Atom). IsTrue r ↔ FirstIs (λ a. FirstIs (λ b. IsMoreGeneral b a) x.0) x.1) (λ i. (c.as_slice.ensures i, c.as_slice-2.ensures i)) c.in_ok-comes_back.ensures in
    let have = subst (λ (x : List Goal × ℕ). AllHave x.0 x.1) (λ j. (rest_all (i + 1) gs j, c.len.ensures j)) (c.if-not-all_have.ensures.0 refl) in
    cycle_decided gs i c.index-goals-start.result c.index-goals-goals.result r c.requires c.index-goals-start.is c.index-goals-goals.is have back
