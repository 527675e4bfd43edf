use Rattle.std.proofs.Common.{◌≡◌, ◌≤◌, ◌<◌, inl, inr, Contains, length, slice_get, slice_index_or, slice_set, Some, subst, sym, ◌∙◌, arith}
use Rattle.std.proofs.lemmas.Bool.{cases_eq}
use Rattle.std.proofs.lemmas.List.{length-set}
use Rattle.std.proofs.lemmas.List.Elements.{All-contains}
use Rattle.cti_terms.specs.Spell.{tree_of}
use Rattle.term_size.specs.Members.{members}
use Rattle.truth_rows.specs.Ends.{IsAsked}
use Rattle.truth_rows.proofs.EndLaws.{asked_set, asked_there, listed_told}
use Rattle.termination_model.proofs.Lists.{there}
use Rattle.truth_rows.proofs.ends.put_off.Goals as goal

pub loop-x-preserved-then-not-contains : goal.loop-x-preserved-then-not-contains
loop-x-preserved-then-not-contains g c =
    let i = c.loop-x.invariant in
    record {
      each = i.each;
      more = i.more;
      done = λ n y less lt has. elim (cases_eq y c.loop-x.x) [
        | inl same ↦
            let t = c.contains.ensures.1 (subst (Contains (members c.rigid_vars-listed.result)) same has) in
            let f = c.if-not-contains.true in
            absurd (cc)
        | inr other ↦ i.done n y less (omega arith) has
      ];
    }

pub loop-x-preserved : goal.loop-x-preserved
loop-x-preserved g c =
    let i = c.loop-x.invariant in
    let ends = c.loop-x.ends in
    let x = c.loop-x.x in
    let lt : x < length ends = omega (arith, c.loop-x-test.true, c.requires.few, c.requires.each, i.each) in
    let old = slice_index_or ends x 0 in
    let at : slice_get ends x ≡ Some old = there ends x 0 lt in
    let more : old ≤ c.max.result = omega (arith, c.max.ensures) in
    let far : c.args.end ≤ c.max.result = omega (arith, c.max.ensures) in
    record {
      each = length-set ends x c.max.result ∙ i.each;
      more = λ n y asked. asked_set ends x c.max.result old at more n y (i.more n y asked);
      done = λ n y less before has. elim (cases_eq y x) [
        | inl same ↦ subst (IsAsked (slice_set ends x c.max.result) n) (sym same) (asked_there ends x c.max.result lt n (omega arith))
        | inr other ↦ asked_set ends x c.max.result old at more n y (i.done n y less (omega arith) has)
      ];
    }

pub returns-clause-told : goal.returns-clause-told
returns-clause-told g c = λ n less.
    listed_told (g.N.Norm.truth c.args.norm.now) (tree_of c.args.t.now) (members c.rigid_vars-listed.result) c.loop-x.ends n c.rigid_vars-listed.ensures.lists
    (λ x has.
    let lt = All-contains (λ y. y < c.args.vars) (members c.rigid_vars-listed.result) x c.rigid_vars-listed.ensures.below has in
    c.loop-x.invariant.done n x less (omega (arith, c.loop-x-test.false)) has)
