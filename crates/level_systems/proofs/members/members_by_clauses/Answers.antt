use Rattle.std.proofs.Common.{◌≡◌, ◌-◌, ◌++◌, ◌∷◌, ◌==◌, ℕ, List, [], true, false, map, slice_index_or, refl, ap, sym, ◌∙◌, arith}
use Rattle.std.specs.List.{list_any}
use Rattle.call_components.specs.Numbers.{number_of}
use Rattle.component_clauses.proofs.OwnClauses.{next_own, own_at, take_past}
use Rattle.component_clauses.specs.Numbered.{with_clauses}
use Rattle.cti_terms.specs.declared.clauses.Clause.{Clause}
use Rattle.cti_terms.specs.declared.predicates.PredId.{PredId}
use Rattle.termination_model.proofs.ChainLeaves.{of_own}
use Rattle.termination_model.proofs.Lists.{map_push, one_element, there}
use Rattle.level_systems.proofs.MemberLists.{any_mapped, push_member, skip_listed}
use Rattle.level_systems.proofs.OwnPairs.{members_are_own, members_in, members_next}
use Rattle.level_systems.proofs.PairLists.{is_own}
use Rattle.level_systems.proofs.members.members_by_clauses.Goals as goal

pub loop-k-preserved-then-is_listed : goal.loop-k-preserved-then-is_listed
loop-k-preserved-then-is_listed c =
    let own = c.args.own.now in
    let clauses = own.program.now.clauses in
    let j = c.loop-k.k-index in
    let next = next_own clauses own.clauses.now j c.loop-k-test.true c.requires.within in
    let k = slice_index_or own.clauses.now j 0 in
    let x : Clause = c.clause.result.now in
    let q = x.head.pred.0 in
    let ms = map number_of c.loop-k.members.items in
    let same : x ≡ next.clause = one_element clauses (k - 1) x next.clause c.clause.ensures.there next.at in
    let listed : list_any (λ m. m == q) ms ≡ true =
    any_mapped (λ m. m == q) number_of c.loop-k.members.items ∙ sym (ap (λ (ps : List PredId). list_any (λ (r : PredId). r.0 == q) ps) c.as_slice.ensures.value) ∙ sym c.is_listed.ensures ∙ c.if-is_listed.true in
    members_next own.comps.now own.number clauses own.clauses.now j next ms ms x same c.loop-k.invariant (skip_listed own.comps.now own.number ms q listed)

pub loop-k-preserved : goal.loop-k-preserved
loop-k-preserved c =
    let own = c.args.own.now in
    let p = own.program.now in
    let j = c.loop-k.k-index in
    let next = next_own p.clauses own.clauses.now j c.loop-k-test.true c.requires.within in
    let k = slice_index_or own.clauses.now j 0 in
    let x : Clause = c.clause.result.now in
    let q = x.head.pred.0 in
    let ms = map number_of c.loop-k.members.items in
    let same : x ≡ next.clause = one_element p.clauses (k - 1) x next.clause c.clause.ensures.there next.at in
    let fresh : list_any (λ m. m == q) ms ≡ false =
    any_mapped (λ m. m == q) number_of c.loop-k.members.items ∙ sym (ap (λ (ps : List PredId). list_any (λ (r : PredId). r.0 == q) ps) c.as_slice.ensures.value) ∙ sym c.is_listed.ensures ∙ c.if-is_listed.false in
    let inside = (of_own p own.comps.now c.preds.ensures.sound c.requires.components own.number (k, x) (own_at p own.comps.now own.number own.clauses.now c.requires.clauses_are j k x (there own.clauses.now j 0 c.loop-k-test.true) c.clause.ensures.there)).1 in
    let pushed : map number_of c.push.new.self.items ≡ ms ++ q ∷ [] = ap (map number_of) c.in_ok-push.ensures.items ∙ map_push number_of c.loop-k.members.items x.head.pred in
    members_next own.comps.now own.number p.clauses own.clauses.now j next ms (map number_of c.push.new.self.items) x same c.loop-k.invariant
    (push_member own.comps.now own.number ms q (is_own own.comps.now own.number q own.number inside refl) fresh ∙ sym pushed)

pub returns : goal.returns
returns c =
    let own = c.args.own.now in
    let p = own.program.now in
    c.loop-k.invariant
    ∙ ap (λ (ks : List ℕ). members_in own.comps.now own.number [] (with_clauses p.clauses ks)) (take_past own.clauses.now c.loop-k.k-index (omega (arith, c.loop-k-test.false)))
    ∙ ap (members_in own.comps.now own.number []) c.requires.clauses_are
    ∙ members_are_own own.comps.now own.number c.requires.inner p
