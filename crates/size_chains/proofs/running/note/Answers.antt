use Rattle.std.proofs.Common.{◌≡◌, ◌≤◌, ◌∙◌, ℕ, ◌-◌, ℤ, List, [], ◌∷◌, slice_get, length, Some, sym, subst, ap}
use Rattle.std.specs.List.{AllByRecursion}
use Rattle.std.specs.Prelude.{IfSome}
use Rattle.cti_terms.specs.declared.atom_list.Atom.{Atom}
use Rattle.cti_terms.specs.declared.clauses.Clause.{Clause}
use Rattle.termination_model.specs.sizes.Sizes.{rows_of}
use Rattle.termination_model.proofs.Lists.{one_element}
use Rattle.size_chains.specs.declared.filled.Filled.{Filled}
use Rattle.size_chains.specs.declared.filled.Filled.TheVariants.{Inhabited}
use Rattle.size_chains.specs.Noting.{HasRowsOf, IsNoted}
use Rattle.size_chains.specs.Repeating.{HaveStayed}
use Rattle.size_chains.proofs.running.note.Goals as goal

same_rows : (changes : List ℕ) (place : ℕ) (old now : ℕ → List (List ℤ)) → ((q n : ℕ) → slice_get changes q ≡ Some n → n ≤ place → old q ≡ now q) → (bs : List Atom) → HaveStayed changes place bs → AllByRecursion (λ (a : Atom). old a.pred.0 ≡ now a.pred.0) bs
same_rows changes place old now f [] h = tt
same_rows changes place old now f (b ∷ bs) h = (f b.pred.0 h.0.0 h.0.1 h.0.2, same_rows changes place old now f bs h.1)

pub note_again-requires-clause-earlier : goal.note_again-requires-clause-earlier
note_again-requires-clause-earlier g c = λ k' at.
    let s = c.args.state.now in
    let k = c.clause.result.now in
    let last = c.in-Some.ensures in
    let rows = rows_of s.sizes.rows in
    let here : slice_get c.args.p.now.clauses (c.args.k - 1) ≡ Some k' = ap (λ (n : ℕ). slice_get c.args.p.now.clauses (n - 1)) (sym last.clause) ∙ at in
    let was = c.requires.legal last.place c.in-Some.earlier.now last.at k' at in
    let same : k ≡ k' = one_element c.args.p.now.clauses (c.args.k - 1) k k' c.clause.ensures.there here in
    record {
      head = subst (λ (f : Filled). HasRowsOf (length ((g.S.ClauseSystems.systems c.args.systems.now).heads k')) rows k' f (g.D.Domain.width c.args.value.now.of) (g.D.Domain.listed c.args.value.now.of)) c.in-Inhabited.is (c.requires.old k' here);
      was_legal = was.0;
      same = same_rows s.latest.changes.items last.place was.0.rows rows was.1 k'.body (subst (λ (x : Clause). HaveStayed s.latest.changes.items last.place x.body) same (subst (HaveStayed s.latest.changes.items last.place) c.as_slice.ensures last.stayed));
    }

pub returns-in-Some-2 : goal.returns-in-Some-2
returns-in-Some-2 g c = λ k' at.
    let last = c.in-Some.ensures in
    let there : slice_get c.args.p.now.clauses (c.in-Some.earlier.now.clause - 1) ≡ Some k' = ap (λ (n : ℕ). slice_get c.args.p.now.clauses (n - 1)) last.clause ∙ at in
    let rows = rows_of c.args.state.now.sizes.rows in
    let e = g.S.ClauseSystems.systems c.args.systems.now in
    let noted : (pass : ℕ) (x : Clause) → slice_get c.args.p.now.clauses (c.in-Some.earlier.now.clause - 1) ≡ Some x → IsNoted g.D.Domain.width g.D.Domain.listed g.D.Domain.speaks e pass rows x c.in-Some.earlier.now.clause Inhabited c.in-Some-2.noted =
    subst (λ o. IfSome o (λ noted. (pass : ℕ) (x : Clause) → slice_get c.args.p.now.clauses (c.in-Some.earlier.now.clause - 1) ≡ Some x → IsNoted g.D.Domain.width g.D.Domain.listed g.D.Domain.speaks e pass rows x c.in-Some.earlier.now.clause Inhabited noted)) c.in-Some-2.is c.in_ok-noted.ensures in
    subst (λ (f : Filled). IsNoted g.D.Domain.width g.D.Domain.listed g.D.Domain.speaks e c.args.pass rows k' c.args.k f c.in-Some-2.noted) (sym c.in-Inhabited.is)
    (subst (λ (n : ℕ). IsNoted g.D.Domain.width g.D.Domain.listed g.D.Domain.speaks e c.args.pass rows k' n Inhabited c.in-Some-2.noted) last.clause (noted c.args.pass k' there))
