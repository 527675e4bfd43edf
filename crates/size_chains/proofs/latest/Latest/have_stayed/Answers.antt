use Rattle.std.proofs.Common.{◌≡◌, ◌≤◌, ◌<◌, ◌+◌, ℕ, zero, suc, List, [], ◌∷◌, take, length, get_or, slice_get, Some, subst, sym, ap, ◌∙◌, arith}
use Rattle.std.specs.List.{AllByRecursion}
use Rattle.cti_terms.specs.declared.atom_list.Atom.{Atom}
use Rattle.termination_model.proofs.Lists.{there}
use Rattle.size_chains.proofs.latest.Latest.have_stayed.Goals as goal

-- one more
all_more : {X : Type 0} (P : X → Type 0) (xs : List X) (i : ℕ) (d x : X) → i < length xs → x ≡ get_or xs i d → AllByRecursion P (take i xs) → P x → AllByRecursion P (take (i + 1) xs)
all_more P [] i d x l at h p = absurd (omega arith)
all_more P (y ∷ xs) zero d x l at h p = (subst P at p, tt)
all_more P (y ∷ xs) (suc i) d x l at h p =
    let one : suc i + 1 ≡ suc (i + 1) = omega arith in
    subst (λ (n : ℕ). AllByRecursion P (take n (y ∷ xs))) (sym one) (h.0, all_more P xs i d x (omega arith) at h.1 p)

pub loop-atom-preserved : goal.loop-atom-preserved
loop-atom-preserved c =
    let lt : c.loop-atom.atom-index < length c.args.body.now = omega arith in
    let looked = c.in-Some.ensures.lookup.3 in
    let q = c.atom-item.result.pred.0 in
    let there_is : slice_get c.deref.result.now q ≡ Some c.in-Some.steps.now = there c.deref.result.now q c.in-Some.steps.now looked.0 ∙ ap Some (sym (looked.1 c.in-Some.steps.now)) in
    all_more (λ (a : Atom). (n : ℕ) × (slice_get c.args.self.now.changes.items a.pred.0 ≡ Some n) × (n ≤ c.args.place)) c.args.body.now c.loop-atom.atom-index c.atom-item.result c.atom-item.result lt c.atom-item.is c.loop-atom.invariant
    (c.in-Some.steps.now, subst (λ (ns : List ℕ). slice_get ns q ≡ Some c.in-Some.steps.now) c.deref.ensures.value there_is, c.if-steps-place.true)
