use Rattle.std.proofs.Common.{◌≡◌, ◌+◌, List, [], ◌∷◌, ◌++◌, drop, append_assoc, ap, sym, ◌∙◌}
use Rattle.cti_terms.specs.declared.atom_list.Atom.{Atom}
use Rattle.cti_terms.specs.Resolve.{over, raised}
use Rattle.unifier.specs.Store.{full}
use Rattle.loop_finder.specs.Copies.{raised_full, atom_copies}
use Rattle.loop_finder.proofs.CopyLaws.{atoms_first, copies_raised}
use Rattle.loop_finder.proofs.copying.push_copies.Goals as goal

pub loop-atom-preserved : goal.loop-atom-preserved
loop-atom-preserved c =
    let s = c.args.bindings.now in
    let n = c.args.base in
    let xs = c.args.atoms.now in
    let i = c.loop-atom.atom-index in
    let a = c.atom-item.result in
    let out = c.loop-atom.out in
    let rest = atom_copies s n (drop (i + 1) xs) in
    let args = c.from_vec-args.ensures ∙ c.in_ok-terms.ensures ∙ copies_raised s n c.as_slice.result.now ∙ ap (raised_full s n) c.as_slice.ensures in
    let atom : Atom = record { pred = a.pred; args = c.from_vec-args.result } in
    let same : atom ≡ over (full s) (raised n a) = λ j. record { pred = a.pred; args = args j } in
    ap (λ (l : List Atom). l ++ rest) c.in_ok-push.ensures.ok
    ∙ append_assoc out (atom ∷ []) rest
    ∙ ap (λ (b : Atom). out ++ b ∷ rest) same
    ∙ ap (λ (l : List Atom). out ++ l) (sym (atoms_first s n xs i a c.loop-atom-test.true c.atom-item.is))
    ∙ c.loop-atom.invariant
