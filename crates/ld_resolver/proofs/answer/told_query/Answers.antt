use Rattle.std.proofs.Common.{◌≡◌, ◌+◌, ℕ, List, [], ◌∷◌, ◌++◌, length, map, drop, append_assoc, ap, sym, ◌∙◌, arith}
use Rattle.cti_terms.specs.Tree.{trees, all_nodes}
use Rattle.cti_terms.specs.declared.atom_list.Atom.{Atom}
use Rattle.cti_terms.specs.Resolve.{over}
use Rattle.cti_terms.specs.Answers.{all_met}
use Rattle.unifier.specs.Store.{full}
use Rattle.ld_resolver.specs.Measured.{answered_terms, atoms_numbered}
use Rattle.ld_resolver.proofs.ToldLaws.{all_met_length, terms_first, atoms_first, told_atom_first}
use Rattle.ld_resolver.proofs.answer.told_query.Goals as goal

pub loop-atom-preserved : goal.loop-atom-preserved
loop-atom-preserved c =
    let s = c.args.bindings.now in
    let q = c.args.query.now in
    let i = c.loop-atom.atom-index in
    let a = c.atom-item.result in
    let left = answered_terms s (drop (i + 1) q) in
    let old = c.loop-atom.variables.keys in
    let final = all_met [] (answered_terms s q) in
    let first = terms_first s q i a c.loop-atom-test.true c.atom-item.is in
    let inv = c.loop-atom.invariant in
    let e = c.in_ok-told_atom.ensures in
    let args = trees (map (full s) a.args) in
    let met_all : all_met (all_met old args) left ≡ final = ap (all_met old) (sym first) ∙ inv.variables in
    let b = c.in_ok-told_atom.field-0 in
    let rest = atoms_numbered final s (drop (i + 1) q) in
    record {
      variables = ap (λ (l : List ℕ). all_met l left) e.variables ∙ met_all;
      atoms =
          ap (λ (l : List Atom). l ++ rest) c.in_ok-push.ensures.ok
          ∙ append_assoc c.loop-atom.atoms (b ∷ []) rest
          ∙ ap (λ (v : Atom). c.loop-atom.atoms ++ v ∷ rest) (told_atom_first old c.told_atom.new.variables.keys final (over (full s) a) b left e.variables met_all e.atom)
          ∙ ap (λ (l : List Atom). c.loop-atom.atoms ++ l) (sym (atoms_first final s q i a c.loop-atom-test.true c.atom-item.is))
          ∙ inv.atoms;
      room = omega (arith, ap length e.variables, all_met_length old args, ap all_nodes first, inv.room);
    }
