use Rattle.std.proofs.Common.{List, [], ◌∷◌, ◌++◌, length, ap, sym, ◌∙◌, subst, arith}
use Rattle.cti_terms.specs.declared.atom_list.Atom.{Atom}
use Rattle.ld_resolver.specs.Tails.{AreTails, rests_of, atoms_of}
use Rattle.ld_resolver.proofs.TailLaws.{tails_more, rests_more, length-rests_of}
use Rattle.ld_resolver.proofs.tails.Tails.push.Goals as goal

pub invariant_of-self : goal.invariant_of-self
invariant_of-self c = subst AreTails (sym c.in_err-push.ensures.items) c.self.invariant

pub invariant_of-self-2 : goal.invariant_of-self-2
invariant_of-self-2 c =
    let ts = c.self.inside.items.items in
    let count = ap length (sym c.self.view_is) ∙ length-rests_of ts in
    subst AreTails (sym c.in_ok-push.ensures.items) (tails_more ts c.args.tail c.self.invariant (omega (arith, c.requires.earlier, count)) c.requires.atoms)

pub returns-clause-number : goal.returns-clause-number
returns-clause-number c =
    let new = c.push.new.self in
    c.len.ensures ∙ new.ok.0 ∙ sym (length-rests_of new.items)

pub returns-clause-rests : goal.returns-clause-rests
returns-clause-rests c =
    let ts = c.self.inside.items.items in
    ap rests_of c.in_ok-push.ensures.items
    ∙ rests_more [] ts c.args.tail
    ∙ ap (λ (r : List (List Atom)). r ++ atoms_of r c.args.tail ∷ []) c.self.view_is
