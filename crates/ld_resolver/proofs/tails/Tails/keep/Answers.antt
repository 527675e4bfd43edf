use Rattle.std.proofs.Common.{◌≤◌, List, [], length, ap, sym, ◌∙◌, subst, arith}
use Rattle.std.proofs.lemmas.List.{length-take-le}
use Rattle.cti_terms.specs.declared.atom_list.Atom.{Atom}
use Rattle.ld_resolver.specs.Tails.{AreTails, tail_at, rests_of}
use Rattle.ld_resolver.proofs.TailLaws.{rests_kept, tails_fewer, length-rests_of}
use Rattle.ld_resolver.proofs.tails.Tails.keep.Goals as goal

pub invariant_of-self : goal.invariant_of-self
invariant_of-self c = subst AreTails (sym c.truncate.ensures.items) (tails_fewer c.self.inside.items.items c.args.count c.self.invariant)

pub returns-clause-kept : goal.returns-clause-kept
returns-clause-kept c = λ n h.
    ap (λ ts. tail_at (rests_of ts) n) c.truncate.ensures.items
    ∙ rests_kept [] c.self.inside.items.items c.args.count n (omega (arith, h))
    ∙ ap (λ (rests : List (List Atom)). tail_at rests n) c.self.view_is

pub returns-clause-enough : goal.returns-clause-enough
returns-clause-enough c = λ h.
    let ts = c.self.inside.items.items in
    let now = c.truncate.new.self.items in
    let there : c.args.count ≤ length ts = omega (arith, h, ap length (sym c.self.view_is), length-rests_of ts) in
    omega (arith, length-rests_of now, ap length c.truncate.ensures.items, length-take-le c.args.count ts there)
