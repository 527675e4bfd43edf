use Rattle.std.proofs.Common.{◌≡◌, ◌-◌, ℕ, suc, List, ◌++◌, length, map, ap, sym, ◌∙◌, subst, arith}
use Rattle.std.proofs.lemmas.Option.{slice_get_read}
use Rattle.cti_terms.specs.Resolve.{raised}
use Rattle.cti_terms.specs.declared.atom_list.Atom.{Atom}
use Rattle.ld_resolver.specs.Tails.{tail_at, rests_of}
use Rattle.ld_resolver.proofs.TailLaws.{rest_is, length-rests_of}
use Rattle.ld_resolver.proofs.tails.Tails.get.Goals as goal

pub index-requires : goal.index-requires
index-requires c =
    let items = c.self.inside.items in
    let count = ap length (sym c.self.view_is) ∙ length-rests_of items.items in
    omega (arith, c.requires.first, c.requires.last, count, items.ok.0)

pub returns-clause-rest : goal.returns-clause-rest
returns-clause-rest c =
    let ts = c.self.inside.items.items in
    let r = c.index.result.now in
    let count = ap length (sym c.self.view_is) ∙ length-rests_of ts in
    let there = slice_get_read ts (length ts) (c.args.number - 1) r (λ i. length ts) (omega (arith, c.requires.first, c.requires.last, count)) c.index.ensures in
    let at : suc (c.args.number - 1) ≡ c.args.number = omega (arith, c.requires.first) in
    let is = rest_is ts (c.args.number - 1) r there c.self.invariant in
    subst (λ (rests : List (List Atom)). tail_at rests c.args.number ≡ map (raised r.base) r.atoms.now ++ tail_at rests r.next) c.self.view_is
    (subst (λ (n : ℕ). tail_at (rests_of ts) n ≡ map (raised r.base) r.atoms.now ++ tail_at (rests_of ts) r.next) at is)

pub returns-clause-atoms : goal.returns-clause-atoms
returns-clause-atoms c =
    let ts = c.self.inside.items.items in
    let r = c.index.result.now in
    let count = ap length (sym c.self.view_is) ∙ length-rests_of ts in
    let there = slice_get_read ts (length ts) (c.args.number - 1) r (λ i. length ts) (omega (arith, c.requires.first, c.requires.last, count)) c.index.ensures in
    (c.self.invariant (c.args.number - 1) r there).atoms

pub returns-clause-earlier : goal.returns-clause-earlier
returns-clause-earlier c =
    let ts = c.self.inside.items.items in
    let r = c.index.result.now in
    let count = ap length (sym c.self.view_is) ∙ length-rests_of ts in
    let there = slice_get_read ts (length ts) (c.args.number - 1) r (λ i. length ts) (omega (arith, c.requires.first, c.requires.last, count)) c.index.ensures in
    let e = (c.self.invariant (c.args.number - 1) r there).earlier in
    omega (arith, e, c.requires.first)
