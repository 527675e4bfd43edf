use Rattle.std.proofs.Common.{◌≡◌, ◌++◌, OnOk, subst}
use Rattle.std.proofs.lemmas.List.{append_assoc}
use Rattle.lex_certificate.specs.Order.{level_facts, drop_facts, pre_facts, stuck_facts}
use Rattle.lex_certificate.proofs.writing.write_lists.Goals as goal

-- each writer adds its facts to those before
pub returns : goal.returns
returns c =
    let p = c.args.p.now in
    let names = c.args.names.now in
    let parts = c.args.parts.now in
    let lists : c.write_each.new.out ≡ c.args.out.now ++ level_facts p names parts.lists = rw c.as_slice.ensures at c.in_ok-write_each.ensures in
    let drops : c.write_each-2.new.out ≡ c.write_each.new.out ++ drop_facts parts.drops = rw c.as_slice-2.ensures at c.in_ok-write_each-2.ensures in
    let cubes : c.write_each-3.new.out ≡ c.write_each-2.new.out ++ pre_facts p names parts.preconditions = rw c.as_slice-3.ensures at c.in_ok-write_each-3.ensures in
    let stuck : OnOk c.write_each-4.result (c.write_each-4.new.out ≡ c.write_each-3.new.out ++ stuck_facts p names parts.stuck) = rw c.as_slice-4.ensures at c.write_each-4.ensures in
    subst (λ t. OnOk c.write_each-4.result (c.write_each-4.new.out ≡ t)) (rw (cubes, drops, lists) (simp append_assoc)) stuck
