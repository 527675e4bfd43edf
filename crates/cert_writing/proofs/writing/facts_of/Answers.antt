use Rattle.std.proofs.Common.{◌≡◌, ◌++◌}
use Rattle.std.proofs.lemmas.List.{append_assoc}
use Rattle.cert_structure.specs.Order.{mode_facts, size_facts, proof_facts, ground_facts}
use Rattle.cert_writing.proofs.writing.facts_of.Goals as goal

pub returns : goal.returns
returns c =
    let p = c.args.p.now in
    let names = c.args.names.now in
    let parts = c.args.parts.now in
    let model : c.write.new.out ≡ c.write_head.new.out ++ (mode_facts p names parts.modes ++ size_facts p names parts.rows ++ proof_facts parts.row_proofs ++ ground_facts p names parts.grounds) =
    rw (c.as_slice.ensures, c.as_slice-2.ensures, c.as_slice-3.ensures, c.as_slice-4.ensures) at c.in_ok-write.ensures in
    rw (c.in_ok-append.ensures, c.in_ok-write_mappings.ensures, model, c.in_ok-write_head.ensures, c.new-facts.ensures) (simp append_assoc)
