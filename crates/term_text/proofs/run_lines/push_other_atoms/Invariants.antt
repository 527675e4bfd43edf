use Rattle.std.proofs.Common.{◌≡◌, [], ◌++◌, codes, flat_map, drop}
use Rattle.term_text.specs.RunLines.{atom_text}
use Rattle.term_text.proofs.run_lines.push_other_atoms.Given as goal

-- what is written and the atoms that are left are all of them
abbrev pub invariant-loop-atom : goal.invariant-loop-atom
invariant-loop-atom l = record {
  text : l.out.items ++ flat_map (λ a. codes "," ++ atom_text l.names l.program.preds a) (drop l.atom-index l.atoms)
      ≡ l.fn.out.items ++ flat_map (λ a. codes "," ++ atom_text l.names l.program.preds a) l.atoms;
  done : l.stack.items ≡ [];
}
