use Rattle.std.proofs.Common.{List, Some, ap, sym, ◌∙◌, map}
use Rattle.prolog_terms.specs.Terms.{tree_of}
use Rattle.prolog_terms.specs.declared.term.ReadTerm.{ReadTerm}
use Rattle.edit_texts.proofs.EditLemmas.{fun_parts}
use Rattle.edit_texts.proofs.edits.parts_of.Goals as goal

pub returns-in-Fun : goal.returns-in-Fun
returns-in-Fun c = ap (λ (ts : List ReadTerm). Some (c.in-Fun.name.0, map tree_of ts)) c.as_slice.ensures.value ∙ sym (fun_parts c.args.term.now c.in-Fun.name c.in-Fun.terms c.in-Fun.is)
