use Rattle.std.proofs.Common.{sym}
use Rattle.edit_texts.proofs.EditLemmas.{fun_integer, var_integer}
use Rattle.edit_texts.proofs.edits.integer_of.Goals as goal

pub returns-in-Var : goal.returns-in-Var
returns-in-Var c = sym (var_integer c.args.term.now _ c.in-Var.is)

pub returns-in-Fun : goal.returns-in-Fun
returns-in-Fun c = sym (fun_integer c.args.term.now _ _ c.in-Fun.is)
