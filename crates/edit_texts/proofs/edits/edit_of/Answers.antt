use Rattle.std.proofs.Common.{sym}
use Rattle.edit_texts.proofs.EditLemmas.{int_parts, many_asked, none_asked, var_parts}
use Rattle.edit_texts.proofs.edits.edit_of.Goals as goal

pub returns-in-Var-clause-edit : goal.returns-in-Var-clause-edit
returns-in-Var-clause-edit c = sym (none_asked c.args.names.now c.args.clause.vars c.args.clause.term (var_parts c.args.clause.term _ c.in-Var.is))

pub returns-in-Int-clause-edit : goal.returns-in-Int-clause-edit
returns-in-Int-clause-edit c = sym (none_asked c.args.names.now c.args.clause.vars c.args.clause.term (int_parts c.args.clause.term _ c.in-Int.is))

pub returns-in-None-clause-edit : goal.returns-in-None-clause-edit
returns-in-None-clause-edit c = sym (many_asked c.args.names.now c.args.clause.vars c.args.clause.term c.in-Fun.name c.in-Fun.args c.in-Fun.is c.in-None.ensures)
