use Rattle.std.proofs.Common.{rules, ◌≡◌, pos, ◌≤ℤ◌, slice_get, FitsSigned, None, Some, ap, sym, subst, ◌∙◌}
use Rattle.std.specs.Int.{w128}
use Rattle.std.proofs.lemmas.Int.{to_z-of_z}
use Rattle.number_turns.proofs.ColumnEntries.{column_entry, natural_at}
use Rattle.number_turns.proofs.atom_columns.AtomColumns.entry_at.Goals as goal

pub returns-in-Some-clause-entry : goal.returns-in-Some-clause-entry
returns-in-Some-clause-entry c =
    let fits : FitsSigned w128 c.number.result = search rules in
    let columns = c.args.self.now.columns in
    let at : slice_get columns c.args.place ≡ Some (Some c.in-Some.row) = c.get.ensures ∙ ap Some c.in-Some.is in
    simp to_z-of_z (c.number.ensures ∙ sym (column_entry columns c.args.place (Some c.in-Some.row) c.args.x at))

pub returns-in-Some-clause-natural : goal.returns-in-Some-clause-natural
returns-in-Some-clause-natural c =
    let fits : FitsSigned w128 c.number.result = search rules in
    let columns = c.args.self.now.columns in
    let at : slice_get columns c.args.place ≡ Some (Some c.in-Some.row) = c.get.ensures ∙ ap Some c.in-Some.is in
    simp to_z-of_z (subst (λ z. pos 0 ≤ℤ z) (sym c.number.ensures) (natural_at columns c.args.place (Some c.in-Some.row) c.args.x c.requires at))

pub returns-in-None-clause-entry : goal.returns-in-None-clause-entry
returns-in-None-clause-entry c =
    let columns = c.args.self.now.columns in
    let at : slice_get columns c.args.place ≡ Some None = c.get.ensures ∙ ap Some c.in-None.is in
    sym (column_entry columns c.args.place None c.args.x at)
