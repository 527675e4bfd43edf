use Rattle.std.proofs.Common.{◌≡◌, ◌∙◌, ◌++◌, ◌∷◌, [], Some, length, slice_get, sym, ap}
use Rattle.cti_terms.specs.Arithmetic.{Arithmetic}
use Rattle.cti_terms.specs.Listing.{is_pred}
use Rattle.cti_terms.specs.declared.predicates.Pred.{Pred}
use Rattle.prolog_reader.proofs.NameLemmas.{no_place}
use Rattle.clause_normal.specs.Numbering.{builtin_at}
use Rattle.clause_normal.proofs.KindLemmas.{kind_new, last_got, pred_away}
use Rattle.clause_normal.proofs.numbering.add_builtin.Goals as goal

pub returns-in_ok-pred-in-None-clause-number : goal.returns-in_ok-pred-in-None-clause-number
returns-in_ok-pred-in-None-clause-number c = c.in_ok-pred-in-None.ensures.number ∙ (no_place (is_pred c.args.name.0 2) c.args.program.now.preds c.in-None.ensures.number).0

pub returns-in_ok-pred-in-None-clause-preds : goal.returns-in_ok-pred-in-None-clause-preds
returns-in_ok-pred-in-None-clause-preds c =
    let preds = c.args.program.now.preds in
    let p : Pred = record { name = c.args.name; arity = 2 } in
    c.in_ok-pred-in-None.ensures.preds ∙ sym (pred_away preds p (no_place (is_pred c.args.name.0 2) preds c.in-None.ensures.number).1)

pub returns-in_ok-pred-in-None-clause-found : goal.returns-in_ok-pred-in-None-clause-found
returns-in_ok-pred-in-None-clause-found c =
    let preds = c.args.program.now.preds in
    let p : Pred = record { name = c.args.name; arity = 2 } in
    (λ i. slice_get (c.in_ok-pred-in-None.ensures.preds i) (c.in_ok-pred-in-None.ensures.number i)) ∙ last_got preds p

pub returns-in_ok-pred-in-None-clause-arithmetic : goal.returns-in_ok-pred-in-None-clause-arithmetic
returns-in_ok-pred-in-None-clause-arithmetic c =
    let preds = c.args.program.now.preds in
    let old = c.args.program.now.arithmetic in
    let kind = c.args.kind in
    let p : Pred = record { name = c.args.name; arity = 2 } in
    let builtins : c.add_builtin.new.self.arithmetic.builtins ≡ old.builtins ++ builtin_at (length preds) (Some kind) =
    c.in_ok-pred-in-None.ensures.builtins ∙ ap (λ n. old.builtins ++ (record { 0 = n }, kind) ∷ []) c.in_ok-pred-in-None.ensures.number in
    let made : Arithmetic = record { names = old.names; builtins = old.builtins ++ builtin_at (length preds) (Some kind) } in
    let same : c.add_builtin.new.self.arithmetic ≡ made = λ i. record { names = c.in_ok-pred-in-None.ensures.names i; builtins = builtins i } in
    same ∙ sym (kind_new old preds p (Some kind) (no_place (is_pred c.args.name.0 2) preds c.in-None.ensures.number).1)
