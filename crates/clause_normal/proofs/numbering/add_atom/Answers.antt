use Rattle.std.proofs.Common.{◌≡◌, ◌∙◌, ℕ, List, length, slice_get, sym, ap}
use Rattle.std.specs.List.{position_or_len}
use Rattle.cti_terms.specs.Listing.{is_pred}
use Rattle.cti_terms.specs.declared.predicates.Pred.{Pred}
use Rattle.clause_normal.specs.Numbering.{name_number}
use Rattle.clause_variables.specs.TermViews.{args_of}
use Rattle.clause_normal.specs.RuleViews.{functor_of}
use Rattle.clause_normal.proofs.NumberingLemmas.{known_with_pred, extends_more}
use Rattle.clause_normal.proofs.KindLemmas.{kinds_added}
use Rattle.cti_terms.proofs.Wider.{preds_stay}
use Rattle.clause_normal.proofs.numbering.add_atom.Goals as goal

pub returns-clause-atom : goal.returns-clause-atom
returns-clause-atom c = λ later ext.
    let preds = c.args.program.now.preds in
    let n : name_number later (functor_of c.args.call.now.functor) ≡ c.in_ok-name.name.0 = c.in_ok-name.ensures.number later ext in
    let place : c.in_ok-pred.pred.0 ≡ position_or_len (is_pred (name_number later (functor_of c.args.call.now.functor)) (length (args_of c.args.call.now.args))) preds =
    c.in_ok-pred.ensures.number ∙ ap (λ (x : ℕ). position_or_len (is_pred x c.arity_of.result) preds) (sym n)
    ∙ ap (λ (k : ℕ). position_or_len (is_pred (name_number later (functor_of c.args.call.now.functor)) k) preds) c.arity_of.ensures in
    λ i. record { pred = record { 0 = place i }; args = c.in_ok-args.ensures.terms i }

pub returns-clause-known : goal.returns-clause-known
returns-clause-known c = λ h.
    let p : Pred = record { name = c.in_ok-name.name; arity = c.arity_of.result } in
    known_with_pred (length c.args.names.now) (length c.functor_name.new.names) c.args.program.now.preds c.add_pred.new.program.preds p
    (extends_more c.args.names.now c.functor_name.new.names c.in_ok-name.ensures.kept) c.in_ok-pred.ensures.preds (c.in_ok-name.ensures.known c.requires.fit.1) h

pub returns-clause-arithmetic : goal.returns-clause-arithmetic
returns-clause-arithmetic c = λ later ext h.
    let p : Pred = record { name = c.in_ok-name.name; arity = c.arity_of.result } in
    kinds_added c.functor_name.new.names later c.args.program.now.preds c.add_pred.new.program.preds p c.args.program.now.arithmetic c.add_pred.new.program.arithmetic ext
    (c.in_ok-name.ensures.known c.requires.fit.1) c.in_ok-pred.ensures.arithmetic c.in_ok-pred.ensures.preds h

pub returns-clause-still : goal.returns-clause-still
returns-clause-still c = λ i less.
    let p : Pred = record { name = c.in_ok-name.name; arity = c.arity_of.result } in
    ap (λ (ps : List Pred). slice_get ps i) c.in_ok-pred.ensures.preds ∙ preds_stay c.args.program.now.preds p i less

-- the same where the arguments are not copied
pub returns-in_err-args-clause-known : goal.returns-in_err-args-clause-known
returns-in_err-args-clause-known c = λ h.
    let p : Pred = record { name = c.in_ok-name.name; arity = c.arity_of.result } in
    known_with_pred (length c.args.names.now) (length c.functor_name.new.names) c.args.program.now.preds c.add_pred.new.program.preds p
    (extends_more c.args.names.now c.functor_name.new.names c.in_ok-name.ensures.kept) c.in_ok-pred.ensures.preds (c.in_ok-name.ensures.known c.requires.fit.1) h

pub returns-in_err-args-clause-arithmetic : goal.returns-in_err-args-clause-arithmetic
returns-in_err-args-clause-arithmetic c = λ later ext h.
    let p : Pred = record { name = c.in_ok-name.name; arity = c.arity_of.result } in
    kinds_added c.functor_name.new.names later c.args.program.now.preds c.add_pred.new.program.preds p c.args.program.now.arithmetic c.add_pred.new.program.arithmetic ext
    (c.in_ok-name.ensures.known c.requires.fit.1) c.in_ok-pred.ensures.arithmetic c.in_ok-pred.ensures.preds h

pub returns-in_err-args-clause-still : goal.returns-in_err-args-clause-still
returns-in_err-args-clause-still c = λ i less.
    let p : Pred = record { name = c.in_ok-name.name; arity = c.arity_of.result } in
    ap (λ (ps : List Pred). slice_get ps i) c.in_ok-pred.ensures.preds ∙ preds_stay c.args.program.now.preds p i less
