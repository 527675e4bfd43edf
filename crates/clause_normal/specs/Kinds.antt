-- Private.
-- What is built in, as predicates are added. Nothing here has to be believed.
use Rattle.std.specs.Prelude.{◌≡◌, ℕ, List, ◌++◌, Option, None, length, slice_get, IsSomeAnd, if◌then◌else◌}
use Rattle.std.specs.List.{list_any}
use Rattle.cti_terms.specs.Arithmetic.{Arithmetic}
use Rattle.cti_terms.specs.Listing.{is_pred}
use Rattle.cti_terms.specs.declared.atom_list.Atom.{Atom}
use Rattle.cti_terms.specs.declared.builtins.Builtin.{Builtin}
use Rattle.cti_terms.specs.declared.predicates.Pred.{Pred}
use Rattle.prolog_reader.specs.Names.{name_text, Extends}
use Rattle.clause_normal.specs.Words.{builtin_of}
use Rattle.clause_normal.specs.Rules.{Functor, named, chosen, Call}
use Rattle.clause_normal.specs.Numbering.{choice_text, kind_of_pred, builtin_at}

-- the text of what is called
abbrev pub functor_text : List (List ℕ) → Functor → List ℕ
functor_text names (named f) = name_text names f
functor_text names (chosen m) = choice_text m

-- what is called is not built in
abbrev pub IsOrdinaryCall : List (List ℕ) → Call → Type 0
IsOrdinaryCall names c = builtin_of (functor_text names c.functor) (length c.args) ≡ None

-- what is built in once a predicate of this kind, if it is built in, is put to these predicates
abbrev pub with_kind : Arithmetic → List Pred → Pred → Option Builtin → Arithmetic
with_kind ar preds p kind = record {
  names = ar.names;
  builtins = if list_any (is_pred p.name.0 p.arity) preds then ar.builtins else ar.builtins ++ builtin_at (length preds) kind;
}

-- the atom's predicate is not built in, whatever names come later
abbrev pub IsOrdinaryPred : List (List ℕ) → Pred → Type 0
IsOrdinaryPred names p = (later : List (List ℕ)) → Extends names later → kind_of_pred later p ≡ None

abbrev pub HasOrdinary : List (List ℕ) → List Pred → Atom → Type 0
HasOrdinary names preds a = IsSomeAnd (slice_get preds a.pred.0) (IsOrdinaryPred names)
