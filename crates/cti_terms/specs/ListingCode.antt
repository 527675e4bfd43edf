-- Private.
-- How a proof distinguishes programs, so that a contract may see a program as its two lists. Nothing here has to be
-- believed.
use Rattle.std.specs.Prelude.{◌≡◌, ℕ, zero, suc, List, Option, refl}
use Rattle.std.specs.Coded.{Coded, code_by, coded×, coded_ℕ, coded_list, coded_option}
use Rattle.cti_terms.specs.Codes.{coded_atom}
use Rattle.cti_terms.specs.declared.atom_list.Atom.{Atom}
use Rattle.cti_terms.specs.declared.builtins.Arith.{Arith}
use Rattle.cti_terms.specs.declared.builtins.Builtin.{Builtin}
use Rattle.cti_terms.specs.declared.builtins.Builtin.TheVariants.{Is, Equal, NotEqual, Less, AtMost, Greater, AtLeast}
use Rattle.cti_terms.specs.declared.clauses.Clause.{Clause}
use Rattle.cti_terms.specs.declared.predicates.Pred.{Pred}
use Rattle.cti_terms.specs.declared.predicates.PredId.{PredId}
use Rattle.cti_terms.specs.Arithmetic.{Arithmetic}
use Rattle.cti_terms.specs.Listing.{Listing}

-- a clause is stored as its three fields
abbrev pub coded_clause : Coded Clause
coded_clause =
    code_by (Atom × (List Atom × ℕ)) (coded× coded_atom (coded× (coded_list coded_atom) coded_ℕ)) (λ c. (c.head, (c.body, c.vars))) (λ p. record { head = p.0; body = p.1.0; vars = p.1.1 }) (λ _. refl)

-- a predicate is stored as its name's number and its arity
abbrev pub coded_pred : Coded Pred
coded_pred =
    code_by (ℕ × ℕ) (coded× coded_ℕ coded_ℕ) (λ p. (p.name.0, p.arity)) (λ p. record { name = record { 0 = p.0 }; arity = p.1 }) (λ _. refl)

-- a kind of built-in predicate is stored as a number
abbrev pub number_of_kind : Builtin → ℕ
number_of_kind Is = 0
number_of_kind Equal = 1
number_of_kind NotEqual = 2
number_of_kind Less = 3
number_of_kind AtMost = 4
number_of_kind Greater = 5
number_of_kind AtLeast = 6

abbrev pub kind_of_number : ℕ → Builtin
kind_of_number zero = Is
kind_of_number (suc zero) = Equal
kind_of_number (suc (suc zero)) = NotEqual
kind_of_number (suc (suc (suc zero))) = Less
kind_of_number (suc (suc (suc (suc zero)))) = AtMost
kind_of_number (suc (suc (suc (suc (suc zero))))) = Greater
kind_of_number (suc (suc (suc (suc (suc (suc n)))))) = AtLeast

-- what was stored is read
pub kind_back : (b : Builtin) → kind_of_number (number_of_kind b) ≡ b
kind_back Is = refl
kind_back Equal = refl
kind_back NotEqual = refl
kind_back Less = refl
kind_back AtMost = refl
kind_back Greater = refl
kind_back AtLeast = refl

abbrev pub coded_kind : Coded Builtin
coded_kind = code_by ℕ coded_ℕ number_of_kind kind_of_number kind_back

-- a built-in predicate is stored as its number with its kind
abbrev pub coded_builtin : Coded (PredId × Builtin)
coded_builtin = code_by (ℕ × Builtin) (coded× coded_ℕ coded_kind) (λ b. (b.0.0, b.1)) (λ p. (record { 0 = p.0 }, p.1)) (λ _. refl)

-- the names of operations are stored as their numbers
abbrev pub coded_arith : Coded Arith
coded_arith =
    code_by (ℕ × (ℕ × ℕ)) (coded× coded_ℕ (coded× coded_ℕ coded_ℕ)) (λ a. (a.plus.0, (a.minus.0, a.times.0)))
    (λ p. record { plus = record { 0 = p.0 }; minus = record { 0 = p.1.0 }; times = record { 0 = p.1.1 } }) (λ _. refl)

-- what is built in is stored as the two
abbrev pub coded_arithmetic : Coded Arithmetic
coded_arithmetic =
    code_by (Option Arith × List (PredId × Builtin)) (coded× (coded_option coded_arith) (coded_list coded_builtin)) (λ a. (a.names, a.builtins)) (λ p. record { names = p.0; builtins = p.1 }) (λ _. refl)

-- a program is stored as its two lists and what is built in
abbrev pub coded_listing : Coded Listing
coded_listing =
    code_by (List Pred × (List Clause × Arithmetic)) (coded× (coded_list coded_pred) (coded× (coded_list coded_clause) coded_arithmetic)) (λ l. (l.preds, (l.clauses, l.arithmetic)))
    (λ p. record { preds = p.0; clauses = p.1.0; arithmetic = p.1.1 }) (λ _. refl)
