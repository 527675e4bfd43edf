-- Size rows of built-in predicates, fact by fact.
use Rattle.std.proofs.Common.{◌≡◌, ◌≢◌, ◌↔◌, ℕ, ◌<◌, List, [], ◌∷◌, length, Option, None, Some, refl, sym, subst, ◌∙◌}
use Rattle.std.specs.List.{AllByRecursion, AllPairs}
use Rattle.cti_terms.specs.Arithmetic.{kind_of}
use Rattle.cti_terms.specs.Listing.{IsProgram, Listing}
use Rattle.cti_terms.specs.declared.builtins.Builtin.{Builtin}
use Rattle.cert_structure.specs.Numbered.{lines_from}
use Rattle.cert_structure.specs.Order.{pred_text, size_line}
use Rattle.cert_structure.specs.Structure.{AreNamed}
use Rattle.linear_rows.specs.Members.{In}
use Rattle.linear_rows.specs.Plain.{plain_row, plain_rows}
use Rattle.linear_rows.specs.declared.row.Row.{Row}
use Rattle.termination_model.proofs.Lists.{by_places, mapped_place}
use Rattle.termination_model.specs.sizes.Stated.{stated_rows}
use Rattle.cert_checker.specs.Fault.{RowIsForeign}
use Rattle.cert_checker.specs.Finding.{Finds, IsForeign, NoneFails, SizesFail}
use Rattle.cert_checker.specs.declared.fault.Fault.{Fault}
use Rattle.cert_checker.specs.declared.reason.Reason.{Reason}
use Rattle.cert_checker.proofs.FindLaws.{finds_none, finds_same, same_lines}
use Rattle.cert_checker.proofs.TextLaws.{same_text}

-- rows are stated of predicates of a kind, where they are built in
abbrev pub AreStatedAs : Option Builtin → List Row → Type 0
AreStatedAs kind rows = (b : Builtin) → kind ≡ Some b → AllByRecursion (λ r. In r (stated_rows b)) (plain_rows rows)

-- a predicate has one kind
pub same_kind : (o : Option Builtin) (a b : Builtin) → o ≡ Some a → o ≡ Some b → a ≡ b
same_kind o a b e f = let both : Some a ≡ Some b = sym e ∙ f in cc

-- a fault is found only where the predicate is built in
pub built_in : (Q : Builtin → Type 0) (kind : Option Builtin) (o : Option Fault) (f : Fault) → (o ≡ None) ↔ ((b : Builtin) → kind ≡ Some b → Q b) → o ≡ Some f → (b : Builtin) × (kind ≡ Some b)
built_in Q None o f hold is = absurd (let none : o ≡ None = hold.1 (λ b wrong. cc) in let both : Some f ≡ None = sym is ∙ none in cc)
built_in Q (Some b) o f hold is = (b, refl)

module _ (p : Listing) (names : List (List ℕ)) (prog : IsProgram p) (named : AreNamed names p.preds) (distinct : AllPairs (λ a b. a ≢ b) names)
    (q : ℕ) (lt : q < length p.preds) where
  -- a foreign row of this predicate is foreign to its kind
  own_kind : (row : Row) (why : Reason) (fault : RowIsForeign p names (pred_text p names q) (plain_row row) why) → kind_of p.arithmetic q ≡ Some fault.kind
  own_kind row why fault =
      let same : fault.q ≡ q = same_text p names prog named distinct q fault.q lt fault.named.0 fault.named.1 in
      subst (λ (r : ℕ). kind_of p.arithmetic r ≡ Some fault.kind) same fault.builtin

  pub rows_hold : (rows : List Row) → AreStatedAs (kind_of p.arithmetic q) rows → NoneFails (SizesFail p names) (lines_from 0 (size_line (pred_text p names q)) rows)
  rows_hold rows stated = finds_none (SizesFail p names) (λ i row. size_line (pred_text p names q) i row ∷ []) (λ row. 1) (λ i row. refl) rows
      (λ i row e. (λ why fault. fault.foreign (by_places (λ r. In r (stated_rows fault.kind)) (plain_rows rows) (stated fault.kind (own_kind row why fault)) i (plain_row row) (mapped_place plain_row rows i row e)), tt))

  pub foreign_row : (rows : List Row) (first : ℕ) (o : Option Fault) (b : Builtin) → kind_of p.arithmetic q ≡ Some b → Finds (IsForeign b) first (lines_from 0 (size_line (pred_text p names q)) rows) o
      → Finds (SizesFail p names) first (lines_from 0 (size_line (pred_text p names q)) rows) o
  foreign_row rows first o b is found =
      finds_same (IsForeign b) (SizesFail p names) (lines_from 0 (size_line (pred_text p names q)) rows) (same_lines (IsForeign b) (SizesFail p names) (size_line (pred_text p names q)) 0 rows (λ i row e why. (
        λ fails. record { q = q; named = (lt, refl); kind = b; builtin = is; foreign = fails.0; why_is = fails.1 },
        λ fault. (
          let same : fault.kind ≡ b = (let both = sym (own_kind row why fault) ∙ is in cc) in subst (λ (k : Builtin). ¬ In (plain_row row) (stated_rows k)) same fault.foreign,
          fault.why_is,
        ),
      ))) first o found
