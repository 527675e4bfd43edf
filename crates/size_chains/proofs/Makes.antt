-- What is known of a clause's system, as the code makes it.
use Rattle.std.proofs.Common.{◌≡◌, ℕ, suc, ◌+◌, ◌<◌, ◌^◌, ℤ, pos, List, Some, map, length, slice_get, sym, subst, ap, ◌∙◌, arith}
use Rattle.std.specs.Prelude.{All, ◌≤ℤ◌}
use Rattle.std.specs.List.{AllByRecursion}
use Rattle.std.proofs.lemmas.List.{length-map}
use Rattle.cti_terms.specs.declared.clauses.Clause.{Clause}
use Rattle.linear_rows.specs.Plain.{plain_rows}
use Rattle.linear_rows.specs.declared.system.System.{System}
use Rattle.polyhedra.specs.Making.{arity_of}
use Rattle.redundant_rows.proofs.RowLists.{long_rows}
use Rattle.size_chains.specs.declared.clause_system.ClauseSystem.{ClauseSystem}
use Rattle.size_chains.specs.Making.{IsClauseSystem, IsMade, IsSystemOf, IsTied, plain_or_none}
use Rattle.cti_terms.specs.Listing.{Listing}
use Rattle.termination_model.proofs.Lists.{by_places}
use Rattle.size_chains.specs.Systems.{AreColumnsOf, AreSystems, IsHeadColumn, Systems, missing, system, tied, widened}
use Rattle.size_chains.proofs.Widening.{short_widened, tied_length, tied_natural, wide_widened}

module _ (systems : Systems) (rows : ℕ → List (List ℤ)) (k : Clause) (of : AreColumnsOf systems k) (x : ClauseSystem) (is : IsClauseSystem systems rows k x) where
  -- what is asked of it before it is tied
  pub columns_are : AllByRecursion (IsHeadColumn x.naturals) (map plain_or_none x.head)
  columns_are = subst (λ es. AllByRecursion (IsHeadColumn x.naturals) es) (sym is.heads) (subst (λ (n : ℕ). AllByRecursion (IsHeadColumn n) (systems.heads k)) (sym is.naturals) of.expressions)

  pub few_are : x.naturals + length x.head < 2 ^ 32
  few_are =
      let same = ap length is.heads in
      let long = length-map x.head plain_or_none in
      let n = is.naturals in
      let few = of.few in
      omega (arith, same, long, n, few)

  module _ (y : System) (t : IsTied x y) where
    abbrev m : ℕ
    m = missing (systems.heads k)

    own : IsSystemOf systems rows k y
    own = record {
      variables = t.variables ∙ (λ i. is.naturals i + missing (is.heads i));
      body = t.rows ∙ (λ i. map (widened (missing (is.heads i))) (is.body i)) ∙ sym (short_widened m (system systems rows k k.body));
      wide = t.wide ∙ is.wide ∙ sym (wide_widened m (system systems rows k k.body));
      head = t.head ∙ (λ i. tied (is.naturals i) (missing (is.heads i)) 0 (is.heads i));
    }

    pub made : IsMade systems rows k y
    made = record {
      of = own;
      long = subst (λ (rs : List (List ℤ)). All (λ (r : List ℤ). length r ≡ suc (systems.naturals k)) rs) is.body
          (subst (λ (n : ℕ). All (λ (r : List ℤ). length r ≡ suc n) (plain_rows x.rows.list)) is.naturals (long_rows x.naturals x.rows.list is.widths));
      system = record {
        rows_width = t.rows_width;
        head_width = t.head_width;
        rows = long_rows y.variables y.rows.list t.rows_widths;
        head = long_rows y.variables y.head.list t.head_widths;
      };
      natural = subst (λ (rs : List (List ℤ)). All (λ (r : List ℤ). All (λ (z : ℤ). pos 0 ≤ℤ z) r) rs) (sym own.head) (tied_natural (systems.naturals k) m 0 (systems.heads k) of.expressions);
    }

pub columns_of : (systems : Systems) (rows : ℕ → List (List ℤ)) (k : Clause) (s : System) → IsSystemOf systems rows k s → arity_of s ≡ length (systems.heads k)
columns_of systems rows k s is = ap length is.head ∙ tied_length (systems.naturals k) (missing (systems.heads k)) 0 (systems.heads k)

-- a clause of the program has the columns of its head's predicate
pub columns_at : (systems : Systems) (p q : Listing) → q ≡ p → AreSystems q systems → (i : ℕ) (k : Clause) → slice_get p.clauses i ≡ Some k → AreColumnsOf systems k
columns_at systems p q same lawful i k at = by_places (AreColumnsOf systems) p.clauses (subst (λ (x : Listing). AreSystems x systems) same lawful).clauses i k at
