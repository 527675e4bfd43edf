-- Multipliers over a clause's system, as the code makes it, prove the rows of the clause's head.
use Rattle.std.proofs.Common.{◌≡◌, ℕ, suc, ℤ, List, [], ◌∷◌, map, length, Option, None, Some, subst, ◌∙◌}
use Rattle.std.specs.List.{AllByRecursion}
use Rattle.cti_terms.specs.declared.clauses.Clause.{Clause}
use Rattle.linear_rows.specs.Plain.{plain_rows}
use Rattle.linear_rows.specs.Replacing.{substituted}
use Rattle.linear_rows.specs.Showing.{Shows}
use Rattle.linear_rows.specs.declared.multipliers.Multipliers.{Multipliers}
use Rattle.linear_rows.specs.declared.system.System.{System}
use Rattle.linear_rows.proofs.Members.{from_All}
use Rattle.polyhedra.specs.Making.{AreShown}
use Rattle.termination_model.specs.sizes.ShortSystems.{short_row}
use Rattle.termination_model.proofs.ChainSieves.{all_of}
use Rattle.size_chains.specs.Making.{IsMade}
use Rattle.size_chains.specs.Proved.{AreShownFor, IsShownFor}
use Rattle.size_chains.specs.Stepping.{IfNone}
use Rattle.size_chains.specs.Systems.{AreColumnsOf, Systems, head_of, missing, naturals_of, system, widened}
use Rattle.size_chains.proofs.FreeColumns.{scale_or_natural, shown_over_own}
use Rattle.size_chains.proofs.Widening.{short_widened}

pub none_map : {D P Q : Type 0} → (P → Q) → (o : Option D) → IfNone P o → IfNone Q o
none_map f None h = f h
none_map f (Some d) h = tt

module _ (systems : Systems) (rows : ℕ → List (List ℤ)) (k : Clause) (s : System) (made : IsMade systems rows k s) (of : AreColumnsOf systems k) where
  abbrev short : List (List ℤ)
  short = map short_row (system systems rows k k.body)

  abbrev m : ℕ
  m = missing (systems.heads k)

  body : plain_rows s.rows.list ≡ map (widened m) short
  body = made.of.body ∙ short_widened m (system systems rows k k.body)

  long : AllByRecursion (λ (r : List ℤ). length r ≡ suc (systems.naturals k)) short
  long = all_of (λ (r : List ℤ). length r ≡ suc (systems.naturals k)) short (λ r i. from_All (λ (r : List ℤ). length r ≡ suc (systems.naturals k)) short r made.long i)

  one_over : (r : List ℤ) (by : Multipliers) → Shows (plain_rows s.rows.list) (substituted s.variables (plain_rows s.head.list) r) by → IsShownFor systems k short r by
  one_over r by h =
      let there : Shows (map (widened m) short) (substituted (naturals_of systems k) (head_of systems k) r) by =
      subst (λ (x : List (List ℤ)). Shows (map (widened m) short) (substituted (naturals_of systems k) x r) by) made.of.head
      (subst (λ (x : List (List ℤ)). Shows x (substituted (naturals_of systems k) (plain_rows s.head.list) r) by) body
      (subst (λ (x : ℕ). Shows (plain_rows s.rows.list) (substituted x (plain_rows s.head.list) r) by) made.of.variables h)) in
      record {
        shown = shown_over_own (systems.naturals k) (systems.heads k) of.expressions short long r by there;
        free = scale_or_natural (systems.naturals k) (systems.heads k) of.expressions short long r by there;
      }

  pub shown_over : (old : List (List ℤ)) (by : List Multipliers) → AreShown s old by → AreShownFor systems k short old by
  shown_over [] [] h = tt
  shown_over [] (m ∷ ms) h = absurd h
  shown_over (r ∷ rs) [] h = absurd h
  shown_over (r ∷ rs) (m ∷ ms) h = (one_over r m h.0, shown_over rs ms h.1)
