-- Private.
-- What the code holds of a component's calls. Nothing here has to be believed.
use Rattle.std.specs.Prelude.{◌≡◌, ◌<◌, ◌≤◌, ◌≤ℤ◌, ◌-ℤ◌, ◌-◌, ◌++◌, ◌⊎◌, ℕ, suc, ℤ, pos, neg_ℤ, true, false, List, [], ◌∷◌, map, take, length, slice_get, All, Option, None, Some}
use Rattle.exact128.specs.Sums.{entry}
use Rattle.cti_terms.specs.Listing.{Listing}
use Rattle.cti_terms.specs.Tree.{Tree}
use Rattle.cti_terms.specs.declared.atom_list.Atom.{Atom}
use Rattle.cti_terms.specs.declared.clauses.Clause.{Clause}
use Rattle.cti_terms.specs.declared.predicates.PredId.{PredId}
use Rattle.call_components.specs.Partition.{Partition}
use Rattle.linear_rows.specs.Irredundant.{TestIsBlown}
use Rattle.linear_rows.specs.Members.{In}
use Rattle.linear_rows.specs.Plain.{plain_row, plain_rows, HaveWidth}
use Rattle.linear_rows.specs.Showing.{Shows, bottom_row}
use Rattle.linear_rows.specs.Solving.{zeros}
use Rattle.linear_rows.specs.declared.multipliers.Multipliers.{Multipliers}
use Rattle.linear_rows.specs.declared.row.Row.{Row}
use Rattle.linear_rows.specs.declared.row.Rows.{Rows}
use Rattle.number_tests.specs.Targets.{AreFallColumns}
pub use Rattle.termination_model.specs.chains.ChainRows.{HasPoint}
use Rattle.termination_model.specs.mappings.ComponentViews.{size_claims}
use Rattle.termination_model.specs.mappings.OwnCalls.{Position as Place, OwnCall as Recalled}
use Rattle.termination_model.specs.mappings.Ready.{itself}
use Rattle.termination_model.specs.mappings.SupportSystem.{offset_share, share}
use Rattle.termination_model.specs.sizes.Systems.{row_fits, system}
use Rattle.termination_model.specs.mappings.View.{rule_of}
use Rattle.termination_model.specs.mappings.View as view
use Rattle.level_systems.specs.Pairs.{call_at, clause_at}
use Rattle.level_systems.specs.declared.position.Position.{Position}
use Rattle.level_systems.specs.declared.own_call.OwnCall.{OwnCall}

-- a position as a pair
abbrev pub spelled : Position → Place
spelled p = (p.pred.0, p.argument)

-- sizes have a number in this column, which is natural
abbrev pub AreSizes : ℕ → Rows → Type 0
AreSizes x sizes = All (λ (r : Row). (x < length (plain_row r)) × (pos 0 ≤ℤ entry (plain_row r) x)) sizes.list

-- the numbers after the constant in the row of a held call and a column
abbrev pub held_numbers : OwnCall → List Position → List PredId → ℕ → ℕ → ℕ → List ℤ
held_numbers own positions members before after x =
    (((map (λ p. share own.caller.0 (plain_rows own.caller_sizes.list) x (spelled p) -ℤ share own.callee.0 (plain_rows own.callee_sizes.list) x (spelled p)) positions
    ++ map (λ m. offset_share own.caller.0 x m.0 -ℤ offset_share own.callee.0 x m.0) members)
    ++ zeros before)
    ++ map (λ r. neg_ℤ (entry (plain_row r) x)) own.rows.list)
    ++ zeros after

-- the rows before a call hold at some point, or multipliers with scale 0 show that they hold nowhere
abbrev pub IsReach : ℕ → List (List ℤ) → Option Multipliers → Type 0
IsReach n rows None = HasPoint n rows
IsReach n rows (Some by) = Shows rows (bottom_row n) by × (by.scale ≡ pos 0)

module _ (expression : ℕ → Tree → List ℤ) (p : Listing) (rows : ℕ → List (List ℤ)) where
  -- the held call is the call b of the clause k
  pub record IsHeldBy (k : Clause) (b : Atom) (own : OwnCall) : Type 0 where
    pub there : slice_get p.clauses (own.clause - 1) ≡ Some k
    pub first : 1 ≤ own.clause
    pub at : slice_get k.body (own.call - 1) ≡ Some b
    pub one : 1 ≤ own.call
    pub caller : own.caller.0 ≡ k.head.pred.0
    pub callee : own.callee.0 ≡ b.pred.0
    pub caller_sizes : plain_rows own.caller_sizes.list ≡ map (expression k.vars) k.head.args
    pub callee_sizes : plain_rows own.callee_sizes.list ≡ map (expression k.vars) b.args
    pub natural : (x : ℕ) → x < suc k.vars → AreSizes x own.caller_sizes × AreSizes x own.callee_sizes
    pub columns : AreFallColumns (map (expression k.vars) k.head.args) (map (expression k.vars) b.args) k.vars own.columns.items
    pub before : plain_rows own.rows.list ≡ system expression rows k.vars (take (own.call - 1) k.body)
    pub width : own.rows.width ≡ k.vars
    pub widths : HaveWidth k.vars own.rows.list
    pub fit : (r : List ℤ) → In r (plain_rows own.rows.list) → row_fits r ≡ true
    pub reach : IsReach k.vars (plain_rows own.rows.list) own.empty

  abbrev pub IsHeld : OwnCall → Type 0
  IsHeld own = IsHeldBy (clause_at p own.clause) (call_at p own.clause own.call) own

  -- the call j of the clause k is held
  abbrev pub IsHeldAs : ℕ → ℕ → OwnCall → Type 0
  IsHeldAs k j own = (own.clause ≡ k) × (own.call ≡ j) × IsHeld own

  -- a row before the call j of the clause k does not fit, or the test whether these rows are empty is blown
  abbrev pub IsGivenUp : ℕ → ℕ → Type 0
  IsGivenUp k j =
      ((r : List ℤ) × In r (system expression rows (clause_at p k).vars (take (j - 1) (clause_at p k).body)) × (row_fits r ≡ false))
      ⊎ TestIsBlown (clause_at p k).vars (system expression rows (clause_at p k).vars (take (j - 1) (clause_at p k).body)) (bottom_row (clause_at p k).vars)

  module _ (comps : Partition) (c : ℕ) where
    -- the call of a pair of numbers, in the words of the view
    abbrev pub recalled_at : ℕ × ℕ → Recalled
    recalled_at pair = record {
      rule = rule_of (size_claims expression p comps rows) c itself (clause_at p pair.0);
      place = pair.1 - 1;
      call = view.call_of (size_claims expression p comps rows) c itself (call_at p pair.0 pair.1);
      member = (call_at p pair.0 pair.1).pred.0;
    }

-- the numbers of a held call
abbrev pub numbers_of_call : OwnCall → ℕ × ℕ
numbers_of_call own = (own.clause, own.call)

-- the calls that can be reached
abbrev pub with_live : Option Multipliers → OwnCall → List OwnCall → List OwnCall
with_live None own rest = own ∷ rest
with_live (Some by) own rest = rest

abbrev pub live_of : List OwnCall → List OwnCall
live_of [] = []
live_of (own ∷ owns) = with_live own.empty own (live_of owns)
