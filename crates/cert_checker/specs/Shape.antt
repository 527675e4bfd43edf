-- To believe, for the command.
-- What the lists of a certificate's parts have: an element for each clause, predicate, call or row that they speak of.
--
-- This is what the structure of a certificate gives, before any number of it is tested.
use Rattle.std.specs.Prelude.{◌≡◌, ℕ, length, take, slice_get, Some}
use Rattle.std.specs.List.{AllByRecursion}
use Rattle.cti_terms.specs.Listing.{Listing}
use Rattle.cti_terms.specs.declared.atom_list.Atom.{Atom}
use Rattle.cti_terms.specs.declared.clauses.Clause.{Clause}
use Rattle.cti_terms.specs.declared.predicates.Pred.{Pred}
use Rattle.call_components.specs.Partition.{Partition}
use Rattle.number_tests.specs.declared.refutation.Refutation.{Refutation}
use Rattle.cert_structure.specs.declared.parts.Parts.{Parts}
use Rattle.termination_model.specs.sizes.Sizes.{rows_of}
use Rattle.linear_rows.specs.Showing.{AreMultipliers}
use Rattle.number_tests.specs.Shape.{IsLevelPart, IsPairOf, list_at, row_count}

-- two predicates are of one component
abbrev pub AreTogether : Partition → ℕ → ℕ → Type 0
AreTogether comps a b = slice_get comps.of a ≡ slice_get comps.of b

-- for each clause the multipliers of each size row of its head, over the rows of its whole body
pub record HaveRowProofs (p : Listing) (parts : Parts) : Type 0 where
  pub each : length parts.row_proofs ≡ length p.clauses
  pub rows : (k : ℕ) (c : Clause) → slice_get p.clauses k ≡ Some c → length (list_at parts.row_proofs k) ≡ length (rows_of parts.rows c.head.pred.0)
  pub multipliers : (k : ℕ) (c : Clause) → slice_get p.clauses k ≡ Some c → AllByRecursion (AreMultipliers (row_count (rows_of parts.rows) c.body)) (list_at parts.row_proofs k)

-- for each predicate its parts of its component's mappings, which are as many for each member
pub record HaveLevels (p : Listing) (comps : Partition) (parts : Parts) : Type 0 where
  pub each : length parts.levels ≡ length p.preds
  pub naturals : (q : ℕ) (d : Pred) → slice_get p.preds q ≡ Some d → AllByRecursion (IsLevelPart d.arity) (list_at parts.levels q)
  pub members : (a b : ℕ) → AreTogether comps a b → length (list_at parts.levels a) ≡ length (list_at parts.levels b)

-- for each clause and each call of its own component the multipliers for each mapping, over the rows of the atoms
-- before
pub record HaveFalls (p : Listing) (comps : Partition) (parts : Parts) : Type 0 where
  pub each : length parts.falls ≡ length p.clauses
  pub calls : (k : ℕ) (c : Clause) → slice_get p.clauses k ≡ Some c → length (list_at parts.falls k) ≡ length c.body
  pub mappings : (k j : ℕ) (c : Clause) (b : Atom) → slice_get p.clauses k ≡ Some c → slice_get c.body j ≡ Some b → AreTogether comps c.head.pred.0 b.pred.0
      → length (list_at (list_at parts.falls k) j) ≡ length (list_at parts.levels c.head.pred.0)
  pub multipliers : (k j : ℕ) (c : Clause) (b : Atom) → slice_get p.clauses k ≡ Some c → slice_get c.body j ≡ Some b → AreTogether comps c.head.pred.0 b.pred.0
      → AllByRecursion (AreMultipliers (row_count (rows_of parts.rows) (take j c.body))) (list_at (list_at parts.falls k) j)

-- for each predicate a refutation or none, with points of pairs
pub record HaveRefutations (p : Listing) (parts : Parts) : Type 0 where
  pub each : length parts.refutations ≡ length p.preds
  pub pairs : (q : ℕ) (r : Refutation) → slice_get parts.refutations q ≡ Some (Some r) → AllByRecursion (IsPairOf p) r.points
