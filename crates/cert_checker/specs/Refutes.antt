-- To believe, for the command.
-- What a certificate's refutations mean: no mapping of the component falls at each of its calls, for the printed size
-- rows.
--
-- To believe: all of this file.
use Rattle.std.specs.Prelude.{◌≡◌, ℕ, suc, ℤ, pos, negsuc, List, [], ◌∷◌, map, take, slice_get, Some}
use Rattle.cti_terms.specs.Tree.{Tree}
use Rattle.cti_terms.specs.Listing.{Listing}
use Rattle.cti_terms.specs.declared.atom_list.Atom.{Atom}
use Rattle.cti_terms.specs.declared.clauses.Clause.{Clause}
use Rattle.call_components.specs.Partition.{Partition, AreComponents, IsIn}
use Rattle.certificate.specs.declared.fact.Fact.{Fact}
use Rattle.cert_structure.specs.Structure.{IsStructured}
use Rattle.cert_structure.specs.declared.parts.Parts.{Parts}
use Rattle.number_tests.specs.declared.refutation.Refutation.{Refutation}
use Rattle.linear_rows.specs.Rows.{HoldsOn}
use Rattle.term_size.specs.AnyNorm.{any_row}
use Rattle.termination_model.specs.claims.Claims.{Mapping}
use Rattle.termination_model.specs.sizes.Rows.{scaled, added}
use Rattle.termination_model.specs.sizes.Sizes.{rows_of}
use Rattle.termination_model.specs.sizes.Systems.{row_over, system}
use Rattle.cert_checker.specs.Norms.{norm_in}

module _ (expression : ℕ → Tree → List ℤ) where
  -- the level of an atom, over the given number of variables
  abbrev pub level_by : ℕ → Mapping → Atom → List ℤ
  level_by vars l a = row_over expression vars a.args (pos (l.offset a.pred.0) ∷ map pos (l.coefficients a.pred.0))

  -- the mapping falls at each call of the component r: where the size rows of the atoms before it hold
  abbrev pub MappingDecreases : Listing → Partition → (ℕ → List (List ℤ)) → ℕ → Mapping → Type 0
  MappingDecreases p comps rows r l =
      (k : ℕ) (c : Clause) → slice_get p.clauses k ≡ Some c → IsIn comps r c.head.pred.0
      → (j : ℕ) (b : Atom) → slice_get c.body j ≡ Some b → IsIn comps r b.pred.0
      → HoldsOn (suc c.vars) (system expression rows c.vars (take j c.body))
      (added (level_by c.vars l c.head) (scaled (negsuc 0) (added (level_by c.vars l b) (pos 1 ∷ []))))

-- no mapping of a component with a refutation decreases, whatever partition into components is taken
abbrev pub RefutedHaveNoMapping : Listing → List (List ℕ) → List Fact → Type 0
RefutedHaveNoMapping p names facts =
    (comps : Partition) (parts : Parts) → AreComponents p comps → IsStructured p names comps parts facts
    → (q r : ℕ) (f : Refutation) → slice_get parts.refutations q ≡ Some (Some f) → IsIn comps r q
    → (l : Mapping) → MappingDecreases (any_row (norm_in names parts.norm)) p comps (rows_of parts.rows) r l → ⊥
