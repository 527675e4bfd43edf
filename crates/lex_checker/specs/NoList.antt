-- Private.
-- What a certificate's stuck sets mean: no list of mappings of the component drops at each of its calls, for the
-- printed size rows.
--
-- To believe: all of this file.
use Rattle.std.specs.Prelude.{◌≡◌, ℕ, zero, suc, ℤ, pos, negsuc, List, [], ◌∷◌, take, slice_get, Some}
use Rattle.call_components.specs.Partition.{Partition, AreComponents, IsIn}
use Rattle.cert_checker.specs.Refutes.{level_by}
use Rattle.cti_terms.specs.Listing.{Listing}
use Rattle.cti_terms.specs.Tree.{Tree}
use Rattle.cti_terms.specs.declared.atom_list.Atom.{Atom}
use Rattle.cti_terms.specs.declared.clauses.Clause.{Clause}
use Rattle.lex_certificate.specs.Structure.{IsStructured}
use Rattle.lex_certificate.specs.declared.fact.LexFact.{LexFact}
use Rattle.lex_certificate.specs.declared.parts.LexParts.{LexParts}
use Rattle.linear_rows.specs.Rows.{HoldsOn}
use Rattle.number_tests.specs.declared.refutation.Refutation.{Refutation}
use Rattle.term_size.specs.Occurrences.{size_row}
use Rattle.termination_model.specs.claims.Claims.{Mapping}
use Rattle.termination_model.specs.sizes.Rows.{scaled, added}
use Rattle.termination_model.specs.sizes.Sizes.{rows_of}
use Rattle.termination_model.specs.sizes.Systems.{system}

module _ (expression : ℕ → Tree → List ℤ) where
  -- the level of a clause's head, less that of a call and less d
  abbrev pub drop_by : Clause → Atom → ℕ → Mapping → List ℤ
  drop_by c b d l = added (level_by expression c.vars l c.head) (scaled (negsuc 0) (added (level_by expression c.vars l b) (pos d ∷ [])))

  -- where the rows hold, place i of the list falls from the head to the call, and none before it rises
  abbrev pub DropsAt : List (List ℤ) → Clause → Atom → ℕ → List Mapping → Type 0
  DropsAt rows c b i [] = ⊥
  DropsAt rows c b zero (l ∷ ls) = HoldsOn (suc c.vars) rows (drop_by c b 1 l)
  DropsAt rows c b (suc i) (l ∷ ls) = HoldsOn (suc c.vars) rows (drop_by c b 0 l) × DropsAt rows c b i ls

  -- the list drops at each call of the component r: where the size rows of the atoms before it hold
  abbrev pub ListDrops : Listing → Partition → (ℕ → List (List ℤ)) → ℕ → List Mapping → Type 0
  ListDrops p comps rows r ls =
      (k : ℕ) (c : Clause) → slice_get p.clauses k ≡ Some c → IsIn comps r c.head.pred.0
      → (j : ℕ) (b : Atom) → slice_get c.body j ≡ Some b → IsIn comps r b.pred.0
      → (i : ℕ) × DropsAt (system expression rows c.vars (take j c.body)) c b i ls

-- no list of a component with a stuck set drops
abbrev pub StuckHaveNoList : Listing → Partition → LexParts → Type 0
StuckHaveNoList p comps parts =
    (q r : ℕ) (f : Refutation) → slice_get parts.stuck q ≡ Some (Some f) → IsIn comps r q → (ls : List Mapping) → ListDrops size_row p comps (rows_of parts.rows) r ls → ⊥

-- whatever partition into components is taken
abbrev pub StuckComponentsHaveNoList : Listing → List (List ℕ) → List LexFact → Type 0
StuckComponentsHaveNoList p names facts =
    (comps : Partition) (parts : LexParts) → AreComponents p comps → IsStructured p names comps parts facts → StuckHaveNoList p comps parts
