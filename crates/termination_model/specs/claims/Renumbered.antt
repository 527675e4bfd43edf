-- Private.
-- To believe, for modes over stated facts.
-- Claims of a program whose predicates have other numbers, and whose terms have other names.
--
-- Two files that are read apart number their predicates and names apart. Before they are joined, one is renumbered into
-- the table of both. Its claims go along.
--
-- To believe: `clause_to`; `claims_to` where the modes are wanted.
use Rattle.std.specs.Prelude.{◌≡◌, ℕ, ℤ, Bool, List, map, Some}
use Rattle.cti_terms.specs.Tree.{Tree}
use Rattle.cti_terms.specs.declared.atom_list.Atom.{Atom}
use Rattle.cti_terms.specs.declared.builtins.Builtin.{Builtin}
use Rattle.cti_terms.specs.declared.clauses.Clause.{Clause}
use Rattle.cti_terms.specs.Arithmetic.{kind_of}
use Rattle.cti_terms.specs.Listing.{Listing}
use Rattle.term_size.specs.Norm.{IsNorm}
use Rattle.termination_model.specs.claims.Claims.{Mapping, Measure, Claims, Admits, Shows}
use Rattle.termination_model.specs.claims.StatedFacts.{Stated, Takes}

module _ (to : ℕ → ℕ) (renamed : Tree → Tree) where
  abbrev pub atom_to : Atom → Atom
  atom_to a = record { pred = record { 0 = to a.pred.0 }; args = map renamed a.args }

  abbrev pub clause_to : Clause → Clause
  clause_to k = record { head = atom_to k.head; body = map atom_to k.body; vars = k.vars }

module _ (from : ℕ → ℕ) where
  abbrev pub mapping_to : Mapping → Mapping
  mapping_to l = record { coefficients = λ i. l.coefficients (from i); offset = λ i. l.offset (from i) }

  abbrev pub measure_to : Measure → Measure
  measure_to m = record { mappings = map mapping_to m.mappings; pre = λ i. m.pre (from i) }

  -- the claims at the earlier numbers, with a norm for the renamed terms
  abbrev pub claims_to : ((ℕ → ℕ) → Tree → ℕ) → ((ℕ → Bool) → Tree → Bool) → (ℕ → Tree → List ℤ) → Claims → Claims
  claims_to size truth expression c = record {
    size = size;
    truth = truth;
    rank = λ i. c.rank (from i);
    expression = expression;
    rows = λ i. c.rows (from i);
    grounds = λ i. c.grounds (from i);
    measures = λ r. map measure_to (c.measures r);
  }

-- q is p with other numbers, and the norm measures a renamed term as c's measures the term
pub record Renumbers (to from : ℕ → ℕ) (renamed : Tree → Tree) (size : (ℕ → ℕ) → Tree → ℕ) (truth : (ℕ → Bool) → Tree → Bool) (expression : ℕ → Tree → List ℤ)
    (p q : Listing) (c : Claims) : Type 0 where
  pub inverse : (i : ℕ) → from (to i) ≡ i
  pub clauses : q.clauses ≡ map (clause_to to renamed) p.clauses
  pub builtins : (i : ℕ) (b : Builtin) → kind_of q.arithmetic i ≡ Some b → kind_of p.arithmetic (from i) ≡ Some b
  pub norm : IsNorm size truth expression
  pub size_to : (s : ℕ → ℕ) (t : Tree) → size s (renamed t) ≡ c.size s t
  pub truth_to : (v : ℕ → Bool) (t : Tree) → truth v (renamed t) ≡ c.truth v t
  pub expression_to : (n : ℕ) (t : Tree) → expression n (renamed t) ≡ c.expression n t

-- the claims show for the program with other numbers, and admit the same rows
abbrev pub RenumberedShow : Type 0
RenumberedShow = (to from : ℕ → ℕ) (renamed : Tree → Tree) (size : (ℕ → ℕ) → Tree → ℕ) (truth : (ℕ → Bool) → Tree → Bool) (expression : ℕ → Tree → List ℤ)
    (p q : Listing) (c : Claims) → Renumbers to from renamed size truth expression p q c → Shows p c → Shows q (claims_to from size truth expression c)

abbrev pub RenumberedAdmit : Type 0
RenumberedAdmit = (from : ℕ → ℕ) (size : (ℕ → ℕ) → Tree → ℕ) (truth : (ℕ → Bool) → Tree → Bool) (expression : ℕ → Tree → List ℤ)
    (c : Claims) (i : ℕ) (bs : List Bool) → Admits c (from i) bs → Admits (claims_to from size truth expression c) i bs

-- stated facts at the earlier numbers, which the claims take too
abbrev pub facts_to : (ℕ → ℕ) → Stated → Stated
facts_to from f = record { is_open = λ i. f.is_open (from i); rows = λ i. f.rows (from i); grounds = λ i. f.grounds (from i); modes = λ i. f.modes (from i) }

abbrev pub RenumberedTake : Type 0
RenumberedTake = (from : ℕ → ℕ) (size : (ℕ → ℕ) → Tree → ℕ) (truth : (ℕ → Bool) → Tree → Bool) (expression : ℕ → Tree → List ℤ)
    (c : Claims) (f : Stated) → Takes c f → Takes (claims_to from size truth expression c) (facts_to from f)
