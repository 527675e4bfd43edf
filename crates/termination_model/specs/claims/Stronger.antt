-- Private.
-- To believe, for modes over stated facts.
-- Claims with stronger facts of predicates that head no clause, as open and built-in ones.
--
-- What was shown over some facts holds over stronger ones: so where a file that is called has new claims, those of its
-- callers need not be shown anew, and two programs need not have taken the same facts of what both call.
--
-- To believe: `with_facts`, `IsStronger`.
use Rattle.std.specs.Prelude.{◌≡◌, ℕ, ℤ, Bool, true, List}
use Rattle.std.specs.List.{AllByRecursion}
use Rattle.cti_terms.specs.declared.clauses.Clause.{Clause}
use Rattle.cti_terms.specs.Listing.{Listing}
use Rattle.linear_rows.specs.Members.{In}
use Rattle.termination_model.specs.grounds.Grounds.{Family, HasBuiltins}
use Rattle.termination_model.specs.sizes.Stated.{AreStated}
use Rattle.termination_model.specs.claims.Claims.{Claims, Shows}

-- the claims with other size rows and ground rows
abbrev pub with_facts : (ℕ → List (List ℤ)) → Family → Claims → Claims
with_facts rows grounds c = record { size = c.size; truth = c.truth; rank = c.rank; expression = c.expression; rows = rows; grounds = grounds; measures = c.measures }

-- at least the size rows, at most the ground rows, and the same of each predicate that heads a clause
pub record IsStronger (p : Listing) (c : Claims) (rows : ℕ → List (List ℤ)) (grounds : Family) : Type 0 where
  pub more : (i : ℕ) (r : List ℤ) → In r (c.rows i) → In r (rows i)
  pub fewer : (i : ℕ) (bs : List Bool) → grounds i bs ≡ true → c.grounds i bs ≡ true
  pub heads : AllByRecursion (λ (k : Clause). (rows k.head.pred.0 ≡ c.rows k.head.pred.0) × (grounds k.head.pred.0 ≡ c.grounds k.head.pred.0)) p.clauses
  pub builtins : HasBuiltins p.arithmetic grounds
  pub stated : AreStated p.arithmetic rows

abbrev pub StrongerShow : Type 0
StrongerShow = (p : Listing) (c : Claims) (rows : ℕ → List (List ℤ)) (grounds : Family) → IsStronger p c rows grounds → Shows p c → Shows p (with_facts rows grounds c)
