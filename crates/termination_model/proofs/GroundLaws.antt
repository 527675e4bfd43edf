-- Laws of closed families.
use Rattle.std.proofs.Common.{◌↔◌, ℕ, Bool, IsTrue, List, [], ◌∷◌}
use Rattle.std.specs.List.{AllByRecursion}
use Rattle.cti_terms.specs.Tree.{Tree}
use Rattle.cti_terms.specs.declared.atom_list.Atom.{Atom}
use Rattle.cti_terms.specs.declared.clauses.Clause.{Clause}
use Rattle.cti_terms.specs.Listing.{Listing}
use Rattle.termination_model.specs.grounds.Grounds.{Family, truth_row, IsGround, IsClosedUnder, IsClosed, IsInEachClosed, IsLeast, InEachClosedIsClosed}

-- what follows from a fact of each element
pub all_map : {X : Type 0} (P Q : X → Type 0) → ((x : X) → P x → Q x) → (xs : List X) → AllByRecursion P xs → AllByRecursion Q xs
all_map P Q f [] h = tt
all_map P Q f (x ∷ xs) h = (f x h.0, all_map P Q f xs h.1)

module _ (truth : (ℕ → Bool) → Tree → Bool) where
  each : (p : Listing) (ks : List Clause) → ((family : Family) → IsClosed truth p family → AllByRecursion (IsClosedUnder truth family) ks)
      → AllByRecursion (λ (k : Clause). (v : ℕ → Bool) → AllByRecursion (λ (b : Atom). IsInEachClosed truth p b.pred.0 (truth_row truth v b)) k.body → IsInEachClosed truth p k.head.pred.0 (truth_row truth v k.head)) ks
  each p [] h = tt
  each p (k ∷ ks) h = (
    λ v body family closed. (h family closed).0 v (all_map (λ (b : Atom). IsInEachClosed truth p b.pred.0 (truth_row truth v b)) (IsGround truth family v) (λ b inside. inside family closed) k.body body),
    each p ks (λ family closed. (h family closed).1),
  )

  pub in_each_is_closed : (p : Listing) → InEachClosedIsClosed truth p
  in_each_is_closed p = record {
    clauses = each p p.clauses (λ family closed. closed.clauses);
    builtins = λ q b is family closed. closed.builtins q b is;
  }

  pub least_where : (p : Listing) (family : Family) → IsLeast truth p family ↔ (IsClosed truth p family × ((q : ℕ) (row : List Bool) → IsTrue (family q row) → IsInEachClosed truth p q row))
  least_where p family = (
    λ l. (l.closed, λ q row h other closed. l.least other closed q row h),
    λ h. record { closed = h.0; least = λ other closed q row t. h.1 q row t other closed },
  )

  pub least_exact : (p : Listing) (family : Family) → IsLeast truth p family → (q : ℕ) (row : List Bool) → IsTrue (family q row) ↔ IsInEachClosed truth p q row
  least_exact p family l q row = (λ h other closed. l.least other closed q row h, λ h. h family l.closed)
