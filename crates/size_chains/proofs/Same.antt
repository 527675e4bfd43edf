-- Rows that agree on the predicates of atoms give the same systems.
use Rattle.std.proofs.Common.{◌≡◌, ℕ, ℤ, inl, inr, List, [], ◌∷◌, ◌++◌, map, refl, ap}
use Rattle.cti_terms.specs.declared.atom_list.Atom.{Atom}
use Rattle.cti_terms.specs.declared.clauses.Clause.{Clause}
use Rattle.linear_rows.specs.Members.{In}
use Rattle.size_chains.specs.Systems.{Systems, body_of, missing, system, widened}

pub same_system : (systems : Systems) (rows new : ℕ → List (List ℤ)) (k : Clause) (bs : List Atom) → ((b : Atom) → In b bs → new b.pred.0 ≡ rows b.pred.0) → system systems new k bs ≡ system systems rows k bs
same_system systems rows new k [] h = refl
same_system systems rows new k (b ∷ bs) h =
    let here = h b (inl refl) in
    let more = same_system systems rows new k bs (λ x i. h x (inr i)) in
    λ i. map (systems.over k b) (here i) ++ more i

pub same_body : (systems : Systems) (rows new : ℕ → List (List ℤ)) (k : Clause) → ((b : Atom) → In b k.body → new b.pred.0 ≡ rows b.pred.0) → body_of systems new k ≡ body_of systems rows k
same_body systems rows new k h = ap (map (widened (missing (systems.heads k)))) (same_system systems rows new k k.body h)
