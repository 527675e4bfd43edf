-- Append's queries end.
use Rattle.std.proofs.Common.{◌≡◌, ℕ, zero, suc, ℤ, pos, ◌≤ℤ◌, Bool, true, false, ◌&&◌, List, [], ◌∷◌, length, slice_get, Some, refl, sym, subst, arith, inl}
use Rattle.std.proofs.lemmas.Bool.{and_parts}
use Rattle.std.proofs.lemmas.Int.{ints}
use Rattle.cti_terms.specs.Tree.{Variable}
use Rattle.cti_terms.specs.declared.atom_list.Atom.{Atom}
use Rattle.cti_terms.specs.Listing.{IsProgram}
use Rattle.termination_model.specs.sizes.Rows.{IsUpper, Covers}
use Rattle.termination_model.specs.grounds.Grounds.{HasArity, truth_row}
use Rattle.termination_model.specs.claims.Claims.{Admits, Descends, FallsOn, Serves, Shows}
use Rattle.termination_model.specs.claims.Descent.{mode_row}
use Rattle.termination_model.specs.examples.Append.{append_of, append_cons, append, first, first_argument, append_claims, AppendEnds}
use Rattle.termination_model.proofs.SystemPoints.{dot_total}
use Rattle.term_size.specs.TermSize.{is_a_norm}
use Rattle.termination_model.proofs.Query.{modes_end}

is_program : IsProgram append
is_program = record {
  arities = (omega arith, tt);
  distinct = λ i j a b lt. absurd (omega arith);
  clauses = (
    record { head = record { arity = refl; below = (refl, (refl, (refl, tt))) }; body = tt; few = omega arith; small = omega arith; short = omega arith },
    (record { head = record { arity = refl; below = (refl, (refl, (refl, tt))) }; body = (record { arity = refl; below = (refl, (refl, (refl, tt))) }, tt); few = omega arith; small = omega arith; short = omega arith }, tt),
  );
  preds_fit = omega arith;
  clauses_fit = omega arith;
  binary = λ q b is. cc;
  ordinary = (refl, (refl, tt));
}

falls : (j : ℕ) (b : Atom) → slice_get append_cons.body j ≡ Some b → FallsOn append_claims append_cons [] b 0 first_argument.mappings
falls zero b e =
    let same : append_of (Variable 1) (Variable 2) (Variable 3) ≡ b = cc in
    subst (λ (x : Atom). FallsOn append_claims append_cons [] x 0 first_argument.mappings) same
    (λ t w h l on. subst (λ (z : ℤ). pos 0 ≤ℤ z) (sym (dot_total (0 ∷ 1 ∷ 0 ∷ 0 ∷ 0 ∷ []) (t ∷ w))) (omega (arith, ints)))
falls (suc j) b e = cc

descends : Descends append_claims first_argument append_cons
descends zero b e same = (0, falls zero b e)
descends (suc j) b e same = cc

rule : (v : ℕ → Bool) → first (truth_row append_claims.truth v append_cons.head) ≡ true → (j : ℕ) (b : Atom) → slice_get append_cons.body j ≡ Some b → first (truth_row append_claims.truth v b) ≡ true
rule v h zero b e =
    let same : append_of (Variable 1) (Variable 2) (Variable 3) ≡ b = cc in
    let xs : v 1 ≡ true = (and_parts (v 1) true (and_parts (v 0) (v 1 && true) h).1).0 in
    subst (λ (x : Atom). first (truth_row append_claims.truth v x) ≡ true) same xs
rule v h (suc j) b e = cc

covers : (bs : List Bool) → first bs ≡ true → Covers (1 ∷ []) bs
covers [] h = tt
covers (b ∷ bs) h = (λ _. h, tt)

serves : (r : ℕ) → Serves append append_claims r first_argument
serves r = record {
  covered = λ q bs same h. (covers bs h, tt);
  descends = (λ same j b e. λ _. cc, (λ same. descends, tt));
  rule = (λ same v h j b e all. cc, (λ same v h j b e all. (λ _. rule v h j b e, λ l. absurd (omega arith)), tt));
}

shows : Shows append append_claims
shows = record {
  norm = is_a_norm;
  ranked = (tt, ((omega arith, tt), tt));
  inductive = (λ s h. tt, (λ s h. tt, tt));
  closed = record { clauses = (λ v h. refl, (λ v h. refl, tt)); builtins = λ q b is. cc };
  stated = λ q b is. cc;
  measures = λ r. (serves r, tt);
}

upper_first : (us : List Bool) → IsUpper us (true ∷ false ∷ false ∷ []) → first us ≡ true
upper_first [] h = absurd h
upper_first (u ∷ us) h = h.0 refl

pub append_ends : AppendEnds
append_ends a n pred count meets =
    modes_end append append_claims is_program shows a n
    (subst (λ (q : ℕ). HasArity append.preds q (length a.args)) (sym pred) (sym count))
    (1 ∷ [])
    (subst (λ (k : ℕ). Admits append_claims a.pred.0 (mode_row (1 ∷ []) 1 k)) (sym count) (inl upper_first))
    meets
