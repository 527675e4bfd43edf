-- Queries over an open predicate end, by a number that depends on the world.
use Rattle.std.proofs.Common.{◌≡◌, ℕ, zero, suc, ◌+◌, ◌<◌, ℤ, pos, ◌≤ℤ◌, Bool, true, false, ◌&&◌, ◌||◌, List, [], ◌∷◌, ◌++◌, map, length, replicate, ◌≢◌, slice_get, Some, refl, ap, sym, subst, ◌∙◌, arith, inl}
use Rattle.std.proofs.lemmas.Bool.{and_parts}
use Rattle.std.proofs.lemmas.Int.{ints}
use Rattle.std.specs.List.{AllByRecursion, AllPairs, slice_index_or}
use Rattle.cti_terms.specs.declared.predicates.Pred.{Pred}
use Rattle.cti_terms.specs.Tree.{Tree, Variable, Integer, Compound, size, truth}
use Rattle.cti_terms.specs.declared.atom_list.Atom.{Atom}
use Rattle.cti_terms.specs.Listing.{IsProgram}
use Rattle.cti_terms.specs.Unify.{none, bind, split, occurs, Bound, first_step, applied}
use Rattle.cti_terms.specs.Resolve.{over}
use Rattle.cti_terms.specs.ResolutionStep.{Leaves}
use Rattle.cti_terms.specs.Worlds.{Answer, World, IsDerivationAfter}
use Rattle.cti_terms.proofs.ResolveLaws.{resolve_complete}
use Rattle.cti_terms.proofs.Unifier.{only_same}
use Rattle.termination_model.specs.sizes.Rows.{IsUpper, Covers}
use Rattle.termination_model.specs.grounds.Grounds.{truth_row}
use Rattle.termination_model.specs.claims.Claims.{Admits, Descends, FallsOn, KeepsRule, Serves, Shows}
use Rattle.termination_model.specs.claims.Descent.{mode_row}
use Rattle.termination_model.specs.claims.StatedFacts.{Keeps, Takes}
use Rattle.termination_model.specs.examples.Gen.{atom_of, numeral, p_clause, q_clause, gen_program, first_of, gen_rows, is_gen, gen_facts, q_size, q_rigid, gen_measure, gen_claims, GenEnds, numeral_for, gives, GenHasNoNumber}
use Rattle.termination_model.proofs.SystemPoints.{dot_total}
use Rattle.term_size.specs.TermSize.{is_a_norm}
use Rattle.termination_model.proofs.WorldQuery.{rows_end_in}

-- the name of the predicate of a number is that number
named : (i : ℕ) (a : Pred) → i < 3 → (slice_index_or gen_program.preds i a).name.0 ≡ i
named zero a h = refl
named (suc zero) a h = refl
named (suc (suc zero)) a h = refl
named (suc (suc (suc i))) a h = absurd (omega arith)

distinct : AllPairs (λ (q r : Pred). q ≢ r) gen_program.preds
distinct i j d lt to same = absurd (omega (arith, named i d (omega arith), named j d to, ap (λ (q : Pred). q.name.0) same))

is_program : IsProgram gen_program
is_program = record {
  arities = (omega arith, (omega arith, (omega arith, tt)));
  distinct = distinct;
  clauses = (
    record { head = record { arity = refl; below = (refl, tt) }; body = (record { arity = refl; below = (refl, tt) }, (record { arity = refl; below = (refl, tt) }, tt)); few = omega arith; small = omega arith; short = omega arith },
    (record { head = record { arity = refl; below = (refl, tt) }; body = (record { arity = refl; below = (refl, tt) }, tt); few = omega arith; small = omega arith; short = omega arith }, tt),
  );
  preds_fit = omega arith;
  clauses_fit = omega arith;
  binary = λ q b is. cc;
  ordinary = (refl, (refl, tt));
}

falls : (j : ℕ) (b : Atom) → slice_get q_clause.body j ≡ Some b → FallsOn gen_claims q_clause [] b 0 gen_measure.mappings
falls zero b e =
    let same : atom_of 1 (Variable 0) ≡ b = cc in
    subst (λ (x : Atom). FallsOn gen_claims q_clause [] x 0 gen_measure.mappings) same
    (λ t w h l on. subst (λ (z : ℤ). pos 0 ≤ℤ z) (sym (dot_total (0 ∷ 0 ∷ []) (t ∷ w))) (omega (arith, ints)))
falls (suc j) b e = cc

p_descends : Descends gen_claims gen_measure p_clause
p_descends zero b e same = let is : atom_of 0 (Variable 1) ≡ b = cc in let at = ap (λ (x : Atom). x.pred.0) is in absurd (omega (arith, at, same))
p_descends (suc zero) b e same = let is : atom_of 1 (Variable 1) ≡ b = cc in let at = ap (λ (x : Atom). x.pred.0) is in absurd (omega (arith, at, same))
p_descends (suc (suc j)) b e same = cc

q_descends : Descends gen_claims gen_measure q_clause
q_descends zero b e same = (0, falls zero b e)
q_descends (suc j) b e same = cc

upper_first : (v : Bool) (us : List Bool) → v ≡ true → IsUpper us (v ∷ []) → first_of us ≡ true
upper_first v [] t h = absurd h
upper_first v (u ∷ us) t h = h.0 t

p_rule : KeepsRule gen_claims gen_measure p_clause
p_rule v head zero b e all =
    let is : atom_of 0 (Variable 1) ≡ b = cc in
    subst (λ (x : Atom). (x.pred.0 ≡ 2 → q_rigid x.pred.0 (truth_row truth v x) ≡ true) × (x.pred.0 < 2 → Admits gen_claims x.pred.0 (truth_row truth v x))) is
    (λ same. absurd (omega arith), λ less. inl (λ us h. refl))
p_rule v head (suc zero) b e all =
    let is : atom_of 1 (Variable 1) ≡ b = cc in
    subst (λ (x : Atom). (x.pred.0 ≡ 2 → q_rigid x.pred.0 (truth_row truth v x) ≡ true) × (x.pred.0 < 2 → Admits gen_claims x.pred.0 (truth_row truth v x))) is
    (λ same. absurd (omega arith), λ less. inl (λ us h. upper_first (v 1) us all.0 h))
p_rule v head (suc (suc j)) b e all = cc

q_rule : KeepsRule gen_claims gen_measure q_clause
q_rule v head zero b e all =
    let is : atom_of 1 (Variable 0) ≡ b = cc in
    subst (λ (x : Atom). (x.pred.0 ≡ 1 → q_rigid x.pred.0 (truth_row truth v x) ≡ true) × (x.pred.0 < 1 → Admits gen_claims x.pred.0 (truth_row truth v x))) is
    (λ same. (and_parts (v 0) true head).0, λ less. absurd (omega arith))
q_rule v head (suc j) b e all = cc

covers : (q : ℕ) (bs : List Bool) → q_rigid q bs ≡ true → Covers (q_size q) bs
covers zero bs h = tt
covers (suc zero) [] h = tt
covers (suc zero) (b ∷ bs) h = (λ _. h, tt)
covers (suc (suc i)) bs h = tt

serves : (r : ℕ) → Serves gen_program gen_claims r gen_measure
serves r = record {
  covered = λ q bs same h. (covers q bs h, tt);
  descends = (λ same. p_descends, (λ same. q_descends, tt));
  rule = (λ same. p_rule, (λ same. q_rule, tt));
}

shows : Shows gen_program gen_claims
shows = record {
  norm = is_a_norm;
  ranked = ((omega arith, (omega arith, tt)), ((omega arith, tt), tt));
  inductive = (λ s h. tt, (λ s h. tt, tt));
  closed = record { clauses = (λ v h. refl, (λ v h. refl, tt)); builtins = λ q b is. cc };
  stated = λ q b is. cc;
  measures = λ r. (serves r, tt);
}

upper_none : (i : ℕ) (bs : List Bool) → IsUpper bs (mode_row [] i (length bs))
upper_none i [] = tt
upper_none i (b ∷ bs) = (λ e. absurd (let f : false ≡ true = e in cc), upper_none (suc i) bs)

takes : Takes gen_claims gen_facts
takes = record { rows = λ q o. refl; grounds = λ q o. refl; modes = λ r. (λ q bs same o pre. inl (upper_none 1 bs), tt) }

pub gen_ends : GenEnds
gen_ends w agrees t n = rows_end_in gen_program gen_claims gen_facts w is_program shows takes agrees (atom_of 2 t) n refl (inl (λ us h. refl))

-- ---- the worlds

numeral_rigid : (k : ℕ) (v : ℕ → Bool) → truth v (numeral k) ≡ true
numeral_rigid zero v = refl
numeral_rigid (suc k) v = ap (λ b. b && true) (numeral_rigid k v)

numeral_closed : (k x : ℕ) → occurs x (numeral k) ≡ false
numeral_closed zero x = refl
numeral_closed (suc k) x = ap (λ b. b || false) (numeral_closed k x)

row_there : (q : ℕ) (b : Bool) (bs : List Bool) → b ≡ true → gen_rows q (b ∷ bs) ≡ true
row_there zero b bs h = h
row_there (suc q) b bs h = refl

kept : (k n : ℕ) (a : Atom) (ts : List Tree) → a.args ≡ ts → AllByRecursion (λ (r : Answer). Keeps size truth gen_facts (over (applied r.0) a)) (numeral_for k n ts)
kept k n a [] e = tt
kept k n a (Variable x ∷ ts) e = (
  record {
    sized = λ s. tt;
    grounded = λ v. subst (λ (us : List Tree). gen_rows a.pred.0 (map (truth v) (map (applied ((x, numeral k) ∷ [])) us)) ≡ true) (sym e)
        (row_there a.pred.0 (truth v (applied ((x, numeral k) ∷ []) (Variable x))) (map (truth v) (map (applied ((x, numeral k) ∷ [])) ts)) (ap (truth v) (only_same x (numeral k)) ∙ numeral_rigid k v));
  },
  tt,
)
kept k n a (Integer i ∷ ts) e = tt
kept k n a (Compound f us ∷ ts) e = tt

bound_step : (k x : ℕ) → first_step (numeral k) (Variable x) ≡ Bound x (numeral k)
bound_step zero x = refl
bound_step (suc k) x = rw (numeral_closed (suc k) x) refl

down : (world : World) (k m : ℕ) (past : List ℕ) → IsDerivationAfter gen_program is_gen world past (record { atoms = atom_of 1 (numeral k) ∷ []; fresh = m }) (replicate k 2)
down world zero m past = tt
down world (suc k) m past = (
  (0 + m, numeral k) ∷ [],
  record { atoms = atom_of 1 (numeral k) ∷ []; fresh = m + 1 },
  resolve_complete gen_program (record { atoms = atom_of 1 (numeral (suc k)) ∷ []; fresh = m }) 2 ((0 + m, numeral k) ∷ []) (record { atoms = atom_of 1 (numeral k) ∷ []; fresh = m + 1 }) leaves,
  down world k (m + 1) (past ++ 2 ∷ []),
)
  where
    leaves : Leaves (atom_of 1 (numeral (suc k))) [] m q_clause ((0 + m, numeral k) ∷ []) (record { atoms = atom_of 1 (numeral k) ∷ []; fresh = m + 1 })
    leaves = record {
      pred = refl;
      unifies = split refl (bind (bound_step k (0 + m)) none);
      atoms = ap (λ (t : Tree). atom_of 1 t ∷ []) (sym (only_same (0 + m) (numeral k)));
      fresh = refl;
    }

length-replicate : (k x : ℕ) → length (replicate k x) ≡ k
length-replicate zero x = refl
length-replicate (suc k) x = ap suc (length-replicate k x)

pub gen_has_no_number : GenHasNoNumber
gen_has_no_number k = (
  λ past n a arity o. kept k n a a.args refl,
  (1 ∷ 1 ∷ replicate k 2, (_, _, refl, (_, _, refl, down (gives k) k 3 _)), omega (arith, length-replicate k 2)),
)
