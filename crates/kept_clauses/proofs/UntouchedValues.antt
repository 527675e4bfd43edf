-- Untouched predicates have the values that they had, where components that stand keep theirs.
use Rattle.std.proofs.Common.{◌≡◌, ℕ, zero, suc, ◌-◌, ◌<◌, inl, inr, Bool, true, false, cond, List, [], ◌∷◌, map, length, slice_get, slice_index_or, Option, None, Some, refl, ap, sym, ◌∙◌, subst, arith}
use Rattle.std.specs.Prelude.{filter}
use Rattle.std.specs.List.{AllByRecursion}
use Rattle.std.proofs.lemmas.Bool.{cases_eq}
use Rattle.call_components.specs.Partition.{Partition, AreComponents, IsIn}
use Rattle.cti_terms.specs.Arithmetic.{no_arithmetic}
use Rattle.cti_terms.specs.Listing.{Listing, IsOrdinary, IsProgram}
use Rattle.cti_terms.specs.declared.atom_list.Atom.{Atom}
use Rattle.cti_terms.specs.declared.clauses.Clause.{Clause}
use Rattle.cti_terms.specs.declared.predicates.Pred.{Pred}
use Rattle.termination_model.specs.chains.Chain.{is_member, clauses_of, component_of, counted, is_number}
use Rattle.linear_rows.specs.Members.{In}
use Rattle.linear_rows.proofs.Members.{in-filter}
use Rattle.termination_model.proofs.ChainLeaves.{body_before, call_is, number_is, of_counted}
use Rattle.termination_model.proofs.Lists.{place_below, there}
use Rattle.component_laws.specs.Renaming.{StandIn}
use Rattle.component_laws.specs.Untouched.{AreUntouched, IsKnown, NamedAtom, NamedClause, is_in, named, named_atom}
use Rattle.component_laws.proofs.LeastLaws.{number_of}
use Rattle.component_laws.proofs.NamedLaws.{pred_in}
use Rattle.component_laws.proofs.UntouchedLaws.{one_number, untouched_stand}
use Rattle.solved_program.specs.Kept.{IsEdit}
use Rattle.solved_program.specs.Standing.{AreSameCalls, AreSameClauses, IsSameCall, IsSameClause, StandsFor}
use Rattle.solved_program.specs.declared.edit.Edit.{Edit}
use Rattle.solved_program.proofs.Clauses.{in_at}
use Rattle.solved_program.proofs.Names.{finds_number, new_number}
use Rattle.kept_clauses.specs.AllKept.{AllKept, ArePairs, IsOfSet, IsWithoutClause, UntouchedHaveStayed, UntouchedOfSetHaveStayed, numbered_in}
use Rattle.kept_clauses.proofs.AllKeptLaws.{Numbered, own_among, own_counted, own_place}

-- ---- the program without what is built in: which components stand does not depend on that
abbrev bare : Listing → Listing
bare p = record { preds = p.preds; clauses = p.clauses; arithmetic = no_arithmetic }

all_ordinary : (ks : List Clause) → AllByRecursion (IsOrdinary no_arithmetic) ks
all_ordinary [] = tt
all_ordinary (k ∷ ks) = (refl, all_ordinary ks)

bare_program : (p : Listing) → IsProgram p → IsProgram (bare p)
bare_program p is = record {
  arities = is.arities;
  distinct = is.distinct;
  clauses = is.clauses;
  preds_fit = is.preds_fit;
  clauses_fit = is.clauses_fit;
  binary = λ q b e. cc;
  ordinary = all_ordinary p.clauses;
}

bare_components : (p : Listing) (comps : Partition) → AreComponents p comps → AreComponents (bare p) comps
bare_components p comps are = record {
  each = are.each;
  answers = are.answers;
  within = are.within;
  members = are.members;
  ascending = are.ascending;
  together = are.together;
  callees_first = are.callees_first;
  recursive = are.recursive;
}

bare_untouched : (p new : Listing) (set : Pred → Bool) → AreUntouched p new set → AreUntouched (bare p) (bare new) set
bare_untouched p new set un = record { before = un.before; after = un.after; same = un.same }

-- ---- lists
filter_twice : {X : Type 0} (s t : X → Bool) (xs : List X) → ((x : X) → t x ≡ true → s x ≡ true) → filter t xs ≡ filter t (filter s xs)
filter_twice s t [] h = refl
filter_twice {X = X} s t (x ∷ xs) h = go (s x) (t x) refl refl (filter_twice s t xs h)
  where
    go : (a b : Bool) → s x ≡ a → t x ≡ b → filter t xs ≡ filter t (filter s xs) → cond (t x) (x ∷ filter t xs) (filter t xs) ≡ filter t (cond (s x) (x ∷ filter s xs) (filter s xs))
    go true b e g more = (λ i. cond (t x) (x ∷ more i) (more i)) ∙ ap (λ (c : Bool). filter t (cond c (x ∷ filter s xs) (filter s xs))) (sym e)
    go false false e g more = (λ i. cond (g i) (x ∷ more i) (more i)) ∙ ap (λ (c : Bool). filter t (cond c (x ∷ filter s xs) (filter s xs))) (sym e)
    go false true e g more = let on_ = h x g in absurd (cc)

module _ {X : Type 0} (e : Edit) (set : Pred → Bool) (old now : ℕ → X) (prog : IsProgram e.before.now) (new_prog : IsProgram e.after.now) (edit : IsEdit e)
    (un : AreUntouched e.before.now e.after.now set) (all : AllKept e.before.now e.after.now set e.kept.now) where
  abbrev p : Listing
  p = e.before.now

  abbrev new : Listing
  new = e.after.now

  abbrev comps : Partition
  comps = e.components_before.now

  abbrev new_comps : Partition
  new_comps = e.components.now

  abbrev kept : List (Option ℕ)
  kept = e.kept.now

  abbrev f : ℕ → ℕ
  f = new_number p.preds new.preds

  -- a predicate of the set, in both programs
  abbrev Same : ℕ → ℕ → Type 0
  Same q r = (x : Pred) × (slice_get p.preds q ≡ Some x) × (slice_get new.preds r ≡ Some x) × (set x ≡ true)

  abbrev Known : ℕ → Type 0
  Known = IsKnown (bare p) (bare new) set

  known_of : (q r : ℕ) → Same q r → Known q
  known_of q r s = record { pred = s.0; number = r; here = s.1; there = s.2; among = s.3 }

  found : (q r : ℕ) → Same q r → f q ≡ r
  found q r s = finds_number p new new_prog q r s.0 s.1 s.2

  set_pred : (o : Option Pred) → is_in set o ≡ true → (x : Pred) × (o ≡ Some x) × (set x ≡ true)
  set_pred None h = cc
  set_pred (Some x) h = (x, refl, h)

  -- ---- one component
  module _ (b c q0 r0 : ℕ) (same0 : Same q0 r0) (in0 : IsIn comps b q0) (new_in0 : IsIn new_comps c r0) where
    stand : StandIn Known f (bare p) (bare new) (is_member comps b) (is_member new_comps c)
    stand = untouched_stand (bare p) (bare new) comps new_comps f set b c q0 r0 same0.0 (bare_program p prog) (bare_program new new_prog) (bare_components p comps edit.components_before)
        (bare_components new new_comps edit.components) (finds_number (bare p) (bare new) (bare_program new new_prog)) (bare_untouched p new set un) (λ q r x i j m. refl) same0.1 same0.2 same0.3 in0 new_in0

    same_member : (q r : ℕ) → Same q r → is_member new_comps c r ≡ is_member comps b q
    same_member q r s = ap (is_member new_comps c) (sym (found q r s)) ∙ stand.members q (known_of q r s)

    abbrev mine : Numbered → Bool
    mine k = is_number b (component_of comps k.1.head.pred.0)

    abbrev theirs : Numbered → Bool
    theirs l = is_number c (component_of new_comps l.1.head.pred.0)

    mine_in : (k : Numbered) → mine k ≡ true → is_in set (slice_get p.preds k.1.head.pred.0) ≡ true
    mine_in k m = let known = stand.known k.1.head.pred.0 m in ap (is_in set) known.here ∙ known.among

    theirs_in : (l : Numbered) → theirs l ≡ true → is_in set (slice_get new.preds l.1.head.pred.0) ≡ true
    theirs_in l m =
        let from = stand.from l.1.head.pred.0 m in
        let known = from.1 in
        let number : known.number ≡ l.1.head.pred.0 = sym (found from.0 known.number (known.pred, known.here, known.there, known.among)) ∙ from.3 in
        ap (λ (r : ℕ). is_in set (slice_get new.preds r)) (sym number) ∙ ap (is_in set) known.there ∙ known.among

    of_set : IsOfSet e set b c
    of_set r i =
        let from = stand.from r (number_is c (component_of new_comps r) i) in
        let known = from.1 in
        let number : known.number ≡ r = sym (found from.0 known.number (known.pred, known.here, known.there, known.among)) ∙ from.3 in
        (from.0, known.pred, known.here, ap (slice_get new.preds) (sym number) ∙ known.there, known.among, number_of b (component_of comps from.0) from.2)

    -- ---- calls
    module _ (before : (q r d : ℕ) → Same q r → IsIn new_comps d r → d < c → now r ≡ old q) where
      call_same : (q r d : ℕ) → Same q r → IsIn new_comps d r → d < suc c → IsSameCall comps new_comps b c old now q r
      call_same q r d s at lt = go (is_member comps b q) refl
        where
          out : (a : Bool) → is_member comps b q ≡ a → a ≡ false → IsIn comps b q → ⊥
          out a g h i = let on_ = number_is b (component_of comps q) i in absurd (cc)

          new_out : is_member new_comps c r ≡ false → IsIn new_comps c r → ⊥
          new_out g i = let on_ = number_is c (component_of new_comps r) i in absurd (cc)

          less : (IsIn new_comps c r → ⊥) → d < c
          less h = elim (cases_eq d c) [
            | inl is ↦ absurd (h (at ∙ ap Some is))
            | inr ne ↦ omega arith
          ]

          go : (a : Bool) → is_member comps b q ≡ a → IsSameCall comps new_comps b c old now q r
          go true g = inl (number_of b (component_of comps q) g, number_of c (component_of new_comps r) (same_member q r s ∙ g))
          go false g =
              let away = new_out (same_member q r s ∙ g) in
              inr (out false g refl, away, before q r d s at (less away))

      calls_same : (xs bs : List Atom) → map (named_atom p) xs ≡ map (named_atom new) bs
          → ((a : Atom) (x : Pred) → In a xs → slice_get p.preds a.pred.0 ≡ Some x → set x ≡ true)
          → ((a : Atom) → In a xs → (x : Pred) × (slice_get p.preds a.pred.0 ≡ Some x))
          → ((a : Atom) → In a bs → (d : ℕ) × (d < suc c) × (component_of new_comps a.pred.0 ≡ Some d))
          → AreSameCalls comps new_comps b c old now xs bs
      calls_same [] [] g among pred at = tt
      calls_same [] (x ∷ bs) g among pred at = absurd (cc)
      calls_same (x ∷ xs) [] g among pred at = absurd (cc)
      calls_same (x ∷ xs) (y ∷ bs) g among pred at =
          let first : named_atom p x ≡ named_atom new y = cc in
          let rest : map (named_atom p) xs ≡ map (named_atom new) bs = cc in
          let own = pred x (inl refl) in
          let there_too : slice_get new.preds y.pred.0 ≡ Some own.0 = sym (ap (λ (n : NamedAtom). n.pred) first) ∙ own.1 in
          let same : Same x.pred.0 y.pred.0 = (own.0, own.1, there_too, among x own.0 (inl refl) own.1) in
          let place = at y (inl refl) in
          (call_same x.pred.0 y.pred.0 place.0 same place.2 place.1, calls_same xs bs rest (λ a z i. among a z (inr i)) (λ a i. pred a (inr i)) (λ a i. at a (inr i)))

      -- ---- clauses
      module _ (k l : Numbered) (k_in : In k (numbered_in set p)) (l_in : In l (numbered_in set new)) (pair : slice_get kept (l.0 - 1) ≡ Some (Some k.0)) where
        alike : named p k.1 ≡ named new l.1
        alike =
            let was = edit.kept.same (l.0 - 1) k.0 l.1 pair (own_place set new l l_in) in
            let at = was.at in
            let here = own_place set p k k_in in
            let is : was.clause ≡ k.1 = cc in
            ap (named p) (sym is) ∙ was.same

        heads : Same k.1.head.pred.0 l.1.head.pred.0
        heads =
            let x = set_pred (slice_get p.preds k.1.head.pred.0) (own_among set p k k_in) in
            (x.0, x.1, sym (ap (λ (n : NamedClause). n.head.pred) alike) ∙ x.1, x.2)

        same_clause : theirs l ≡ true → IsSameClause comps new_comps b c old now kept k l
        same_clause m = record {
          kept_as = pair;
          calls =
              let own : In l (clauses_of new new_comps c) = in-filter theirs (counted 1 new.clauses) l m (own_counted set new l l_in) in
              let k_there = clause_in k k_in in
              calls_same k.1.body l.1.body (ap (λ (n : NamedClause). n.body) alike)
              (λ a x i at.
              let closed = un.before k.1.head.pred.0 a.pred.0 (call_is p comps prog edit.components_before k.1 a k_there i) (own_among set p k k_in) in
              sym (ap (is_in set) at) ∙ closed)
              (λ a i. pred_in p prog k.1 k_there a i)
              (λ a i. body_before new new_comps new_prog edit.components c l own a i);
        }
          where
            clause_in : (k : Numbered) → In k (numbered_in set p) → In k.1 p.clauses
            clause_in k i = in_at p.clauses (k.0 - 1) k.1 (own_place set p k i)

      clauses_same : (ks ls : List Numbered) → ((k : Numbered) → In k ks → In k (numbered_in set p)) → ((l : Numbered) → In l ls → In l (numbered_in set new)) → ArePairs kept ks ls
          → AreSameClauses comps new_comps b c old now kept (filter mine ks) (filter theirs ls)
      clauses_same [] [] u v h = tt
      clauses_same [] (l ∷ ls) u v h = absurd h
      clauses_same (k ∷ ks) [] u v h = absurd h
      clauses_same (k ∷ ks) (l ∷ ls) u v h =
          let s = heads k l (u k (inl refl)) (v l (inl refl)) h.0 in
          let test = same_member k.1.head.pred.0 l.1.head.pred.0 s in
          go (mine k) (theirs l) refl refl test (clauses_same ks ls (λ x i. u x (inr i)) (λ x i. v x (inr i)) h.1)
        where
          go : (m n : Bool) → mine k ≡ m → theirs l ≡ n → theirs l ≡ mine k → AreSameClauses comps new_comps b c old now kept (filter mine ks) (filter theirs ls)
              → AreSameClauses comps new_comps b c old now kept (cond (mine k) (k ∷ filter mine ks) (filter mine ks)) (cond (theirs l) (l ∷ filter theirs ls) (filter theirs ls))
          go true true d t e more = rw (d, t) (same_clause k l (u k (inl refl)) (v l (inl refl)) h.0 t, more)
          go false false d t e more = rw (d, t) more
          go true false d t e more = absurd (cc)
          go false true d t e more = absurd (cc)

      stands : (clauses_of new new_comps c ≡ [] → ⊥) → StandsFor comps new_comps b c old now p new kept
      stands some = record {
        some = some;
        clauses =
            let here : filter mine (counted 1 p.clauses) ≡ filter mine (numbered_in set p) = filter_twice (λ (k : Numbered). is_in set (slice_get p.preds k.1.head.pred.0)) mine (counted 1 p.clauses) mine_in in
            let away : filter theirs (counted 1 new.clauses) ≡ filter theirs (numbered_in set new) =
            filter_twice (λ (l : Numbered). is_in set (slice_get new.preds l.1.head.pred.0)) theirs (counted 1 new.clauses) theirs_in in
            subst (λ (ks : List Numbered). AreSameClauses comps new_comps b c old now kept ks (clauses_of new new_comps c)) (sym here)
            (subst (λ (ls : List Numbered). AreSameClauses comps new_comps b c old now kept (filter mine (numbered_in set p)) ls) (sym away)
            (clauses_same (numbered_in set p) (numbered_in set new) (λ k i. i) (λ l i. i) all));
      }

      -- ---- without clauses
      pair_of : (ks ls : List Numbered) → ArePairs kept ks ls → (k : Numbered) → In k ks → (l : Numbered) × In l ls × (slice_get kept (l.0 - 1) ≡ Some (Some k.0))
      pair_of [] [] h k i = absurd i
      pair_of [] (l ∷ ls) h k i = absurd h
      pair_of (x ∷ ks) [] h k i = absurd h
      pair_of (x ∷ ks) (l ∷ ls) h k (inl is) = (l, inl refl, h.0 ∙ ap (λ (n : Numbered). Some (Some n.0)) is)
      pair_of (x ∷ ks) (l ∷ ls) h k (inr i) = let r = pair_of ks ls h.1 k i in (r.0, inr r.1, r.2)

      no_clause : clauses_of new new_comps c ≡ [] → (k : Clause) → In k new.clauses → k.head.pred.0 ≡ r0 → ⊥
      no_clause none k i is =
          let n = of_counted 1 new.clauses k i in
          let own : In (n.0, k) (clauses_of new new_comps c) = in-filter theirs (counted 1 new.clauses) (n.0, k) (number_is c (component_of new_comps k.head.pred.0) (ap (component_of new_comps) is ∙ new_in0)) n.1 in
          subst (λ (ls : List Numbered). In {X = Numbered} (n.0, k) ls) none own

      -- the predicate is known by its name and arity
      head_is : (q r : ℕ) → Same q r → q ≡ q0 → r ≡ r0
      head_is q r s is =
          let here : slice_get p.preds q0 ≡ Some s.0 = ap (slice_get p.preds) (sym is) ∙ s.1 in
          let own = same0.1 in
          let pred : s.0 ≡ same0.0 = cc in
          one_number new.preds new_prog.distinct r r0 same0.0 (s.2 ∙ ap Some pred) same0.2

      no_old_clause : clauses_of new new_comps c ≡ [] → (k : Clause) → In k p.clauses → k.head.pred.0 ≡ q0 → ⊥
      no_old_clause none k i is =
          let at_head : slice_get p.preds k.head.pred.0 ≡ Some same0.0 = ap (slice_get p.preds) is ∙ same0.1 in
          let n = of_counted 1 p.clauses k i in
          let m : Numbered = (n.0, k) in
          let own : In m (numbered_in set p) =
          in-filter (λ (x : Numbered). is_in set (slice_get p.preds x.1.head.pred.0)) (counted 1 p.clauses) m (ap (is_in set) at_head ∙ same0.3) n.1 in
          let l = pair_of (numbered_in set p) (numbered_in set new) all m own in
          let s = heads m l.0 own l.1 l.2 in
          no_clause none l.0.1 (in_at new.clauses (l.0.0 - 1) l.0.1 (own_place set new l.0 l.1)) (head_is k.head.pred.0 l.0.1.head.pred.0 s is)

  -- ---- all components, callees first: what holds of them where they stand, and has their values stay
  module _ (Holds : ℕ → ℕ → Type 0) (same_value : (q r : ℕ) → Holds q r → now r ≡ old q)
      (keep : (b c : ℕ) → c < length new_comps.members → IsOfSet e set b c → StandsFor comps new_comps b c old now p new kept
      → (q r : ℕ) (x : Pred) → slice_get p.preds q ≡ Some x → slice_get new.preds r ≡ Some x → set x ≡ true → IsIn new_comps c r → Holds q r)
      (start : (q r : ℕ) (x : Pred) → slice_get p.preds q ≡ Some x → slice_get new.preds r ≡ Some x → set x ≡ true → IsWithoutClause p q → IsWithoutClause new r → Holds q r) where
    placed_at : (q : ℕ) (x : Pred) → slice_get p.preds q ≡ Some x → (b : ℕ) × IsIn comps b q
    placed_at q x at = let lt = place_below p.preds q x at in let each = edit.components_before.each in (slice_index_or comps.of q 0, there comps.of q 0 (omega arith))

    holds_in : (b c q r : ℕ) → Same q r → IsIn comps b q → IsIn new_comps c r → ((q r d : ℕ) → Same q r → IsIn new_comps d r → d < c → Holds q r) → Holds q r
    holds_in b c q r s here away before = go (clauses_of new new_comps c) refl
      where
        values : (q r d : ℕ) → Same q r → IsIn new_comps d r → d < c → now r ≡ old q
        values q r d s at less = same_value q r (before q r d s at less)

        go : (ls : List Numbered) → clauses_of new new_comps c ≡ ls → Holds q r
        go [] none = start q r s.0 s.1 s.2 s.3 (no_old_clause b c q r s here away values none) (no_clause b c q r s here away values none)
        go (l ∷ ls) some =
            keep b c (edit.components.within c r away) (of_set b c q r s here away) (stands b c q r s here away values (λ none. let h = some in absurd (cc))) q r s.0 s.1 s.2 s.3 away

    holds_below : (n q r c : ℕ) → Same q r → IsIn new_comps c r → c < n → Holds q r
    holds_below zero q r c s at lt = absurd (omega arith)
    holds_below (suc n) q r c s at lt =
        let b = placed_at q s.0 s.1 in
        holds_in b.0 c q r s b.1 at (λ q' r' d s' at' less. holds_below n q' r' d s' at' (omega arith))

    pub untouched_hold : (q r : ℕ) (x : Pred) → slice_get p.preds q ≡ Some x → slice_get new.preds r ≡ Some x → set x ≡ true → Holds q r
    untouched_hold q r x here there_too among =
        let lt = place_below new.preds r x there_too in
        let each = edit.components.each in
        let c = slice_index_or new_comps.of r 0 in
        let at = there new_comps.of r 0 (omega arith) in
        holds_below (length new_comps.members) q r c (x, here, there_too, among) at (edit.components.within c r at)

pub untouched_of_set_have_stayed : (X : Type 0) → UntouchedOfSetHaveStayed X
untouched_of_set_have_stayed X e set old now prog new_prog edit un all keep start =
    untouched_hold e set old now prog new_prog edit un all (λ q r. now r ≡ old q) (λ q r h. h) (λ b c lt of_set stands q r x here away among i. keep b c lt of_set stands q r x here away i) start

pub untouched_have_stayed : (X : Type 0) → UntouchedHaveStayed X
untouched_have_stayed X e set old now prog new_prog edit un all keep start =
    untouched_of_set_have_stayed X e set old now prog new_prog edit un all (λ b c lt of_set stands. keep b c lt stands) start
