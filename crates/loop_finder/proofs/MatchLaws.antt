-- One-sided matching decides which atoms are more general.
use Rattle.std.proofs.Common.{◌≡◌, ◌↔◌, ℕ, IsTrue, Bool, true, false, ◌&&◌, ◌==◌, if◌then◌else◌, suc, List, [], ◌∷◌, ◌++◌, map, length, Option, None, Some, option_and_then, refl, ap, sym, ◌∙◌, subst, arith, eqb-true}
use Rattle.std.specs.Prelude.{unwrap_or}
use Rattle.std.proofs.lemmas.Bool.{and_parts}
use Rattle.std.proofs.lemmas.Bool.Decides.{nat_tests, Decides-int_eq}
use Rattle.std.specs.Bool.{Decides}
use Rattle.std.specs.Ordering.{int_eq}
use Rattle.cti_terms.specs.Tree.{Tree, Trees, Variable, Integer, Compound, End, More, trees, list_of, instance, all_instances}
use Rattle.cti_terms.specs.declared.syntax.Term.{Term}
use Rattle.cti_terms.specs.Spell.{tree_of, trees_of}
use Rattle.cti_terms.specs.Unify.{Binding}
use Rattle.cti_terms.specs.declared.atom_list.Atom.{Atom}
use Rattle.cti_terms.specs.Lifts.{IsMoreGeneral}
use Rattle.loop_finder.specs.Matches.{IsMatched}
use Rattle.loop_finder.specs.Matching.{is_same, are_same, matched_with, taken, matched, all_matched, is_some, is_more_general}

-- ---- the same term

mutual
  same_is : (t u : Tree) → is_same t u ≡ true → t ≡ u
  same_is (Variable x) (Variable y) h = ap Variable (eqb-true x y h)
  same_is (Variable x) (Integer n) h = cc
  same_is (Variable x) (Compound g us) h = cc
  same_is (Integer m) (Variable y) h = cc
  same_is (Integer m) (Integer n) h = ap Integer ((Decides-int_eq m n).0 h)
  same_is (Integer m) (Compound g us) h = cc
  same_is (Compound f ts) (Variable y) h = cc
  same_is (Compound f ts) (Integer n) h = cc
  same_is (Compound f ts) (Compound g us) h =
      let name = eqb-true f g (and_parts (f == g) (are_same ts us) h).0 in
      let args = same_are ts us (and_parts (f == g) (are_same ts us) h).1 in
      λ i. Compound (name i) (args i)

  same_are : (ts us : Trees) → are_same ts us ≡ true → ts ≡ us
  same_are End End h = refl
  same_are End (More u us) h = cc
  same_are (More t ts) End h = cc
  same_are (More t ts) (More u us) h =
      let first = same_is t u (and_parts (is_same t u) (are_same ts us) h).0 in
      let others = same_are ts us (and_parts (is_same t u) (are_same ts us) h).1 in
      λ i. More (first i) (others i)

both_true : (b c : Bool) → b ≡ true → c ≡ true → (b && c) ≡ true
both_true true c h k = k
both_true false c h k = h

eqb_same : (x : ℕ) → (x == x) ≡ true
eqb_same x = grind (arith, nat_tests)

mutual
  is_itself : (t : Tree) → is_same t t ≡ true
  is_itself (Variable x) = eqb_same x
  is_itself (Integer n) = (Decides-int_eq n n).1 refl
  is_itself (Compound f ts) = both_true (f == f) (are_same ts ts) (eqb_same f) (are_themselves ts)

  are_themselves : (ts : Trees) → are_same ts ts ≡ true
  are_themselves End = refl
  are_themselves (More t ts) = both_true (is_same t t) (are_same ts ts) (is_itself t) (are_themselves ts)

-- ---- matching

-- a substitution gives each matched variable its term
abbrev pub Agrees : (ℕ → Tree) → List Binding → Type 0
Agrees a s = (x : ℕ) (t : Tree) → matched_with s x ≡ Some t → a x ≡ t

-- what agrees with the new matches agrees with the old ones, and gives the term
abbrev pub Gives : List Binding → List Binding → Tree → Tree → Type 0
Gives s r t u = (a : ℕ → Tree) → Agrees a r → Agrees a s × (instance a t ≡ u)

abbrev pub AllGive : List Binding → List Binding → Trees → Trees → Type 0
AllGive s r ts us = (a : ℕ → Tree) → Agrees a r → Agrees a s × (all_instances a ts ≡ us)

-- the first of two answers
abbrev pub or_later : Option Tree → Option Tree → Option Tree
or_later (Some t) o = Some t
or_later None o = o

-- a match that was added last
matched_end : (s : List Binding) (x : ℕ) (t : Tree) (y : ℕ) → matched_with (s ++ (x, t) ∷ []) y ≡ or_later (matched_with s y) (if x == y then Some t else None)
matched_end [] x t y = refl
matched_end (b ∷ s) x t y = go (b.0 == y) (matched_end s x t y)
  where
    go : (c : Bool) → matched_with (s ++ (x, t) ∷ []) y ≡ or_later (matched_with s y) (if x == y then Some t else None)
        → (if c then Some b.1 else matched_with (s ++ (x, t) ∷ []) y) ≡ or_later (if c then Some b.1 else matched_with s y) (if x == y then Some t else None)
    go true h = refl
    go false h = h

matched_last : (s : List Binding) (x : ℕ) (t : Tree) → matched_with s x ≡ None → matched_with (s ++ (x, t) ∷ []) x ≡ Some t
matched_last s x t new =
    matched_end s x t x
    ∙ ap (λ o. or_later o (if x == x then Some t else None)) new
    ∙ ap (λ b. if b then Some t else None) (eqb_same x)

-- a new match hides nothing
agrees_before : (a : ℕ → Tree) (s : List Binding) (x : ℕ) (t : Tree) → Agrees a (s ++ (x, t) ∷ []) → Agrees a s
agrees_before a s x t h y u e = h y u (matched_end s x t y ∙ ap (λ o. or_later o (if x == y then Some t else None)) e)

agrees_after : (a : ℕ → Tree) (s : List Binding) (x : ℕ) (t : Tree) → a x ≡ t → Agrees a s → Agrees a (s ++ (x, t) ∷ [])
agrees_after a s x t is h y u e = go (matched_with s y) refl (sym (matched_end s x t y) ∙ e)
  where
    new : (b : Bool) → (x == y) ≡ b → (if b then Some t else None) ≡ Some u → a y ≡ u
    new true k f =
        let term : t ≡ u = cc in
        ap a (sym (eqb-true x y k)) ∙ is ∙ term
    new false k f = cc

    go : (o : Option Tree) → matched_with s y ≡ o → or_later o (if x == y then Some t else None) ≡ Some u → a y ≡ u
    go (Some w) k f =
        let same : w ≡ u = cc in
        h y w k ∙ same
    go None k f = new (x == y) refl f

moved : (s r q : List Binding) (t u : Tree) → r ≡ q → Gives s r t u → Gives s q t u
moved s r q t u e h = subst (λ (x : List Binding). Gives s x t u) e h

taken_gives : (s r : List Binding) (x : ℕ) (t : Tree) (o : Option Tree) → matched_with s x ≡ o → taken s x t o ≡ Some r → Gives s r (Variable x) t
taken_gives s r x t None e h =
    let now : s ++ (x, t) ∷ [] ≡ r = cc in
    moved s (s ++ (x, t) ∷ []) r (Variable x) t now (λ a k. (agrees_before a s x t k, k x t (matched_last s x t e)))
taken_gives s r x t (Some u) e h = go (is_same u t) refl h
  where
    go : (b : Bool) → is_same u t ≡ b → (if b then Some s else None) ≡ Some r → Gives s r (Variable x) t
    go true k h' =
        let now : s ≡ r = cc in
        moved s s r (Variable x) t now (λ a g. (g, g x u e ∙ same_is u t k))
    go false k h' = cc

mutual
  matched_gives : (s r : List Binding) (t u : Tree) → matched s t u ≡ Some r → Gives s r t u
  matched_gives s r (Variable x) u h = taken_gives s r x u (matched_with s x) refl h
  matched_gives s r (Integer m) (Variable y) h = cc
  matched_gives s r (Integer m) (Integer n) h = go (int_eq m n) refl h
    where
      go : (b : Bool) → int_eq m n ≡ b → (if b then Some s else None) ≡ Some r → Gives s r (Integer m) (Integer n)
      go true k h' =
          let now : s ≡ r = cc in
          moved s s r (Integer m) (Integer n) now (λ a g. (g, ap Integer ((Decides-int_eq m n).0 k)))
      go false k h' = cc
  matched_gives s r (Integer m) (Compound g us) h = cc
  matched_gives s r (Compound f ts) (Variable y) h = cc
  matched_gives s r (Compound f ts) (Integer n) h = cc
  matched_gives s r (Compound f ts) (Compound g us) h = go (f == g) refl h (all_matched_give s r ts us)
    where
      go : (b : Bool) → (f == g) ≡ b → (if b then all_matched s ts us else None) ≡ Some r → (all_matched s ts us ≡ Some r → AllGive s r ts us) → Gives s r (Compound f ts) (Compound g us)
      go true k h' rec = λ a e.
          let name = eqb-true f g k in
          let g' = rec h' a e in
          (g'.0, λ i. Compound (name i) (g'.1 i))
      go false k h' rec = cc

  all_matched_give : (s r : List Binding) (ts us : Trees) → all_matched s ts us ≡ Some r → AllGive s r ts us
  all_matched_give s r End End h = λ a e. (subst (Agrees a) (sym (the h)) e, refl)
    where
      the : Some s ≡ Some r → s ≡ r
      the k = cc
  all_matched_give s r End (More u us) h = cc
  all_matched_give s r (More t ts) End h = cc
  all_matched_give s r (More t ts) (More u us) h = go (matched s t u) refl h (λ q. matched_gives s q t u) (λ q. all_matched_give q r ts us)
    where
      go : (o : Option (List Binding)) → matched s t u ≡ o → option_and_then (λ q. all_matched q ts us) o ≡ Some r → ((q : List Binding) → matched s t u ≡ Some q → Gives s q t u)
          → ((q : List Binding) → all_matched q ts us ≡ Some r → AllGive q r ts us) → AllGive s r (More t ts) (More u us)
      go None e h' first others = cc
      go (Some q) e h' first others = λ a k.
          let o = others q h' a k in
          let f = first q e a o.0 in
          (f.0, λ i. More (f.1 i) (o.1 i))

-- a substitution that gives the term is found
pub record Keeps (a : ℕ → Tree) (o : Option (List Binding)) : Type 0 where
  pub now : List Binding
  pub found : o ≡ Some now
  pub agrees : Agrees a now

taken_keeps : (a : ℕ → Tree) (s : List Binding) (x : ℕ) (t : Tree) → Agrees a s → a x ≡ t → (o : Option Tree) → matched_with s x ≡ o → Keeps a (taken s x t o)
taken_keeps a s x t h is None e = record { now = s ++ (x, t) ∷ []; found = refl; agrees = agrees_after a s x t is h }
taken_keeps a s x t h is (Some u) e =
    let same : u ≡ t = sym (h x u e) ∙ is in
    let test : is_same u t ≡ true = subst (λ (v : Tree). is_same u v ≡ true) same (is_itself u) in
    record { now = s; found = ap (λ b. if b then Some s else None) test; agrees = h }

mutual
  matched_keeps : (a : ℕ → Tree) (s : List Binding) (t u : Tree) → Agrees a s → instance a t ≡ u → Keeps a (matched s t u)
  matched_keeps a s (Variable x) u h e = taken_keeps a s x u h e (matched_with s x) refl
  matched_keeps a s (Integer m) (Variable y) h e = cc
  matched_keeps a s (Integer m) (Integer n) h e =
      let same : m ≡ n = cc in
      record { now = s; found = ap (λ b. if b then Some s else None) ((Decides-int_eq m n).1 same); agrees = h }
  matched_keeps a s (Integer m) (Compound g us) h e = cc
  matched_keeps a s (Compound f ts) (Variable y) h e = cc
  matched_keeps a s (Compound f ts) (Integer n) h e = cc
  matched_keeps a s (Compound f ts) (Compound g us) h e =
      let name : f ≡ g = cc in
      let args : all_instances a ts ≡ us = cc in
      let test : (f == g) ≡ true = subst (λ (n : ℕ). (f == n) ≡ true) name (eqb_same f) in
      let k = all_matched_keep a s ts us h args in
      record { now = k.now; found = ap (λ b. if b then all_matched s ts us else None) test ∙ k.found; agrees = k.agrees }

  all_matched_keep : (a : ℕ → Tree) (s : List Binding) (ts us : Trees) → Agrees a s → all_instances a ts ≡ us → Keeps a (all_matched s ts us)
  all_matched_keep a s End End h e = record { now = s; found = refl; agrees = h }
  all_matched_keep a s End (More u us) h e = cc
  all_matched_keep a s (More t ts) End h e = cc
  all_matched_keep a s (More t ts) (More u us) h e =
      let first : instance a t ≡ u = cc in
      let others : all_instances a ts ≡ us = cc in
      let k = matched_keeps a s t u h first in
      let l = all_matched_keep a k.now ts us k.agrees others in
      record { now = l.now; found = ap (option_and_then (λ r. all_matched r ts us)) k.found ∙ l.found; agrees = l.agrees }

-- ---- the decision

-- some substitution agrees with matches
abbrev pub substitution_of : List Binding → ℕ → Tree
substitution_of s x = unwrap_or (matched_with s x) (Variable x)

substitution_agrees : (s : List Binding) → Agrees (substitution_of s) s
substitution_agrees s x t e = ap (λ o. unwrap_or o (Variable x)) e

list_of_trees : (ts : List Tree) → list_of (trees ts) ≡ ts
list_of_trees [] = refl
list_of_trees (t ∷ ts) = ap (λ r. t ∷ r) (list_of_trees ts)

list_of_instances : (a : ℕ → Tree) (ts : List Tree) → list_of (all_instances a (trees ts)) ≡ map (instance a) ts
list_of_instances a [] = refl
list_of_instances a (t ∷ ts) = ap (λ r. instance a t ∷ r) (list_of_instances a ts)

trees_of_instances : (a : ℕ → Tree) (ts : List Tree) → all_instances a (trees ts) ≡ trees (map (instance a) ts)
trees_of_instances a [] = refl
trees_of_instances a (t ∷ ts) = ap (More (instance a t)) (trees_of_instances a ts)

no_matches : (a : ℕ → Tree) → Agrees a []
no_matches a x t e = cc

more_general_when : (b a : Atom) → is_more_general b a ≡ true → IsMoreGeneral b a
more_general_when b a h =
    let parts = and_parts (b.pred.0 == a.pred.0) (is_some (all_matched [] (trees b.args) (trees a.args))) h in
    go (all_matched [] (trees b.args) (trees a.args)) refl parts.1 (eqb-true b.pred.0 a.pred.0 parts.0)
  where
    go : (o : Option (List Binding)) → all_matched [] (trees b.args) (trees a.args) ≡ o → is_some o ≡ true → b.pred.0 ≡ a.pred.0 → IsMoreGeneral b a
    go None e k p = cc
    go (Some r) e k p =
        let s = substitution_of r in
        let given = (all_matched_give [] r (trees b.args) (trees a.args) e s (substitution_agrees r)).1 in
        let args = sym (list_of_instances s b.args) ∙ ap list_of given ∙ list_of_trees a.args in
        (s, λ i. record { pred = record { 0 = p i }; args = args i })

some_true : (o : Option (List Binding)) (r : List Binding) → o ≡ Some r → is_some o ≡ true
some_true o r e = ap is_some e

when_more_general : (b a : Atom) → IsMoreGeneral b a → is_more_general b a ≡ true
when_more_general b a (s, e) =
    let pred : b.pred.0 ≡ a.pred.0 = ap (λ (c : Atom). c.pred.0) e in
    let test : (b.pred.0 == a.pred.0) ≡ true = subst (λ (n : ℕ). (b.pred.0 == n) ≡ true) pred (eqb_same b.pred.0) in
    let args = trees_of_instances s b.args ∙ ap (λ (c : Atom). trees c.args) e in
    let k = all_matched_keep s [] (trees b.args) (trees a.args) (no_matches s) args in
    both_true (b.pred.0 == a.pred.0) (is_some (all_matched [] (trees b.args) (trees a.args))) test (some_true (all_matched [] (trees b.args) (trees a.args)) k.now k.found)

pub matching_decides : (b a : Atom) → Decides (is_more_general b a) (IsMoreGeneral b a)
matching_decides b a = (more_general_when b a, when_more_general b a)

-- ---- arguments of code

-- arguments of other numbers are not the same, and do not match
pub unequal : (ts us : List Term) → (length ts ≡ length us → ⊥) → are_same (trees_of ts) (trees_of us) ≡ false
unequal [] [] h = absurd (h refl)
unequal [] (u ∷ us) h = refl
unequal (t ∷ ts) [] h = refl
unequal (t ∷ ts) (u ∷ us) h = go (is_same (tree_of t) (tree_of u)) (unequal ts us (λ e. h (ap suc e)))
  where
    go : (b : Bool) → are_same (trees_of ts) (trees_of us) ≡ false → (b && are_same (trees_of ts) (trees_of us)) ≡ false
    go true e = e
    go false e = refl

pub unmatched : (s : List Binding) (ts us : List Term) → (length ts ≡ length us → ⊥) → all_matched s (trees_of ts) (trees_of us) ≡ None
unmatched s [] [] h = absurd (h refl)
unmatched s [] (u ∷ us) h = refl
unmatched s (t ∷ ts) [] h = refl
unmatched s (t ∷ ts) (u ∷ us) h = go (matched s (tree_of t) (tree_of u)) (λ r. unmatched r ts us (λ e. h (ap suc e)))
  where
    go : (o : Option (List Binding)) → ((r : List Binding) → all_matched r (trees_of ts) (trees_of us) ≡ None) → option_and_then (λ r. all_matched r (trees_of ts) (trees_of us)) o ≡ None
    go None f = refl
    go (Some r) f = f r

is_some_of : (o : Option (List Binding)) (now : List Binding) (r : Bool) → IsMatched o now r → is_some o ≡ r
is_some_of o now true h = ap is_some h
is_some_of o now false h = ap is_some h

-- the answer of matching, where the predicates are one
pub decided : (b a : Atom) (ts us : List Term) (s now : List Binding) (r : Bool) → b.pred.0 ≡ a.pred.0 → map tree_of ts ≡ b.args → map tree_of us ≡ a.args → s ≡ [] → IsMatched (all_matched s (trees_of ts) (trees_of us)) now r → IsTrue r ↔ IsMoreGeneral b a
decided b a ts us s now r pred left right empty h =
    let test : (b.pred.0 == a.pred.0) ≡ true = subst (λ (n : ℕ). (b.pred.0 == n) ≡ true) pred (eqb_same b.pred.0) in
    let same : is_some (all_matched [] (trees b.args) (trees a.args)) ≡ r = (λ i. is_some (all_matched (sym empty i) (trees (sym left i)) (trees (sym right i)))) ∙ is_some_of (all_matched s (trees_of ts) (trees_of us)) now r h in
    let all : is_more_general b a ≡ r = (λ i. test i && same i) in
    subst (λ (c : Bool). Decides c (IsMoreGeneral b a)) all (matching_decides b a)
