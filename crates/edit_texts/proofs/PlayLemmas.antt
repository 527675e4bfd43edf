-- Lemmas on the edits of a text, one after another.
use Rattle.std.proofs.Common.{◌≡◌, ◌∙◌, ℕ, zero, suc, ◌+◌, ◌≤◌, ◌<◌, ℤ, pos, negsuc, Bool, true, false, ◌&&◌, ◌||◌, nat_eq, List, [], ◌∷◌, ◌++◌, length, map, Option, Some, None, position, Ok, Err, if◌then◌else◌, refl, ap, sym, subst, arith, Vec, Global}
use Rattle.std.specs.Prelude.{nat_le}
use Rattle.std.specs.List.{AllByRecursion, list_any, remove}
use Rattle.std.proofs.lemmas.Bool.Decides.{nat_tests}
use Rattle.std.proofs.lemmas.List.Sums.{sum_by-append}
use Rattle.clause_normal.specs.Definite.{AreDefinite, parted_fault, program_of}
use Rattle.cti_terms.specs.Listing.{is_pred}
use Rattle.cti_terms.specs.declared.limits.TheConstants.{MOST_ARGUMENTS}
use Rattle.cti_terms.specs.declared.predicates.Pred.{Pred}
use Rattle.cti_terms.proofs.Places.{position-found}
use Rattle.cti_terms.specs.Numbers.{with_text}
use Rattle.prolog_reader.specs.Fit.{AreFit, IsFit}
use Rattle.prolog_reader.specs.Naming.{with_names}
use Rattle.prolog_reader.proofs.NameLemmas.{length-with_text}
use Rattle.prolog_terms.specs.Clauses.{Clause, nodes, place}
use Rattle.prolog_terms.specs.Terms.{clause_of}
use Rattle.prolog_terms.specs.declared.clause.ReadClause.{ReadClause}
use Rattle.edit_texts.specs.Edits.{Outcome, Refusal, Step, Told, done, edit_of, number_in, outcome, telling, then_done}
use Rattle.edit_texts.proofs.Lists.{all_remove}
use Rattle.edit_texts.specs.Following.{IsBefore}
use Rattle.kept_program.specs.ProgramParts.{ProgramParts}
use Rattle.edit_texts.specs.Playing.{HasDone, HasPlayed, IsUnderWay, clauses_in}
use Rattle.edit_texts.specs.Snapshot.{nodes_in}
use Rattle.edit_texts.specs.declared.playing.Playing.{Playing}
use Rattle.edit_texts.specs.Told.{AreLines, IsLine, IsPlayed}

append_assoc : {X : Type 0} (xs ys zs : List X) → (xs ++ ys) ++ zs ≡ xs ++ (ys ++ zs)
append_assoc [] ys zs = refl
append_assoc (x ∷ xs) ys zs = ap (λ (l : List _). x ∷ l) (append_assoc xs ys zs)

pub append_none : {X : Type 0} (xs : List X) → xs ++ [] ≡ xs
append_none [] = refl
append_none (x ∷ xs) = ap (λ (l : List _). x ∷ l) (append_none xs)

-- lines after lines
pub lines_after : (names : List (List ℕ)) (ts us : List Told) (text more : List ℕ) → AreLines names ts text → AreLines names us more → AreLines names (ts ++ us) (text ++ more)
lines_after names [] us text more h k = subst (λ (t : List ℕ). AreLines names us (t ++ more)) (sym h) k
lines_after names (t ∷ ts) us text more (line, rest, is, here, later) k =
    (line, rest ++ more, ap (λ (l : List ℕ). l ++ more) is ∙ append_assoc line rest more, here, lines_after names ts us rest more later k)

-- one line alone
pub line_alone : (names : List (List ℕ)) (t : Told) (line : List ℕ) → IsLine names t line → AreLines names (t ∷ []) line
line_alone names t line h = (line, [], sym (append_none line), h, refl)

-- what is told first and next
telling_both : (ts us : List Told) (o : Outcome) → telling ts (telling us o) ≡ telling (ts ++ us) o
telling_both ts us (Ok more) = ap (λ (l : List Told). Ok l) (sym (append_assoc ts us more))
telling_both ts us (Err r) = refl

pub telling_none : (o : Outcome) → telling [] o ≡ o
telling_none (Ok more) = refl
telling_none (Err r) = refl

pub told_last : (ts : List Told) → telling ts (Ok []) ≡ Ok ts
told_last ts = ap (λ (l : List Told). Ok l) (append_none ts)

module _ (names : List (List ℕ)) (cs : List Clause) (e : Clause) (es : List Clause) (ts : List Told) where
  -- an edit that is done
  pub then_told : (ds : List Clause) (us : List Told) → done names cs (place e.term) (edit_of names e) ≡ Ok (ds, us)
      → telling ts (outcome names cs (e ∷ es)) ≡ telling (ts ++ us) (outcome names ds es)
  then_told ds us is = ap (λ (s : Step). telling ts (then_done s (λ xs. outcome names xs es))) is ∙ telling_both ts us (outcome names ds es)

  -- an edit that is refused
  pub then_refused : (r : Refusal) → done names cs (place e.term) (edit_of names e) ≡ Err r → telling ts (outcome names cs (e ∷ es)) ≡ Err r
  then_refused r is = ap (λ (s : Step). telling ts (then_done s (λ xs. outcome names xs es))) is

-- at most as many names are added as there are texts
pub names_few : (names texts : List (List ℕ)) → length (with_names names texts) ≤ length names + length texts
unfolding with_names
names_few names [] = omega arith
names_few names (t ∷ ts) = let l = names_few (with_text names t) ts in let k = length-with_text names t in omega (arith, l, k)

-- ---- numbers of clauses

-- a number that is in range is so
pub number_within : (n : ℕ) (z : ℤ) (m : ℕ) → number_in n z ≡ Some m → (1 ≤ m) × (m ≤ n)
number_within n (pos k) m e = go (nat_le 1 k) (nat_le k n) refl refl e
  where
    go : (a b : Bool) → nat_le 1 k ≡ a → nat_le k n ≡ b → (if a && b then Some k else None) ≡ Some m → (1 ≤ m) × (m ≤ n)
    go true true f g h = let same : k ≡ m = cc in (subst (λ (x : ℕ). 1 ≤ x) same (grind (arith, nat_tests)), subst (λ (x : ℕ). x ≤ n) same (grind (arith, nat_tests)))
    go true false f g h = cc
    go false b f g h = cc
number_within n (negsuc k) m e = cc

shorter : {X : Type 0} (xs : List X) (i : ℕ) → length (remove xs i) ≤ length xs
shorter [] zero = omega arith
shorter [] (suc i) = omega arith
shorter (x ∷ xs) zero = omega arith
shorter (x ∷ xs) (suc i) = omega (arith, shorter xs i)

-- definite clauses stay definite where one is removed
pub definite_removed : (names : List (List ℕ)) (cs : List Clause) (i : ℕ) → AreDefinite names cs → AreDefinite names (remove cs i)
definite_removed names cs i h = record {
  each = all_remove (λ (c : Clause). parted_fault names c ≡ None) cs i h.each;
  few = omega (arith, h.few, shorter cs i);
}

-- ---- predicates

-- no predicate has as many arguments as this
other_arity : (name a : ℕ) (qs : List Pred) → AllByRecursion (λ (q : Pred). q.arity ≤ MOST_ARGUMENTS) qs → MOST_ARGUMENTS < a → list_any (is_pred name a) qs ≡ false
other_arity name a [] h lt = refl
other_arity name a (q ∷ qs) h lt = let k = other_arity name a qs h.1 lt in go (nat_eq name q.name.0) (nat_eq a q.arity) refl k
  where
    go : (b c : Bool) → nat_eq a q.arity ≡ c → list_any (is_pred name a) qs ≡ false → ((b && c) || list_any (is_pred name a) qs) ≡ false
    go true true e k = absurd (let l = h.0 in let m : a ≡ q.arity = grind (arith, nat_tests) in omega (arith, l, m, lt))
    go true false e k = k
    go false c e k = k

pub none_as_wide : (name a : ℕ) (qs : List Pred) → AllByRecursion (λ (q : Pred). q.arity ≤ MOST_ARGUMENTS) qs → MOST_ARGUMENTS < a → position (is_pred name a) qs ≡ None
none_as_wide name a qs h lt = go (position (is_pred name a) qs) refl
  where
    go : (o : Option ℕ) → position (is_pred name a) qs ≡ o → o ≡ None
    go None e = refl
    go (Some i) e = absurd (let found = (position-found (is_pred name a) qs i (sym e)).1 in let none = other_arity name a qs h lt in (let d = sym none ∙ found in cc))

-- ---- nodes

-- a list's nodes with another's
pub nodes_both : (cs ds : List Clause) → nodes_in (cs ++ ds) ≡ nodes_in cs + nodes_in ds
nodes_both cs ds = sum_by-append (λ (c : Clause). nodes c.term) cs ds

pub nodes_more : (c : Clause) (cs : List Clause) → nodes_in (c ∷ cs) ≡ nodes c.term + nodes_in cs
nodes_more c cs = let e = nodes_both (c ∷ []) cs in omega (arith, e)

pub fewer_nodes : (cs : List Clause) (i : ℕ) → nodes_in (remove cs i) ≤ nodes_in cs
fewer_nodes [] zero = omega arith
fewer_nodes [] (suc i) = omega arith
fewer_nodes (c ∷ cs) zero = omega (arith, nodes_more c cs)
fewer_nodes (c ∷ cs) (suc i) = omega (arith, nodes_more c cs, nodes_more c (remove cs i), fewer_nodes cs i)

-- clauses of a text stay within what one has where one is put last
each_push : (n : ℕ) (cs : List Clause) (d : Clause) → AllByRecursion (IsFit n) cs → IsFit n d → AllByRecursion (IsFit n) (cs ++ d ∷ [])
each_push n [] d h k = (k, tt)
each_push n (c ∷ cs) d h k = (h.0, each_push n cs d h.1 k)

pub fit_push : (n : ℕ) (cs : List Clause) (d : Clause) → AreFit n cs → IsFit n d → nodes_in cs + nodes d.term ≤ 2097152 → AreFit n (cs ++ d ∷ [])
fit_push n cs d h k few = record { each = each_push n cs d h.each k; small = (let both = nodes_both cs (d ∷ []) in omega (arith, both, few)) }

-- ---- edits under way

-- what is so where nothing but the lines has changed
pub stays : (names : List (List ℕ)) (old new : Playing) → new.clauses ≡ old.clauses → new.kept ≡ old.kept → new.since ≡ old.since → new.count ≡ old.count → new.is_current ≡ old.is_current → IsUnderWay names old → IsUnderWay names new
stays names old new e f s n g u = record {
  fit = subst (λ (v : Vec ReadClause Global). AreFit (length names) (map clause_of v.items)) (sym e) u.fit;
  definite = subst (λ (v : Vec ReadClause Global). AreDefinite names (map clause_of v.items)) (sym e) u.definite;
  operations = u.operations;
  before = subst (λ (v : Vec ReadClause Global). IsBefore names new.kept.program new.count (map clause_of v.items) new.since.items) (sym e)
      (subst (λ (k : ProgramParts). IsBefore names k.program new.count (clauses_in old) new.since.items) (sym f)
      (subst (λ (v : Vec (Option ℕ) Global). IsBefore names old.kept.program new.count (clauses_in old) v.items) (sym s)
      (subst (λ (k : ℕ). IsBefore names old.kept.program k (clauses_in old) old.since.items) (sym n) u.before)));
  current = λ k.
      ap (λ (x : ProgramParts). x.program) f ∙ u.current (sym g ∙ k) ∙ ap (λ (v : Vec ReadClause Global). program_of names (map clause_of v.items)) (sym e);
}

-- ---- all edits

-- one more is done
pub played_next : (names : List (List ℕ)) (all : List Clause) (e : Clause) (es : List Clause) (old new : Playing) → HasPlayed names all (e ∷ es) old
    → HasDone names old new (done names (clauses_in old) (place e.term) (edit_of names e)) → nodes_in (clauses_in new) ≤ nodes_in (clauses_in old) + nodes e.term
    → HasPlayed names all es new
played_next names all e es old new h d less = record {
  under_way = d.under_way;
  fit = h.fit.1;
  small = omega (arith, h.small, nodes_more e es, less);
  told = h.told ++ d.told;
  lines = subst (λ (t : List ℕ). AreLines names (h.told ++ d.told) t) (sym d.text) (lines_after names h.told d.told old.lines.items d.more h.lines d.lines);
  so_far = h.so_far ∙ then_told names (clauses_in old) e es h.told (clauses_in new) d.told d.is;
}

-- the next one is refused
pub played_refused : (names : List (List ℕ)) (all : List Clause) (e : Clause) (es : List Clause) (old : Playing) (r : Refusal) → HasPlayed names all (e ∷ es) old
    → done names (clauses_in old) (place e.term) (edit_of names e) ≡ Err r → outcome names [] all ≡ Err r
played_refused names all e es old r h is = h.so_far ∙ then_refused names (clauses_in old) e es h.told r is

-- none is left
pub played_all : (names : List (List ℕ)) (all : List Clause) (s : Playing) → HasPlayed names all [] s → IsPlayed names all s.lines.items
played_all names all s h = record { told = h.told; done = h.so_far ∙ told_last h.told; lines = h.lines }
