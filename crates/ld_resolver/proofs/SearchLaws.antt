-- Laws of the steps of a search.
use Rattle.std.proofs.Common.{◌≡◌, ◌≢◌, ℕ, zero, suc, ◌+◌, ◌-◌, ◌<◌, ◌≤◌, false, ◌==◌, if◌then◌else◌, List, [], ◌∷◌, ◌++◌, map, length, take, drop, IsTrue, slice_get, Option, None, Some, option_map, option_and_then, append_assoc, length-append, refl, ap, sym, ◌∙◌, subst, arith}
use Rattle.std.proofs.lemmas.List.{drop-drop, length-drop, map-append, take-append-drop}
use Rattle.std.proofs.lemmas.Bool.Decides.{nat_tests}
use Rattle.std.specs.List.{AllByRecursion, range_with_len}
use Rattle.cti_terms.specs.Tree.{Tree, instance, is_below}
use Rattle.cti_terms.specs.declared.atom_list.Atom.{Atom}
use Rattle.cti_terms.specs.declared.clauses.Clause.{Clause}
use Rattle.cti_terms.specs.declared.derivation.Goal.{Goal}
use Rattle.cti_terms.specs.Arithmetic.{kind_of, passes_as, is_wide_as, begins_wide}
use Rattle.cti_terms.specs.declared.builtins.Builtin.{Builtin}
use Rattle.cti_terms.specs.Listing.{Listing, IsAtom, IsClause, numbered}
use Rattle.cti_terms.specs.declared.predicates.Pred.{Pred}
use Rattle.cti_terms.specs.Unify.{Equation, Binding, applied}
use Rattle.cti_terms.specs.UnifyFunction.{unify}
use Rattle.cti_terms.specs.Resolve.{over, raised, head_equations, left_by, answered, passed, resolve_by, resolve_itself, resolve}
use Rattle.cti_terms.specs.Answers.{answer_by}
use Rattle.cti_terms.specs.Below.{ArgumentsBelow, AtomsBelow}
use Rattle.ld_resolver.specs.declared.choices.Choice.{Choice}
use Rattle.ld_resolver.specs.declared.search.Search.{Search}
use Rattle.unifier.specs.Raised.{raise}
use Rattle.unifier.specs.Store.{made, full}
use Rattle.unifier.specs.Pending.{Extends, KeepsFree}
use Rattle.ld_resolver.specs.Tails.{tail_at}
use Rattle.unifier.specs.Below.{FreeFrom}
use Rattle.ld_resolver.specs.Walk.{Visit, entered, walk_by, walk}
use Rattle.ld_resolver.specs.Choices.{kept, goal_from, goal_of, clauses_left, left, GoesByItself, IsChoice, Within, AreChoices, GrowsTo}
use Rattle.ld_resolver.specs.FirstArguments.{IsNextMatch}
use Rattle.ld_resolver.specs.Searches.{attempts_at, AreNumbered, AreMarked, choices_of, goal_at, goal_with, left_of, IsNewest, IsSearch}
use Rattle.unifier.proofs.StoreLaws.{applied-append, eqb_same}
use Rattle.unifier.proofs.BelowLaws.{full_raised, applied_below, wider, pairs_below, arguments_raised, atoms_over, not_below}
use Rattle.cti_terms.proofs.UnifyLaws.{AllBelow, unify_finds}
use Rattle.cti_terms.proofs.BelowLaws.{all_wider, below_append}
use Rattle.ld_resolver.proofs.TailLaws.{tail_kept}
use Rattle.ld_resolver.proofs.ChainLaws.{clause_at}

-- ---- bindings that are kept

pub length-kept : (s : List Binding) (m : ℕ) → m ≤ length s → length (kept s m) ≡ m
length-kept s m h = omega (arith, length-drop (length s - m) s, h)

drop_past : (xs ys : List Binding) (n : ℕ) → drop (length xs + n) (xs ++ ys) ≡ drop n ys
drop_past [] ys n = ap (λ k. drop k ys) (let e : 0 + n ≡ n = omega arith in e)
drop_past (x ∷ xs) ys n =
    let e : length (x ∷ xs) + n ≡ suc (length xs + n) = omega arith in
    ap (λ k. drop k (x ∷ (xs ++ ys))) e ∙ drop_past xs ys n

-- earlier bindings are kept through what comes later
pub kept_through : (s now : List Binding) (m k : ℕ) → k ≤ m → m ≤ length s → Extends now (kept s m) → kept now k ≡ kept s k
kept_through s now m k l h (more, e) =
    let count = length-kept s m h in
    let sum = length-append more (kept s m) in
    let there : length (more ++ kept s m) - k ≡ length more + (m - k) = omega (arith, sum, count, l) in
    let total : (m - k) + (length s - m) ≡ length s - k = omega (arith, l, h) in
    ap (λ b. kept b k) e
    ∙ ap (λ n. drop n (more ++ kept s m)) there
    ∙ drop_past more (kept s m) (m - k)
    ∙ drop-drop (m - k) (length s - m) s
    ∙ ap (λ n. drop n s) (let t : (length s - m) + (m - k) ≡ length s - k = omega (arith, l, h) in t)

pub kept_all : (s : List Binding) → kept s (length s) ≡ s
kept_all s = ap (λ n. drop n s) (let e : length s - length s ≡ 0 = omega arith in e)

pub length-extends : (s now : List Binding) (m : ℕ) → m ≤ length s → Extends now (kept s m) → m ≤ length now
length-extends s now m h (more, e) = omega (arith, ap length e, length-append more (kept s m), length-kept s m h)

-- ---- what is left from choices

-- choices whose goals stay
abbrev pub Stay : List Binding → List Binding → List (List Atom) → List (List Atom) → List Choice → Type 0
Stay s now rests rests_now = AllByRecursion (λ (c : Choice). (kept now c.mark ≡ kept s c.mark) × (tail_at rests_now c.rest ≡ tail_at rests c.rest))

pub left_stays : (p : Listing) (q : List Atom) (n : ℕ) (s now : List Binding) (rests rests_now : List (List Atom)) (cs : List Choice) → Stay s now rests rests_now cs → left p q n now rests_now cs ≡ left p q n s rests cs
left_stays p q n s now rests rests_now [] h = refl
left_stays p q n s now rests rests_now (c ∷ below) h =
    λ i. walk_by p q (walk p q (n - c.depth)) (made (h.0.0 i)) c.depth (goal_from (h.0.0 i) c.fresh (raised c.base c.atom.now) (h.0.1 i)) (clauses_left p c)
    ++ left_stays p q n s now rests rests_now below h.1 i

-- the first rests are the same
abbrev pub Agree : ℕ → List (List Atom) → List (List Atom) → Type 0
Agree r rests now = (n : ℕ) → n ≤ r → tail_at now n ≡ tail_at rests n

pub stay_through : (p : Listing) (s now : List Binding) (rests rests_now : List (List Atom)) (m r : ℕ) (cs : List Choice) → Within m r cs → m ≤ length s → Extends now (kept s m) → Agree r rests rests_now → AreChoices p s rests cs → Stay s now rests rests_now cs
stay_through p s now rests rests_now m r [] w h e agree all = tt
stay_through p s now rests rests_now m r (c ∷ below) w h e agree all = (
  (kept_through s now m c.mark w.0.0 h e, agree c.rest (let k = all.0.rest in let l = w.0.1 in omega (arith, k, l))),
  stay_through p s now rests rests_now m r below w.1 h e agree all.2,
)

stay_choice : (p : Listing) (s now : List Binding) (rests rests_now : List (List Atom)) (c : Choice) → kept now c.mark ≡ kept s c.mark → tail_at rests_now c.rest ≡ tail_at rests c.rest → c.mark ≤ length now → c.rests ≤ length rests_now → IsChoice p s rests c → IsChoice p now rests_now c
stay_choice p s now rests rests_now c e f m r is = record {
  mark = m;
  rest = is.rest;
  counted = r;
  to_end = is.to_end;
  pred = is.pred;
  free = subst (FreeFrom c.fresh) (sym e) is.free;
  itself = λ z. subst (λ (b : List Binding). GoesByItself p.arithmetic b c) (sym e) (is.itself z);
  below = subst (λ (g : Goal). AtomsBelow c.fresh g.atoms) (λ i. goal_from (sym e i) c.fresh (raised c.base c.atom.now) (sym f i)) is.below;
}

pub choices_through : (p : Listing) (s now : List Binding) (rests rests_now : List (List Atom)) (m r : ℕ) (cs : List Choice) → Within m r cs → m ≤ length s → Extends now (kept s m) → Agree r rests rests_now → r ≤ length rests_now → AreChoices p s rests cs → AreChoices p now rests_now cs
choices_through p s now rests rests_now m r [] w h e agree long all = tt
choices_through p s now rests rests_now m r (c ∷ below) w h e agree long all =
    let l = length-extends s now m h e in
    let mark = w.0.0 in
    let count = w.0.1 in
    let rest = all.0.rest in (
      stay_choice p s now rests rests_now c (kept_through s now m c.mark mark h e) (agree c.rest (omega (arith, rest, count))) (omega (arith, mark, l)) (omega (arith, count, long)) all.0,
      all.1,
      choices_through p s now rests rests_now m r below w.1 h e agree long all.2,
    )

-- more rests
stay_grown : (p : Listing) (s : List Binding) (rests now : List (List Atom)) (cs : List Choice) → GrowsTo rests now → AreChoices p s rests cs → Stay s s rests now cs
stay_grown p s rests now [] g all = tt
stay_grown p s rests now (c ∷ below) g all =
    ((refl, ap (λ r. tail_at r c.rest) g.1 ∙ tail_kept rests g.0 c.rest (let r = all.0.rest in let l = all.0.counted in omega (arith, r, l))), stay_grown p s rests now below g all.2)

choices_grown : (p : Listing) (s : List Binding) (rests now : List (List Atom)) (cs : List Choice) → GrowsTo rests now → AreChoices p s rests cs → AreChoices p s now cs
choices_grown p s rests now [] g all = tt
choices_grown p s rests now (c ∷ below) g all =
    let r = all.0.rest in
    let l = all.0.counted in
    let longer = ap length g.1 ∙ length-append rests g.0 in
    (stay_choice p s s rests now c refl (ap (λ r. tail_at r c.rest) g.1 ∙ tail_kept rests g.0 c.rest (omega (arith, r, l))) all.0.mark (omega (arith, l, longer)) all.0, all.1, choices_grown p s rests now below g all.2)

-- a search with more rests
module _ (x : Search) (now : List (List Atom)) (grown : GrowsTo x.tails now) (all : IsSearch x) where
  pub search_grown : IsSearch (record x { tails = now })
  search_grown = choices_grown x.program.now x.bindings x.tails now (choices_of x) grown all

  pub left_grown : (q : List Atom) (n : ℕ) → left_of q n x ≡ left_of q n (record x { tails = now })
  left_grown q n = sym (left_stays x.program.now q n x.bindings x.bindings x.tails now (choices_of x) (stay_grown x.program.now x.bindings x.tails now (choices_of x) grown all))

pub are_numbered : (p : Listing) (s : List Binding) (rests : List (List Atom)) (cs : List Choice) → AreChoices p s rests cs → AreNumbered p cs
are_numbered p s rests [] all = tt
are_numbered p s rests (c ∷ below) all = ((all.0.to_end, all.0.pred), are_numbered p s rests below all.2)

pub are_marked : (p : Listing) (s : List Binding) (rests : List (List Atom)) (cs : List Choice) → AreChoices p s rests cs → AreMarked (length s) cs
are_marked p s rests [] all = tt
are_marked p s rests (c ∷ below) all = (all.0.mark, are_marked p s rests below all.2)

pub within_all : (p : Listing) (s : List Binding) (rests : List (List Atom)) (m r : ℕ) (cs : List Choice) → length s ≤ m → length rests ≤ r → AreChoices p s rests cs → Within m r cs
within_all p s rests m r [] h k all = tt
within_all p s rests m r (c ∷ below) h k all =
    let mark = all.0.mark in
    let count = all.0.counted in
    ((omega (arith, mark, h), omega (arith, count, k)), within_all p s rests m r below h k all.2)

-- ---- clauses that are left

pub no_clause_left : (p : Listing) (c : Choice) → length p.clauses < c.next → clauses_left p c ≡ []
no_clause_left p c h = ap (range_with_len c.next) (let e : suc (length p.clauses) - c.next ≡ 0 = omega (arith, h) in e)

pub clause_left : (p : Listing) (c : Choice) → c.next ≤ length p.clauses → clauses_left p c ≡ c.next ∷ clauses_left p (record c { next = c.next + 1 })
clause_left p c h =
    let e : suc (length p.clauses) - c.next ≡ suc (suc (length p.clauses) - (c.next + 1)) = omega (arith, h) in
    ap (range_with_len c.next) e

-- ---- resolution by a clause

pub resolve_at : (p : Listing) (a : Atom) (rest : List Atom) (n k : ℕ) (c : Clause) → 1 ≤ k → slice_get p.clauses (k - 1) ≡ Some c → resolve p (record { atoms = a ∷ rest; fresh = n }) k ≡ resolve_by (a ∷ rest) n c
resolve_at p a rest n zero c l h = absurd (omega (arith, l))
resolve_at p a rest n (suc i) c l h = ap (option_and_then (resolve_by (a ∷ rest) n)) (clause_at p.clauses (suc i) c l h)

-- an atom that is not built in does not go away by itself
pub ordinary_none : (p : Listing) (a : Atom) (rest : List Atom) (n : ℕ) → kind_of p.arithmetic a.pred.0 ≡ None → resolve p (record { atoms = a ∷ rest; fresh = n }) 0 ≡ None
ordinary_none p a rest n e = ap (λ (o : Option Builtin). option_map (passed rest n) (passes_as p.arithmetic.names o a.args)) e

pub ordinary_fits : (p : Listing) (a : Atom) (rest : List Atom) → kind_of p.arithmetic a.pred.0 ≡ None → begins_wide p.arithmetic (a ∷ rest) ≡ false
ordinary_fits p a rest e = ap (λ (o : Option Builtin). is_wide_as p.arithmetic.names o a.args) e

pub another_pred : (a : Atom) (rest : List Atom) (n : ℕ) (c : Clause) → a.pred.0 ≢ c.head.pred.0 → resolve_by (a ∷ rest) n c ≡ None
another_pred a rest n c d = ap (λ b. if b then option_map (answered rest n c) (unify (head_equations a n c)) else None) (off (a.pred.0) (c.head.pred.0) d)
  where
    off : (x y : ℕ) → x ≢ y → (x == y) ≡ false
    off x y h = grind (arith, nat_tests)

pub same_pred : (a : Atom) (rest : List Atom) (n : ℕ) (c : Clause) → a.pred.0 ≡ c.head.pred.0 → resolve_by (a ∷ rest) n c ≡ option_map (answered rest n c) (unify (head_equations a n c))
same_pred a rest n c e = ap (λ b. if b then option_map (answered rest n c) (unify (head_equations a n c)) else None) (ap (λ x. a.pred.0 == x) (sym e) ∙ eqb_same a.pred.0)

-- ---- clauses that are passed over

-- clauses that leave no goal are not met
pub met_by_none : (p : Listing) (q : List Atom) (deeper : List Binding → ℕ → Goal → List Visit) (bs : List Binding) (l : ℕ) (h : Goal) (k gap m : ℕ) → m ≡ gap + k → m ≤ suc (length p.clauses) → ((j : ℕ) → k ≤ j → j < m → resolve p h j ≡ None) → walk_by p q deeper bs l h (range_with_len k (suc (length p.clauses) - k)) ≡ walk_by p q deeper bs l h (range_with_len m (suc (length p.clauses) - m))
met_by_none p q deeper bs l h k zero m e b none = let same : k ≡ m = omega (arith, e) in ap (λ x. walk_by p q deeper bs l h (range_with_len x (suc (length p.clauses) - x))) same
met_by_none p q deeper bs l h k (suc gap) m e b none =
    let one : suc (length p.clauses) - k ≡ suc (suc (length p.clauses) - (k + 1)) = omega (arith, e, b) in
    ap (λ d. walk_by p q deeper bs l h (range_with_len k d)) one
    ∙ ap (λ o. entered p.arithmetic q deeper bs l o ++ walk_by p q deeper bs l h (range_with_len (k + 1) (suc (length p.clauses) - (k + 1)))) (none k (omega arith) (omega (arith, e)))
    ∙ met_by_none p q deeper bs l h (k + 1) gap m (omega (arith, e)) b (λ j low high. none j (omega (arith, low)) high)

-- nor are those before the next one that can match
pub met_by_match : (p : Listing) (q : List Atom) (deeper : List Binding → ℕ → Goal → List Visit) (bs : List Binding) (l : ℕ) (s : List Binding) (a : Atom) (rest : List Atom) (n k m : ℕ) → IsNextMatch p s a n k m → walk_by p q deeper bs l (goal_from s n a rest) (range_with_len k (suc (length p.clauses) - k)) ≡ walk_by p q deeper bs l (goal_from s n a rest) (range_with_len m (suc (length p.clauses) - m))
met_by_match p q deeper bs l s a rest n k m is =
    met_by_none p q deeper bs l (goal_from s n a rest) k (m - k) m (omega (arith, is.from)) is.to_end (is.skipped rest)

-- ---- the goal that is left

applied_twice : (s : List Binding) (now bs : List Binding) → made now ≡ made s ++ bs → (t : Tree) → full now t ≡ applied bs (full s t)
applied_twice s now bs e t = ap (λ l. applied l t) e ∙ applied-append (made s) bs t

args_twice : (s now bs : List Binding) → made now ≡ made s ++ bs → (ts : List Tree) → map (full now) ts ≡ map (applied bs) (map (full s) ts)
args_twice s now bs e [] = refl
args_twice s now bs e (t ∷ ts) = λ i. applied_twice s now bs e t i ∷ args_twice s now bs e ts i

pub atoms_twice : (s now bs : List Binding) → made now ≡ made s ++ bs → (xs : List Atom) → map (over (full now)) xs ≡ map (over (applied bs)) (map (over (full s)) xs)
atoms_twice s now bs e [] = refl
atoms_twice s now bs e (a ∷ xs) = λ i. record { pred = a.pred; args = args_twice s now bs e a.args i } ∷ atoms_twice s now bs e xs i

args_stay : (s : List Binding) (n : ℕ) → FreeFrom n s → (ts : List Tree) → map (full s) (map (instance (raise n)) ts) ≡ map (instance (raise n)) ts
args_stay s n free [] = refl
args_stay s n free (t ∷ ts) = λ i. full_raised s n t free i ∷ args_stay s n free ts i

atoms_stay : (s : List Binding) (n : ℕ) → FreeFrom n s → (xs : List Atom) → map (over (full s)) (map (raised n) xs) ≡ map (raised n) xs
atoms_stay s n free [] = refl
atoms_stay s n free (a ∷ xs) = λ i. record { pred = a.pred; args = args_stay s n free a.args i } ∷ atoms_stay s n free xs i

-- the goal that the definition leaves is the one under the new bindings
pub left_goal : (s now bs : List Binding) (rest : List Atom) (n : ℕ) (c : Clause) → made now ≡ made s ++ bs → FreeFrom n s → left_by bs (map (over (full s)) rest) n c ≡ goal_with now (map (raised n) c.body) rest (n + c.vars)
left_goal s now bs rest n c e free = λ i. record { atoms = sym same i; fresh = n + c.vars }
  where
    same : map (over (full now)) (map (raised n) c.body ++ rest) ≡ map (over (applied bs)) (map (raised n) c.body ++ map (over (full s)) rest)
    same =
        atoms_twice s now bs e (map (raised n) c.body ++ rest)
        ∙ ap (map (over (applied bs))) (map-append (over (full s)) (map (raised n) c.body) rest ∙ ap (λ (l : List Atom). l ++ map (over (full s)) rest) (atoms_stay s n free c.body))

-- a goal without atoms is not walked
pub walk_none : (p : Listing) (q : List Atom) (d : ℕ) (bs : List Binding) (l : ℕ) (h : Goal) → h.atoms ≡ [] → walk p q d bs l h ≡ []
walk_none p q zero bs l h e = refl
walk_none p q (suc d) bs l h e = each (range_with_len 0 (suc (length p.clauses)))
  where
    none : (k : ℕ) → resolve p h k ≡ None
    none zero = ap (λ (xs : List Atom). resolve_itself p.arithmetic xs h.fresh) e
    none (suc i) = ap (λ (xs : List Atom). option_and_then (resolve_by xs h.fresh) (slice_get p.clauses i)) e ∙ go (slice_get p.clauses i)
      where
        go : (o : Option Clause) → option_and_then (resolve_by [] h.fresh) o ≡ None
        go None = refl
        go (Some c) = refl

    each : (ks : List ℕ) → walk_by p q (walk p q d) bs l h ks ≡ []
    each [] = refl
    each (k ∷ ks) = λ i. entered p.arithmetic q (walk p q d) bs l (none k i) ++ each ks i

-- ---- an attempt

pub extends_self : (s : List Binding) (m : ℕ) → Extends s (kept s m)
extends_self s m = (take (length s - m) s, sym (take-append-drop (length s - m) s))

-- a choice without more clauses goes
pub left_gone : (p : Listing) (q : List Atom) (n : ℕ) (s : List Binding) (rests : List (List Atom)) (c : Choice) (below : List Choice) → length p.clauses < c.next → left p q n s rests (c ∷ below) ≡ left p q n s rests below
left_gone p q n s rests c below h = ap (λ (ks : List ℕ). walk_by p q (walk p q (n - c.depth)) (made (kept s c.mark)) c.depth (goal_of s rests c) ks ++ left p q n s rests below) (no_clause_left p c h)

module _ (p : Listing) (s now : List Binding) (rests rests_now : List (List Atom)) (c : Choice) (below : List Choice) (all : AreChoices p s rests (c ∷ below)) (inside : c.next ≤ length p.clauses) (m : ℕ) (after : IsNextMatch p (kept s c.mark) (raised c.base c.atom.now) c.fresh (suc c.next) m) (e : Extends now (kept s c.mark)) (agree : Agree c.rests rests rests_now) (long : c.rests ≤ length rests_now) where
  abbrev pub after_c : Choice
  after_c = record c { next = m }

  stays : Within c.mark c.rests (after_c ∷ below)
  stays = (((let h : c.mark ≤ c.mark = omega arith in h), (let k : c.rests ≤ c.rests = omega arith in k)), all.1)

  same_mark : IsChoice p s rests after_c
  same_mark = record {
    mark = all.0.mark;
    rest = all.0.rest;
    counted = all.0.counted;
    to_end = after.to_end;
    pred = after.found;
    free = all.0.free;
    below = all.0.below;
    itself = λ z. absurd (omega (arith, z, after.from));
  }

  pub later_choices : AreChoices p now rests_now (after_c ∷ below)
  later_choices = choices_through p s now rests rests_now c.mark c.rests (after_c ∷ below) stays all.0.mark e agree long (same_mark, all.1, all.2)

  pub left_by_clause : (q : List Atom) (n : ℕ) (o : Option (List Binding × Goal)) → resolve p (goal_of s rests c) c.next ≡ o → left p q n s rests (c ∷ below) ≡ entered p.arithmetic q (walk p q (n - c.depth)) (made (kept s c.mark)) c.depth o ++ left p q n now rests_now (after_c ∷ below)
  left_by_clause q n o r =
      ap (λ (ks : List ℕ). walk_by p q (walk p q (n - c.depth)) (made (kept s c.mark)) c.depth (goal_of s rests c) ks ++ left p q n s rests below) (clause_left p c inside)
      ∙ ap (λ (vs : List Visit). (entered p.arithmetic q (walk p q (n - c.depth)) (made (kept s c.mark)) c.depth (resolve p (goal_of s rests c) c.next) ++ vs) ++ left p q n s rests below)
      (met_by_match p q (walk p q (n - c.depth)) (made (kept s c.mark)) c.depth (kept s c.mark) (raised c.base c.atom.now) (tail_at rests c.rest) c.fresh (c.next + 1) m (subst (λ (k : ℕ). IsNextMatch p (kept s c.mark) (raised c.base c.atom.now) c.fresh k m) next_is after))
      ∙ append_assoc (entered p.arithmetic q (walk p q (n - c.depth)) (made (kept s c.mark)) c.depth (resolve p (goal_of s rests c) c.next)) (walk_by p q (walk p q (n - c.depth)) (made (kept s c.mark)) c.depth (goal_of s rests c) (clauses_left p after_c)) (left p q n s rests below)
      ∙ (λ i. entered p.arithmetic q (walk p q (n - c.depth)) (made (kept s c.mark)) c.depth (r i) ++ sym (left_stays p q n s now rests rests_now (after_c ∷ below) (stay_through p s now rests rests_now c.mark c.rests (after_c ∷ below) stays all.0.mark e agree (same_mark, all.1, all.2))) i)
    where
      next_is : suc c.next ≡ c.next + 1
      next_is = omega arith

  pub fewer_attempts : attempts_at p (after_c ∷ below) < attempts_at p (c ∷ below)
  fewer_attempts = omega (arith, inside, after.from)

  -- the clause leaves no goal
  pub no_node : (q : List Atom) (n : ℕ) → resolve p (goal_of s rests c) c.next ≡ None → left p q n s rests (c ∷ below) ≡ left p q n now rests_now (after_c ∷ below)
  no_node q n r = left_by_clause q n None r

  -- it leaves one
  pub node : (q : List Atom) (n : ℕ) (bs : List Binding) (h : Goal) → resolve p (goal_of s rests c) c.next ≡ Some (bs, h) → made now ≡ made (kept s c.mark) ++ bs → left p q n s rests (c ∷ below) ≡ (record { steps = c.depth + 1; answer = answer_by q (made now) h.atoms; wide = begins_wide p.arithmetic h.atoms } ∷ walk p q (n - c.depth) (made now) (c.depth + 1) h) ++ left p q n now rests_now (after_c ∷ below)
  node q n bs h r m =
      left_by_clause q n (Some (bs, h)) r
      ∙ (λ i. (record { steps = c.depth + 1; answer = answer_by q (sym m i) h.atoms; wide = begins_wide p.arithmetic h.atoms } ∷ walk p q (n - c.depth) (sym m i) (c.depth + 1) h) ++ left p q n now rests_now (after_c ∷ below))

-- ---- a goal that is entered

-- a choice is new in a search
module _ {x : Search} {c : Choice} (all : IsSearch x) (newest : IsNewest x c) where
  newest_kept : kept x.bindings c.mark ≡ x.bindings
  newest_kept = ap (kept x.bindings) newest.mark ∙ kept_all x.bindings

  newest_goal : goal_of x.bindings x.tails c ≡ goal_at x c
  newest_goal = λ i. goal_from (newest_kept i) c.fresh (raised c.base c.atom.now) (tail_at x.tails c.rest)

  newest_choices : c.next ≤ suc (length x.program.now.clauses) → ((k : Clause) → numbered x.program.now.clauses c.next ≡ Some k → c.atom.now.pred.0 ≡ k.head.pred.0) → (c.next ≡ 0 → GoesByItself x.program.now.arithmetic x.bindings c)
      → AreChoices x.program.now x.bindings x.tails (c ∷ choices_of x)
  newest_choices to_end pred itself = (
    record {
      mark = omega (arith, newest.mark);
      rest = omega (arith, newest.rest, newest.rests);
      counted = omega (arith, newest.rests);
      to_end = to_end;
      pred = pred;
      free = subst (FreeFrom c.fresh) (sym newest_kept) newest.free;
      below = subst (λ (h : Goal). AtomsBelow c.fresh h.atoms) (sym newest_goal) newest.below;
      itself = λ at_zero. subst (λ (b : List Binding). GoesByItself x.program.now.arithmetic b c) (sym newest_kept) (itself at_zero);
    },
    within_all x.program.now x.bindings x.tails c.mark c.rests (choices_of x) (omega (arith, newest.mark)) (omega (arith, newest.rests)) all,
    all,
  )

  -- its atom is resolved by clauses, from the first one that can match
  module _ (first : IsNextMatch x.program.now x.bindings (raised c.base c.atom.now) c.fresh 1 c.next) (plain : kind_of x.program.now.arithmetic c.atom.now.pred.0 ≡ None) where
    pub choice_entered : AreChoices x.program.now x.bindings x.tails (c ∷ choices_of x)
    choice_entered = newest_choices first.to_end first.found (λ at_zero. absurd (omega (arith, at_zero, first.from)))

    clauses_all : (q : List Atom) (deeper : List Binding → ℕ → Goal → List Visit) (bs : List Binding) (l : ℕ) → walk_by x.program.now q deeper bs l (goal_at x c) (range_with_len 0 (suc (length x.program.now.clauses))) ≡ walk_by x.program.now q deeper bs l (goal_at x c) (clauses_left x.program.now c)
    clauses_all q deeper bs l =
        ap (λ o. entered x.program.now.arithmetic q deeper bs l o ++ walk_by x.program.now q deeper bs l (goal_at x c) (range_with_len 1 (length x.program.now.clauses)))
        (ordinary_none x.program.now (over (full x.bindings) (raised c.base c.atom.now)) (map (over (full x.bindings)) (tail_at x.tails c.rest)) c.fresh plain)
        ∙ ap (λ k. walk_by x.program.now q deeper bs l (goal_at x c) (range_with_len 1 k)) (sym count)
        ∙ met_by_match x.program.now q deeper bs l x.bindings (raised c.base c.atom.now) (tail_at x.tails c.rest) c.fresh 1 c.next first
      where
        count : suc (length x.program.now.clauses) - 1 ≡ length x.program.now.clauses
        count = omega arith

    pub left_entered : (q : List Atom) (n : ℕ) → walk x.program.now q (suc (n - c.depth)) (made x.bindings) c.depth (goal_at x c) ++ left_of q n x ≡ left x.program.now q n x.bindings x.tails (c ∷ choices_of x)
    left_entered q n =
        ap (λ (vs : List Visit). vs ++ left_of q n x) (clauses_all q (walk x.program.now q (n - c.depth)) (made x.bindings) c.depth)
        ∙ (λ i. walk_by x.program.now q (walk x.program.now q (n - c.depth)) (made (sym newest_kept i)) c.depth (sym newest_goal i) (clauses_left x.program.now c) ++ left_of q n x)

  -- its atom is built in, and may succeed
  module _ (itself : c.next ≡ 0) where
    pub choice_itself : GoesByItself x.program.now.arithmetic x.bindings c → AreChoices x.program.now x.bindings x.tails (c ∷ choices_of x)
    choice_itself goes = newest_choices (omega (arith, itself)) (λ k e. absurd (no_number k c.next itself e)) (λ z. goes)
      where
        no_number : (k : Clause) (m : ℕ) → m ≡ 0 → numbered x.program.now.clauses m ≡ Some k → ⊥
        no_number k zero z e = cc
        no_number k (suc m) z e = absurd (omega (arith, z))

    pub left_itself : (q : List Atom) (n : ℕ) → walk x.program.now q (suc (n - c.depth)) (made x.bindings) c.depth (goal_at x c) ++ left_of q n x ≡ left x.program.now q n x.bindings x.tails (c ∷ choices_of x)
    left_itself q n =
        ap (λ (ks : List ℕ). walk_by x.program.now q (walk x.program.now q (n - c.depth)) (made x.bindings) c.depth (goal_at x c) ks ++ left_of q n x) from_itself
        ∙ (λ i. walk_by x.program.now q (walk x.program.now q (n - c.depth)) (made (sym newest_kept i)) c.depth (sym newest_goal i) (clauses_left x.program.now c) ++ left_of q n x)
      where
        none_before : suc (length x.program.now.clauses) ≡ suc (length x.program.now.clauses) - 0
        none_before = omega arith

        from_itself : range_with_len 0 (suc (length x.program.now.clauses)) ≡ clauses_left x.program.now c
        from_itself = ap (range_with_len 0) none_before ∙ ap (λ k. range_with_len k (suc (length x.program.now.clauses) - k)) (sym itself)

-- ---- the counter of a goal that is left

pub node_free : (s now : List Binding) (es : List Equation) (n m : ℕ) → n ≤ m → FreeFrom n s → AllBelow m es → KeepsFree es s now → FreeFrom m now
node_free s now es n m l free below keeps y h = keeps y (not_below m es below y h) (free y (omega (arith, l, h)))

-- the equations of a head are below the counter that comes after
pub head_below : (a : Atom) (n : ℕ) (c : Clause) → ArgumentsBelow n a.args → AllByRecursion (λ t. IsTrue (is_below c.vars t)) c.head.args → AllBelow (n + c.vars) (head_equations a n c)
head_below a n c h k = pairs_below (n + c.vars) a.args (raised n c.head).args (wider n (n + c.vars) a.args (omega arith) h) (arguments_raised n c.vars c.head.args k)

body_raised : (preds : List Pred) (n k : ℕ) (xs : List Atom) → AllByRecursion (IsAtom preds k) xs → AtomsBelow (n + k) (map (raised n) xs)
body_raised preds n k [] h = tt
body_raised preds n k (a ∷ xs) h = (arguments_raised n k a.args h.0.below, body_raised preds n k xs h.1)

-- and so is the goal that is left
pub goal_below : (preds : List Pred) (s now bs : List Binding) (a : Atom) (rest : List Atom) (n : ℕ) (c : Clause) → made now ≡ made s ++ bs → FreeFrom n s → unify (head_equations (over (full s) a) n c) ≡ Some bs → AtomsBelow n (goal_from s n a rest).atoms → IsClause preds c → AtomsBelow (n + c.vars) (goal_with now (map (raised n) c.body) rest (n + c.vars)).atoms
goal_below preds s now bs a rest n c e free u below is =
    let es = head_equations (over (full s) a) n c in
    let m = n + c.vars in
    let bounded = head_below (over (full s) a) n c below.0 is.head.below in
    let whole = below_append m (map (raised n) c.body) (map (over (full s)) rest) (body_raised preds n c.vars c.body is.body) (all_wider n m (map (over (full s)) rest) (omega arith) below.1) in
    let applied_to = atoms_over m (applied bs) (map (raised n) c.body ++ map (over (full s)) rest) (λ t h. applied_below (unify_finds es bs u) m bounded t h) whole in
    subst (λ (h : Goal). AtomsBelow m h.atoms) (left_goal s now bs rest n c e free) applied_to
