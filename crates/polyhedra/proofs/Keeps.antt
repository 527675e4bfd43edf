-- One more row that is kept or left out.
use Rattle.std.proofs.Common.{◌≡◌, ℤ, Bool, true, inl, inr, List, [], ◌∷◌, ◌++◌, refl, ap, sym, subst}
use Rattle.std.specs.List.{AllByRecursion}
use Rattle.linear_rows.specs.Plain.{plain_rows}
use Rattle.linear_rows.specs.declared.multipliers.Multipliers.{Multipliers}
use Rattle.linear_rows.specs.declared.system.System.{System}
use Rattle.termination_model.specs.claims.Claims.{SomeOf}
use Rattle.termination_model.specs.chains.ChainRows.{Sieved}
use Rattle.simplex.specs.declared.held.Held.{Held}
use Rattle.simplex.specs.declared.held.Held.TheVariants.{Yes, No, Blown}
use Rattle.linear_rows.specs.Showing.{Shows}
use Rattle.polyhedra.specs.declared.keeping.Kept.{Kept}
use Rattle.polyhedra.specs.Telling.{TellsHead, IsBlownOn, at_head}
use Rattle.polyhedra.specs.Making.{AreShown, Fails, IsLost, SaysKept, Splits}
use Rattle.polyhedra.specs.Keeping.{IsKept, IsOneMore}

-- ---- lists that are split
splits_keeping : (xs ks ls : List (List ℤ)) (x : List ℤ) → Splits xs ks ls → Splits (xs ++ x ∷ []) (ks ++ x ∷ []) ls
splits_keeping [] ks ls x s = inl ([], ap (λ l. l ++ x ∷ []) s.0, (refl, s.1))
splits_keeping (y ∷ xs) ks ls x (inl (rs, e, s)) = inl (rs ++ x ∷ [], ap (λ l. l ++ x ∷ []) e, splits_keeping xs rs ls x s)
splits_keeping (y ∷ xs) ks ls x (inr (rs, e, s)) = inr (rs, e, splits_keeping xs ks rs x s)

splits_losing : (xs ks ls : List (List ℤ)) (x : List ℤ) → Splits xs ks ls → Splits (xs ++ x ∷ []) ks (ls ++ x ∷ [])
splits_losing [] ks ls x s = inr ([], ap (λ l. l ++ x ∷ []) s.1, (s.0, refl))
splits_losing (y ∷ xs) ks ls x (inl (rs, e, s)) = inl (rs, e, splits_losing xs rs ls x s)
splits_losing (y ∷ xs) ks ls x (inr (rs, e, s)) = inr (rs ++ x ∷ [], ap (λ l. l ++ x ∷ []) e, splits_losing xs ks rs x s)

-- a fact of each lost row
pub sieved_of : (Goes : List ℤ → Type 0) (xs ks ls : List (List ℤ)) → Splits xs ks ls → AllByRecursion Goes ls → Sieved (λ _. Unit {0}) Goes xs ks
sieved_of Goes [] ks ls s a = s.0
sieved_of Goes (x ∷ xs) ks ls (inl (rs, e, s)) a = inl (tt, rs, e, sieved_of Goes xs rs ls s a)
sieved_of Goes (x ∷ xs) ks ls (inr (rs, e, s)) a =
    let b : AllByRecursion Goes (x ∷ rs) = subst (AllByRecursion Goes) e a in
    inr (b.0, sieved_of Goes xs ks rs s b.1)

-- ---- one more
some_left : (P : List ℤ → Type 0) (xs ys : List (List ℤ)) → SomeOf P xs → SomeOf P (xs ++ ys)
some_left P [] ys s = absurd s
some_left P (x ∷ xs) ys (inl p) = inl p
some_left P (x ∷ xs) ys (inr s) = inr (some_left P xs ys s)

some_last : (P : List ℤ → Type 0) (xs : List (List ℤ)) (y : List ℤ) → P y → SomeOf P (xs ++ y ∷ [])
some_last P [] y p = inl p
some_last P (x ∷ xs) y p = inr (some_last P xs y p)

all_last : (P Q : List ℤ → Type 0) → ((x : List ℤ) → P x → Q x) → (xs : List (List ℤ)) (y : List ℤ) → AllByRecursion P xs → Q y → AllByRecursion Q (xs ++ y ∷ [])
all_last P Q f [] y a q = (q, tt)
all_last P Q f (x ∷ xs) y a q = (f x a.0, all_last P Q f xs y a.1 q)

module _ (s : System) where
  shown_more : (xs : List (List ℤ)) (ms : List Multipliers) (x : List ℤ) (m : Multipliers) → AreShown s xs ms → Shows (plain_rows s.rows.list) (at_head s x) m → AreShown s (xs ++ x ∷ []) (ms ++ m ∷ [])
  shown_more [] [] x m h k = (k, tt)
  shown_more [] (n ∷ ms) x m h k = absurd h
  shown_more (y ∷ xs) [] x m h k = absurd h
  shown_more (y ∷ xs) (n ∷ ms) x m h k = (h.0, shown_more xs ms x m h.1 k)

  also_failed : (failed weak : Bool) (r : List ℤ) → IsLost s failed weak r → IsLost s true weak r
  also_failed failed weak r (inl h) = inl (refl, h.1)
  also_failed failed weak r (inr h) = inr h

  also_weak : (failed weak : Bool) (r : List ℤ) → IsLost s failed weak r → IsLost s failed true r
  also_weak failed weak r (inl h) = inl h
  also_weak failed weak r (inr h) = inr (refl, h.1)

  turned : (old : List (List ℤ)) (k : Kept) (rows : List (List ℤ)) (by : List Multipliers) (failed weak : Bool)
      → plain_rows k.rows.list ≡ rows → k.by ≡ by → k.failed ≡ failed → k.weak ≡ weak → SaysKept s old rows failed weak by → IsKept s old k
  turned old k rows by failed weak e f g h says =
      subst (λ (w : Bool). SaysKept s old (plain_rows k.rows.list) k.failed w k.by) (sym h)
      (subst (λ (b : Bool). SaysKept s old (plain_rows k.rows.list) b weak k.by) (sym g)
      (subst (SaysKept s old (plain_rows k.rows.list) failed weak) (sym f)
      (subst (λ (rs : List (List ℤ)). SaysKept s old rs failed weak by) (sym e) says)))

  -- one more row that a test has decided
  pub kept_more : (row : List ℤ) (held : Held) → TellsHead s row held → (old : List (List ℤ)) (k new : Kept) → IsKept s old k → IsOneMore row held k new → IsKept s (old ++ row ∷ []) new
  kept_more row (Yes m) told old k new says (e, f, g, h) =
      let rows = plain_rows k.rows.list in
      turned (old ++ row ∷ []) new (rows ++ row ∷ []) (k.by ++ m ∷ []) k.failed k.weak e f g h (record {
        lost = says.lost;
        split = splits_keeping old rows says.lost row says.split;
        why = says.why;
        fails = says.fails;
        blown = says.blown;
        shown = shown_more rows k.by row m says.shown told;
      })
  kept_more row (No p) told old k new says (e, f, g, h) =
      let rows = plain_rows k.rows.list in
      turned (old ++ row ∷ []) new rows k.by true k.weak (ap plain_rows e) f g h (record {
        lost = says.lost ++ row ∷ [];
        split = splits_losing old rows says.lost row says.split;
        why = all_last (IsLost s k.failed k.weak) (IsLost s true k.weak) (also_failed k.failed k.weak) says.lost row says.why (inl (refl, (p, told)));
        fails = λ _. some_last (Fails s) says.lost row (p, told);
        blown = λ w. some_left (IsBlownOn s) says.lost (row ∷ []) (says.blown w);
        shown = says.shown;
      })
  kept_more row Blown told old k new says (e, f, g, h) =
      let rows = plain_rows k.rows.list in
      turned (old ++ row ∷ []) new rows k.by k.failed true (ap plain_rows e) f g h (record {
        lost = says.lost ++ row ∷ [];
        split = splits_losing old rows says.lost row says.split;
        why = all_last (IsLost s k.failed k.weak) (IsLost s k.failed true) (also_weak k.failed k.weak) says.lost row says.why (inr (refl, told));
        fails = λ w. some_left (Fails s) says.lost (row ∷ []) (says.fails w);
        blown = λ _. some_last (IsBlownOn s) says.lost row told;
        shown = says.shown;
      })
