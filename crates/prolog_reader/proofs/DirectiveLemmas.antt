-- Clauses that change the operators.
use Rattle.std.proofs.Common.{◌≡◌, ◌≢◌, ℕ, ◌<◌, ◌==◌, Bool, true, false, List, [], ◌∷◌, map, length, get_or, Option, Some, None, refl, sym, ap, ◌∙◌, arith, not, eqb-true, if◌then◌else◌}
use Rattle.std.proofs.lemmas.List.{length-map}
use Rattle.prolog_grammar.specs.Placed.{Tree, tree, Var, Int, Fun, no_trees, more_trees}
use Rattle.prolog_operators.specs.declared.kind.OpKind.{OpKind}
use Rattle.prolog_terms.specs.Clauses.{list_of, nodes}
use Rattle.prolog_operators.specs.Table.{Table, with_operator}
use Rattle.prolog_reader.specs.Words.{Words}
use Rattle.prolog_reader.specs.Knowing.{done_effect}
use Rattle.prolog_reader.specs.Directive.{sets, parts_of, priority_of, kind_of, operator_of, operators_of, in_front, listed, effect_of, directive_by, effect_by}

module _ {A B : Type 0} (f : A → B) where
  pub one_item : (xs : List A) (a : A) → length xs ≡ 1 → a ≡ get_or xs 0 a → map f xs ≡ f a ∷ []
  one_item [] a h e = absurd (omega (arith, h))
  one_item (x ∷ []) a h e = ap (λ y. f y ∷ []) (sym e)
  one_item (x ∷ y ∷ xs) a h e = absurd (omega (arith, h))

  pub two_items : (xs : List A) (a b : A) → length xs ≡ 2 → a ≡ get_or xs 0 a → b ≡ get_or xs 1 b → map f xs ≡ f a ∷ f b ∷ []
  two_items [] a b h e k = absurd (omega (arith, h))
  two_items (x ∷ []) a b h e k = absurd (omega (arith, h))
  two_items (x ∷ y ∷ []) a b h e k = ap (λ z. f z ∷ f y ∷ []) (sym e) ∙ ap (λ z. f a ∷ f z ∷ []) (sym k)
  two_items (x ∷ y ∷ z ∷ xs) a b h e k = absurd (omega (arith, h))

  pub three_items : (xs : List A) (a b c : A) → length xs ≡ 3 → a ≡ get_or xs 0 a → b ≡ get_or xs 1 b → c ≡ get_or xs 2 c → map f xs ≡ f a ∷ f b ∷ f c ∷ []
  three_items [] a b c h e k l = absurd (omega (arith, h))
  three_items (x ∷ []) a b c h e k l = absurd (omega (arith, h))
  three_items (x ∷ y ∷ []) a b c h e k l = absurd (omega (arith, h))
  three_items (x ∷ y ∷ z ∷ []) a b c h e k l = ap (λ w. f w ∷ f y ∷ f z ∷ []) (sym e) ∙ ap (λ w. f a ∷ f w ∷ f z ∷ []) (sym k) ∙ ap (λ w. f a ∷ f b ∷ f w ∷ []) (sym l)
  three_items (x ∷ y ∷ z ∷ w ∷ xs) a b c h e k l = absurd (omega (arith, h))

abbrev Parts : Type 0
Parts = Option (ℕ × List Tree)

some_parts : (n m : ℕ) (xs ys : List Tree) → ◌≡◌ {A = Parts} (Some (n, xs)) (Some (m, ys)) → (n ≡ m) × (xs ≡ ys)
some_parts n m xs ys h = (ap (λ (p : Parts). first n p) h, ap (λ (p : Parts). second xs p) h)
  where
    first : ℕ → Parts → ℕ
    first d (Some p) = p.0
    first d None = d

    second : List Tree → Parts → List Tree
    second d (Some p) = p.1
    second d None = d

module _ (words : Words) where
  -- what is not a name with arguments is not a list
  pub listed_none : (t : Tree) → None ≡ parts_of t → listed words t ≡ None
  listed_none (tree at (Var v)) h = refl
  listed_none (tree at (Int i)) h = refl
  listed_none (tree at (Fun n ts)) h = cc

  -- an atom is the empty list or none
  pub listed_atom : (t : Tree) (n : ℕ) (xs : List Tree) → Some (n, xs) ≡ parts_of t → xs ≡ [] → listed words t ≡ (if n == words.known.nil then Some [] else None)
  listed_atom (tree at (Var v)) n xs h e = cc
  listed_atom (tree at (Int i)) n xs h e = cc
  listed_atom (tree at (Fun m no_trees)) n xs h e = ap (λ k. if k == words.known.nil then Some [] else None) (sym (some_parts n m xs [] h).0)
  listed_atom (tree at (Fun m (more_trees t ts))) n xs h e = let both = sym e ∙ (some_parts n m xs (t ∷ list_of ts) h).1 in cc

  -- another number of arguments, or another name, makes no list
  pub listed_other : (t : Tree) (n : ℕ) (xs : List Tree) → Some (n, xs) ≡ parts_of t → xs ≢ [] → length xs ≢ 2 → listed words t ≡ None
  listed_other (tree at (Var v)) n xs h e l = refl
  listed_other (tree at (Int i)) n xs h e l = refl
  listed_other (tree at (Fun m no_trees)) n xs h e l = absurd (e (some_parts n m xs [] h).1)
  listed_other (tree at (Fun m (more_trees t no_trees))) n xs h e l = none_either (m == words.known.cell) None refl
    where
      none_either : (b : Bool) (o : Option (List ℕ)) → o ≡ None → (if b then o else None) ≡ None
      none_either true o h = h
      none_either false o h = refl
  listed_other (tree at (Fun m (more_trees t (more_trees u no_trees)))) n xs h e l = absurd (l (ap (λ (ys : List Tree). length ys) (some_parts n m xs (t ∷ u ∷ []) h).1))
  listed_other (tree at (Fun m (more_trees t (more_trees u (more_trees v ts))))) n xs h e l = none_either (m == words.known.cell) None refl
    where
      none_either : (b : Bool) (o : Option (List ℕ)) → o ≡ None → (if b then o else None) ≡ None
      none_either true o h = h
      none_either false o h = refl

  -- a cell
  pub listed_cell : (t : Tree) (n : ℕ) (a b : Tree) (xs : List Tree) → Some (n, xs) ≡ parts_of t → xs ≡ a ∷ b ∷ []
      → (listed words t ≡ (if n == words.known.cell then in_front words (operator_of words a) (listed words b) else None)) × (nodes b < nodes t)
  listed_cell (tree at (Var v)) n a b xs h e = cc
  listed_cell (tree at (Int i)) n a b xs h e = cc
  listed_cell (tree at (Fun m no_trees)) n a b xs h e = let both = sym e ∙ (some_parts n m xs [] h).1 in cc
  listed_cell (tree at (Fun m (more_trees t no_trees))) n a b xs h e = let both = sym e ∙ (some_parts n m xs (t ∷ []) h).1 in cc
  listed_cell (tree at (Fun m (more_trees t (more_trees u no_trees)))) n a b xs h e =
      let same = some_parts n m xs (t ∷ u ∷ []) h in
      let both : a ∷ b ∷ [] ≡ t ∷ u ∷ [] = sym e ∙ same.1 in
      let first : a ≡ t = cc in
      let second : b ≡ u = cc in (
        ap (λ k. if k == words.known.cell then in_front words (operator_of words t) (listed words u) else None) (sym same.0)
            ∙ ap (λ x. if n == words.known.cell then in_front words (operator_of words x) (listed words u) else None) (sym first)
            ∙ ap (λ x. if n == words.known.cell then in_front words (operator_of words a) (listed words x) else None) (sym second),
        omega (arith, ap (λ (x : Tree). nodes x) second),
      )
  listed_cell (tree at (Fun m (more_trees t (more_trees u (more_trees v ts))))) n a b xs h e = let both = sym e ∙ (some_parts n m xs (t ∷ u ∷ v ∷ list_of ts) h).1 in cc

  -- one operator is set, and then the others
  pub effect_in_front : (table : Table) (p : ℕ) (k : OpKind) (m : ℕ) (o : Option (List ℕ))
      → effect_of words table (Some p) (Some k) (in_front words (Some m) o) ≡ effect_of words (with_operator table p k m) (Some p) (Some k) o
  effect_in_front table p k m (Some ns) = refl
  effect_in_front table p k m None = refl

  -- another number of arguments
  pub no_three : (table : Table) (n : ℕ) (xs : List Tree) → length xs ≢ 3 → directive_by words table (Some (n, xs)) ≡ sets table
  no_three table n [] h = refl
  no_three table n (a ∷ []) h = refl
  no_three table n (a ∷ b ∷ []) h = refl
  no_three table n (a ∷ b ∷ c ∷ []) h = absurd (h refl)
  no_three table n (a ∷ b ∷ c ∷ d ∷ xs) h = refl

  pub no_one : (table : Table) (n : ℕ) (xs : List Tree) → length xs ≢ 1 → effect_by words table (Some (n, xs)) ≡ sets table
  no_one table n [] h = refl
  no_one table n (a ∷ []) h = absurd (h refl)
  no_one table n (a ∷ b ∷ xs) h = refl

  -- the same by what the code finds
  pub nil_effect : (table : Table) (p : ℕ) (k : OpKind) (b : Bool) → effect_of words table (Some p) (Some k) (if b then Some [] else None) ≡ done_effect b table
  nil_effect table p k true = refl
  nil_effect table p k false = refl

  pub cell_found : (t : Tree) (n : ℕ) (a b : Tree) (xs : List Tree) (o : Option ℕ) → Some (n, xs) ≡ parts_of t → xs ≡ a ∷ b ∷ [] → (n == words.known.cell) ≡ true → o ≡ operator_of words a
      → listed words t ≡ in_front words o (listed words b)
  cell_found t n a b xs o h e is op = (listed_cell t n a b xs h e).0 ∙ rw is (ap (λ x. in_front words x (listed words b)) (sym op))

  pub cell_other : (t : Tree) (n : ℕ) (a b : Tree) (xs : List Tree) → Some (n, xs) ≡ parts_of t → xs ≡ a ∷ b ∷ [] → (n == words.known.cell) ≡ false → listed words t ≡ None
  cell_other t n a b xs h e is = (listed_cell t n a b xs h e).0 ∙ rw is refl

  pub three_parts : (table : Table) (t : Tree) (n : ℕ) (xs : List Tree) (a b d : Tree) → Some (n, xs) ≡ parts_of t → xs ≡ a ∷ b ∷ d ∷ []
      → directive_by words table (parts_of t) ≡ (if n == words.op then effect_of words table (priority_of a) (kind_of words b) (operators_of words d) else sets table)
  three_parts table t n xs a b d h e = ap (directive_by words table) (sym h ∙ ap (λ (ys : List Tree). Some (n, ys)) e)

  pub one_part : (table : Table) (t : Tree) (n : ℕ) (xs : List Tree) (d : Tree) → Some (n, xs) ≡ parts_of t → xs ≡ d ∷ []
      → effect_by words table (parts_of t) ≡ (if n == words.neck then directive_by words table (parts_of d) else sets table)
  one_part table t n xs d h e = ap (effect_by words table) (sym h ∙ ap (λ (ys : List Tree). Some (n, ys)) e)

pub no_items : {A B : Type 0} (f : A → B) (xs : List A) → true ≡ (length xs == 0) → map f xs ≡ []
no_items f [] h = refl
no_items f (x ∷ xs) h = absurd (let k : length (x ∷ xs) ≡ 0 = eqb-true (length (x ∷ xs)) 0 (sym h) in omega (arith, k))

pub some_items : {A B : Type 0} (f : A → B) (xs : List A) → (length xs == 0) ≡ false → map f xs ≢ []
some_items f [] h e = cc
some_items f (x ∷ xs) h e = cc

pub not_true : (b : Bool) → not b ≡ true → b ≡ false
not_true true h = cc
not_true false h = refl

pub other_length : {A B : Type 0} (f : A → B) (xs : List A) (n : ℕ) → length xs ≢ n → length (map f xs) ≢ n
other_length f xs n h e = h (sym (length-map xs f) ∙ e)

pub not_false : (b : Bool) → not b ≡ false → b ≡ true
not_false true h = refl
not_false false h = cc
